-- Each refusal has its own number, and none has 0. Assumes nothing.
use Prim.Native.Nat.{ℕ}
use mathlib.Core.Path.{◌≡◌, refl, sym, ap, ◌∙◌}
use mathlib.Core.List.{List, [], ◌∷◌}
use mathlib.Core.Option.{Option, some, none}
use lib.ListN.{get_or}
use Rattle.lists.proofs.Cases.{never}
use Rattle.refusal.specs.Numbers.{number_of}
use Rattle.refusal.specs.declared.Refusal.{Refusal}
use Rattle.refusal.specs.declared.Refusal.TheVariants.{BadMark, NoFreePlace, TooOld, BadStore, NotHeld}
use Rattle.refusal.specs.declared.Refusal.TheVariants.{BadLimit, TooManyRequests, StreamRepeated, BadRange, OutputTooShort}
use Rattle.refusal.specs.declared.Refusal.TheVariants.{BadFileMark, BadFileVersion, RecordCutShort, BadRecord}
use Rattle.refusal.specs.declared.Refusal.TheVariants.{PacketTooShort, BadVersion, BadType, BadLength, Padded, RunsIntoRts, TooManyReports, FillerNotZero, NoBlock, NoNumber}
use Rattle.refusal.specs.declared.Refusal.TheVariants.{BadDatagram, NoPacket, NotRegistered}

-- the refusal of a number, where there is one
table : List (Option Refusal)
table =
    none ∷ some BadMark ∷ some NoFreePlace ∷ some TooOld ∷ some BadStore ∷ some NotHeld
    ∷ some BadLimit ∷ some TooManyRequests ∷ some StreamRepeated ∷ some BadRange ∷ some OutputTooShort
    ∷ some BadFileMark ∷ some BadFileVersion ∷ some RecordCutShort ∷ some BadRecord
    ∷ none ∷ none ∷ none ∷ none ∷ none ∷ none
    ∷ some PacketTooShort ∷ some BadVersion ∷ some BadType ∷ some BadLength ∷ some Padded
    ∷ some RunsIntoRts ∷ some TooManyReports ∷ some FillerNotZero ∷ some NoBlock ∷ some NoNumber
    ∷ some BadDatagram ∷ some NoPacket ∷ none ∷ none ∷ none ∷ none ∷ some NotRegistered ∷ []

refusal_of : ℕ → Option Refusal
unfolding table
refusal_of n = get_or table n none

own : (e : Refusal) → refusal_of (number_of e) ≡ some e
unfolding refusal_of
own BadMark = refl
own NoFreePlace = refl
own TooOld = refl
own BadStore = refl
own NotHeld = refl
own BadLimit = refl
own TooManyRequests = refl
own StreamRepeated = refl
own BadRange = refl
own OutputTooShort = refl
own BadFileMark = refl
own BadFileVersion = refl
own RecordCutShort = refl
own BadRecord = refl
own PacketTooShort = refl
own BadVersion = refl
own BadType = refl
own BadLength = refl
own Padded = refl
own RunsIntoRts = refl
own TooManyReports = refl
own FillerNotZero = refl
own NoBlock = refl
own NoNumber = refl
own BadDatagram = refl
own NoPacket = refl
own NotRegistered = refl

pub own_number : (d e : Refusal) → number_of d ≡ number_of e → d ≡ e
own_number d e h = let z : some d ≡ some e = sym (own d) ∙ ap refusal_of h ∙ own e in cc

pub not_zero : {P : Type 0} (e : Refusal) → number_of e ≡ 0 → P
unfolding refusal_of
not_zero e h = let z : none ≡ some e = sym (ap refusal_of h) ∙ own e in never (cc)

-- Rules: "Reader". The answer about block k of any octets (rule "Block k"); 29 where there is none.
use Rattle.std.specs.Prelude.{ℕ, zero, suc, List, [], ◌∷◌, Result, Ok, Err}
use Rattle.walk.specs.Walk.{Walked, walked, stopped, walk_of}
use Rattle.walk.specs.declared.ReportBlock.{ReportBlock}
use Rattle.refusal.specs.declared.Refusal.{Refusal}
use Rattle.refusal.specs.declared.Refusal.TheVariants.{NoBlock}

-- block k of the blocks of a packet
abbrev pub nth : List ReportBlock → ℕ → Result ReportBlock Refusal
nth [] k = Err NoBlock
nth (b ∷ bs) zero = Ok b
nth (b ∷ bs) (suc k) = nth bs k

-- block k of what a walk gave: the refusal that stopped it comes first
abbrev pub located : Walked → ℕ → Result ReportBlock Refusal
located (walked bs) k = nth bs k
located (stopped e) k = Err e

-- the reader's answer
abbrev pub read_block : List ℕ → ℕ → Result ReportBlock Refusal
read_block s k = located (walk_of s) k

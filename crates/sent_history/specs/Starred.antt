-- Rules: "Cases at the edges". Those that are proved of sent packets, as one list: calls to a fresh
-- store of one place, and the status of a number after them.
use Rattle.std.specs.Prelude.{ℕ, ◌-◌, ◌^◌, ◌≡◌, List, [], ◌∷◌, ◌++◌, length, Result, Ok, Err}
use Rattle.packet.specs.Packet.{Block, encode_packet}
use Rattle.streams.specs.Reading.{Store, Fresh}
use Rattle.sent_status.specs.Status.{status_asked}
use Rattle.sent_word.specs.declared.Status.{Status}
use Rattle.refusal.specs.declared.Refusal.{Refusal}
use Rattle.sent_history.specs.Calls.{Call, register, take_in, sender_run}
use Rattle.refusal.specs.declared.Refusal.TheVariants as refusal
use Rattle.sent_word.specs.declared.Status.TheVariants.{NotReported, Missing, Received, OverRange, NoTime}

pub record Case : Type 0 where
  pub calls : List Call
  pub number : ℕ
  pub answer : Result Status Refusal

-- ---- the calls: one stream, and packets about it

abbrev pub ssrc : ℕ
ssrc = 10

abbrev pub send : ℕ → Call
send number = register ssrc number

abbrev pub block : ℕ → List ℕ → Block
block begin metrics = record { ssrc = ssrc; begin = begin; metrics = metrics }

abbrev pub feedback : ℕ → List Block → Call
feedback rts blocks = take_in (encode_packet (record { sender = 1; rts = rts; blocks = blocks }))

-- one number, in a packet with RTS 1 s
abbrev pub reports : ℕ → ℕ → Call
reports number metric = feedback (2 ^ 16) (block number (metric ∷ []) ∷ [])

-- metrics: lost; 16 units before RTS, marked ECT(1); one unit before it, marked CE
abbrev pub lost : ℕ
lost = 0

abbrev pub earlier : ℕ
earlier = 0xA010

abbrev pub later : ℕ
later = 0xE001

-- what they say with that RTS
abbrev pub was_earlier : Result Status Refusal
was_earlier = Ok (Received 1 (2 ^ 16 - 1024))

abbrev pub was_later : Result Status Refusal
was_later = Ok (Received 3 (2 ^ 16 - 64))

abbrev pub case : List Call → ℕ → Result Status Refusal → Case
case calls number answer = record { calls = calls; number = number; answer = answer }

-- ---- the cases

-- "received" stays, and the last one counts
unfoldable pub of_reports : List Case
of_reports =
    case (send 7 ∷ []) 7 (Ok NotReported)
    ∷ case (send 7 ∷ reports 7 lost ∷ []) 7 (Ok Missing)
    ∷ case (send 7 ∷ reports 7 lost ∷ reports 7 earlier ∷ reports 7 lost ∷ []) 7 was_earlier
    ∷ case (send 7 ∷ reports 7 earlier ∷ reports 7 later ∷ []) 7 was_later
    ∷ case (send 7 ∷ reports 7 later ∷ reports 7 earlier ∷ []) 7 was_earlier
    ∷ case (send 7 ∷ feedback (2 ^ 16) (block 7 (later ∷ []) ∷ block 7 (lost ∷ []) ∷ []) ∷ []) 7 was_later
    ∷ case (send 7 ∷ reports 7 0xFFFE ∷ []) 7 (Ok (OverRange 3))
    ∷ case (send 7 ∷ reports 7 0x9FFF ∷ []) 7 (Ok (NoTime 0))
    ∷ case (send 7 ∷ feedback 0 (block 7 (later ∷ []) ∷ []) ∷ []) 7 (Ok (Received 3 (2 ^ 32 - 64)))
    ∷ []

-- a registration: what came before it was ignored, and a second one changes nothing
unfoldable pub of_registrations : List Case
of_registrations =
    case (send 6 ∷ send 8 ∷ reports 7 earlier ∷ send 7 ∷ []) 7 (Ok NotReported)
    ∷ case (send 6 ∷ reports 7 earlier ∷ send 7 ∷ []) 7 (Ok NotReported)
    ∷ case (reports 7 earlier ∷ send 7 ∷ []) 7 (Ok NotReported)
    ∷ case (send 7 ∷ reports 7 earlier ∷ send 7 ∷ []) 7 was_earlier
    ∷ case (send 7 ∷ reports 7 earlier ∷ register 11 7 ∷ []) 7 was_earlier
    ∷ case (send 7 ∷ take_in [] ∷ []) 7 (Ok NotReported)
    ∷ []

-- 65535 and 1 are sent, and a block reports 65535, 0 and 1
abbrev pub past_the_wrap : List Call
past_the_wrap = send 65535 ∷ send 1 ∷ feedback (2 ^ 16) (block 65535 (earlier ∷ later ∷ lost ∷ []) ∷ []) ∷ []

-- the window: its edges, past 65535, and a number that comes round again
unfoldable pub of_the_window : List Case
of_the_window =
    case [] 7 (Err refusal.NotHeld)
    ∷ case (register 11 7 ∷ send 7 ∷ []) 7 (Err refusal.NotHeld)
    ∷ case (send 6 ∷ send 8 ∷ []) 7 (Err refusal.NotRegistered)
    ∷ case (send 6 ∷ send 8 ∷ reports 7 earlier ∷ []) 7 (Err refusal.NotRegistered)
    ∷ case (send 7 ∷ []) 8 (Err refusal.NotRegistered)
    ∷ case (send 7 ∷ reports 5000 earlier ∷ []) 7 (Ok NotReported)
    ∷ case (send 7 ∷ send 2054 ∷ []) 7 (Ok NotReported)
    ∷ case (send 7 ∷ send 2055 ∷ []) 7 (Err refusal.NotRegistered)
    ∷ case past_the_wrap 65535 was_earlier
    ∷ case past_the_wrap 0 (Err refusal.NotRegistered)
    ∷ case past_the_wrap 1 (Ok Missing)
    ∷ case (send 7 ∷ reports 7 earlier ∷ send 30000 ∷ send 60000 ∷ send 7 ∷ []) 7 (Ok NotReported)
    ∷ []

unfoldable pub cases : List Case
cases = of_reports ++ (of_registrations ++ of_the_window)

-- in every fresh store of one place
abbrev pub CaseHolds : Case → Type 0
CaseHolds c = (st : Store) → Fresh st → length st.places ≡ 1
    → status_asked (sender_run st c.calls).places (sender_run st c.calls).cells ssrc c.number ≡ c.answer

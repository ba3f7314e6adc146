-- Rules: "Arrivals and the window", "Metric", "Reading a metric". The 16 bits of a sequence
-- number: from the highest R (1 bit), the ECN mark (2 bits) and the arrival time offset (ATO, 13
-- bits).
use Rattle.std.specs.Prelude.{ℕ, ◌+◌, ◌-◌, ◌*◌, ◌/◌, ◌%◌, ◌^◌, ◌<◌, Bool, true, false, cond, eqb, ltb, leb}
use Rattle.std.specs.Prelude.{Option, Some, None}
use Rattle.metric.specs.declared.Arrived.{Arrived}
use Rattle.metric.specs.declared.Metric.{Metric}
use Rattle.metric.specs.declared.Metric.TheVariants.{NotReceived, Received, OverRange, NoTime}

-- ---- times

-- rule "Time": a count of 1/65536 s, modulo 2^32
abbrev pub times : ℕ
times = 2 ^ 32

-- what the type of a time says of it
abbrev pub TimeInRange : Option ℕ → Type 0
TimeInRange None = Unit {0}
TimeInRange (Some t) = t < times

-- a time that comes with a flag: known or not
abbrev pub time_of : Bool → ℕ → Option ℕ
time_of true t = Some t
time_of false t = None

-- rule "Age": RTS less the time, modulo 2^32
abbrev pub age_of : ℕ → ℕ → ℕ
age_of rts time = (rts + times - time) % times

-- ---- the arrival time offset

-- the two codes without an offset
abbrev pub no_time : ℕ
no_time = 0x1FFF

abbrev pub over_range : ℕ
over_range = 0x1FFE

-- an offset counts 1/1024 s: 64 units of time
abbrev pub offset_unit : ℕ
offset_unit = 64

-- the largest offset
abbrev pub largest_offset : ℕ
largest_offset = 8189

-- the longest age that has an offset, 8189/1024 s
abbrev pub longest_age : ℕ
longest_age = largest_offset * offset_unit

-- an age of half of all times or more counts as a time after RTS
abbrev pub after_rts : ℕ
after_rts = 2 ^ 31

-- rule "Offset", where the time is known: 0x1FFF from an age of 2^31 on, 0x1FFE above 524,096, and
-- below that the age in units of 64
unfoldable pub ato_of_age : ℕ → ℕ
ato_of_age age = cond (leb after_rts age) no_time (cond (ltb longest_age age) over_range (age / offset_unit))

-- rule "Offset": 0x1FFF also where the time is unknown
abbrev pub ato_of : Option ℕ → ℕ → ℕ
ato_of None rts = no_time
ato_of (Some t) rts = ato_of_age (age_of rts t)

-- ---- the sixteen bits

-- ECN-CE, the largest of the four marks
abbrev pub congested : ℕ
congested = 3

-- R
abbrev pub received_bit : ℕ
received_bit = 2 ^ 15

-- the mark stands above the 13 bits of ATO
abbrev pub mark_unit : ℕ
mark_unit = 2 ^ 13

-- R = 1, the two bits of the mark, ATO
abbrev pub assembled_of : ℕ → ℕ → ℕ
assembled_of mark ato = received_bit + mark_unit * (mark % 4) + ato

-- rules "Not received" and "Received": 0x0000 of an empty cell; of a filled one R = 1, mark, ATO
abbrev pub encode_of : Option Arrived → ℕ → ℕ
encode_of None rts = 0
encode_of (Some a) rts = assembled_of a.mark (ato_of a.time rts)

-- the mark of a metric, and its ATO
abbrev pub mark_bits : ℕ → ℕ
mark_bits m = m / mark_unit % 4

abbrev pub ato_bits : ℕ → ℕ
ato_bits m = m % mark_unit

-- rule "Codes are no offsets": 0x1FFF and 0x1FFE are kinds of their own
abbrev pub received_of : ℕ → ℕ → Metric
received_of mark ato = cond (eqb ato no_time) (NoTime mark) (cond (eqb ato over_range) (OverRange mark) (Received mark ato))

-- rules "Four kinds" and "Ignored bits": where R = 0, no other bit is looked at
unfoldable pub decode_of : ℕ → Metric
decode_of m = cond (ltb m received_bit) NotReceived (received_of (mark_bits m) (ato_bits m))

-- what the metric of a cell says when it is read back: the case of its age, and of the cell
unfoldable pub seen_at_age : ℕ → ℕ → Metric
seen_at_age mark age =
    cond (leb after_rts age) (NoTime mark) (cond (ltb longest_age age) (OverRange mark) (Received mark (age / offset_unit)))

abbrev pub seen_at_time : ℕ → Option ℕ → ℕ → Metric
seen_at_time mark None rts = NoTime mark
seen_at_time mark (Some t) rts = seen_at_age mark (age_of rts t)

abbrev pub seen_of : Option Arrived → ℕ → Metric
seen_of None rts = NotReceived
seen_of (Some a) rts = seen_at_time (a.mark % 4) a.time rts

-- the number of each case, as a caller in C is given it; its mark, and its offset where it has one
abbrev pub case_number : Metric → ℕ
case_number NotReceived = 0
case_number (Received mark offset) = 1
case_number (OverRange mark) = 2
case_number (NoTime mark) = 3

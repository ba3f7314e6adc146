-- Rules: "Store words", rule "Sent word". How a cell's 64-bit word stores what is known of a sent
-- number, and how a registration and a report change it. Any word has a reading.
--   word % 4             0 not registered, 1 not reported yet, 2 missing, 3 received
--   word / 2^16 % 2^15   if received: ECN mark and ATO, as in the metric
--   word / 2^32          if received: RTS of the packet that reported it
use Rattle.std.specs.Prelude.{ℕ, ◌+◌, ◌*◌, ◌/◌, ◌%◌, ◌^◌, cond, ◌==◌, nat_lt, Option, Some, None}
use Rattle.metric.specs.Metric.{times, received_bit, decode_of}
use Rattle.sent_word.specs.Status.{status_of}
use Rattle.sent_word.specs.declared.Status.{Status}
use Rattle.sent_word.specs.declared.Status.TheVariants.{NotReported, Missing}

-- ---- the fields of a word

abbrev pub kinds : ℕ
kinds = 4

abbrev pub not_registered : ℕ
not_registered = 0

abbrev pub not_reported : ℕ
not_reported = 1

abbrev pub missing : ℕ
missing = 2

abbrev pub received : ℕ
received = 3

abbrev pub kind_of : ℕ → ℕ
kind_of word = word % kinds

-- the metric stands above the 16 lowest bits, and has 16 bits; R, its highest, is always set
abbrev pub metric_unit : ℕ
metric_unit = 2 ^ 16

abbrev pub metrics : ℕ
metrics = 2 ^ 16

abbrev pub held_metric : ℕ → ℕ
held_metric word = received_bit + word / metric_unit % received_bit

-- RTS stands above it, and has 32 bits
abbrev pub rts_unit : ℕ
rts_unit = 2 ^ 32

abbrev pub held_rts : ℕ → ℕ
held_rts word = word / rts_unit % times

-- ---- reading

unfoldable pub held_status : ℕ → Status
held_status word = status_of (decode_of (held_metric word)) (held_rts word)

unfoldable pub read_word_of : ℕ → Option Status
read_word_of word =
    cond (kind_of word == not_registered) None
    (cond (kind_of word == not_reported) (Some NotReported)
    (cond (kind_of word == missing) (Some Missing) (Some (held_status word))))

-- ---- a registration, and a report

unfoldable pub registered_word : ℕ → ℕ
registered_word word = cond (kind_of word == not_registered) not_reported word

unfoldable pub received_word : ℕ → ℕ → ℕ
received_word metric rts = received + metric_unit * (metric % metrics) + rts_unit * (rts % times)

-- a metric where R = 1 is entered with RTS; one where R = 0 replaces "not reported yet" alone
unfoldable pub word_reported : ℕ → ℕ → ℕ → ℕ
word_reported metric rts word =
    cond (kind_of word == not_registered) word
    (cond (nat_lt metric received_bit)
    (cond (kind_of word == not_reported) missing word)
    (received_word metric rts))

-- What a registration and a report make of a word, as the rules have it. Assumes nothing.
use Rattle.std.proofs.Common.{◌≡◌, ℕ, ◌+◌, ◌*◌, ◌/◌, ◌%◌, ◌<◌, ◌≤◌, Bool, true, false, cond, eqb, sym, refl, ap, ◌∙◌, arith}
use Rattle.lists.proofs.Cases.{split_le, split_eq}
use Rattle.metric.specs.Metric.{times, no_time, over_range, received_bit, mark_unit, mark_bits, ato_bits, received_of, decode_of}
use Rattle.metric.proofs.Decoded.{reads_not_received, reads_received}
use Rattle.metric.specs.declared.Metric.{Metric}
use Rattle.sent_word.specs.Status.{arrival_time, status_of, is_received, after_registering, reported_over, after_report}
use Rattle.sent_word.specs.Word.{not_registered, not_reported, missing, received, kind_of, metric_unit, metrics, rts_unit}
use Rattle.sent_word.specs.Word.{held_metric, held_rts, held_status, read_word_of, registered_word, received_word, word_reported}
use Rattle.sent_word.proofs.ByKind.{read_none, read_not_reported, read_missing, read_received, by_kind}
use Rattle.sent_word.proofs.ByKind.{registered_new, registered_again, reported_none, reported_received, reported_missing, reported_kept}
use Rattle.metric.specs.declared.Metric.TheVariants as metric
use Rattle.sent_word.specs.declared.Status.{Status}
use Rattle.sent_word.specs.declared.Status.TheVariants.{NotReported, Missing, Received}
use Rattle.std.specs.Prelude.{Some, None}

-- ---- a received word is read back

-- digits below a multiple of their size
low : (a k : ℕ) → (a + metrics * k) % received_bit ≡ a % received_bit
low a k = omega arith

-- the fields of the word are what was put into them, modulo their size
held_metric_lem : (metric rts : ℕ) → held_metric (received_word metric rts) ≡ received_bit + metric % received_bit
unfolding received_word
held_metric_lem metric rts =
    let up : (received + metric_unit * (metric % metrics) + rts_unit * (rts % times)) / metric_unit ≡ metric % metrics + metrics * (rts % times) = omega arith in
    let whole : metric ≡ metric % metrics + metrics * (metric / metrics) = omega arith in
    let same : metric % received_bit ≡ metric % metrics % received_bit = ap (λ m. m % received_bit) whole ∙ low (metric % metrics) (metric / metrics) in
    ap (λ x. received_bit + x) (rw up (low (metric % metrics) (rts % times)) ∙ sym same)

held_rts_lem : (metric rts : ℕ) → held_rts (received_word metric rts) ≡ rts % times
unfolding received_word
held_rts_lem metric rts =
    let up : (received + metric_unit * (metric % metrics) + rts_unit * (rts % times)) / rts_unit ≡ rts % times = omega arith in
    rw up (omega arith)

-- bits above R are in neither the mark nor ATO
mark_low : (k x : ℕ) → mark_bits (received_bit * k + x) ≡ mark_bits x
mark_low k x =
    let up : (received_bit * k + x) / mark_unit ≡ 4 * k + x / mark_unit = omega arith in
    rw up (omega arith)

ato_low : (k x : ℕ) → ato_bits (received_bit * k + x) ≡ ato_bits x
ato_low k x = omega arith

-- so a metric where R = 1 says the same without its bits above R
same_decoded : (metric : ℕ) → received_bit ≤ metric → decode_of (received_bit + metric % received_bit) ≡ decode_of metric
same_decoded metric l =
    reads_received (received_bit + x) (omega arith) ∙ rw (one.0, one.1, all.0, all.1) refl ∙ sym (reads_received metric l)
  where
    x : ℕ
    x = metric % received_bit

    all : (mark_bits metric ≡ mark_bits x) × (ato_bits metric ≡ ato_bits x)
    all =
        let whole : metric ≡ received_bit * (metric / received_bit) + x = omega arith in
        (ap mark_bits whole ∙ mark_low (metric / received_bit) x, ap ato_bits whole ∙ ato_low (metric / received_bit) x)

    one : (mark_bits (received_bit + x) ≡ mark_bits x) × (ato_bits (received_bit + x) ≡ ato_bits x)
    one = (mark_low 1 x, ato_low 1 x)

-- the three cases of a metric where R = 1
received_cases : (P : Metric → Type 0) (mark ato : ℕ)
    → P (metric.NoTime mark) → P (metric.OverRange mark) → P (metric.Received mark ato) → P (received_of mark ato)
received_cases P mark ato n o r = by (eqb ato no_time) (eqb ato over_range)
  where
    by : (a b : Bool) → P (cond a (metric.NoTime mark) (cond b (metric.OverRange mark) (metric.Received mark ato)))
    by true b = n
    by false true = o
    by false false = r

-- an offset reaches back less than all times, so that RTS counts modulo 2^32
same_time : (rts ato : ℕ) → ato < mark_unit → arrival_time (rts % times) ato ≡ arrival_time rts ato
same_time rts ato l = omega arith

same_status : (mark ato rts : ℕ) → ato < mark_unit → status_of (received_of mark ato) (rts % times) ≡ status_of (received_of mark ato) rts
same_status mark ato rts l =
    received_cases (λ m. status_of m (rts % times) ≡ status_of m rts) mark ato refl refl (ap (Received mark) (same_time rts ato l))

-- so what the word holds is what the metric says
held_is : (metric rts : ℕ) → received_bit ≤ metric → held_status (received_word metric rts) ≡ status_of (decode_of metric) rts
unfolding held_status
held_is metric rts l =
    rw (held_metric_lem metric rts, held_rts_lem metric rts, same_decoded metric l, reads_received metric l)
    (same_status (mark_bits metric) (ato_bits metric) rts (omega arith))

received_kind : (metric rts : ℕ) → missing < kind_of (received_word metric rts)
unfolding received_word
received_kind metric rts = omega arith

-- ---- a registration

pub read_zero : read_word_of 0 ≡ None
read_zero = read_none 0 refl

pub read_registered : (word : ℕ) → read_word_of (registered_word word) ≡ after_registering (read_word_of word)
read_registered word =
    split_eq (kind_of word) not_registered
    (λ e. rw (registered_new word e, read_none word e) (read_not_reported not_reported refl))
    (λ n. rw (registered_again word n) (known n))
  where
    known : (kind_of word ≡ not_registered → ⊥) → read_word_of word ≡ after_registering (read_word_of word)
    known n = by_kind word n (λ e. rw (read_not_reported word e)) (λ e. rw (read_missing word e)) (λ l. rw (read_received word l))

-- ---- a report

-- a metric where R = 1 says "received", and so does a received word
says_received : (metric rts : ℕ) → received_bit ≤ metric → is_received (status_of (decode_of metric) rts) ≡ true
says_received metric rts l = rw (reads_received metric l) (received_cases (λ m. is_received (status_of m rts) ≡ true) (mark_bits metric) (ato_bits metric) refl refl refl)

holds_received : (word : ℕ) → is_received (held_status word) ≡ true
unfolding held_status
holds_received word = says_received (held_metric word) (held_rts word) (omega arith)

-- "received" replaces whatever is known
pub received_replaces : (held new : Status) → is_received new ≡ true → reported_over held new ≡ new
unfolding reported_over
received_replaces held new e = rw e

-- and "missing" replaces no "received"
pub received_stays : (held : Status) → is_received held ≡ true → reported_over held Missing ≡ held
unfolding reported_over
received_stays held e = rw e

pub missing_replaces : (held : Status) → is_received held ≡ false → reported_over held Missing ≡ Missing
unfolding reported_over
missing_replaces held e = rw e

module _ (word metric rts : ℕ) (known : kind_of word ≡ not_registered → ⊥) where
  received_over : received_bit ≤ metric → read_word_of (word_reported metric rts word) ≡ after_report (read_word_of word) (status_of (decode_of metric) rts)
  received_over l =
      rw (reported_received word metric rts known l, read_received (received_word metric rts) (received_kind metric rts), held_is metric rts l)
      (by_kind word known
      (λ e. rw (read_not_reported word e) (replaces NotReported))
      (λ e. rw (read_missing word e) (replaces Missing))
      (λ h. rw (read_received word h) (replaces (held_status word))))
    where
      replaces : (held : Status) → Some (status_of (decode_of metric) rts) ≡ Some (reported_over held (status_of (decode_of metric) rts))
      replaces held = ap Some (sym (received_replaces held (status_of (decode_of metric) rts) (says_received metric rts l)))

  missing_over : metric < received_bit → read_word_of (word_reported metric rts word) ≡ after_report (read_word_of word) (status_of (decode_of metric) rts)
  missing_over l =
      rw (reads_not_received metric l)
      (by_kind word known
      (λ e. rw (reported_missing word metric rts known l e, read_not_reported word e, missing_replaces NotReported refl) (read_missing missing refl))
      (λ e. rw (reported_kept word metric rts known l (λ f. omega arith), read_missing word e, missing_replaces Missing refl))
      (λ h. rw (reported_kept word metric rts known l (λ f. omega arith), read_received word h, received_stays (held_status word) (holds_received word))))

pub read_reported : (metric rts word : ℕ) → read_word_of (word_reported metric rts word) ≡ after_report (read_word_of word) (status_of (decode_of metric) rts)
read_reported metric rts word =
    split_eq (kind_of word) not_registered
    (λ e. rw (reported_none word metric rts e, read_none word e))
    (λ n. split_le received_bit metric (received_over word metric rts n) (missing_over word metric rts n))

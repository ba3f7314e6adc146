-- The words of a sender's store say what its entries say, entry by entry. Assumes nothing.
use Prim.Native.Nat.{ℕ}
use mathlib.Core.Path.{refl, sym, ap, ◌∙◌}
use Rattle.metric.specs.Metric.{decode_of}
use Rattle.streams.specs.Reading.{Lawful, Enters}
use Rattle.sent_word.specs.Status.{status_of, after_registering, after_report}
use Rattle.sent_word.specs.Word.{registered_word, word_reported}
use Rattle.std.specs.Prelude.{Option}
use Rattle.sent_word.specs.declared.Status.{Status}
use Rattle.sent_word.proofs.Words.{read_zero, read_registered, read_reported}
use Rattle.sent_history.specs.Meaning.{was_registered, was_reported, entry_of, events_of, shown_of}
use Rattle.sent_history.specs.Reading.{sent_meaning}
use Rattle.sent_history.proofs.Events.{events_same, events_other, events_none, shown_registered, shown_reported}

pub shown_lawful : Lawful sent_meaning
shown_lawful = record {
  silent = λ es n h. ap shown_of (events_none es n h) ∙ sym read_zero;
  other = λ es e n h. ap shown_of (events_other es e n h);
}

pub register_enters : (n : ℕ) → Enters sent_meaning registered_word (entry_of was_registered n)
register_enters n word es e =
    read_registered word
    ∙ ap after_registering e
    ∙ sym (ap shown_of (events_same es (entry_of was_registered n) n refl) ∙ shown_registered (events_of es n))

pub report_enters : (m rts n : ℕ) → Enters sent_meaning (word_reported m rts) (entry_of (was_reported (decode_of m) rts) n)
report_enters m rts n word es e =
    read_reported m rts word
    ∙ ap (λ (s : Option Status). after_report s (status_of (decode_of m) rts)) e
    ∙ sym (ap shown_of (events_same es (entry_of (was_reported (decode_of m) rts) n) n refl) ∙ shown_reported (events_of es n) (decode_of m) rts)

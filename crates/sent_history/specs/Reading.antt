-- Rules: "What a sender's store means". What the words of a sender's store say, and what its entries
-- say: a store reads as the machine says where the two agree.
use Rattle.streams.specs.Reading.{Meaning}
use Rattle.sent_word.specs.Word.{read_word_of}
use Rattle.std.specs.Prelude.{Option}
use Rattle.sent_word.specs.declared.Status.{Status}
use Rattle.sent_history.specs.Meaning.{Entry, shown_by}

abbrev pub sent_meaning : Meaning Entry (Option Status)
sent_meaning = record { full = λ (e : Entry). e.full; read = read_word_of; shown = shown_by }

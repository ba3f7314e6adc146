-- Rules: "What a store means". From calls to octets: what a reader of written feedback sees of each
-- number, by the accepted arrivals of its stream.
use Rattle.std.specs.Prelude.{ℕ, ◌+◌, ◌-◌, ◌%◌, ◌≤◌, ◌<◌, ◌≡◌, List, take, Ok}
use Rattle.lists.specs.All.{All}
use Rattle.metric.specs.Metric.{seen_of}
use Rattle.metric.specs.declared.Metric.{Metric}
use Rattle.window.specs.Number.{sequence_numbers, distance_of}
use Rattle.ring.specs.Ring.{cells_of_a_place}
use Rattle.streams.specs.Reading.{Store}
use Rattle.history.specs.Calls.{Call, store_run, store_answers, Accepted, accepted_of}
use Rattle.history.specs.Meaning.{top_of, entries_of, cell_by, AsArrivals}
use Rattle.walk.specs.Walk.{walk_of}
use Rattle.walk.specs.declared.ReportBlock.{ReportBlock}
use Rattle.block_reader.specs.Blocks.{located}
use Rattle.metric_reader.specs.Metrics.{reported_of}
use Rattle.cutting.specs.declared.Request.{Request}
use Rattle.writer_laws.specs.Read.{packets_in, Report}

-- the full number of s in the window that ends with the full number top
abbrev pub full_number : ℕ → ℕ → ℕ
full_number top s = top - distance_of (top % sequence_numbers) s

-- the full number n is one of the window that ends with top, and its low 16 bits are s
pub record StandsFor (top s n : ℕ) : Type 0 where
  pub most : n ≤ top
  pub least : top < n + cells_of_a_place
  pub low : n % sequence_numbers ≡ s
  -- no other number of the window has these 16 bits
  pub only : (m : ℕ) → m ≤ top → top < m + cells_of_a_place → m % sequence_numbers ≡ s → m ≡ n

-- the case of number s at RTS: not received; or received with the first copy's offset, over range or without
-- a time. The mark is ECN-CE if any copy of that full number carried it, else the first copy's
abbrev pub seen_by : List Accepted → ℕ → ℕ → Metric
seen_by history rts s = seen_of (cell_by (entries_of history) (full_number (top_of history) s)) rts

-- a property of each number that a packet reports: number j of block k, of the stream of the block
abbrev pub OfNumbers : (ℕ → ℕ → Type 0) → List ℕ → Type 0
OfNumbers P s =
    (k j : ℕ) (b : ReportBlock) → located (walk_of s) k ≡ Ok b → j < b.num_reports
    → P b.ssrc ((b.begin_seq + j) % sequence_numbers)

-- asking for metric j of block k answers that case
abbrev pub SeenByHistory : (ℕ → List Accepted) → ℕ → List ℕ → Type 0
SeenByHistory history rts s =
    (k j : ℕ) (b : ReportBlock) → located (walk_of s) k ≡ Ok b → j < b.num_reports
    → reported_of (located (walk_of s) k) s j
    ≡ Ok (record { number = (b.begin_seq + j) % sequence_numbers; metric = seen_by (history b.ssrc) rts ((b.begin_seq + j) % sequence_numbers) })

-- rule "History of a stream", where the calls cs were made to a store st
abbrev pub history_of : Store → List Call → ℕ → List Accepted
history_of st cs ssrc = accepted_of ssrc cs (store_answers st cs)

-- the feedback on requests rs that was written after the calls cs to a store st: p packets in the first o
-- octets
pub record Feedback (st : Store) (cs : List Call) (sender rts limit : ℕ) (rs : List Request) (entry exit : List ℕ) (p o : ℕ) : Type 0 where
  -- the reader accepts the packets, and they report each number of each range once and nothing else (field
  -- `cuts`)
  pub report : Report (store_run st cs).places (store_run st cs).cells sender rts limit rs entry exit p o
  -- each number is seen as the history of its stream says
  pub seen : All (SeenByHistory (history_of st cs) rts) (packets_in (take o exit))
  -- each stands for a full number of its stream's window
  pub full : All
      (OfNumbers (λ ssrc s. let top : ℕ = top_of (history_of st cs ssrc) in StandsFor top s (full_number top s)))
      (packets_in (take o exit))
  -- and what the accepted arrivals say, rule by rule
  pub meaning : (ssrc n : ℕ) → AsArrivals (cell_by (entries_of (history_of st cs ssrc)) n) (entries_of (history_of st cs ssrc)) n

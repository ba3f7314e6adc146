-- From any list of calls to a fresh store to what a reader of the written octets sees. Assumes nothing.
use Prim.Native.Nat.{ℕ, zero, suc, ◌+◌, ◌%◌, ◌^◌, ◌<◌}
use mathlib.Core.Path.{◌≡◌, sym, ap, ◌∙◌}
use mathlib.Core.List.{List, [], ◌∷◌, ◌++◌}
use native.Mathlib.Omega.{arith}
use lib.ListN.{take}
use Rattle.lists.specs.All.{All}
use Rattle.lists.proofs.All.{all_map}
use Rattle.metric.specs.Metric.{seen_of}
use Rattle.metric.specs.declared.Metric.{Metric}
use Rattle.std.specs.Prelude.{Option, Some, Ok}
use Rattle.std.proofs.lemmas.Option.{same_Some}
use Rattle.places.specs.declared.Stream.{Stream}
use Rattle.metric.specs.declared.Arrived.{Arrived}
use Rattle.window.specs.Number.{sequence_numbers, distance_of}
use Rattle.ring.specs.Ring.{cells_of_a_place}
use Rattle.places.specs.Place.{find_of, place_at}
use Rattle.places.specs.Held.{HeldAt}
use Rattle.places.proofs.Held.{held_found}
use Rattle.streams.specs.Reading.{Store, Fresh}
use Rattle.history.specs.Calls.{Call, CallInRange, store_run, Accepted}
use Rattle.history.specs.Meaning.{top_of, entries_of}
use Rattle.history.specs.Reading.{Holds}
use Rattle.history.proofs.ByHistory.{by_history}
use Rattle.history.proofs.Filled.{as_arrivals}
use Rattle.cutting.specs.Cutting.{numbers_from}
use Rattle.cutting.specs.declared.Request.{Request}
use Rattle.writer.specs.Written.{written}
use Rattle.writer_laws.specs.Read.{seen_in, MetricsRead, InBits, Report, packets_in}
use Rattle.writer_laws.specs.Refused.{InWindow, AllSound, none, more}
use Rattle.writer_laws.proofs.Refusals.{accepted}
use Rattle.writer_laws.proofs.Theorems.{report}
use Rattle.feedback.specs.Seen.{full_number, StandsFor, seen_by, OfNumbers, SeenByHistory, history_of, Feedback}
use Rattle.feedback.proofs.Window.{full_number_lem, cell_in_window, range_in_window}
use Rattle.feedback.proofs.Ranges.{OfRequests}
use Rattle.feedback.proofs.Blocks.{each_told}

module _ (st : Store) (new : Fresh st) (cs : List Call) (range : All CallInRange cs) where
  abbrev places : List ℕ
  places = (store_run st cs).places

  abbrev cells : List ℕ
  cells = (store_run st cs).cells

  abbrev history : ℕ → List Accepted
  history = history_of st cs

  module _ (sender rts limit n : ℕ) (rs : List Request) (out : List ℕ) where
    -- a number of a range, and what the store says of it
    pub record Told (ssrc s : ℕ) : Type 0 where
      pub small : s < sequence_numbers
      pub full : StandsFor (top_of (history ssrc)) s (full_number (top_of (history ssrc)) s)
      pub seen : seen_in places cells rts ssrc s ≡ seen_by (history ssrc) rts s

    module _ (ssrc p high : ℕ) (is : HeldAt places ssrc p high) where
      found : find_of places ssrc ≡ Some p
      found = (held_found places ssrc p high is).0

      held : Holds cells p (place_at places p) ssrc (top_of (history ssrc)) (entries_of (history ssrc))
      held = by_history st new cs range ssrc p found

      highest : high ≡ top_of (history ssrc) % sequence_numbers
      highest = same high (top_of (history ssrc) % sequence_numbers) is.holds held.place
        where
          same : (a b : ℕ) → place_at places p ≡ Some (record { ssrc = ssrc; highest = a }) → place_at places p ≡ Some (record { ssrc = ssrc; highest = b }) → a ≡ b
          same a b e f = ap (λ (x : Stream). x.highest) (same_Some _ _ (sym e ∙ f))

      told : (s : ℕ) → (s < sequence_numbers) × (distance_of (top_of (history ssrc) % sequence_numbers) s < cells_of_a_place) → Told ssrc s
      told s (l, d) = record {
        small = l;
        full = full_number_lem (top_of (history ssrc)) s held.begun l d;
        seen =
            rw found
            (ap (λ (c : Option Arrived). seen_of c rts)
            (cell_in_window cells p (place_at places p) ssrc (top_of (history ssrc)) (entries_of (history ssrc)) s held l d));
      }

      told_range : (begin count : ℕ) → begin < sequence_numbers → InWindow high begin count → All (Told ssrc) (numbers_from begin count)
      told_range begin zero l w = tt
      told_range begin (suc k) l w =
          let f = rw highest at (w.some (omega arith)) in
          all_map (numbers_from begin (suc k)) told
          (range_in_window (top_of (history ssrc) % sequence_numbers) begin (suc k) (omega arith) l f.0 (omega (arith, f.1)))

    told_all : (earlier rs : List Request) → AllSound places earlier rs
        → All (λ (r : Request). (r.ssrc < 2 ^ 32) × (r.begin < 2 ^ 16)) rs → OfRequests Told rs
    told_all earlier rs none b = tt
    told_all earlier (r ∷ rs) (more p s h) b =
        (told_range r.ssrc p s.highest s.held r.begin r.count b.0.1 s.range, told_all (earlier ++ r ∷ []) rs h b.1)

    module _ (bits : InBits sender rts rs) (p o : ℕ) (e : (written places cells sender rts limit n rs out).answer ≡ Ok (record { packets = p; octets = o })) where
      abbrev output : List ℕ
      output = (written places cells sender rts limit n rs out).output

      shown : Report places cells sender rts limit rs out output p o
      shown = report places cells sender rts limit n rs out bits p o e

      numbers : All (OfNumbers Told) (packets_in (take o output))
      numbers =
          each_told Told (λ ssrc s t. t.small) limit rs
          (told_all [] rs (accepted places cells sender rts limit n rs out p o e).0.requests bits.request_bits)
          (packets_in (take o output)) shown.cuts

      seen_in_lem : (ps : List (List ℕ)) → All (MetricsRead places cells rts) ps → All (OfNumbers Told) ps → All (SeenByHistory history rts) ps
      seen_in_lem [] h g = tt
      seen_in_lem (s ∷ ps) h g =
          (λ k j b f l. h.0 k j b f l ∙ ap (λ (m : Metric). Ok (record { number = (b.begin_seq + j) % sequence_numbers; metric = m })) (g.0 k j b f l).seen, seen_in_lem ps h.1 g.1)

      -- what is read in the written octets is what the accepted calls say, of each number of each range and
      -- of nothing else
      pub feedback : Feedback st cs sender rts limit rs out output p o
      feedback = record {
        report = shown;
        seen = seen_in_lem (packets_in (take o output)) shown.metrics numbers;
        full =
            all_map (packets_in (take o output))
            (λ s t k j b f l. (t k j b f l).full) numbers;
        meaning = λ ssrc m. as_arrivals (entries_of (history ssrc)) m;
      }

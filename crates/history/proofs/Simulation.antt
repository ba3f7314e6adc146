-- The store does as the machine: the same answer to each call, and the store that it leaves reads as the machine then says.
-- Assumes nothing.
use Prim.Native.Nat.{ℕ, ◌^◌, ◌<◌}
use mathlib.Core.Path.{◌≡◌, refl, ap, ◌∙◌}
use mathlib.Core.List.{List}
use native.Mathlib.Omega.{arith}
use native.Mathlib.Decide.{dec_le}
use borrow.Author.Tests.{lt-ltb, le-ltb}
use lib.ListN.{set, length-set}
use lib.Seq.{get_or-set_same, get_or-set_other}
use Rattle.lists.specs.All.{All}
use Rattle.std.specs.Prelude.{Option, Some, None, Ok, Err}
use Rattle.places.specs.declared.Stream.{Stream}
use Rattle.metric.specs.Metric.{TimeInRange, congested}
use Rattle.window.specs.Number.{sequence_numbers}
use Rattle.places.specs.Place.{read_place, place_at, find_of}
use Rattle.places.proofs.Places.{read_zero}
use Rattle.places.proofs.Shape.{shaped_is}
use Rattle.streams.specs.Model.{Place, free, stream, names, at, find_in}
use Rattle.streams.specs.Reading.{Store, ReadsAt}
use Rattle.streams.proofs.Places.{find_same, there_in, replaced}
use Rattle.streams.proofs.Admission.{Alike, admit_alike}
use Rattle.streams.proofs.Runs.{simulated}
use Rattle.cells.specs.Cell.{word_after}
use Rattle.admission.specs.Kind.{kind_at}
use Rattle.arrivals.specs.Arrivals.{arrived}
use Rattle.store.specs.Store.{forgotten_at, forgotten, answer_of, place_of}
use Rattle.history.specs.Calls.{Call, arrive, forget, to_arrival, to_forgetting, store_step, store_answer, store_run, store_answers, Accepted, CallInRange}
use Rattle.history.specs.Meaning.{Entry, entry_of}
use Rattle.history.specs.Model.{model_arrived, forgot_at, model_forgot, model_place, model_step, model_answer, model_run, model_answers}
use Rattle.history.specs.Reading.{arrival_meaning, Reads}
use Rattle.history.proofs.Cells.{arrival_laws, arrival_enters}
use Rattle.history.proofs.KindAlike.{same_admitted}

module _ (st : Store) (ps : List (Place Entry)) (R : Reads st ps) where
  -- an arrival
  pub arrive_alike : (ssrc number mark : ℕ) (time : Option ℕ) → ssrc < 2 ^ 32 → number < sequence_numbers → TimeInRange time
      → Alike arrival_meaning (arrived st.places st.cells ssrc number mark time) (model_arrived ps ssrc number mark time)
  arrive_alike ssrc number mark time s n t =
      let a : Accepted = record { number = number; mark = mark; time = time } in
      rw (shaped_is st.places st.cells R.shape)
      (elim (dec_le mark congested) [
        | yes m ↦
            rw (le-ltb congested mark m, ← same_admitted st ps R (entry_of a) ssrc number n)
            (admit_alike arrival_meaning arrival_laws st ps R (word_after mark time) (entry_of a) (λ full. refl) (arrival_enters a m t)
            ssrc number n (Ok (kind_at (find_of st.places ssrc) st.places st.cells number)) Err s)
        | no m ↦ rw (lt-ltb congested mark (omega arith)) (record { answer = refl; reads = R })
      ])

  -- forgetting a stream
  forgot_alike : (f : Option ℕ) (ssrc : ℕ) → find_in ps ssrc ≡ f
      → ((forgotten_at f st.places).answer ≡ (forgot_at f ps).answer)
      × Reads (record { places = (forgotten_at f st.places).places; cells = st.cells }) (forgot_at f ps).places
  forgot_alike (Some k) ssrc e =
      let l = there_in arrival_meaning st ps R (λ (i : ℕ). names ssrc (at ps i)) k e in (
        refl,
        replaced arrival_meaning st ps R k (set st.places k 0) st.cells free l (length-set st.places k 0) refl
            (λ q n. get_or-set_other st.places k q 0 0 n) (λ q m n. refl)
            (ap read_place (get_or-set_same st.places k 0 0 l) ∙ read_zero),
      )
  forgot_alike None ssrc e = (refl, R)

  pub forget_alike : (ssrc : ℕ) → ((forgotten st.places st.cells ssrc).answer ≡ (model_forgot ps ssrc).answer)
      × Reads (record { places = (forgotten st.places st.cells ssrc).places; cells = st.cells }) (model_forgot ps ssrc).places
  forget_alike ssrc = rw (shaped_is st.places st.cells R.shape, find_same arrival_meaning st ps R ssrc) (forgot_alike (find_in ps ssrc) ssrc refl)

  -- one call
  pub call_alike : (c : Call) → CallInRange c → (store_answer st c ≡ model_answer ps c) × Reads (store_step st c) (model_step ps c)
  call_alike (arrive ssrc number mark time) r =
      let a = arrive_alike ssrc number mark time r.0 r.1.0 r.1.1 in
      (ap to_arrival a.answer, a.reads)
  call_alike (forget ssrc) r =
      let a = forget_alike ssrc in
      (ap to_forgetting a.0, a.1)

  -- the place question
  placed : (h : Option Stream) (k : ℕ) (P : Place Entry) → ReadsAt arrival_meaning st.cells k h P → answer_of h ≡ model_place P
  placed h k free r = rw r
  placed h k (stream x top es) r = rw r.place

  pub place_alike : (k : ℕ) → place_of st.places st.cells k ≡ model_place (at ps k)
  place_alike k = rw (shaped_is st.places st.cells R.shape) (placed (place_at st.places k) k (at ps k) (R.each k))

-- every list of calls
pub simulates : (cs : List Call) → All CallInRange cs → (st : Store) (ps : List (Place Entry)) → Reads st ps
    → (store_answers st cs ≡ model_answers ps cs) × Reads (store_run st cs) (model_run ps cs)
simulates = simulated store_step store_answer model_step model_answer Reads CallInRange call_alike

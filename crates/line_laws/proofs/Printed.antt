-- What ccfbline prints is what the definitions say, wherever the file is cut. Assumes nothing.
use Prim.Native.Nat.{ℕ, ◌*◌, ◌≤◌, ◌<◌}
use mathlib.Core.Path.{◌≡◌, refl, sym, ap, ◌∙◌, subst}
use mathlib.Core.Bool.{true≢false}
use mathlib.Core.Logic.{◌⊎◌, ⊎_elim}
use mathlib.Core.List.{List, [], ◌∷◌, ◌++◌, append-nil, map, foldl, foldl-append, flatten}
use native.Mathlib.Omega.{arith}
use lib.ListN.{length, length-replicate}
use Rattle.lists.specs.All.{All}
use Rattle.lists.proofs.Flatten.{flatten_append}
use Rattle.lists.proofs.All.{all_left}
use Rattle.refusal.specs.declared.Refusal.{Refusal}
use Rattle.octets.specs.Output.{output_after}
use Rattle.octets.specs.Octets.{Octets, octet_values}
use Rattle.std.specs.Prelude.{Option, Result, Some, None, Ok, Err}
use Rattle.admission.specs.declared.ArrivalKind.{ArrivalKind}
use Rattle.metric.specs.Metric.{congested}
use Rattle.ring.specs.Ring.{cells_of_a_place}
use Rattle.places.specs.Place.{place_at}
use Rattle.places.specs.Shape.{Shaped, Misshapen}
use Rattle.places.specs.After.{StoreAfter}
use Rattle.places.proofs.Shape.{shaped_is, misshapen_is}
use Rattle.arrivals.specs.Arrivals.{arrived}
use Rattle.streams.specs.Reading.{Store, Fresh}
use Rattle.streams.proofs.Fresh.{zeroed_fresh}
use Rattle.history.specs.Calls.{CallInRange, store_run}
use Rattle.history.proofs.ByHistory.{same_reading, no_ssrc_twice}
use Rattle.history.proofs.Refusals.{arrival_given}
use Rattle.arrival_record.specs.declared.Record.{Record}
use Rattle.arrival_file.specs.File.{end_of, file_of}
use Rattle.arrival_file.specs.Pieces.{Feeding, result_of, ended, all_taken, taken_here}
use Rattle.recording.specs.Recorded.{Recorded, recorded, last_known, after_record}
use Rattle.intake.specs.Intake.{left_of, fed_next, held_in}
use Rattle.intake.specs.declared.Intake.{Intake}
use Rattle.intake.proofs.Pieces.{all_calls, calls_left}
use Rattle.line_hex.specs.Hex.{put_text}
use Rattle.line_refusal.specs.Refused.{refused_line}
use Rattle.line_store.specs.Fresh.{fresh_places, fresh_cells, line_places}
use Rattle.line_report.specs.Report.{requested_text}
use Rattle.line.specs.Line.{if_whole, finished_text}
use Rattle.line_newest.specs.Newest.{report_text}
use Rattle.line_gap.specs.Gap.{gap_line}
use Rattle.line.specs.Printed.{fresh, report_of, printed_of, printed}
use Rattle.line_laws.specs.Laws.{Answered, answer_to, LastTime, fed_pieces}
use Rattle.line_laws.proofs.Records.{call_of, InRange, file_range, calls_range}
use Rattle.line_laws.proofs.Streams.{sound_requests}
use Rattle.history.specs.Refusals as given
use Rattle.arrival_file.specs.declared.Phase.TheVariants.{Faulty}
use Rattle.intake.specs.Intake as intake

-- ---- the store that the records make

abbrev store_of : Recorded → Store
store_of x = record { places = x.places; cells = x.cells }

runs : (rs : List Record) (x : Recorded) → store_of (foldl after_record x rs) ≡ store_run (store_of x) (map call_of rs)
unfolding after_record
runs [] x = refl
runs (r ∷ rs) x = runs rs (after_record x r)

fresh_store : Fresh (store_of fresh)
fresh_store = zeroed_fresh line_places fresh_cells (omega arith) (omega arith) (length-replicate {A = ℕ} (line_places * cells_of_a_place) 0)

-- it is sound, and no SSRC is in two places
pub record Reached (x : Recorded) : Type 0 where
  pub shape : Shaped x.places x.cells
  pub once : (ssrc p q h g : ℕ) → place_at x.places p ≡ Some (record { ssrc = ssrc; highest = h }) → place_at x.places q ≡ Some (record { ssrc = ssrc; highest = g }) → p ≡ q

pub reached : (rs : List Record) → All InRange rs → Reached (foldl after_record fresh rs)
reached rs range =
    let calls : All CallInRange (map call_of rs) = calls_range rs range in
    let is : store_run (store_of fresh) (map call_of rs) ≡ store_of (foldl after_record fresh rs) = sym (runs rs fresh) in
    record {
      shape = subst (λ (st : Store). Shaped st.places st.cells) is (same_reading (store_of fresh) fresh_store (map call_of rs) calls).shape;
      once =
          subst (λ (st : Store). (ssrc p q h g : ℕ) → place_at st.places p ≡ Some (record { ssrc = ssrc; highest = h }) → place_at st.places q ≡ Some (record { ssrc = ssrc; highest = g }) → p ≡ q) is
          (no_ssrc_twice (store_of fresh) fresh_store (map call_of rs) calls);
    }

-- the writer refuses nothing
report_is : (x : Recorded) → Reached x → report_text x.places x.cells x.rts ++ gap_line x.gap ≡ report_of x
unfolding requested_text
report_is x r = rw (shaped_is x.places x.cells r.shape, sound_requests x.places r.once)

-- ---- what is printed

abbrev text_of : Result Recorded Refusal → List ℕ
text_of (Ok x) = report_text x.places x.cells x.rts ++ gap_line x.gap
text_of (Err e) = refused_line e

finished_is : (o : intake.IntakeAfter) → length (left_of o) ≡ o.intake.left
    → finished_text o.places o.cells o.intake ≡ text_of (ended (held_in o))
unfolding finished_text
finished_is o e =
    ap (λ (n : ℕ). if_whole (end_of o.intake.phase n) text) (sym e)
    ∙ go (end_of o.intake.phase (length (left_of o)))
  where
    text : List ℕ
    text = report_text o.places o.cells o.intake.rts ++ gap_line o.intake.gap

    go : (v : Result (Unit {0}) Refusal) → if_whole v text ≡ text_of (result_of v (recorded o.places o.cells o.intake.rts o.intake.gap))
    go (Ok tt) = refl
    go (Err e) = refl

whole_is : (s : List ℕ) → Octets s → text_of (all_taken after_record fresh (file_of s)) ≡ printed s
unfolding printed
whole_is s o = go (file_of s) (λ rs e. file_range s rs o e)
  where
    go : (f : Result (List Record) Refusal) → ((rs : List Record) → f ≡ Ok rs → All InRange rs) → text_of (all_taken after_record fresh f) ≡ printed_of f
    go (Ok rs) range = report_is (foldl after_record fresh rs) (reached rs (range rs refl))
    go (Err e) range = refl

-- Where a caller has what the calls of `feed` with these pieces leave, whatever else is in its buffer: `finish` writes what
-- is printed for the whole file.
pub prints_held : (ps : List (List ℕ)) → Octets (flatten ps) → (o : intake.IntakeAfter) → length (left_of o) ≡ o.intake.left
    → held_in o ≡ held_in (fed_pieces ps) → finished_text o.places o.cells o.intake ≡ printed (flatten ps)
prints_held ps octets o left e =
    finished_is o left
    ∙ ap (λ (f : Feeding Recorded). text_of (ended f)) e
    ∙ ap text_of (all_calls fresh_places fresh_cells ps)
    ∙ whole_is (flatten ps) octets

-- Wherever a file of octets is cut into pieces: once they are fed, into a fresh store of four places, `finish` writes
-- what is printed for the whole file.
pub prints : (ps : List (List ℕ)) → Octets (flatten ps)
    → finished_text (fed_pieces ps).places (fed_pieces ps).cells (fed_pieces ps).intake ≡ printed (flatten ps)
prints ps o = prints_held ps o (fed_pieces ps) (calls_left (intake.intake_after intake.at_start fresh_places fresh_cells []) ps refl) refl

-- the contract of `finish`, after those calls: the output holds what is printed for the whole file, and the answer is
-- its length
pub prints_output : (ps : List (List ℕ)) → Octets (flatten ps) → (out exit : List ℕ) (r : ℕ)
    → output_after r exit ≡ put_text out (finished_text (fed_pieces ps).places (fed_pieces ps).cells (fed_pieces ps).intake)
    → output_after r exit ≡ put_text out (printed (flatten ps))
prints_output ps o out exit r e = e ∙ ap (put_text out) (prints ps o)

-- ---- a file is read no further than its first fault

faulty_text : (places cells : List ℕ) (i : Intake) (e : Refusal) → i.phase ≡ Faulty e → finished_text places cells i ≡ refused_line e
unfolding finished_text
faulty_text places cells i e h = rw h

stays : (o : intake.IntakeAfter) (s : List ℕ) (e : Refusal) → o.intake.phase ≡ Faulty e → (fed_next o s).intake.phase ≡ Faulty e
unfolding taken_here
stays o s e h = rw h

flatten_last : (ps : List (List ℕ)) (s : List ℕ) → flatten (ps ++ s ∷ []) ≡ flatten ps ++ s
unfolding flatten
flatten_last ps s = flatten_append ps (s ∷ []) ∙ ap (λ (t : List ℕ). flatten ps ++ t) (append-nil s)

-- Where the pieces so far have a fault, what is printed is that of the whole file, whatever the rest of it is.
pub prints_early : (ps : List (List ℕ)) (rest : List ℕ) (e : Refusal) → Octets (flatten ps ++ rest) → (fed_pieces ps).intake.phase ≡ Faulty e
    → finished_text (fed_pieces ps).places (fed_pieces ps).cells (fed_pieces ps).intake ≡ printed (flatten ps ++ rest)
prints_early ps rest e o h =
    let all : flatten (ps ++ rest ∷ []) ≡ flatten ps ++ rest = flatten_last ps rest in
    let last : fed_pieces (ps ++ rest ∷ []) ≡ fed_next (fed_pieces ps) rest =
    foldl-append fed_next (intake.intake_after intake.at_start fresh_places fresh_cells []) ps (rest ∷ []) in
    let phase : (fed_pieces (ps ++ rest ∷ [])).intake.phase ≡ Faulty e = ap (λ (x : intake.IntakeAfter). x.intake.phase) last
    ∙ stays (fed_pieces ps) rest e h in
    faulty_text (fed_pieces ps).places (fed_pieces ps).cells (fed_pieces ps).intake e h
    ∙ sym (faulty_text (fed_pieces (ps ++ rest ∷ [])).places (fed_pieces (ps ++ rest ∷ [])).cells (fed_pieces (ps ++ rest ∷ [])).intake e phase)
    ∙ prints (ps ++ rest ∷ []) (subst Octets (sym all) o)
    ∙ ap printed all

-- So the rest of a file changes nothing of what is printed.
pub fault_decides : (ps : List (List ℕ)) (rest : List ℕ) (e : Refusal) → Octets (flatten ps ++ rest) → (fed_pieces ps).intake.phase ≡ Faulty e
    → printed (flatten ps ++ rest) ≡ printed (flatten ps)
fault_decides ps rest e o h = sym (prints_early ps rest e o h) ∙ prints ps (all_left (λ x. x < octet_values) (flatten ps) rest o)

-- ---- no record is refused but with 2 or 3

misshapen_not : (places cells : List ℕ) → Shaped places cells → Misshapen places cells → ⊥
misshapen_not places cells s m = true≢false (sym (shaped_is places cells s) ∙ misshapen_is places cells m)

answered_by : (places cells : List ℕ) (ssrc number mark : ℕ) (o : StoreAfter (Result ArrivalKind Refusal)) → Shaped places cells
    → mark ≤ congested → given.ArrivalGiven places cells ssrc number mark o → Answered o.answer
answered_by places cells ssrc number mark o s m (given.ArrivalGiven.bad_store w) = absurd (misshapen_not places cells s w)
answered_by places cells ssrc number mark o s m (given.ArrivalGiven.bad_mark t h) = absurd (omega arith)
answered_by places cells ssrc number mark o s m (given.ArrivalGiven.too_old t l p high k q) = Answered.too_old
answered_by places cells ssrc number mark o s m (given.ArrivalGiven.no_free_place t l u v) = Answered.no_free_place
answered_by places cells ssrc number mark o s m (given.ArrivalGiven.ahead t l p high k q f a b) = Answered.accepted _
answered_by places cells ssrc number mark o s m (given.ArrivalGiven.late t l p high k q e a b) = Answered.accepted _
answered_by places cells ssrc number mark o s m (given.ArrivalGiven.copy t l p high k q h w e a b) = Answered.accepted _
answered_by places cells ssrc number mark o s m (given.ArrivalGiven.first t l u k v a b) = Answered.accepted _

all_before : (qs : List Record) (r : Record) (more : List Record) → All InRange (qs ++ r ∷ more) → All InRange qs × InRange r
all_before [] r more h = (tt, h.0)
all_before (q ∷ qs) r more h = let t = all_before qs r more h.1 in ((h.0, t.0), t.1)

-- Each record of a file without fault, in the store that those before it have made, is accepted or skipped with 2 or 3.
pub taken_or_skipped : (s : List ℕ) (qs : List Record) (r : Record) (more : List Record) → Octets s → file_of s ≡ Ok (qs ++ r ∷ more)
    → Answered (answer_to (foldl after_record fresh qs) r)
taken_or_skipped s qs r more o e =
    let range = all_before qs r more (file_range s (qs ++ r ∷ more) o e) in
    let x : Recorded = foldl after_record fresh qs in
    answered_by x.places x.cells r.ssrc r.number r.mark
    (arrived x.places x.cells r.ssrc r.number r.mark r.time) (reached qs range.0).shape range.1.0
    (arrival_given x.places x.cells r.ssrc r.number r.mark r.time)

-- ---- RTS

-- a time is known, and it is the last
data Last (rs : List Record) : ℕ → Type 0 where
  at : (qs : List Record) (r : Record) (more : List Record) (t : ℕ) → rs ≡ qs ++ r ∷ more → r.time ≡ Some t
      → All (λ q. q.time ≡ None) more → Last rs t

last_later : (r : Record) (rs : List Record) (t : ℕ) → Last rs t → Last (r ∷ rs) t
last_later r rs t (Last.at qs q more u e k h) = Last.at (r ∷ qs) q more u (ap (λ (l : List Record). r ∷ l) e) k h

last_time : (rs : List Record) (t : ℕ) → Last rs t → LastTime rs t
last_time rs t (Last.at qs q more u e k h) = LastTime.last qs q more u e k h

rts_from : (rs : List Record) (x : Recorded)
    → (All (λ r. r.time ≡ None) rs × ((foldl after_record x rs).rts ≡ x.rts)) ⊎ Last rs (foldl after_record x rs).rts
unfolding after_record
rts_from [] x = ◌⊎◌.inl (tt, refl)
rts_from (r ∷ rs) x =
    ⊎_elim (λ h. here r.time refl h) (λ h. ◌⊎◌.inr (last_later r rs (foldl after_record (after_record x r) rs).rts h)) (rts_from rs (after_record x r))
  where
    here : (t : Option ℕ) → r.time ≡ t → All (λ q. q.time ≡ None) rs × ((foldl after_record (after_record x r) rs).rts ≡ last_known x.rts r.time)
        → (All (λ q. q.time ≡ None) (r ∷ rs) × ((foldl after_record (after_record x r) rs).rts ≡ x.rts))
        ⊎ Last (r ∷ rs) (foldl after_record (after_record x r) rs).rts
    here None e h = ◌⊎◌.inl ((e, h.0), h.1 ∙ ap (last_known x.rts) e)
    here (Some t) e h = ◌⊎◌.inr (subst (Last (r ∷ rs)) (sym (h.1 ∙ ap (last_known x.rts) e)) (Last.at [] r rs t refl e h.0))

-- Rule "RTS of the report": the time of the last record that has one, skipped records too; else 0.
pub rts_is_last : (rs : List Record) → LastTime rs (foldl after_record fresh rs).rts
rts_is_last rs =
    ⊎_elim (λ h. subst (LastTime rs) (sym h.1) (LastTime.none h.0)) (last_time rs (foldl after_record fresh rs).rts) (rts_from rs fresh)

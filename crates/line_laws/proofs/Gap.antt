-- Rule "Gap": the gap that is printed is the largest of the file. Assumes nothing.
use Prim.Native.Nat.{ℕ, ◌≤◌, max}
use mathlib.Core.Path.{◌≡◌, refl, sym, ap, ◌∙◌, subst}
use mathlib.Core.List.{List, [], ◌∷◌, ◌++◌, append-nil, append_assoc, foldl, foldl-append}
use mathlib.Core.Logic.{◌⊎◌, ⊎_elim}
use native.Mathlib.Omega.{arith}
use native.Mathlib.Decide.{dec_le}
use Rattle.lists.proofs.Cases.{never}
use Rattle.std.specs.Prelude.{Result, Ok, Err}
use Rattle.admission.specs.declared.ArrivalKind.{ArrivalKind}
use Rattle.arrival_record.specs.declared.Record.{Record}
use Rattle.recording.specs.Recorded.{Recorded, gap_after, after_record}
use Rattle.line.specs.Printed.{fresh, printed}
use Rattle.history.specs.KindGiven.{most_passed_over}
use Rattle.history.proofs.Refusals.{passed_over_bound}
use Rattle.places.specs.Place.{read_place}
use Rattle.cutting.specs.Plan.{packets_from}
use Rattle.refusal.specs.declared.Refusal.{Refusal}
use Rattle.arrival_file.specs.File.{file_of}
use Rattle.line_refusal.specs.Refused.{refused_line}
use Rattle.line_hex.specs.Hex.{zero_digit, newline}
use Rattle.line_store.specs.Fresh.{fresh_places, fresh_cells}
use Rattle.line_report.specs.Report.{lines_of}
use Rattle.line_newest.specs.Newest.{newest, report_lines}
use Rattle.line_gap.specs.Gap.{gap_text, digit_at, gap_digits, gap_line}
use Rattle.line_laws.specs.Laws.{answer_to, PassesOver, GapIs, PrintsGap}
use Rattle.line_laws.specs.Decimal.{InDecimal}
use Rattle.line_laws.proofs.Decimal.{in_decimal}
use Rattle.admission.specs.declared.ArrivalKind.TheVariants as kind

-- ---- one more answer
gap_least : (gap : ℕ) (a : Result ArrivalKind Refusal) → gap ≤ gap_after gap a
gap_least gap (Ok kind.First) = omega arith
gap_least gap (Ok (kind.Ahead n)) = omega arith
gap_least gap (Ok kind.Late) = omega arith
gap_least gap (Ok kind.Copy) = omega arith
gap_least gap (Err e) = omega arith

gap_most : (gap n : ℕ) (a : Result ArrivalKind Refusal) → a ≡ Ok (kind.Ahead n) → n ≤ gap_after gap a
gap_most gap n a e = rw e (omega arith)

-- it is as it was, or that of the answer
gap_from : (gap : ℕ) (a : Result ArrivalKind Refusal) → (gap_after gap a ≡ gap) ⊎ (a ≡ Ok (kind.Ahead (gap_after gap a)))
gap_from gap (Ok kind.First) = ◌⊎◌.inl refl
gap_from gap (Ok (kind.Ahead n)) =
    elim (dec_le n gap) [
      | yes l ↦ let h : max gap n ≡ gap = omega arith in ◌⊎◌.inl h
      | no l ↦ let h : max gap n ≡ n = omega arith in ◌⊎◌.inr (ap (λ (k : ℕ). Ok (kind.Ahead k)) (sym h))
    ]
gap_from gap (Ok kind.Late) = ◌⊎◌.inl refl
gap_from gap (Ok kind.Copy) = ◌⊎◌.inl refl
gap_from gap (Err e) = ◌⊎◌.inl refl

-- ---- all records, after those that were taken before
abbrev Reaches : List Record → List Record → ℕ → Type 0
Reaches done rs g =
    (before : List Record) × ((r : Record) × ((later : List Record) × ((rs ≡ before ++ r ∷ later) × PassesOver (done ++ before) r g)))

abbrev made : List Record → Recorded
made done = foldl after_record fresh done

made_more : (done : List Record) (r : Record) → made (done ++ (r ∷ [])) ≡ after_record (made done) r
made_more done r = foldl-append after_record fresh done (r ∷ [])

-- the gap never falls
rising : (rs : List Record) (x : Recorded) → x.gap ≤ (foldl after_record x rs).gap
unfolding after_record
rising [] x = omega arith
rising (r ∷ rs) x =
    let h : (after_record x r).gap ≤ (foldl after_record (after_record x r) rs).gap = rising rs (after_record x r) in
    let g : x.gap ≤ gap_after x.gap (answer_to x r) = gap_least x.gap (answer_to x r) in
    omega arith

most : (rs before : List Record) (r : Record) (later : List Record) (n : ℕ) → rs ≡ before ++ r ∷ later → PassesOver before r n
    → n ≤ (made rs).gap
unfolding after_record
most rs before r later n e p =
    let split : made rs ≡ foldl after_record (after_record (made before) r) later =
    ap made e ∙ foldl-append after_record fresh before (r ∷ later) in
    let here : n ≤ gap_after (made before).gap (answer_to (made before) r) = gap_most (made before).gap n (answer_to (made before) r) p.is in
    let up = rising later (after_record (made before) r) in
    rw split (omega arith)

-- what the records after those of done make of the gap
reaching : (rs done : List Record) (x : Recorded) → x ≡ made done
    → ((foldl after_record x rs).gap ≡ x.gap) ⊎ Reaches done rs (foldl after_record x rs).gap
unfolding after_record
reaching [] done x e = ◌⊎◌.inl refl
reaching (r ∷ rs) done x e =
    ⊎_elim (λ same. here same) (λ far. ◌⊎◌.inr (later_on far)) (reaching rs (done ++ (r ∷ [])) (after_record x r) (ap (λ (y : Recorded). after_record y r) e ∙ sym (made_more done r)))
  where
    g : ℕ
    g = (foldl after_record (after_record x r) rs).gap

    later_on : Reaches (done ++ (r ∷ [])) rs g → Reaches done (r ∷ rs) g
    later_on (before, (q, (later, (is, p)))) =
        (r ∷ before, (q, (later, (ap (λ (l : List Record). r ∷ l) is, subst (λ (l : List Record). PassesOver l q g) (append_assoc done (r ∷ []) before) p))))

    here : g ≡ (after_record x r).gap → (g ≡ x.gap) ⊎ Reaches done (r ∷ rs) g
    here same =
        ⊎_elim (λ q. ◌⊎◌.inl (same ∙ q)) (λ q. ◌⊎◌.inr (first (q ∙ ap (λ (n : ℕ). Ok (kind.Ahead n)) (sym same))))
        (gap_from x.gap (answer_to x r))
      where
        first : answer_to x r ≡ Ok (kind.Ahead g) → Reaches done (r ∷ rs) g
        first q =
            let p : PassesOver done r g = record { is = ap (λ (y : Recorded). answer_to y r) (sym e) ∙ q } in
            ([], (r, (rs, (refl, subst (λ (l : List Record). PassesOver l r g) (sym (append-nil done)) p))))

-- The gap of records is the most numbers that one of them passes over, and 0 if none passes over any.
pub gap_is_largest : (rs : List Record) → GapIs rs (made rs).gap
gap_is_largest rs =
    record {
      most = λ before r later n e p. most rs before r later n e p;
      attained = λ some. ⊎_elim (λ none. never (omega arith)) (λ far. far) (reaching rs [] fresh refl);
    }

-- ---- no other number is the gap
at_most : (rs : List Record) (g h : ℕ) → GapIs rs g → GapIs rs h → g ≤ h
at_most rs g h G H = elim (dec_le g 0) [ yes z ↦ omega arith | no z ↦ of_record (G.attained (omega arith)) ]
  where
    of_record : Reaches [] rs g → g ≤ h
    of_record (before, (r, (later, (e, p)))) = H.most before r later g e p

pub gap_only : (rs : List Record) (g : ℕ) → GapIs rs g → g ≡ (made rs).gap
gap_only rs g G =
    let low = at_most rs g (made rs).gap G (gap_is_largest rs) in
    let high = at_most rs (made rs).gap g (gap_is_largest rs) G in
    omega arith

-- ---- the gap as it is printed
gap_bound : (rs : List Record) → (made rs).gap ≤ most_passed_over
gap_bound rs = elim (dec_le (made rs).gap 0) [ yes z ↦ omega arith | no z ↦ of_record ((gap_is_largest rs).attained (omega arith)) ]
  where
    of_record : Reaches [] rs (made rs).gap → (made rs).gap ≤ most_passed_over
    of_record (before, (r, (later, (e, p)))) =
        passed_over_bound (made before).places (made before).cells r.ssrc r.number r.mark r.time (made rs).gap p.is

-- What stands behind `gap ` is the gap in decimal.
pub gap_in_decimal : (rs : List Record) → InDecimal (made rs).gap (gap_digits (made rs).gap)
gap_in_decimal rs = in_decimal (made rs).gap (omega (arith, gap_bound rs))

-- ---- what is printed for a file

-- The report on its records, and then their gap;
pub prints_gap : (s : List ℕ) (rs : List Record) → file_of s ≡ Ok rs
    → (text : List ℕ) × ((printed s ≡ report_lines (made rs).places (made rs).cells (made rs).rts ++ text) × PrintsGap rs text)
unfolding printed gap_line
prints_gap s rs e = (
  gap_line (made rs).gap,
  (rw e, record { gap = (made rs).gap; is = gap_is_largest rs; digits = gap_digits (made rs).gap; decimal = gap_in_decimal rs; line = refl }),
)

-- for one without records that is `gap 0` alone;
no_report : report_lines fresh_places fresh_cells 0 ≡ []
unfolding newest read_place packets_from lines_of
no_report = refl

pub no_records : (s : List ℕ) → file_of s ≡ Ok [] → printed s ≡ gap_text ++ (zero_digit ∷ newline)
unfolding printed gap_line digit_at
no_records s e = rw (e, no_report)

-- and for one with a fault its refusal alone.
pub prints_refusal : (s : List ℕ) (q : Refusal) → file_of s ≡ Err q → printed s ≡ refused_line q
unfolding printed
prints_refusal s q e = rw e

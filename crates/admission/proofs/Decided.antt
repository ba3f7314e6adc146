-- What is decided of an arrival, in each of its cases, and that it can be carried out. Assumes nothing.
use Prim.Native.Nat.{ℕ, ◌%◌, ◌<◌, ◌≤◌}
use mathlib.Core.Path.{◌≡◌, refl, sym, subst}
use mathlib.Core.Bool.{Bool, true, false, cond}
use mathlib.Core.List.{List}
use borrow.Author.Tests.{lt-ltb, le-ltb, ltb-false}
use lib.Dec.{ltb}
use Rattle.std.specs.Prelude.{Option, Result, Some, None, Ok, Err}
use Rattle.admission.specs.declared.Entry.{Entry}
use Rattle.metric.specs.declared.Arrived.{Arrived}
use Rattle.admission.specs.declared.Entry.TheVariants as entry
use Rattle.refusal.specs.declared.Refusal.{Refusal}
use Rattle.metric.specs.Metric.{congested}
use Rattle.window.specs.Number.{move_of}
use Rattle.window.specs.declared.Move.{Move}
use Rattle.window.proofs.Number.{ahead_is}
use Rattle.places.specs.Place.{highest_at, find_of, free_of}
use Rattle.places.specs.Shape.{shaped, Shaped, Ready}
use Rattle.places.proofs.Shape.{is_shaped}
use Rattle.place_window.specs.Window.{cell_at}
use Rattle.cells.specs.Cell.{kinds, least_filled, read_cell}
use Rattle.cells.proofs.Words.{read_empty, read_filled}
use Rattle.admission.specs.Decision.{screened, decided_by, decided_later, decided_new, decided_at, decided, Fits}
use Rattle.refusal.specs.declared.Refusal.TheVariants.{BadMark, BadStore}
use Rattle.window.specs.declared.Move.TheVariants as move

-- ---- a later arrival, by how its number moves the window

module _ (places cells : List ℕ) (p number : ℕ) where
  pub later_by : (m : Move) → m ≡ move_of (highest_at places p) number
      → decided_by p m (read_cell (cell_at cells p number)) ≡ decided_later places cells p number
  unfolding decided_later
  later_by m e = rw e

  pub late_empty : (b : ℕ) → move.Within b ≡ move_of (highest_at places p) number → cell_at cells p number % kinds < least_filled
      → Ok (entry.Late p) ≡ decided_later places cells p number
  unfolding decided_later
  late_empty b e l = rw (← e, read_empty (cell_at cells p number) l)

  pub copy_filled : (b : ℕ) → move.Within b ≡ move_of (highest_at places p) number → least_filled ≤ cell_at cells p number % kinds
      → Ok (entry.Copy p) ≡ decided_later places cells p number
  unfolding decided_later
  copy_filled b e l = rw (← e, read_filled (cell_at cells p number) l)

  pub later_fits : (mark : ℕ) → Ready places cells p → mark ≤ congested → Fits places cells mark (decided_later places cells p number)
  unfolding decided_later
  later_fits mark ready low = go (move_of (highest_at places p) number) refl (read_cell (cell_at cells p number))
    where
      go : (m : Move) → move_of (highest_at places p) number ≡ m → (c : Option Arrived) → Fits places cells mark (decided_by p m c)
      go (move.Ahead f) e c = (ready, (ahead_is (highest_at places p) number f e).1)
      go (move.Within b) e None = ready
      go (move.Within b) e (Some a) = (ready, low)
      go move.TooOld e c = tt

-- ---- the first tests

module _ (places cells : List ℕ) (mark : ℕ) where
  pub screened_misshapen : shaped places cells ≡ false → Err BadStore ≡ screened places cells mark
  unfolding screened
  screened_misshapen s = rw s

  module _ (s : shaped places cells ≡ true) where
    pub screened_bad_mark : congested < mark → Err BadMark ≡ screened places cells mark
    unfolding screened
    screened_bad_mark m = rw (s, lt-ltb congested mark m)

    pub screened_sound : mark ≤ congested → (Ok tt) ≡ screened places cells mark
    unfolding screened
    screened_sound low = rw (s, le-ltb congested mark low)

  -- past them the store has its shape, and the mark is one of the four
  abbrev PastTests : Result (Unit {0}) Refusal → Type 0
  PastTests (Ok tt) = Shaped places cells × (mark ≤ congested)
  PastTests (Err e) = Unit {0}

  past_tests : PastTests (screened places cells mark)
  unfolding screened
  past_tests = by_shape (shaped places cells) refl
    where
      by_shape : (b : Bool) → shaped places cells ≡ b → PastTests (screened places cells mark)
      by_shape false s = rw s tt
      by_shape true s = rw s (by_mark (ltb congested mark) refl)
        where
          by_mark : (m : Bool) → ltb congested mark ≡ m → PastTests (cond (ltb congested mark) (Err BadMark) (Ok tt))
          by_mark true m = rw m tt
          by_mark false m = rw m (is_shaped places cells s, ltb-false congested mark m)

  pub sound_is : screened places cells mark ≡ Ok tt → Shaped places cells × (mark ≤ congested)
  sound_is s = subst PastTests s past_tests

-- ---- an arrival

-- what is decided, by the first tests: their refusal, or d where they pass
abbrev pub decided_past : Result (Unit {0}) Refusal → Result Entry Refusal → Result Entry Refusal
decided_past (Ok tt) d = d
decided_past (Err e) d = Err e

module _ (places cells : List ℕ) (ssrc number mark : ℕ) where
  -- the tests, and then what stands behind them
  pub decided_past_lem : decided places cells ssrc number mark
      ≡ decided_past (screened places cells mark) (decided_at (find_of places ssrc) places cells number)
  unfolding decided screened
  decided_past_lem = go (shaped places cells) (ltb congested mark) (decided_at (find_of places ssrc) places cells number)
    where
      go : (s m : Bool) (d : Result Entry Refusal)
          → cond s (cond m (Err BadMark) d) (Err BadStore)
          ≡ decided_past (cond s (cond m (Err BadMark) (Ok tt)) (Err BadStore)) d
      go false m d = refl
      go true true d = refl
      go true false d = refl

  pub decided_refused : (e : Refusal) → screened places cells mark ≡ Err e
      → Err e ≡ decided places cells ssrc number mark
  decided_refused e s = rw (decided_past_lem, s)

  module _ (s : screened places cells mark ≡ (Ok tt)) where
    pub past_known : (p : ℕ) → find_of places ssrc ≡ Some p → decided_later places cells p number ≡ decided places cells ssrc number mark
    past_known p f = rw (decided_past_lem, s, f)

    pub past_new : (o : Option ℕ) → find_of places ssrc ≡ None → free_of places ≡ o → decided_new o ≡ decided places cells ssrc number mark
    past_new o f e = rw (decided_past_lem, s, f, e)

  -- the same by the shape of the store and by the mark

  pub decided_misshapen : shaped places cells ≡ false → Err BadStore ≡ decided places cells ssrc number mark
  decided_misshapen s = decided_refused BadStore (sym (screened_misshapen places cells mark s))

  module _ (s : shaped places cells ≡ true) where
    pub decided_bad_mark : congested < mark → Err BadMark ≡ decided places cells ssrc number mark
    decided_bad_mark m = decided_refused BadMark (sym (screened_bad_mark places cells mark s m))

    module _ (low : mark ≤ congested) where
      pub decided_known : (p : ℕ) → find_of places ssrc ≡ Some p → decided_later places cells p number ≡ decided places cells ssrc number mark
      decided_known p f = past_known (sym (screened_sound places cells mark s low)) p f

      pub decided_new_lem : (o : Option ℕ) → find_of places ssrc ≡ None → free_of places ≡ o → decided_new o ≡ decided places cells ssrc number mark
      decided_new_lem o f e = past_new (sym (screened_sound places cells mark s low)) o f e

-- A store does as the machine with a number of a stream, over any entries: the same answer, and what is left reads as the
-- machine then says. Assumes nothing.
use Prim.Native.Nat.{ℕ, ◌+◌, ◌*◌, ◌%◌, ◌^◌, ◌<◌, ◌≤◌, min, max}
use mathlib.Core.Path.{◌≡◌, refl, sym, ap, ◌∙◌}
use mathlib.Core.List.{List, [], ◌∷◌, ◌++◌}
use native.Mathlib.Omega.{arith}
use native.Mathlib.Decide.{dec_le, dec_lt}
use lib.ListN.{length, get_or, set, length-set}
use lib.Seq.{get_or-set_same, get_or-set_other}
use Rattle.lists.specs.All.{All}
use Rattle.std.specs.Prelude.{Option, Some, None}
use Rattle.lists.proofs.First.{first_true}
use Rattle.lists.proofs.All.{all_append, all_map}
use Rattle.refusal.specs.declared.Refusal.{Refusal}
use Rattle.ring.specs.Ring.{cells_of_a_place}
use Rattle.window.specs.Number.{distance_of, move_of, farthest_ahead, sequence_numbers}
use Rattle.window.specs.declared.Move.{Move}
use Rattle.window.proofs.Number.{move_ahead, move_within, move_old}
use Rattle.places.specs.Place.{place_word, read_place, place_at, highest_at, find_of}
use Rattle.places.specs.After.{StoreAfter}
use Rattle.places.proofs.Places.{read_word}
use Rattle.places.proofs.Held.{held_highest}
use Rattle.place_window.specs.Window.{cell_at, newest_emptied, updated, moved, moved_by_of, continued, started_at, admitted_at}
use Rattle.place_window.proofs.Moving.{continued_by}
use Rattle.streams.specs.Full.{full_of, first_full, lowest_full}
use Rattle.streams.specs.Model.{Place, free, stream, ModelAfter, names, is_vacant, at, find_in, vacant_in}
use Rattle.streams.specs.Model.{noted_at, noted, later_at, started_in, admitted_in, admitted}
use Rattle.streams.specs.Reading.{Store, Meaning, Lawful, Enters, Holds, Reads}
use Rattle.streams.proofs.Numbers.{full_ahead, full_behind, full_low}
use Rattle.streams.proofs.Cells.{length_updated, updated_away, length_newest, newest_away, silent_above, newest_reads, updated_reads}
use Rattle.streams.proofs.Places.{named_is, vacant_is, later_old, later_in, added_to, noted_ahead, noted_old, noted_in_lem, find_same, free_same, there_in, replaced}
use Rattle.window.specs.declared.Move.TheVariants as move

in_and_below : (x m : ℕ) → x < m + cells_of_a_place → m + cells_of_a_place ≤ x → ⊥
in_and_below x m a b = omega arith

module _ {E C : Type 0} (M : Meaning E C) where
  -- the same answer, and what is left reads alike
  pub record Alike {A : Type 0} (o : StoreAfter A) (a : ModelAfter E A) : Type 0 where
    pub answer : o.answer ≡ a.answer
    pub reads : Reads M (record { places = o.places; cells = o.cells }) a.places

  -- f makes of a word what an entry makes of what it says
  module _ (laws : Lawful M) (st : Store) (ps : List (Place E)) (R : Reads M st ps)
      (f : ℕ → ℕ) (entry : ℕ → E) (own : (n : ℕ) → M.full (entry n) ≡ n) (enters : (n : ℕ) → Enters M f (entry n))
      (ssrc number : ℕ) (numberLow : number < sequence_numbers) where
    module _ (k : ℕ) (there : k < length st.places) where
      room : cells_of_a_place * k + cells_of_a_place ≤ length st.cells
      room = let h = R.shape.sized in omega arith

      -- the entries with one more, where each of them has a property and that one has it
      all_entered : (P : ℕ → Type 0) (es : List E) (full : ℕ) → All (λ (e : E). P (M.full e)) es → P full
          → All (λ (e : E). P (M.full e)) (es ++ (entry full ∷ []))
      all_entered P es full h p = all_append (λ (e : E). P (M.full e)) es (entry full) h (rw (own full) p)

      -- the window with one more entry
      entered : (cells : List ℕ) (top full : ℕ) (es : List E) → cells_of_a_place * k + cells_of_a_place ≤ length cells
          → full % sequence_numbers ≡ number → full ≤ top → top < full + cells_of_a_place
          → ((m : ℕ) → m ≤ top → top < m + cells_of_a_place → M.read (cell_at cells k m) ≡ M.shown es m)
          → (m : ℕ) → m ≤ top → top < m + cells_of_a_place
          → M.read (cell_at (updated f cells k number) k m) ≡ M.shown (es ++ (entry full ∷ [])) m
      entered cells top full es large low le lt before =
          let o = own full in
          updated_reads M laws f (entry full) (enters full) cells k top number es (rw o low) (omega arith) (omega arith) large before

      -- a number of the window
      within : (top full : ℕ) (es : List E) → Holds M st.cells k (place_at st.places k) ssrc top es
          → full % sequence_numbers ≡ number → full ≤ top → top < full + cells_of_a_place
          → Reads M (record { places = st.places; cells = updated f st.cells k number }) (set ps k (stream ssrc top (es ++ (entry full ∷ []))))
      within top full es S low le lt =
          replaced M st ps R k st.places (updated f st.cells k number) (stream ssrc top (es ++ (entry full ∷ []))) there refl
          (length_updated f st.cells k number) (λ q n. refl) (λ q m n. updated_away f st.cells k number q m n)
          (record {
            place = S.place;
            window = entered st.cells top full es room low le lt S.window;
            begun = S.begun;
            highest = all_entered (λ (x : ℕ). x ≤ top) es full S.highest le;
            lowest = all_entered (λ (x : ℕ). lowest_full ≤ x) es full S.lowest (let g = S.begun in omega arith);
          })

      -- a number ahead, or the first: n numbers come into the window
      moved_on : ssrc < 2 ^ 32 → (full n : ℕ) (es : List E) → full % sequence_numbers ≡ number → sequence_numbers ≤ full → n ≤ cells_of_a_place
          → ((m : ℕ) → m ≤ full → full < m + cells_of_a_place → m + n ≤ full → M.read (cell_at st.cells k m) ≡ M.shown es m)
          → ((m : ℕ) → m ≤ full → full < m + n → M.shown es m ≡ M.read 0)
          → All (λ (e : E). M.full e ≤ full) es → All (λ (e : E). lowest_full ≤ M.full e) es
          → Reads M
          (record { places = set st.places k (place_word ssrc number); cells = updated f (newest_emptied st.cells k number n) k number })
          (set ps k (stream ssrc full (es ++ (entry full ∷ []))))
      moved_on ssrcLow full n es low begun few old new below above =
          replaced M st ps R k (set st.places k (place_word ssrc number))
          (updated f (newest_emptied st.cells k number n) k number) (stream ssrc full (es ++ (entry full ∷ []))) there
          (length-set st.places k (place_word ssrc number))
          (length_updated f (newest_emptied st.cells k number n) k number ∙ length_newest st.cells k number n)
          (λ q e. get_or-set_other st.places k q (place_word ssrc number) 0 e)
          (λ q m e. updated_away f (newest_emptied st.cells k number n) k number q m e ∙ newest_away st.cells k number n q m e)
          (record {
            place =
                ap read_place (get_or-set_same st.places k (place_word ssrc number) 0 there)
                ∙ read_word ssrc number ssrcLow numberLow
                ∙ ap (λ (x : ℕ). Some (record { ssrc = ssrc; highest = x })) (sym low);
            window =
                entered (newest_emptied st.cells k number n) full full es (rw (length_newest st.cells k number n) room) low
                (omega arith) (omega arith)
                (λ m le lt. newest_reads M laws st.cells k number n full low few room es m le lt (old m le lt) (new m le));
            begun = begun;
            highest = all_entered (λ (x : ℕ). x ≤ full) es full below (omega arith);
            lowest = all_entered (λ (x : ℕ). lowest_full ≤ x) es full above (omega arith);
          })

      -- the stream that the place holds
      module _ (top : ℕ) (es : List E) (held : at ps k ≡ stream ssrc top es) where
        S : Holds M st.cells k (place_at st.places k) ssrc top es
        S = rw held at (R.each k)

        high : highest_at st.places k ≡ top % sequence_numbers
        high = held_highest (get_or st.places k 0) ssrc (top % sequence_numbers) S.place

        -- what is noted of a number of the window changes its cell
        note_within : distance_of (top % sequence_numbers) number < cells_of_a_place
            → Reads M (record { places = st.places; cells = updated f st.cells k number }) (noted_at entry ps k ssrc (full_of top number))
        note_within b =
            let g = S.begun in
            let full = full_behind top number g numberLow (λ l. omega arith) in
            let same : max top (full_of top number) ≡ top = omega arith in
            rw (
              noted_in_lem entry ps k ssrc (full_of top number) (rw held (omega arith)) (rw held (omega arith)),
              added_to entry ps k ssrc (full_of top number) (stream ssrc top es) top held same,
            )
            (within top (full_of top number) es S (full_low top number g numberLow) (omega arith) (omega arith))

        -- and nothing where it is not in the window
        note_past : cells_of_a_place ≤ distance_of (top % sequence_numbers) number → Reads M st (noted_at entry ps k ssrc (full_of top number))
        note_past b =
            let g = S.begun in
            elim (dec_le (distance_of number (top % sequence_numbers)) farthest_ahead) [
              | yes d ↦
                  let full = full_ahead top number g numberLow d in
                  rw (noted_ahead entry ps k ssrc (full_of top number) (rw held (omega arith))) R
              | no d ↦
                  let full = full_behind top number g numberLow (λ l. omega arith) in
                  rw (noted_old entry ps k ssrc (full_of top number) (rw held (omega arith))) R
            ]

        -- both in one: the cells are changed where the number is in the window, and there alone
        note_at : (cells' : List ℕ)
            → (distance_of (highest_at st.places k) number < cells_of_a_place → cells' ≡ updated f st.cells k number)
            → (cells_of_a_place ≤ distance_of (highest_at st.places k) number → cells' ≡ st.cells)
            → Reads M (record { places = st.places; cells = cells' }) (noted_at entry ps k ssrc (full_of top number))
        note_at cells' inside outside =
            elim (dec_lt (distance_of (top % sequence_numbers) number) cells_of_a_place) [
              | yes b ↦ rw (inside (rw high b)) (note_within b)
              | no b ↦
                  let l : cells_of_a_place ≤ distance_of (top % sequence_numbers) number = omega arith in
                  rw (outside (rw high l)) (note_past l)
            ]

    -- a search of the store that finds the stream
    found_named : (k : ℕ) → find_of st.places ssrc ≡ Some k
        → (k < length st.places) × ((top : ℕ) × ((es : List E) × (at ps k ≡ stream ssrc top es)))
    found_named k found =
        let e = sym (find_same M st ps R ssrc) ∙ found in (
          there_in M st ps R (λ (i : ℕ). names ssrc (at ps i)) k e,
          named_is ssrc (at ps k) (first_true (λ (i : ℕ). names ssrc (at ps i)) (length ps) 0 k e),
        )

    -- something noted of a number of a stream: cells that are changed where it is in the window, and there alone, read as
    -- the machine then says
    pub note_alike : (k : ℕ) → find_of st.places ssrc ≡ Some k → (cells' : List ℕ)
        → (distance_of (highest_at st.places k) number < cells_of_a_place → cells' ≡ updated f st.cells k number)
        → (cells_of_a_place ≤ distance_of (highest_at st.places k) number → cells' ≡ st.cells)
        → Reads M (record { places = st.places; cells = cells' }) (noted entry ps ssrc number)
    note_alike k found cells' inside outside =
        let n = found_named k found in
        rw (sym (find_same M st ps R ssrc) ∙ found, n.1.1.1)
        (note_at k n.0 n.1.0 n.1.1.0 n.1.1.1 cells' inside outside)

    -- and where no place holds the stream, nothing changes
    pub note_lost : find_of st.places ssrc ≡ None → Reads M st (noted entry ps ssrc number)
    note_lost lost = rw (sym (find_same M st ps R ssrc) ∙ lost) R

    module _ {A : Type 0} (accepted : A) (refused : Refusal → A) (ssrcLow : ssrc < 2 ^ 32) where
      module _ (k : ℕ) (there : k < length st.places) where
        module _ (top : ℕ) (es : List E) (held : at ps k ≡ stream ssrc top es) where
          abbrev Goal : ℕ → Type 0
          Goal full = Alike (continued accepted refused f st.places st.cells k ssrc number) (later_at accepted refused entry ps k ssrc full)

          holding : Holds M st.cells k (place_at st.places k) ssrc top es
          holding = S k there top es held

          by : (m : Move) → move_of (top % sequence_numbers) number ≡ m
              → continued accepted refused f st.places st.cells k ssrc number ≡ moved_by_of accepted refused f m st.places st.cells k ssrc number
          by m e =
              sym (continued_by accepted refused f st.places st.cells k ssrc number m
              (ap (λ (h : ℕ). move_of h number) (high k there top es held) ∙ e))

          as_old : farthest_ahead < distance_of number (top % sequence_numbers) → cells_of_a_place ≤ distance_of (top % sequence_numbers) number → Goal (full_of top number)
          as_old d b =
              let g = holding.begun in
              let full = full_behind top number g numberLow (λ l. d) in
              rw (
                by move.TooOld (move_old (top % sequence_numbers) number (λ l. d) b),
                later_old entry ps k ssrc (full_of top number) accepted refused (rw held (omega arith)),
              )
              (record { answer = refl; reads = R })

          as_within : (0 < distance_of number (top % sequence_numbers) → farthest_ahead < distance_of number (top % sequence_numbers))
              → distance_of (top % sequence_numbers) number < cells_of_a_place → Goal (full_of top number)
          as_within d b =
              let g = holding.begun in
              let full = full_behind top number g numberLow d in
              let same : max top (full_of top number) ≡ top = omega arith in
              rw (
                by (move.Within (distance_of (top % sequence_numbers) number)) (move_within (top % sequence_numbers) number d b),
                later_in entry ps k ssrc (full_of top number) accepted refused (rw held (omega arith)),
                added_to entry ps k ssrc (full_of top number) (stream ssrc top es) top held same,
              )
              (record { answer = refl; reads = within k there top (full_of top number) es holding (full_low top number g numberLow) (omega arith) (omega arith) })

          as_ahead : 0 < distance_of number (top % sequence_numbers) → distance_of number (top % sequence_numbers) ≤ farthest_ahead → Goal (full_of top number)
          unfolding moved
          as_ahead l d =
              let g = holding.begun in
              let full = full_ahead top number g numberLow d in
              let same : max top (full_of top number) ≡ full_of top number = omega arith in
              rw (
                by (move.Ahead (distance_of number (top % sequence_numbers))) (move_ahead (top % sequence_numbers) number l d),
                later_in entry ps k ssrc (full_of top number) accepted refused (rw held (omega arith)),
                added_to entry ps k ssrc (full_of top number) (stream ssrc top es) (full_of top number) held same,
              )
              (record {
                answer = refl;
                reads =
                    moved_on k there ssrcLow (full_of top number) (min (distance_of number (top % sequence_numbers)) cells_of_a_place) es
                    (full_low top number g numberLow) (omega arith) (omega arith)
                    (λ m x y z. holding.window m (omega arith) (omega arith))
                    (λ m x y. silent_above M laws top m es holding.highest (omega arith))
                    (all_map es (λ e h. omega arith) holding.highest)
                    holding.lowest;
              })

          later_alike : Goal (full_of top number)
          later_alike =
              elim (dec_le (distance_of number (top % sequence_numbers)) farthest_ahead) [
                | yes d ↦
                    elim (dec_le (distance_of number (top % sequence_numbers)) 0) [
                      | yes z ↦ as_within (λ l. omega arith) (omega arith)
                      | no z ↦ as_ahead (omega arith) d
                    ]
                | no d ↦
                    elim (dec_lt (distance_of (top % sequence_numbers) number) cells_of_a_place) [
                      | yes b ↦ as_within (λ l. omega arith) b
                      | no b ↦ as_old (omega arith) (omega arith)
                    ]
              ]

        -- a new stream
        started_alike : at ps k ≡ free
            → Alike (moved accepted refused f st.places st.cells k ssrc number cells_of_a_place) (started_in accepted refused entry (Some k) ps ssrc number)
        unfolding moved
        started_alike vacancy =
            let same : max 0 (first_full number) ≡ first_full number = omega arith in
            rw (added_to entry ps k ssrc (first_full number) free (first_full number) vacancy same)
            (record {
              answer = refl;
              reads = moved_on k there ssrcLow (first_full number) cells_of_a_place [] (omega arith) (omega arith) (omega arith)
                  (λ m x y z. absurd (in_and_below (first_full number) m y z)) (λ m x y. laws.silent [] m tt) tt tt;
            })

      found_alike : (g : Option ℕ) → find_in ps ssrc ≡ g
          → Alike (admitted_at accepted refused f g st.places st.cells ssrc number) (admitted_in accepted refused entry g ps ssrc number)
      found_alike (Some k) e =
          let n = named_is ssrc (at ps k) (first_true (λ (i : ℕ). names ssrc (at ps i)) (length ps) 0 k e) in
          rw n.1.1 (later_alike k (there_in M st ps R (λ (i : ℕ). names ssrc (at ps i)) k e) n.0 n.1.0 n.1.1)
      found_alike None e = rw (free_same M st ps R) (opened (vacant_in ps) refl)
        where
          opened : (g : Option ℕ) → vacant_in ps ≡ g
              → Alike (started_at accepted refused f g st.places st.cells ssrc number) (started_in accepted refused entry g ps ssrc number)
          opened (Some k) v =
              started_alike k (there_in M st ps R (λ (i : ℕ). is_vacant (at ps i)) k v)
              (vacant_is (at ps k) (first_true (λ (i : ℕ). is_vacant (at ps i)) (length ps) 0 k v))
          opened None v = record { answer = refl; reads = R }

      -- a number that moves its stream's window on
      pub admit_alike : Alike (admitted_at accepted refused f (find_of st.places ssrc) st.places st.cells ssrc number)
          (admitted accepted refused entry ps ssrc number)
      admit_alike = rw (find_same M st ps R ssrc) (found_alike (find_in ps ssrc) refl)

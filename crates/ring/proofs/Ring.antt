-- The laws of `emptied`. Assumes nothing.
use Prim.Native.Nat.{ℕ, zero, suc, ◌+◌, ◌-◌, ◌%◌, ◌<◌, ◌≤◌}
use mathlib.Core.Path.{◌≡◌, refl, ap, ◌∙◌}
use mathlib.Core.List.{List}
use native.Mathlib.Omega.{arith}
use native.Mathlib.Nat.{not-suc-le-zero}
use native.Mathlib.Decide.{ℕ_discrete, dec_lt}
use lib.ListN.{length, get_or, set, replicate, length-set}
use lib.Seq.{sets, get_or-set_same, get_or-set_other, set_out, set_comm}
use Rattle.ring.specs.Ring.{emptied, cells_of_a_place}

pub emptied_more : (words : List ℕ) (base s n : ℕ) → 0 < n → emptied words base s n ≡ emptied (set words (base + s % cells_of_a_place) 0) base (s + 1) (n - 1)
unfolding emptied
emptied_more words base s zero l = absurd (not-suc-le-zero l)
emptied_more words base s (suc n) l =
    let h : suc n - 1 ≡ n = omega arith in
    rw h

pub emptied_none : (words : List ℕ) (base s n : ℕ) → n ≤ 0 → emptied words base s n ≡ words
unfolding emptied
emptied_none words base s n l =
    let h : n ≡ 0 = omega arith in
    rw h

pub length_emptied : (n : ℕ) (words : List ℕ) (base s : ℕ) → length (emptied words base s n) ≡ length words
unfolding emptied
length_emptied zero words base s = refl
length_emptied (suc n) words base s = rw (length_emptied n, length-set)

pub emptied_kept : (k : ℕ) (words : List ℕ) (base s j : ℕ) → ((i : ℕ) → i < k → j ≡ base + (s + i) % cells_of_a_place → ⊥)
    → get_or (emptied words base s k) j 0 ≡ get_or words j 0
unfolding emptied
emptied_kept zero words base s j h = refl
emptied_kept (suc k) words base s j h =
    emptied_kept k (set words (base + s % cells_of_a_place) 0) base (s + 1) j (λ i l e. h (i + 1) (omega arith) (omega arith))
    ∙ get_or-set_other words (base + s % cells_of_a_place) j 0 0 (λ e. h 0 (omega arith) (omega arith))

-- a word that stands outside the run may be written before it or after it
pub emptied_set : (k : ℕ) (words : List ℕ) (base s j word : ℕ) → ((i : ℕ) → i < k → j ≡ base + (s + i) % cells_of_a_place → ⊥)
    → emptied (set words j word) base s k ≡ set (emptied words base s k) j word
unfolding emptied
emptied_set zero words base s j word h = refl
emptied_set (suc k) words base s j word h =
    ap (λ (l : List ℕ). emptied l base (s + 1) k) (set_comm words j (base + s % cells_of_a_place) word 0 (λ e. h 0 (omega arith) (omega arith)))
    ∙ emptied_set k (set words (base + s % cells_of_a_place) 0) base (s + 1) j word (λ i l e. h (i + 1) (omega arith) (omega arith))

set_zero : (words : List ℕ) (x j : ℕ) → get_or words j 0 ≡ 0 → get_or (set words x 0) j 0 ≡ 0
set_zero words x j z =
    elim (ℕ_discrete j x) [
      | yes e ↦
          elim (dec_lt x (length words)) [ yes l ↦ rw (e, get_or-set_same words x 0 0 l) | no l ↦ rw (set_out words x 0 (omega arith)) z ]
      | no e ↦ get_or-set_other words x j 0 0 e ∙ z
    ]

pub emptied_stays : (k : ℕ) (words : List ℕ) (base s j : ℕ) → get_or words j 0 ≡ 0 → get_or (emptied words base s k) j 0 ≡ 0
unfolding emptied
emptied_stays zero words base s j z = z
emptied_stays (suc k) words base s j z = emptied_stays k (set words (base + s % cells_of_a_place) 0) base (s + 1) j (set_zero words (base + s % cells_of_a_place) j z)

pub emptied_gone : (k i : ℕ) (words : List ℕ) (base s j : ℕ) → i < k → j ≡ base + (s + i) % cells_of_a_place → j < length words → get_or (emptied words base s k) j 0 ≡ 0
unfolding emptied
emptied_gone zero i words base s j l e b = absurd (not-suc-le-zero l)
emptied_gone (suc k) zero words base s j l e b =
    emptied_stays k (set words (base + s % cells_of_a_place) 0) base (s + 1) j
    (let h : j ≡ base + s % cells_of_a_place = omega arith in rw (h, get_or-set_same words (base + s % cells_of_a_place) 0 0 (omega arith)))
emptied_gone (suc k) (suc i) words base s j l e b =
    emptied_gone k i (set words (base + s % cells_of_a_place) 0) base (s + 1) j (omega arith) (omega arith) (rw length-set b)

-- one zero, and then the others
pub zeroes_more : (words : List ℕ) (i n m : ℕ) → n ≡ suc m → sets words i (replicate n 0) ≡ sets (set words i 0) (i + 1) (replicate m 0)
zeroes_more words i n zero e = rw e
zeroes_more words i n (suc m) e =
    let h : i + 1 ≡ suc i = omega arith in
    rw (e, h) refl

-- ---- a run that does not wrap, and two runs back to back
pub emptied_run : (n : ℕ) (words : List ℕ) (base s : ℕ) → s % cells_of_a_place + n ≤ cells_of_a_place → emptied words base s n ≡ sets words (base + s % cells_of_a_place) (replicate n 0)
unfolding emptied
emptied_run zero words base s l = refl
emptied_run (suc zero) words base s l = refl
emptied_run (suc (suc n)) words base s l =
    let rest = set words (base + s % cells_of_a_place) 0 in
    let h : base + (s + 1) % cells_of_a_place ≡ suc (base + s % cells_of_a_place) = omega arith in
    emptied_run (suc n) rest base (s + 1) (omega arith) ∙ ap (λ (j : ℕ). sets rest j (replicate (suc n) 0)) h

pub emptied_append : (m n : ℕ) (words : List ℕ) (base s : ℕ) → emptied words base s (m + n) ≡ emptied (emptied words base s m) base (s + m) n
unfolding emptied
emptied_append zero n words base s =
    let h : zero + n ≡ n = omega arith in
    let g : s + zero ≡ s = omega arith in
    rw (h, g)
emptied_append (suc m) n words base s =
    let h : suc m + n ≡ suc (m + n) = omega arith in
    let g : s + suc m ≡ s + 1 + m = omega arith in
    rw (h, g) (emptied_append m n (set words (base + s % cells_of_a_place) 0) base (s + 1))

-- how many numbers of a run that starts at s come before the ring wraps
abbrev to_wrap : ℕ → ℕ
to_wrap s = cells_of_a_place - s % cells_of_a_place

-- a run that wraps
pub emptied_wrapped : (words : List ℕ) (base s n : ℕ) → to_wrap s < n → n ≤ cells_of_a_place
    → emptied words base s n ≡ sets (sets words (base + s % cells_of_a_place) (replicate (to_wrap s) 0)) base (replicate (n - to_wrap s) 0)
emptied_wrapped words base s n l h =
    let e : n ≡ to_wrap s + (n - to_wrap s) = omega arith in
    let b : base + (s + to_wrap s) % cells_of_a_place ≡ base = omega arith in
    let first = emptied_run (to_wrap s) words base s (omega arith) in
    let second = emptied_run (n - to_wrap s) (emptied words base s (to_wrap s)) base (s + to_wrap s) (omega arith) in
    ap (λ (k : ℕ). emptied words base s k) e
    ∙ emptied_append (to_wrap s) (n - to_wrap s) words base s
    ∙ second
    ∙ rw (b, first)

-- the last number of a run
pub emptied_last : (words : List ℕ) (base first n : ℕ) → 0 < n
    → emptied words base first n ≡ set (emptied words base first (n - 1)) (base + (first + (n - 1)) % cells_of_a_place) 0
emptied_last words base first n l =
    let e : n ≡ (n - 1) + 1 = omega arith in
    ap (λ (k : ℕ). emptied words base first k) e
    ∙ emptied_append (n - 1) 1 words base first
    ∙ emptied_more (emptied words base first (n - 1)) base (first + (n - 1)) 1 (omega arith)
    ∙ emptied_none (set (emptied words base first (n - 1)) (base + (first + (n - 1)) % cells_of_a_place) 0) base (first + (n - 1) + 1) (1 - 1) (omega arith)

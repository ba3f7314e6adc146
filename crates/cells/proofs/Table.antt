-- A function of two numbers written out as a table of rows and columns. Assumes nothing.
use Prim.Native.Nat.{ℕ, zero, suc, ◌<◌}
use mathlib.Core.Path.{◌≡◌, refl, ap, ◌∙◌}
use mathlib.Core.List.{List, [], ◌∷◌}
use native.Mathlib.Omega.{arith}
use lib.ListN.{get_or}

-- the values of f at the numbers below n
abbrev pub values_of : {A : Type 0} → ℕ → (ℕ → A) → List A
values_of zero f = []
values_of (suc n) f = f 0 ∷ values_of n (λ (i : ℕ). f (suc i))

value_at : {A : Type 0} (n : ℕ) (f : ℕ → A) (i : ℕ) (d : A) → i < n → get_or (values_of n f) i d ≡ f i
value_at zero f i d l = absurd (omega (arith, l))
value_at (suc n) f zero d l = refl
value_at (suc n) f (suc i) d l = value_at n (λ (j : ℕ). f (suc j)) i d (omega arith)

-- f i j stands in row i and column j
abbrev pub table_of : ℕ → ℕ → (ℕ → ℕ → ℕ) → List (List ℕ)
table_of rows columns f = values_of rows (λ (i : ℕ). values_of columns (f i))

pub entry_at : (rows columns : ℕ) (f : ℕ → ℕ → ℕ) (i j : ℕ) → i < rows → j < columns
    → get_or (get_or (table_of rows columns f) i []) j 0 ≡ f i j
entry_at rows columns f i j r c =
    ap (λ (row : List ℕ). get_or row j 0) (value_at rows (λ (k : ℕ). values_of columns (f k)) i [] r)
    ∙ value_at columns (f i) j 0 c

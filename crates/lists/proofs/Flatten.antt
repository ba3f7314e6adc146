-- Laws of `flatten`. Assumes nothing.
use mathlib.Core.Path.{◌≡◌, refl, sym, ap, ◌∙◌}
use mathlib.Core.List.{List, [], ◌∷◌, ◌++◌, append_assoc, flatten}

pub flatten_append : {A : Type 0} (xs ys : List (List A)) → flatten (xs ++ ys) ≡ flatten xs ++ flatten ys
unfolding flatten
flatten_append [] ys = refl
flatten_append {A} (x ∷ xs) ys = ap (λ (r : List A). x ++ r) (flatten_append xs ys) ∙ sym (append_assoc x (flatten xs) (flatten ys))

-- What a call hands on of an inner answer, where the code's match told its variant. Assumes nothing.
use mathlib.Core.Path.{◌≡◌, sym, ap, ◌∙◌}

pub told : {A X : Type 0} (f : A → X) {of case variant : A} → case ≡ of → case ≡ variant → f variant ≡ f of
told f p q = ap f (sym q ∙ p)

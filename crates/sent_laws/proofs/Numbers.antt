-- The number of a refusal that another one is equal to. Assumes nothing.
use Prim.Native.Nat.{ℕ}
use mathlib.Core.Path.{◌≡◌, subst}
use mathlib.Core.List.{List}
use Rattle.refusal.specs.Numbers.{number_of}
use Rattle.refusal.specs.declared.Refusal.{Refusal}
use Rattle.packet_laws.specs.Refused.{OneOf}

pub same_number : (ns : List ℕ) (d e : Refusal) → d ≡ e → OneOf (number_of d) ns → OneOf (number_of e) ns
same_number ns d e q n = subst (λ (x : Refusal). OneOf (number_of x) ns) q n

-- The octets of a number, copied into a part of the output. Assumes nothing.
use Prim.Native.Nat.{ℕ, ◌+◌, ◌-◌, ◌<◌, ◌≤◌, ◌^◌, ◌/◌, ◌%◌}
use mathlib.Core.Path.{◌≡◌, ◌∙◌}
use mathlib.Core.List.{List}
use native.Mathlib.Omega.{arith}
use borrow.Rule.Slice.PartMut.{put_mid}
use lib.ListN.{length}
use lib.Seq.{sets}
use Rattle.std.specs.Int.{w16, w32, to_be_bytes}
use Rattle.std.proofs.lemmas.Grind.{common_steps}
use Rattle.std.proofs.lemmas.List.Edits.{sets-eq}
use Rattle.octets.specs.Octets.{octets16, octets32}

copied : (vs out : List ℕ) (at n : ℕ) → n ≡ length vs → at + n ≤ length out → put_mid at n out vs ≡ sets out at vs
copied vs out at n e room = grind (arith, common_steps, sets-eq)

high_first16 : (v : ℕ) → v < 2 ^ 16 → to_be_bytes w16 v ≡ octets16 v
high_first16 v h = let a : v / 256 % 256 ≡ v / 256 = omega arith in rw a

high_first32 : (v : ℕ) → v < 2 ^ 32 → to_be_bytes w32 v ≡ octets32 v
high_first32 v h =
    let a : v / 16777216 % 256 ≡ v / 65536 / 256 = omega arith in
    let b : v / 256 % 256 ≡ v % 65536 / 256 = omega arith in
    let d : v % 256 ≡ v % 65536 % 256 = omega arith in
    rw (a, b, d)

module _ (out bs new : List ℕ) (at v : ℕ) (is : new ≡ bs) where
  pub written16 : bs ≡ to_be_bytes w16 v → v < 2 ^ 16 → at + 2 ≤ length out → put_mid at (at + 2 - at) out new ≡ sets out at (octets16 v)
  written16 e h room = let o : new ≡ octets16 v = is ∙ e ∙ high_first16 v h in rw o (copied (octets16 v) out at (at + 2 - at) (omega arith) (omega arith))

  pub written32 : bs ≡ to_be_bytes w32 v → v < 2 ^ 32 → at + 4 ≤ length out → put_mid at (at + 4 - at) out new ≡ sets out at (octets32 v)
  written32 e h room = let o : new ≡ octets32 v = is ∙ e ∙ high_first32 v h in rw o (copied (octets32 v) out at (at + 4 - at) (omega arith) (omega arith))

-- The metrics of a block that the reader finds are within the octets. Assumes nothing.
use Prim.Native.Nat.{ℕ, zero, suc}
use mathlib.Core.Path.{◌≡◌, refl}
use mathlib.Core.List.{List, [], ◌∷◌}
use Rattle.lists.specs.All.{All}
use Rattle.lists.proofs.Cases.{never}
use Rattle.walk.specs.Walk.{Walked, walked, stopped, walk_of}
use Rattle.walk.specs.declared.ReportBlock.{ReportBlock}
use Rattle.walk.proofs.Walks.{walk_ind}
use Rattle.reports.specs.Reports.{Within}
use Rattle.reports.proofs.Within.{within}
use Rattle.reader.proofs.Answers.{walked_sound}
use Rattle.block_reader.specs.Blocks.{nth, located}
use Rattle.std.specs.Prelude.{Ok}

module _ (s : List ℕ) where
  nth_within : (bs : List ReportBlock) (k : ℕ) (b : ReportBlock) → All (Within s) bs → nth bs k ≡ Ok b → Within s b
  nth_within [] k b a e = never (cc)
  nth_within (x ∷ bs) zero b a e = let z : x ≡ b = cc in rw z at a.0
  nth_within (x ∷ bs) (suc k) b a e = nth_within bs k b a.1 e

  pub located_within : (k : ℕ) (b : ReportBlock) → located (walk_of s) k ≡ Ok b → Within s b
  located_within k b e = by_walk (walk_of s) refl e
    where
      by_walk : (w : Walked) → walk_of s ≡ w → located w k ≡ Ok b → Within s b
      by_walk (walked bs) f h =
          nth_within bs k b
          (walk_ind s (λ at bs. All (Within s) bs) (λ at h. tt) (λ at b next bs f r. (within s at b next f, r)) 8 bs (walked_sound s bs f).1) h
      by_walk (stopped x) f h = never (cc)

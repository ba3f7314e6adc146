-- The answer about the part of block k, as its octets and as the number of its refusal. Assumes nothing.
use Rattle.std.proofs.Common.{◌≡◌, ℕ, List, [], refl, ap}
use Rattle.std.specs.Prelude.{Result, Ok, Err}
use Rattle.lists.proofs.Cases.{never}
use Rattle.refusal.specs.Numbers.{number_of}
use Rattle.refusal.specs.declared.Refusal.{Refusal}
use Rattle.walk.specs.declared.ReportBlock.{ReportBlock}
use Rattle.block_reader.specs.Blocks.{read_block}
use Rattle.metric_reader.specs.Metrics.{block_refusal, found_part, metrics_part, read_part}

module _ (s : List ℕ) where
  found : (r : Result ReportBlock Refusal) (part : List ℕ) → found_part r s ≡ Ok part → (metrics_part r s ≡ part) × (block_refusal r ≡ 0)
  found (Ok b) part e = (cc, refl)
  found (Err x) part e = never (cc)

  refused : (r : Result ReportBlock Refusal) (x : Refusal) → found_part r s ≡ Err x → (metrics_part r s ≡ []) × (block_refusal r ≡ number_of x)
  refused (Ok b) x e = never (cc)
  refused (Err y) x e = let z : y ≡ x = cc in (refl, ap number_of z)

  module _ (k : ℕ) where
    -- a part that is given is that of the block
    pub part_found : (part : List ℕ) → read_part s k ≡ Ok part
        → (metrics_part (read_block s k) s ≡ part) × (block_refusal (read_block s k) ≡ 0)
    part_found part e = found (read_block s k) part e

    -- a part is refused where the block is, and as the block is
    pub part_refused : (x : Refusal) → read_part s k ≡ Err x
        → (metrics_part (read_block s k) s ≡ []) × (block_refusal (read_block s k) ≡ number_of x)
    part_refused x e = refused (read_block s k) x e

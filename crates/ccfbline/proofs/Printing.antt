-- What is written for the input is what is printed for the file that its pieces make. Assumes nothing.
use Prim.Native.Nat.{ℕ, ◌≤◌}
use mathlib.Core.Path.{◌≡◌, ap, ◌∙◌, subst}
use mathlib.Core.List.{List, [], ◌∷◌, ◌++◌, flatten}
use native.Mathlib.Omega.{arith}
use lib.ListN.{length}
use lib.Seq.{length-take-le}
use Rattle.lists.specs.All.{All}
use Rattle.octets.specs.Octets.{Octets}
use Rattle.octets.specs.Output.{output_after}
use Rattle.intake.specs.Intake.{IntakeAfter, intake_after, at_start}
use Rattle.intake.specs.declared.Intake.{Intake}
use Rattle.line_hex.specs.Hex.{put_text}
use Rattle.line_store.specs.Fresh.{fresh_places, fresh_cells}
use Rattle.line.specs.Line.{text_room, finished_text}
use Rattle.line_laws.proofs.Printed.{prints_held}
use Rattle.line_input.specs.Turn.{buffer_octets}
use Rattle.line_input.specs.Taken.{PiecesTaken}
use Rattle.ccfbline.specs.Output.{TextFor}

octets_join : (s t : List ℕ) → Octets s → Octets t → Octets (s ++ t)
octets_join [] t o q = q
octets_join (x ∷ s) t o q = (o.0, octets_join s t o.1 q)

octets_flatten : (ps : List (List ℕ)) → All Octets ps → Octets (flatten ps)
unfolding flatten
octets_flatten [] o = tt
octets_flatten (p ∷ ps) o = octets_join p (flatten ps) o.0 (octets_flatten ps o.1)

pub text_for : (i : Intake) (places cells buf : List ℕ) → buffer_octets ≤ length buf
    → PiecesTaken (intake_after at_start fresh_places fresh_cells []) (intake_after i places cells buf)
    → (out exit : List ℕ) (n : ℕ) → output_after n exit ≡ put_text out (finished_text places cells i) → n ≤ text_room → TextFor out n exit
text_for i places cells buf room taken out exit n e fits =
    let left : i.left ≤ length buf = omega arith in
    record {
      pieces = taken.pieces;
      octets = taken.octets;
      stops = taken.stops;
      text =
          e
          ∙ ap (put_text out) (prints_held taken.pieces (octets_flatten taken.pieces taken.octets) (intake_after i places cells buf)
          (length-take-le i.left buf left) taken.is);
      fits = fits;
    }

-- what was taken into a store that is known by another name
pub taken_into : (places places₀ cells cells₀ : List ℕ) (after : IntakeAfter) → places₀ ≡ places → cells₀ ≡ cells
    → PiecesTaken (intake_after at_start places₀ cells₀ []) after → PiecesTaken (intake_after at_start places cells []) after
taken_into places places₀ cells cells₀ after p c t =
    subst (λ (x : List ℕ). PiecesTaken (intake_after at_start x cells []) after) p
    (subst (λ (x : List ℕ). PiecesTaken (intake_after at_start places₀ x []) after) c t)

use Prim.Native.Nat.{◌%◌}
use mathlib.Core.Path.{refl}
use native.Mathlib.Omega.{arith}
use Rattle.cells.proofs.Words.{folded_small}
use Rattle.cells.proofs.copied_word.Goals as goal

pub fold_mark-requires : goal.fold_mark-requires
fold_mark-requires c =
    record {
      row = omega arith;
      column = c.requires.sound_mark;
    }

pub overflow_add-result : goal.overflow_add-result
overflow_add-result c =
    omega (arith, c.fold_mark.ensures.value, folded_small (c.args.word % 4) c.args.mark (omega arith))

pub returns : goal.returns
returns c = record { value = rw c.fold_mark.ensures.value refl }

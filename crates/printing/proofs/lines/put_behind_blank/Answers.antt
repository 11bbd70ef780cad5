-- The blank, and the number behind it.
use mathlib.Core.Path.{refl, ◌∙◌}
use mathlib.Core.List.{[], ◌∷◌}
use Prim.Native.Nat.{◌+◌}
use native.Mathlib.Omega.{arith}
use lib.ListN.{length-set}
use Rattle.printing.specs.Text.{decimal}
use Rattle.printing.proofs.Laying.{laid_both, laid-byte}
use Rattle.printing.proofs.lines.put_behind_blank.Goals as goal

pub put_decimal-requires : goal.put_decimal-requires
put_decimal-requires c =
    let the-pre = c.requires in
    let the-args = c.args in
    omega (arith, the-pre, length-set the-args.out.now the-args.at 32)

pub shape_of-out : goal.shape_of-out
shape_of-out c =
    let the-put-decimal = c.put_decimal in
    let the-args = c.args in
    the-put-decimal.auto.out ∙ length-set the-args.out.now the-args.at 32

pub returns : goal.returns
returns c =
    let the-args = c.args in
    let the-pre = c.requires in
    let the-put-decimal = c.put_decimal in
    laid_both the-args.out.now _ _ the-args.at (the-args.at + 1) _ (32 ∷ []) (decimal the-args.n) (the-pre)
    (laid-byte the-args.out.now _ the-args.at 32 (omega (arith, the-pre)) refl)
    the-put-decimal.ensures

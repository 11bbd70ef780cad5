-- A character, or none.
use mathlib.Core.Path.{sym}
use native.Mathlib.Omega.{arith}
use Rattle.utf8.proofs.Seeing.{seen-whole, seen-bad, whole-fits}
use Rattle.utf8.proofs.see_long.Goals as goal

pub overflow_add-result : goal.overflow_add-result
overflow_add-result c =
    let the-args = c.args in
    let the-pre = c.requires in
    omega (arith, whole-fits the-args.b.now the-args.at the-args.end the-pre.0 the-pre.1 _ _ (sym c.in-Some.ensures))

pub returns-in-Some : goal.returns-in-Some
returns-in-Some c =
    let the-args = c.args in
    let the-pre = c.requires in
    seen-whole the-args.b.now the-args.at the-args.end the-pre.0 the-pre.1 _ _ (sym c.in-Some.ensures)

pub returns-in-None : goal.returns-in-None
returns-in-None c =
    let the-args = c.args in
    let the-pre = c.requires in
    seen-bad the-args.b.now the-args.at the-args.end the-pre.0 the-pre.1 (sym c.in-None.ensures)

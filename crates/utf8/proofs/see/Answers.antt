-- A byte below 0x80, or whatever else stands there.
use mathlib.Core.Path.{sym}
use native.Mathlib.Omega.{arith}
use Rattle.utf8.proofs.Standing.{at_one}
use Rattle.utf8.proofs.Seeing.{seen-whole}
use Rattle.utf8.proofs.see.Goals as goal

pub bounds-b-at : goal.bounds-b-at
bounds-b-at c =
    let the-pre = c.requires in
    omega (arith, the-pre.0, the-pre.1)

pub returns-then-x-lt128 : goal.returns-then-x-lt128
returns-then-x-lt128 c =
    let the-args = c.args in
    let the-pre = c.requires in
    let the-from = c.from-x in
    let the-if1 = c.if-x-lt128 in
    seen-whole the-args.b.now the-args.at the-args.end the-pre.0 the-pre.1 the-from.result 1
    (sym (at_one the-args.b.now the-args.at the-args.end the-pre.1 the-pre.0 the-from.result the-from.ensures the-if1.true))

use mathlib.Core.Path.{refl, sym, ◌∙◌}
use native.Mathlib.Omega.{arith}
use Rattle.utf8.proofs.Seeing.{text-on, text-not, text-all}
use Rattle.utf8.proofs.is_text.Goals as goal

pub loop-i-init : goal.loop-i-init
loop-i-init c = refl

pub see-first-requires : goal.see-first-requires
see-first-requires c =
    let the-loop-test = c.loop-i-test in
    let the-pre = c.requires in
    (the-loop-test.true, the-pre)

pub returns-then-first-eq-BAD : goal.returns-then-first-eq-BAD
returns-then-first-eq-BAD c =
    let the-args = c.args in
    let the-loop = c.loop-i in
    let the-see = c.see-first in
    let the-if1 = c.if-first-eq-BAD in
    text-not the-args.b.now the-loop.i the-args.end _ _ the-see.ensures the-if1.true ∙ sym the-loop.invariant

pub loop-i-smaller : goal.loop-i-smaller
loop-i-smaller c =
    let the-see = c.see-first in
    let the-loop-test = c.loop-i-test in
    omega (arith, the-see.ensures.later, the-loop-test.true)

pub loop-i-preserved : goal.loop-i-preserved
loop-i-preserved c =
    let the-loop = c.loop-i in
    let the-args = c.args in
    let the-see = c.see-first in
    let the-if1 = c.if-first-eq-BAD in
    the-loop.invariant ∙ text-on the-args.b.now the-loop.i the-args.end _ _ the-see.ensures the-if1.false

pub returns : goal.returns
returns c =
    let the-args = c.args in
    let the-loop = c.loop-i in
    let the-loop-test = c.loop-i-test in
    text-all the-args.b.now the-loop.i the-args.end the-loop-test.false ∙ sym the-loop.invariant

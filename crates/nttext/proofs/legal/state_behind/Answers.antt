use native.Mathlib.Omega.{arith}
use Rattle.nttext.proofs.Behind.{bare-start, bare-stops, bare-goes, bare_ends}
use Rattle.nttext.proofs.legal.state_behind.Goals as goal

pub loop-i-init : goal.loop-i-init
loop-i-init c =
    let the-args = c.args in
    let the-pre = c.requires in
    bare-start the-args.text.now the-args.from the-args.to the-args.first the-pre.0

pub see-c-requires : goal.see-c-requires
see-c-requires c =
    let the-loop-test = c.loop-i-test in
    let the-pre = c.requires in
    (the-loop-test.true, the-pre.1)

pub returns-then-c-eq92 : goal.returns-then-c-eq92
returns-then-c-eq92 c =
    let the-args = c.args in
    let the-loop = c.loop-i in
    let the-see = c.see-c in
    let the-if1 = c.if-c-eq92 in
    bare-stops the-args.text.now the-args.from the-args.to the-args.first _ _ _ _ the-loop.invariant the-see.ensures the-if1.true

pub loop-i-smaller : goal.loop-i-smaller
loop-i-smaller c =
    let the-see = c.see-c in
    omega (arith, the-see.ensures.later, the-see.ensures.within)

pub loop-i-preserved : goal.loop-i-preserved
loop-i-preserved c =
    let the-args = c.args in
    let the-loop = c.loop-i in
    let the-see = c.see-c in
    let the-if1 = c.if-c-eq92 in
    let the-stepped = c.stepped-state in
    bare-goes the-args.text.now the-args.from the-args.to the-args.first _ _ _ _ _ the-loop.invariant the-see.ensures the-if1.false the-stepped.ensures

pub returns : goal.returns
returns c =
    let the-args = c.args in
    let the-loop = c.loop-i in
    let the-loop-test = c.loop-i-test in
    bare_ends the-args.text.now the-args.from the-args.to the-args.first _ _ the-loop.invariant the-loop-test.false

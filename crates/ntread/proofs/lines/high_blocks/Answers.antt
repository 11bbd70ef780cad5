use native.Mathlib.Omega.{arith}
use Rattle.ntread.proofs.Parting.{inside-none, inside-block}
use Rattle.ntread.proofs.lines.high_blocks.Goals as goal

pub loop-to-init : goal.loop-to-init
loop-to-init c =
    let the-args = c.args in
    let the-pre = c.requires in
    inside-none the-args.b.now the-args.at the-pre

pub has_low-requires : goal.has_low-requires
has_low-requires c =
    let the-loop = c.loop-to in
    let the-loop-test = c.loop-to-test in
    omega (arith, the-loop.invariant.within, the-loop-test.true)

pub returns-then-has_low : goal.returns-then-has_low
returns-then-has_low c =
    let the-loop = c.loop-to in
    the-loop.invariant

pub loop-to-smaller : goal.loop-to-smaller
loop-to-smaller c =
    let the-loop = c.loop-to in
    let the-loop-test = c.loop-to-test in
    omega (arith, the-loop.invariant.within, the-loop-test.true)

pub loop-to-preserved : goal.loop-to-preserved
loop-to-preserved c =
    let the-args = c.args in
    let the-loop = c.loop-to in
    let the-loop-test = c.loop-to-test in
    let the-has-low = c.has_low in
    let the-if1 = c.if-has_low in
    inside-block the-args.b.now the-args.at the-loop.to the-loop.invariant 16 (omega (arith, the-loop.invariant.within, the-loop-test.true))
    (the-has-low.ensures the-if1.false)

pub returns : goal.returns
returns c =
    let the-loop = c.loop-to in
    the-loop.invariant

use Rattle.std.proofs.Common.{ap}
use Rattle.std.specs.Prelude.{not}
use native.Mathlib.Omega.{arith}
use borrow.Author.Tests.{not-false}
use Rattle.ntline.specs.Runs.{plain_byte}
use Rattle.ntline.proofs.Passing.{run_none, run_block}
use Rattle.ntline.proofs.runs.plain_blocks.Goals as goal

pub loop-i-init : goal.loop-i-init
loop-i-init c =
    let the-args = c.args in
    let the-pre = c.requires in
    run_none (plain_byte the-args.blank) the-args.b.now the-args.at the-args.end the-pre.0

pub all_plain-requires : goal.all_plain-requires
all_plain-requires c =
    let the-loop = c.loop-i in
    let the-loop-test = c.loop-i-test in
    let the-pre = c.requires in
    omega (arith, the-loop.invariant.within, the-loop-test.true, the-pre.1)

pub returns-then-not-all_plain : goal.returns-then-not-all_plain
returns-then-not-all_plain c =
    let the-loop = c.loop-i in
    the-loop.invariant

pub loop-i-smaller : goal.loop-i-smaller
loop-i-smaller c =
    let the-loop = c.loop-i in
    let the-loop-test = c.loop-i-test in
    omega (arith, the-loop.invariant.within, the-loop-test.true)

pub loop-i-preserved : goal.loop-i-preserved
loop-i-preserved c =
    let the-args = c.args in
    let the-loop = c.loop-i in
    let the-loop-test = c.loop-i-test in
    let the-all-plain = c.all_plain in
    let the-if1 = c.if-not-all_plain in
    run_block (plain_byte the-args.blank) the-args.b.now the-args.at the-args.end the-loop.i 8 the-loop.invariant (omega (arith, the-loop.invariant.within, the-loop-test.true))
    (the-all-plain.ensures (not-false _ (ap not the-if1.false)))

pub returns : goal.returns
returns c =
    let the-loop = c.loop-i in
    the-loop.invariant

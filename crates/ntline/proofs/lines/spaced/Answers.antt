use Rattle.std.proofs.Common.{ap}
use Rattle.std.specs.Prelude.{not}
use borrow.Author.Tests.{not-true, not-false}
use Rattle.ntline.proofs.Blanks.{white_none, white_more, white_ends, white_over}
use Rattle.ntline.proofs.lines.spaced.Goals as goal

pub loop-i-init : goal.loop-i-init
loop-i-init c =
    let the-args = c.args in
    let the-pre = c.requires in
    white_none the-args.b.now the-args.at the-args.end the-pre.0

pub returns-then-not-is_white : goal.returns-then-not-is_white
returns-then-not-is_white c =
    let the-args = c.args in
    let the-pre = c.requires in
    let the-loop = c.loop-i in
    let the-loop-test = c.loop-i-test in
    let the-from = c.from in
    let the-is-white = c.is_white in
    let the-if1 = c.if-not-is_white in
    white_ends the-args.b.now the-args.at the-args.end the-pre.1 the-loop.i _ the-loop.invariant the-loop-test.true the-from.ensures _ the-is-white.ensures (not-true _ (ap not the-if1.true))

pub loop-i-preserved : goal.loop-i-preserved
loop-i-preserved c =
    let the-args = c.args in
    let the-pre = c.requires in
    let the-loop = c.loop-i in
    let the-loop-test = c.loop-i-test in
    let the-from = c.from in
    let the-is-white = c.is_white in
    let the-if1 = c.if-not-is_white in
    white_more the-args.b.now the-args.at the-args.end the-pre.1 the-loop.i _ the-loop.invariant the-loop-test.true the-from.ensures _ the-is-white.ensures (not-false _ (ap not the-if1.false))

pub returns : goal.returns
returns c =
    let the-args = c.args in
    let the-loop = c.loop-i in
    let the-loop-test = c.loop-i-test in
    white_over the-args.b.now the-args.at the-args.end the-loop.i the-loop.invariant the-loop-test.false

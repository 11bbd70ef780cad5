use Rattle.std.proofs.Common.{ap}
use Rattle.std.specs.Prelude.{not}
use Prim.Native.Nat.{◌+◌}
use borrow.Author.Tests.{not-false}
use Rattle.ntline.proofs.Passing.{scheme_more}
use Rattle.ntline.proofs.runs.scheme_run.Goals as goal

pub loop-i-preserved : goal.loop-i-preserved
loop-i-preserved c =
    let the-args = c.args in
    let the-loop = c.loop-i in
    let the-loop-test = c.loop-i-test in
    let the-from2 = c.from-x in
    let the-is-scheme-char = c.is_scheme_char in
    let the-if4 = c.if-not-is_scheme_char in
    scheme_more the-args.b.now (the-args.at + 1) the-args.end the-loop.i the-loop.invariant the-loop-test.true _ the-from2.ensures _ the-is-scheme-char.ensures (not-false _ (ap not the-if4.false))

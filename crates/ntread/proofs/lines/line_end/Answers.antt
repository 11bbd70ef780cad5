use mathlib.Core.Path.{◌≡◌, sym, ◌∙◌}
use native.Mathlib.Omega.{arith}
use lib.ListN.{length}
use Rattle.ntread.proofs.Parting.{end_here, end_over, inside-more}
use Rattle.ntread.proofs.lines.line_end.Goals as goal

pub loop-i-init : goal.loop-i-init
loop-i-init c =
    let the-high-blocks = c.high_blocks-i in
    the-high-blocks.ensures

pub returns-then-is_eol : goal.returns-then-is_eol
returns-then-is_eol c =
    let the-args = c.args in
    let the-loop = c.loop-i in
    let the-loop-test = c.loop-i-test in
    let the-is-eol = c.is_eol in
    let the-if1 = c.if-is_eol in
    end_here the-args.b.now the-args.at the-loop.i the-loop.invariant the-loop-test.true (sym the-is-eol.ensures ∙ the-if1.true)

pub loop-i-preserved : goal.loop-i-preserved
loop-i-preserved c =
    let the-args = c.args in
    let the-loop = c.loop-i in
    let the-loop-test = c.loop-i-test in
    let the-is-eol = c.is_eol in
    let the-if1 = c.if-is_eol in
    inside-more the-args.b.now the-args.at the-loop.i the-loop.invariant the-loop-test.true (sym the-is-eol.ensures ∙ the-if1.false)

pub returns : goal.returns
returns c =
    let all : c.loop-i.i ≡ length c.args.b.now = omega (arith, c.loop-i.invariant.within, c.loop-i-test.false) in
    rw all at (end_over c.args.b.now c.args.at c.loop-i.i c.loop-i.invariant c.loop-i-test.false)

use native.Mathlib.Omega.{arith}
use Rattle.std.proofs.lemmas.Bool.Decides.{Decides-eqb}
use Rattle.std.proofs.lemmas.Slice.Eq.{slice_eq-Decides}
use Rattle.names.proofs.Same.{other-size, other_eight, front_decides, eight_more}
use Rattle.names.proofs.texts.same.Goals as goal

pub returns-then-text-word : goal.returns-then-text-word
returns-then-text-word c = other-size c.args.text.now c.args.word.now c.if-text-word.true

pub returns-then-not-same_eight : goal.returns-then-not-same_eight
returns-then-not-same_eight c = other_eight c.args.text.now c.args.word.now _ c.if-not-same_eight.ensures.1

pub loop-i-preserved : goal.loop-i-preserved
loop-i-preserved c =
    eight_more c.args.text.now c.args.word.now c.loop-i.i _ c.loop-i.invariant (omega (arith, c.loop-i-test.true)) (c.if-not-same_eight.ensures.0 cc)

pub returns : goal.returns
returns c = front_decides c.args.text.now c.args.word.now c.loop-i.i c.if-text-word.false c.loop-i.invariant _ (slice_eq-Decides Decides-eqb _ _ _ c.eq.ensures)

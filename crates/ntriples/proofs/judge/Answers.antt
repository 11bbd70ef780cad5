use mathlib.Core.Path.{ap, ◌∙◌}
use native.Mathlib.Omega.{arith}
use lib.ListN.{length-set}
use lib.Seq.{take-length}
use Rattle.names.specs.Names.{lanes_of}
use Rattle.nttext.specs.Texts.{is_legal_text}
use Rattle.ntriples.proofs.Rows.{one-marked}
use Rattle.ntriples.proofs.judge.Goals as goal

pub loop-i-preserved : goal.loop-i-preserved
loop-i-preserved c = (
  simp length-set c.loop-i.invariant.0,
  one-marked (lanes_of c.args.terms.now c.args.ends.now c.args.text.now) c.loop-i.i _ _ c.loop-i.marks _ (omega (arith, c.requires.1, c.loop-i.invariant.0, c.loop-i-test.true)) c.loop-i.invariant.1
      c.text_at-entry.ensures.0
      c.sort_of.ensures
      (c.legal.ensures ∙ ap (is_legal_text c.sort_of.result) (take-length c.text_at-entry.result.now)),
)

pub returns : goal.returns
returns c = record { few = c.requires.1; many = c.loop-i.invariant.0; are = λ k h. c.loop-i.invariant.1 k (omega (arith, c.loop-i-test.false)) }

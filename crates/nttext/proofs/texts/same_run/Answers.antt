-- As many bytes as are the same.
use native.Mathlib.Omega.{arith}
use Rattle.nttext.proofs.Matching.{same-run}
use Rattle.nttext.proofs.texts.same_run.Goals as goal

pub returns-then-s-from : goal.returns-then-s-from
returns-then-s-from c =
    same-run c.args.s.b.now c.args.from c.args.s.to c.args.s.quoted c.args.out.now c.args.at c.args.end c.requires.1 c.requires.2 c.requires.3 _ c.min-most.result _
    c.plain_run.ensures (omega arith) (omega arith) (omega arith) c.loop-k.invariant

pub returns : goal.returns
returns c =
    same-run c.args.s.b.now c.args.from c.args.s.to c.args.s.quoted c.args.out.now c.args.at c.args.end c.requires.1 c.requires.2 c.requires.3 c.plain_run.result c.min-most.result
    c.min-most.result c.plain_run.ensures (omega arith) (omega arith) (omega arith) (λ n h. c.loop-k.invariant n (omega arith))

-- The bytes so far, by their positions.
use Rattle.std.proofs.Common.{arith, true, get_or}
use Rattle.ntline.proofs.Passing.{from_here}
use Rattle.ntline.proofs.runs.run.Goals as goal
use Rattle.ntline.proofs.runs.run.Given.{F-post}

pub returns-then-not-passes-clause-each : goal.returns-then-not-passes-clause-each
returns-then-not-passes-clause-each g c = from_here (λ n. F-post g c.args.passes (get_or c.args.b.now n 0) true) _ _ c.loop-i.invariant

pub returns-clause-each : goal.returns-clause-each
returns-clause-each g c = λ k l m. from_here (λ n. F-post g c.args.passes (get_or c.args.b.now n 0) true) _ _ c.loop-i.invariant k l (omega arith)

-- One store; else nothing is to show.
use Rattle.std.proofs.Common.{arith}
use Rattle.termset.proofs.Holding.{put_in}
use Rattle.termset.proofs.TermSet.insert_if.Goals as goal

pub returns-then-on : goal.returns-then-on
returns-then-on c = rw (c.if-on.true, ← c.self.view_is, c.from-at.ensures) (put_in _ c.args.term (omega arith))

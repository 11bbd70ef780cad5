-- One store.
use Rattle.std.proofs.Common.{arith}
use Rattle.termset.proofs.Holding.{taken_out}
use Rattle.termset.proofs.TermSet.remove.Goals as goal

pub returns : goal.returns
returns c = rw (← c.self.view_is, c.from-at.ensures) (taken_out _ c.args.term (omega arith))

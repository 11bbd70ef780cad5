-- One bit.
use Rattle.termset.proofs.Holding.{bit_tested}
use Rattle.termset.proofs.TermSet.contains.Goals as goal

pub returns : goal.returns
returns c = rw (← c.self.view_is, c.from-at.ensures) (bit_tested _ _)

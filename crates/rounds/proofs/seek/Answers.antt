-- By the turn; going down is found.
use Rattle.rounds.proofs.Marking.{sought_one, sought_up}
use Rattle.rounds.proofs.seek.Goals as goal

pub returns-in-Up : goal.returns-in-Up
returns-in-Up c = rw c.in-Up.is (sought_up _ _ _ _ _ _ _ _ c.next_due.ensures)

pub returns-in-One : goal.returns-in-One
returns-in-One c = rw c.in-One.is (sought_one _ _ _ _ _ _ _ _ c.next_of.ensures)

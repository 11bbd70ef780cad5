-- Where there is nothing to do, it is obeyed; the other shapes are found.
use Rattle.walks.proofs.Walking.{walked_off, alone-walked}
use Rattle.walks.proofs.pursue.Goals as goal

pub returns-in-Off-clause-walked : goal.returns-in-Off-clause-walked
returns-in-Off-clause-walked c = rw (c.unchanged.ensures, c.in-Off.is) (walked_off (rw c.in-Off.is at c.requires))

pub returns-in-Alone-clause-walked : goal.returns-in-Alone-clause-walked
returns-in-Alone-clause-walked c = rw c.in-Alone.is (alone-walked _ _ _ _ _ c.args.table.now c.raise.new.table _ c.raise.ensures.raised.0)

use Rattle.table.proofs.Opening.{opened_by-copy}
use Rattle.table.proofs.lane.open.Goals as goal

pub returns : goal.returns
returns g c = rw c.copy_within.ensures.after (opened_by-copy c.args.at c.args.count c.args.v c.args.lane.now c.requires.0 c.requires.1)

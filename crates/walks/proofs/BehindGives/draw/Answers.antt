-- The plan of the rows behind follows.
use Rattle.walks.proofs.Walking.{behind-planned, behind-drawn}
use Rattle.walks.proofs.BehindGives.draw.Goals as goal

pub walk-requires : goal.walk-requires
walk-requires c = behind-planned _ c.requires

pub returns-clause-drawn : goal.returns-clause-drawn
returns-clause-drawn c = behind-drawn _ _ _ c.args.table.now c.walk.new.table c.args.self _ c.walk.ensures.walked

use Rattle.std.proofs.Common.{rules, arith}
use Rattle.table.specs.Lent.{lanes_seen}
use Rattle.ntwrite.specs.Listed.{entries_in}
use Rattle.ntriples.proofs.Rows.{none-long, size_step}
use Rattle.ntriples.proofs.file_size.Goals as goal

pub loop-i-init : goal.loop-i-init
loop-i-init c = (none-long (entries_in c.args.names) (lanes_seen c.args.rows.now), search rules)

pub loop-i-preserved : goal.loop-i-preserved
loop-i-preserved c =
    let laid = rw c.row-r.ensures at c.line_size-size.ensures in (
      size_step (entries_in c.args.names) (lanes_seen c.args.rows.now) c.loop-i.i _ _ c.loop-i.invariant.0 laid.0,
      omega (arith, c.loop-i.invariant.1, laid.1),
    )

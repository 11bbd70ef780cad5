use Rattle.std.proofs.Common.{arith}
use Rattle.table.specs.Lent.{lanes_seen}
use Rattle.book.proofs.Writes.{fields_start, fields_step}
use Rattle.book.proofs.writing.write_fields.Goals as goal

pub loop-i-init : goal.loop-i-init
loop-i-init c = let a = c.args in fields_start _ a.start (lanes_seen a.rows.now)

pub loop-i-preserved : goal.loop-i-preserved
loop-i-preserved c =
    let a = c.args in
    fields_step a.out.now _ _ a.start (lanes_seen a.rows.now) c.loop-i.i (omega arith) c.loop-i.invariant (rw c.row.ensures at c.write_field.ensures)

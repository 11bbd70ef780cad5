use Rattle.std.proofs.Common.{arith}
use Rattle.annotation.specs.Numbered.{kind_number}
use Rattle.term.proofs.Handing.{refusal_numbered}
use Rattle.table.specs.Lent.{lanes_seen}
use Rattle.table.proofs.Judging.{rows_start, rows_step, rows-stop, rows_end}
use Rattle.table.proofs.lent.Rows.check_rows.Goals as goal

pub loop-i-init : goal.loop-i-init
loop-i-init c = rows_start (kind_number c.args.kind) (lanes_seen c.args.self.now) c.args.self.now.count

pub returns-in-Err : goal.returns-in-Err
returns-in-Err c =
    rw c.at.ensures
    (rows-stop (kind_number c.args.kind) (lanes_seen c.args.self.now) c.args.self.now.count c.loop-i.i _ (omega (arith, c.loop-i-test.true)) c.in-Err.ensures (refusal_numbered c.in-Err.e) c.loop-i.invariant)

pub loop-i-preserved : goal.loop-i-preserved
loop-i-preserved c =
    rows_step (kind_number c.args.kind) (lanes_seen c.args.self.now) c.args.self.now.count c.loop-i.i 0 (omega (arith, c.loop-i-test.true)) c.in-Ok.ensures (omega arith) c.loop-i.invariant

pub returns : goal.returns
returns c = rows_end (kind_number c.args.kind) (lanes_seen c.args.self.now) c.args.self.now.count c.loop-i.i (omega (arith, c.loop-i-test.false)) c.loop-i.invariant

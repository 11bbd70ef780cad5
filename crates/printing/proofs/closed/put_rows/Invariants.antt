-- The rows passed are laid, in 39 bytes or fewer each.
use Prim.Native.Nat.{◌*◌}
use Rattle.table.specs.Rows.{lanes, rows_of}
use Rattle.printing.specs.Text.{row_lines}
use Rattle.printing.specs.Laid.{LaidWithin}
use Rattle.printing.proofs.closed.put_rows.Given as goal

abbrev pub invariant-loop-i : goal.invariant-loop-i
invariant-loop-i l = LaidWithin l.initial.out l.out l.at l.next (row_lines (rows_of (lanes l.subj l.pred l.obj l.ann) l.i)) (l.i * 39)

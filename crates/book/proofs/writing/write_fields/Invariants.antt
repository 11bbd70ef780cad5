-- The fields of the rows passed are written.
use Rattle.std.proofs.Common.{◌≡◌}
use Rattle.field.specs.Numbers.{written}
use Rattle.table.specs.Rows.{rows_of}
use Rattle.table.specs.Lent.{lanes_seen}
use Rattle.book.specs.Format.{fields_bytes}
use Rattle.book.proofs.writing.write_fields.Given as goal

abbrev pub invariant-loop-i : goal.invariant-loop-i
invariant-loop-i l = l.out ≡ written l.initial.out l.start (fields_bytes (rows_of (lanes_seen l.rows) l.i))

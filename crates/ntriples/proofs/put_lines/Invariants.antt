-- The invariant: the lines of the rows passed are written.
use Rattle.std.proofs.Common.{◌≡◌, length}
use Rattle.field.specs.Numbers.{written}
use Rattle.table.specs.Lent.{lanes_seen}
use Rattle.ntwrite.specs.Listed.{entries_in}
use Rattle.ntriples.specs.Inner.{lines_bytes}
use Rattle.ntriples.proofs.put_lines.Given as goal

abbrev pub invariant-loop-i : goal.invariant-loop-i
invariant-loop-i l =
    (length l.out ≡ length l.initial.out)
    × (l.out ≡ written l.initial.out 0 (lines_bytes (entries_in l.names) (lanes_seen l.rows) l.i))
    × (l.at ≡ length (lines_bytes (entries_in l.names) (lanes_seen l.rows) l.i))

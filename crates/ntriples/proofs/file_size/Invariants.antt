-- The invariant: the size is that of the lines passed.
use Rattle.std.proofs.Common.{◌≡◌, ◌≤◌, ◌*◌, length}
use Rattle.table.specs.Lent.{lanes_seen}
use Rattle.ntwrite.specs.Listed.{entries_in}
use Rattle.ntriples.specs.Inner.{lines_bytes}
use Rattle.ntriples.proofs.file_size.Given as goal

abbrev pub invariant-loop-i : goal.invariant-loop-i
invariant-loop-i l = (l.size ≡ length (lines_bytes (entries_in l.names) (lanes_seen l.rows) l.i)) × (l.size ≤ 98315 * l.i)

-- The invariant: the lines up to `at` are read.
use Rattle.std.proofs.Common.{◌-◌, length}
use Rattle.annotation.specs.Numbered.{kind_number}
use Rattle.table.specs.Lent.{lanes_in, Kept}
use Rattle.ntnumber.specs.Lent.{list_in, KeptList, HashedIn}
use Rattle.ntread.proofs.Reached.{Reached}
use Rattle.ntread.proofs.lines.read_lines.Given as goal

abbrev pub invariant-loop-at : goal.invariant-loop-at
invariant-loop-at l = record {
  kept : Kept l.initial.table l.table;
  list_kept : KeptList l.initial.list l.list;
  reached : Reached (kind_number l.initial.table.kind) l.a l.b (lanes_in l.initial.table) (lanes_in l.table) (list_in l.initial.list) (list_in l.list) l.at l.table.count l.list.count;
  hashed : HashedIn l.list;
}

abbrev pub decreases-loop-at : goal.decreases-loop-at
decreases-loop-at l = length l.b - l.at

-- The reader stands on the book; what is read so far means what is left of it.
use Rattle.std.proofs.Common.{length, ◌-◌, ◌≡◌}
use Rattle.annotation.specs.Numbered.{kind_number}
use Rattle.table.specs.Lent.{lanes_in, Kept}
use Rattle.book.specs.Inner.{Reached}
use Rattle.book.proofs.fields.read_fields.Given as goal

abbrev pub invariant-loop-reader : goal.invariant-loop-reader
invariant-loop-reader l = record {
  kept : Kept l.initial.table l.table;
  on_book : l.reader.src.now ≡ l.book;
  reached : Reached (kind_number l.initial.table.kind) l.book l.start (lanes_in l.initial.table) (lanes_in l.table) l.reader.at l.table.count;
}

abbrev pub decreases-loop-reader : goal.decreases-loop-reader
decreases-loop-reader l = length l.reader.src.now - l.reader.at

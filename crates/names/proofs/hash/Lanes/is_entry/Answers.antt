use mathlib.Core.Path.{sym, ◌∙◌}
use Rattle.names.specs.Read.{lanes_read}
use Rattle.names.proofs.Entries.{end_within}
use Rattle.names.proofs.Hashing.{entry-is}
use Rattle.names.proofs.hash.Lanes.is_entry.Goals as goal

pub slice_bounds-same-end : goal.slice_bounds-same-end
slice_bounds-same-end c = rw c.from-to.ensures (end_within (lanes_read c.args.self) c.args.self.count c.requires.0 c.args.i c.requires.1)

pub returns-then-sort_of-sort : goal.returns-then-sort_of-sort
returns-then-sort_of-sort c =
    entry-is (lanes_read c.args.self) c.args.self.count c.requires.0 c.args.i c.requires.1 c.args.sort _ c.args.word.now _
    (sym c.sort_of.ensures ∙ c.if-sort_of-sort.true) c.start_of-from.ensures (rw c.from-to.ensures at c.same.ensures)

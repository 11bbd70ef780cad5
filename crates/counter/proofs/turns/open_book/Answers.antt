-- Cut, refused, or a table.
use Rattle.counter.proofs.Turning.{came_none, open_short, open_unread, open_done}
use Rattle.counter.proofs.turns.open_book.Goals as goal

pub returns-in_default : goal.returns-in_default
returns-in_default c =
    open_short c.args.s.now c.args.out.now c.requires.1 _ c.put_refused-cut.result (came_none c.args.s.now c.part_of.result c.part_of.ensures c.in_default.not-Whole) _ _ _ _ c.put_refused-cut.ensures

pub returns-then-head-gt0 : goal.returns-then-head-gt0
returns-then-head-gt0 c =
    open_unread c.args.s.now c.args.out.now c.requires.1 _ c.put_refused-refused.result c.in-Whole.book.now c.in-Whole.ensures.0 c.in-Whole.ensures.1 _ _ _ _ _ _ _ (rw c.requires.0 at c.read-head.ensures)
    c.if-head-gt0.true _ _ _ _ c.put_refused-refused.ensures

pub returns : goal.returns
returns c =
    open_done c.args.s.now c.args.out.now c.requires.1 c.args.out.now 0 c.in-Whole.book.now c.in-Whole.ensures.0 c.in-Whole.ensures.1 _ _ _ _ _ _ _ (rw c.requires.0 at c.read-head.ensures) c.if-head-gt0.false

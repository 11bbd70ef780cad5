-- Nothing is left behind white space, or a comment to the end.
use borrow.Author.Tests.{eq-eqb, ne_eqb}
use Rattle.ntline.proofs.Spans.{over-end}
use Rattle.ntline.proofs.Blanks.{over-remark, over_none}
use Rattle.ntline.proofs.lines.over.Goals as goal

pub returns-then-from-end : goal.returns-then-from-end
returns-then-from-end c = rw (eq-eqb _ _ c.if-from-end.true) (over-end c.args.b.now _ _ _ c.spaced-from.ensures c.if-from-end.true)

pub returns-then-b-from-eq35 : goal.returns-then-b-from-eq35
returns-then-b-from-eq35 c = over-remark c.args.b.now _ _ _ c.requires.1 c.spaced-from.ensures c.if-from-end.false c.if-b-from-eq35.true _ c.is_text.ensures

pub returns-else-b-from-eq35 : goal.returns-else-b-from-eq35
returns-else-b-from-eq35 c =
    rw (ne_eqb _ _ c.if-b-from-eq35.false) (over_none c.args.b.now _ _ _ c.requires.1 c.spaced-from.ensures c.if-from-end.false c.if-b-from-eq35.false)

-- Nothing left, cut in front, cut in the value, or whole.
use Rattle.std.proofs.Common.{◌∙◌}
use Rattle.field.proofs.Reading.{field_ends, field_cut_front, field_cut_value, field_whole}
use borrow.Author.Rules.{rules}
use Rattle.field.proofs.field_at.Goals as goal

pub returns-then-bytes-at : goal.returns-then-bytes-at
returns-then-bytes-at c = field_ends c.args.bytes.now c.args.at c.if-bytes-at.true

pub returns-then-left-lt-FRONT : goal.returns-then-left-lt-FRONT
returns-then-left-lt-FRONT c = field_cut_front c.args.bytes.now c.args.at c.if-bytes-at.false c.if-left-lt-FRONT.true

pub returns-then-left-size : goal.returns-then-left-size
returns-then-left-size c =
    field_cut_value c.args.bytes.now c.args.at c.if-bytes-at.false c.if-left-lt-FRONT.false _ (c.from-size.ensures ∙ c.two.ensures) (search rules)

pub returns : goal.returns
returns c =
    field_whole c.args.bytes.now c.args.at c.if-bytes-at.false c.if-left-lt-FRONT.false _ (c.from-size.ensures ∙ c.two.ensures) (search rules)

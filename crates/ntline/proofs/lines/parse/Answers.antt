-- Nothing, or a triple.
use mathlib.Core.Path.{sym, ◌∙◌}
use Rattle.ntline.proofs.Lining.{line-empty, line-full}
use Rattle.ntline.proofs.lines.parse.Goals as goal

pub returns-then-over : goal.returns-then-over
returns-then-over c = line-empty c.args.b.now c.args.at c.args.end (sym c.if-over.true ∙ c.over.ensures)

pub returns : goal.returns
returns c = line-full c.args.b.now c.args.at c.args.end c.subject.result (sym c.if-over.false ∙ c.over.ensures) c.subject.ensures

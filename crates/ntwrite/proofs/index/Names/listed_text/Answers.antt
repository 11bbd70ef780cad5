-- The text of the first entry that has the number, or no bytes.
use mathlib.Core.Path.{sym, ◌∙◌}
use native.Mathlib.Omega.{arith}
use Rattle.names.proofs.Looking.{first-text, first-none}
use Rattle.ntwrite.specs.Listed.{lanes_in}
use Rattle.ntwrite.proofs.index.Names.listed_text.Goals as goal

pub returns-in-Some : goal.returns-in-Some
returns-in-Some c = (
  c.text_at.ensures.0 ∙ sym (first-text (lanes_in c.args.self) c.args.self.count c.args.n c.in-Some.i c.in-Some.ensures.1 c.in-Some.ensures.0),
  omega (arith, c.text_at.ensures.1, c.args.self.fit.short),
)

pub returns-in-None : goal.returns-in-None
returns-in-None c = (sym (first-none (lanes_in c.args.self) c.args.self.count c.args.n c.args.self.count c.in-None.ensures (omega arith)), omega arith)

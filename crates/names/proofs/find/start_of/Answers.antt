-- 0, or the end before.
use mathlib.Core.Path.{◌∙◌}
use Rattle.names.proofs.Entries.{start_zero, start_next}
use Rattle.names.proofs.find.start_of.Goals as goal

pub returns-then-i-eq0 : goal.returns-then-i-eq0
returns-then-i-eq0 c = start_zero c.args.ends.now c.args.i c.if-i-eq0.true

pub returns-else-i-eq0 : goal.returns-else-i-eq0
returns-else-i-eq0 c = c.from.ensures ∙ start_next c.args.ends.now c.args.i c.if-i-eq0.false

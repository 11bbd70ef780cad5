-- One of the five, or by the list.
use mathlib.Core.Path.{sym, ap, ◌∙◌}
use native.Mathlib.Omega.{arith}
use lib.ListN.{length}
use Rattle.ntwrite.specs.Listed.{entries_in}
use Rattle.ntwrite.proofs.Pieces.{five_small, text-five, text-listed}
use Rattle.ntwrite.proofs.index.Names.text_size.Goals as goal

pub returns-then-n-lt-COUNT : goal.returns-then-n-lt-COUNT
returns-then-n-lt-COUNT c =
    (c.size_of.ensures ∙ ap length (sym (text-five (entries_in c.args.self) c.args.n c.if-n-lt-COUNT.true)), omega (arith, c.size_of.ensures, five_small c.args.n))

pub returns-else-n-lt-COUNT : goal.returns-else-n-lt-COUNT
returns-else-n-lt-COUNT c =
    let is = c.listed_text.ensures.0 ∙ sym (text-listed (entries_in c.args.self) c.args.n c.if-n-lt-COUNT.false) in
    (ap length is, c.listed_text.ensures.1)

-- Two bytes more than its text, but for a literal.
use native.Mathlib.Omega.{arith}
use Rattle.ntwrite.specs.Listed.{entries_in}
use Rattle.ntwrite.proofs.Pieces.{size-marked, size-literal}
use Rattle.ntwrite.proofs.index.Names.term_size.Goals as goal

pub returns-then-sort_of-lt-LITERAL : goal.returns-then-sort_of-lt-LITERAL
returns-then-sort_of-lt-LITERAL c =
    size-marked (entries_in c.args.self) c.args.n (omega (arith, c.sort_of.ensures, c.if-sort_of-lt-LITERAL.true)) _ c.text_size-size.ensures.0 c.text_size-size.ensures.1

pub returns-else-sort_of-lt-LITERAL : goal.returns-else-sort_of-lt-LITERAL
returns-else-sort_of-lt-LITERAL c =
    size-literal (entries_in c.args.self) c.args.n (omega (arith, c.sort_of.ensures, c.if-sort_of-lt-LITERAL.false)) _ c.text_size-size.ensures.0 c.text_size-size.ensures.1

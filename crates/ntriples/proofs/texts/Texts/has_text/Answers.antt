-- One of the five, or as the first entry that has the number is judged.
use mathlib.Core.Path.{◌∙◌}
use borrow.Author.Rules.{rules}
use borrow.Author.Tests.{lt-ltb}
use Rattle.ntwrite.specs.Listed.{lanes_in, entries_in}
use Rattle.ntriples.proofs.Rows.{judged_has_text}
use Rattle.ntriples.proofs.Fives.{five_has_text}
use Rattle.ntriples.proofs.texts.Texts.has_text.Goals as goal

pub returns-then-n-lt-COUNT : goal.returns-then-n-lt-COUNT
returns-then-n-lt-COUNT c = lt-ltb c.args.n 5 c.if-n-lt-COUNT.true ∙ five_has_text (entries_in c.args.self.names) c.args.n c.if-n-lt-COUNT.true

pub returns-else-n-lt-COUNT : goal.returns-else-n-lt-COUNT
returns-else-n-lt-COUNT c =
    let l = c.args.self.names in
    judged_has_text (lanes_in l) l.count c.args.n c.if-n-lt-COUNT.false c.args.self.marks.now c.args.self.judged c.entry_of.result _ _ c.entry_of.ensures (λ i q. search rules) c.is_some_and.ensures

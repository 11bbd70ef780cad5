-- A byte in the second edition, nothing in the first.
use mathlib.Core.Path.{sym, ◌∙◌}
use Rattle.ruleset.specs.Numbered.{set_number}
use Rattle.book.proofs.Writes.{rules-fit, rules-put, rules-left}
use Rattle.book.proofs.writing.put_rules.Goals as goal

pub bounds-out-7 : goal.bounds-out-7
bounds-out-7 c =
    let the-args = c.args in
    let the-pre = c.requires in
    let the-edition-for = c.edition_for in
    let the-if1 = c.if-edition_for-eq-SECOND_EDITION in
    rules-fit the-args.out.now (set_number the-args.rules) the-pre (sym the-edition-for.ensures ∙ the-if1.true)

pub returns-then-edition_for-eq-SECOND_EDITION : goal.returns-then-edition_for-eq-SECOND_EDITION
returns-then-edition_for-eq-SECOND_EDITION c =
    let the-args = c.args in
    let the-pre = c.requires in
    let the-edition-for = c.edition_for in
    let the-if1 = c.if-edition_for-eq-SECOND_EDITION in
    rw c.number.ensures (rules-put the-args.out.now (set_number the-args.rules) the-pre (sym the-edition-for.ensures ∙ the-if1.true))

pub returns-else-edition_for-eq-SECOND_EDITION : goal.returns-else-edition_for-eq-SECOND_EDITION
returns-else-edition_for-eq-SECOND_EDITION c =
    let the-args = c.args in
    let the-pre = c.requires in
    let the-if1 = c.if-edition_for-eq-SECOND_EDITION in
    let the-edition-for = c.edition_for in
    rules-left the-args.out.now (set_number the-args.rules) the-pre (λ e. the-if1.false (the-edition-for.ensures ∙ e))

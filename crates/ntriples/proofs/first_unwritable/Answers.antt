-- The first row whose test fails, or none.
use Rattle.std.proofs.Common.{rules, ◌≡◌, true, false, not, ℕ}
use borrow.Author.Tests.{tests}
use Rattle.std.proofs.lemmas.Iterator.{first_from_Range}
use Rattle.ntwrite.specs.Listed.{entries_in}
use Rattle.table.specs.Rows.{row_at}
use Rattle.table.specs.Lent.{lanes_seen}
use Rattle.ntriples.specs.Writing.{is_unwritable}
use Rattle.ntriples.proofs.Rows.{found_unwritable}
use Rattle.ntriples.proofs.first_unwritable.Goals as goal

pub returns : goal.returns
returns c =
    let es = entries_in c.args.texts.names in
    let l = lanes_seen c.args.rows.now in
    found_unwritable es l c.args.rows.now.count c.find.result
    (first_from_Range _ _ _ _ (λ (i : ℕ). true ≡ not (not (is_unwritable es (row_at l i)))) (λ (i : ℕ). false ≡ not (not (is_unwritable es (row_at l i))))
    c.find.ensures.ran
    (λ i q k. search (rules, tests))
    (λ i q k. search (rules, tests)))

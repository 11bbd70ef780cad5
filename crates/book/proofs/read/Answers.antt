-- Refused by the lanes, the length or the head, or as the fields behind it.
use Rattle.std.proofs.Common.{rules, refl, sym, ◌∙◌}
use Rattle.table.specs.Rows.{lanes}
use Rattle.term.specs.Refused.{verdict_of}
use Rattle.book.proofs.Whole.{read-unfit, read-long, read-headless, read-fresh, read_behind}
use Rattle.book.proofs.read.Goals as goal

pub returns-then-is_unfit : goal.returns-then-is_unfit
returns-then-is_unfit c =
    let a = c.args in
    read-unfit a.book.now (lanes a.subj.now a.pred.now a.obj.now a.ann.now) _ (sym c.is_unfit.ensures ∙ c.if-is_unfit.true) (rw c.at.ensures at c.refused.ensures)

pub returns-then-book-gt-LONGEST_BOOK : goal.returns-then-book-gt-LONGEST_BOOK
returns-then-book-gt-LONGEST_BOOK c =
    let a = c.args in
    read-long a.book.now (lanes a.subj.now a.pred.now a.obj.now a.ann.now) (sym c.is_unfit.ensures ∙ c.if-is_unfit.false) _ c.if-book-gt-LONGEST_BOOK.true
    (rw c.at-then-book-gt-LONGEST_BOOK.ensures at c.refused-then-book-gt-LONGEST_BOOK.ensures)

pub returns-in-Err : goal.returns-in-Err
returns-in-Err c =
    let a = c.args in
    read-headless a.book.now (lanes a.subj.now a.pred.now a.obj.now a.ann.now) (sym c.is_unfit.ensures ∙ c.if-is_unfit.false) c.if-book-gt-LONGEST_BOOK.false (verdict_of c.in-Err.e) c.in-Err.ensures _ _
    (search rules) c.refused-in-Err.ensures

pub read_body-requires : goal.read_body-requires
read_body-requires c =
    let a = c.args in
    read-fresh a.book.now (lanes a.subj.now a.pred.now a.obj.now a.ann.now) (sym c.is_unfit.ensures ∙ c.if-is_unfit.false) c.if-book-gt-LONGEST_BOOK.false c.in-Ok.head c.in-Ok.ensures

pub returns-in-Ok : goal.returns-in-Ok
returns-in-Ok c =
    let a = c.args in
    read_behind a.book.now (lanes a.subj.now a.pred.now a.obj.now a.ann.now) (sym c.is_unfit.ensures ∙ c.if-is_unfit.false) c.if-book-gt-LONGEST_BOOK.false c.in-Ok.head c.in-Ok.ensures _ _ _ refl c.read_body.ensures

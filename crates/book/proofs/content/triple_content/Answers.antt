-- Number by number, high byte first: subject, predicate, object, annotation.
use Rattle.std.proofs.lemmas.Result.{err_from_is_err_and}
use Rattle.book.specs.Format.{row_in}
use Rattle.annotation.specs.Numbered.{kind_number}
use Rattle.book.proofs.Contents.{content_by_subject, content_by_predicate, content_by_object, content_by_annotation, content_said}
use Rattle.book.proofs.content.triple_content.Goals as goal

pub returns-in_err-placed : goal.returns-in_err-placed
unfolding row_in
returns-in_err-placed c =
    let p = err_from_is_err_and c.from_residual.result c.from_residual.ensures.1 in
    let said = c.in_err-placed.ensures in
    rw (p.1, p.2) (content_by_subject (kind_number c.args.kind) c.args.book.now c.args.at _ c.two-s.ensures _ c.check_term.ensures said.0 _ said.1)

pub returns-in_err-placed-2 : goal.returns-in_err-placed-2
unfolding row_in
returns-in_err-placed-2 c =
    let p = err_from_is_err_and c.from_residual-in_err-placed-2.result c.from_residual-in_err-placed-2.ensures.1 in
    let said = c.in_err-placed-2.ensures in
    rw (p.1, p.2) (content_by_predicate (kind_number c.args.kind) c.args.book.now c.args.at _ c.two-s.ensures _ c.check_term.ensures c.in_ok-placed.ensures _ c.two-p.ensures _ c.check_predicate.ensures said.0 _ said.1)

pub returns-in_err-placed-3 : goal.returns-in_err-placed-3
unfolding row_in
returns-in_err-placed-3 c =
    let p = err_from_is_err_and c.from_residual-in_err-placed-3.result c.from_residual-in_err-placed-3.ensures.1 in
    let said = c.in_err-placed-3.ensures in
    rw (p.1, p.2) (content_by_object (kind_number c.args.kind) c.args.book.now c.args.at _ c.two-s.ensures _ c.check_term.ensures c.in_ok-placed.ensures _ c.two-p.ensures _ c.check_predicate.ensures c.in_ok-placed-2.ensures _ c.two-o.ensures _ c.check_term-2.ensures said.0 _ said.1)

pub returns-in_err-placed-4 : goal.returns-in_err-placed-4
unfolding row_in
returns-in_err-placed-4 c =
    let p = err_from_is_err_and c.from_residual-in_err-placed-4.result c.from_residual-in_err-placed-4.ensures.1 in
    let said = c.in_err-placed-4.ensures in
    rw (p.1, p.2) (content_by_annotation (kind_number c.args.kind) c.args.book.now c.args.at _ c.two-s.ensures _ c.check_term.ensures c.in_ok-placed.ensures _ c.two-p.ensures _ c.check_predicate.ensures c.in_ok-placed-2.ensures _ c.two-o.ensures _ c.check_term-2.ensures c.in_ok-placed-3.ensures _ c.eight-a.ensures _ c.check.ensures said.0 _ said.1)

pub returns : goal.returns
unfolding row_in
returns c = content_said (kind_number c.args.kind) c.args.book.now c.args.at _ c.two-s.ensures _ c.check_term.ensures c.in_ok-placed.ensures _ c.two-p.ensures _ c.check_predicate.ensures c.in_ok-placed-2.ensures _ c.two-o.ensures _ c.check_term-2.ensures c.in_ok-placed-3.ensures _ c.eight-a.ensures _ c.check.ensures c.in_ok-placed-4.ensures c.args.next

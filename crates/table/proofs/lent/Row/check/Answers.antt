-- By the first term, predicate or annotation that is refused.
use Rattle.std.proofs.Common.{◌∙◌, arith}
use Rattle.std.proofs.lemmas.Result.{err_from_is_err_and}
use Rattle.annotation.specs.Numbered.{kind_number}
use Rattle.table.specs.Rows.{row}
use Rattle.term.proofs.Sorts.{term-illegal}
use Rattle.term.proofs.Handing.{refusal_numbered, passed-legal, refused_by8}
use Rattle.table.proofs.Judging.{triple-by_subject, triple-by_object, triple-by_predicate, triple-by_annotation}
use Rattle.table.proofs.lent.Row.check.Goals as goal

pub returns-in_err-check_term : goal.returns-in_err-check_term
returns-in_err-check_term c =
    let p = err_from_is_err_and c.from_residual.result c.from_residual.ensures.1 in
    let k = refusal_numbered c.in_err-check_term.field-0.0 in
    let h = c.in_err-check_term.ensures in
    rw (p.1, p.2) (refused_by8 _ _ h k ∙ triple-by_subject (kind_number c.args.kind) (row c.args.self.s c.args.self.p c.args.self.o c.args.self.a) (term-illegal _ _ h k))

pub returns-in_err-check_term-2 : goal.returns-in_err-check_term-2
returns-in_err-check_term-2 c =
    let p = err_from_is_err_and c.from_residual-in_err-check_term-2.result c.from_residual-in_err-check_term-2.ensures.1 in
    let k = refusal_numbered c.in_err-check_term-2.field-0.0 in
    let h = c.in_err-check_term-2.ensures in
    rw (p.1, p.2) (refused_by8 _ _ h k ∙ triple-by_object (kind_number c.args.kind) (row c.args.self.s c.args.self.p c.args.self.o c.args.self.a) (passed-legal _ c.in_ok-check_term.ensures) (term-illegal _ _ h k))

pub returns-in_err-check_predicate : goal.returns-in_err-check_predicate
returns-in_err-check_predicate c =
    let p = err_from_is_err_and c.from_residual-in_err-check_predicate.result c.from_residual-in_err-check_predicate.ensures.1 in
    rw (p.1, p.2)
    (triple-by_predicate (kind_number c.args.kind) (row c.args.self.s c.args.self.p c.args.self.o c.args.self.a) _
    (passed-legal _ c.in_ok-check_term.ensures) (passed-legal _ c.in_ok-check_term-2.ensures)
    c.in_err-check_predicate.ensures (refusal_numbered c.in_err-check_predicate.field-0.0))

pub returns : goal.returns
returns c =
    triple-by_annotation (kind_number c.args.kind) (row c.args.self.s c.args.self.p c.args.self.o c.args.self.a) 0 _
    (passed-legal _ c.in_ok-check_term.ensures) (passed-legal _ c.in_ok-check_term-2.ensures)
    c.in_ok-check_predicate.ensures (omega arith) c.check.ensures

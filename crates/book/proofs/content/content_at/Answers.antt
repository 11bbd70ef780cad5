-- By what stands there: a cut field, a second head, another tag or length, a triple.
use Rattle.std.proofs.Common.{sym, ◌∙◌, arith}
use borrow.Author.Tests.{eqb-true, not-false}
use Rattle.std.proofs.lemmas.Result.{err_from_is_err_and}
use Rattle.field.proofs.Reading.{is_whole}
use Rattle.annotation.specs.Numbered.{kind_number}
use Rattle.book.proofs.Contents.{field_by_cut, field_by_head, field_by_tag, field_by_size, field_by_content}
use Rattle.book.proofs.content.content_at.Goals as goal

pub returns-in_default : goal.returns-in_default
returns-in_default c = rw c.at.ensures (field_by_cut (kind_number c.args.kind) c.args.book.now c.args.at c.requires.0 c.args.field c.requires.1 c.in_default.not-Whole)

pub returns-in_err-refuse : goal.returns-in_err-refuse
returns-in_err-refuse c =
    let p = err_from_is_err_and c.from_residual.result c.from_residual.ensures.1 in
    let said = c.in_err-refuse.ensures in
    let whole = is_whole c.args.book.now c.args.at c.in-Whole.tag c.in-Whole.size (sym c.in-Whole.is ∙ c.requires.1) in
    rw (p.1, p.2) (field_by_head (kind_number c.args.kind) c.args.book.now c.args.at c.in-Whole.tag c.in-Whole.size whole said.0 _ said.1)

pub returns-in_err-refuse-2 : goal.returns-in_err-refuse-2
returns-in_err-refuse-2 c =
    let p = err_from_is_err_and c.from_residual-in_err-refuse-2.result c.from_residual-in_err-refuse-2.ensures.1 in
    let said = c.in_err-refuse-2.ensures in
    let whole = is_whole c.args.book.now c.args.at c.in-Whole.tag c.in-Whole.size (sym c.in-Whole.is ∙ c.requires.1) in
    rw (p.1, p.2) (field_by_tag (kind_number c.args.kind) c.args.book.now c.args.at c.in-Whole.tag c.in-Whole.size whole c.in_ok-refuse.ensures said.0 _ said.1)

pub returns-in_err-refuse-3 : goal.returns-in_err-refuse-3
returns-in_err-refuse-3 c =
    let p = err_from_is_err_and c.from_residual-in_err-refuse-3.result c.from_residual-in_err-refuse-3.ensures.1 in
    let said = c.in_err-refuse-3.ensures in
    let whole = is_whole c.args.book.now c.args.at c.in-Whole.tag c.in-Whole.size (sym c.in-Whole.is ∙ c.requires.1) in
    rw (p.1, p.2) (field_by_size (kind_number c.args.kind) c.args.book.now c.args.at c.in-Whole.tag c.in-Whole.size whole c.in_ok-refuse.ensures c.in_ok-refuse-2.ensures said.0 _ said.1)

pub triple_content-requires : goal.triple_content-requires
triple_content-requires c =
    let whole = is_whole c.args.book.now c.args.at c.in-Whole.tag c.in-Whole.size (sym c.in-Whole.is ∙ c.requires.1) in
    omega (arith, whole.fits, eqb-true c.in-Whole.size 14 (not-false _ c.in_ok-refuse-3.ensures))

pub returns : goal.returns
returns c =
    let whole = is_whole c.args.book.now c.args.at c.in-Whole.tag c.in-Whole.size (sym c.in-Whole.is ∙ c.requires.1) in
    field_by_content (kind_number c.args.kind) c.args.book.now c.args.at c.in-Whole.tag c.in-Whole.size whole c.in_ok-refuse.ensures c.in_ok-refuse-2.ensures c.in_ok-refuse-3.ensures _ c.triple_content.ensures

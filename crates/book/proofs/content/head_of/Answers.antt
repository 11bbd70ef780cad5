-- By what stands at the front: nothing, a cut field, a field of another tag or length, a head.
use Rattle.std.proofs.lemmas.Result.{err_from_is_err_and}
use Rattle.field.proofs.Reading.{is-end, is_cut, is_whole}
use Rattle.book.proofs.Heads.{head_empty, head_cut, head_by_tag, head_by_size, head_field, head_by_content}
use Rattle.book.proofs.content.head_of.Goals as goal

pub returns-in-End : goal.returns-in-End
returns-in-End c = rw c.at.ensures (head_empty c.args.book.now (is-end c.args.book.now 0 c.in-End.ensures))

pub returns-in-Cut : goal.returns-in-Cut
returns-in-Cut c = let w = is_cut c.args.book.now 0 c.in-Cut.ensures in rw c.at-in-Cut.ensures (head_cut c.args.book.now w.0 w.1)

pub returns-in_err-refuse-in-Whole : goal.returns-in_err-refuse-in-Whole
returns-in_err-refuse-in-Whole c =
    let p = err_from_is_err_and c.from_residual.result c.from_residual.ensures.1 in
    let said = c.in_err-refuse-in-Whole.ensures in
    let whole = is_whole c.args.book.now 0 c.in-Whole.tag c.in-Whole.size c.in-Whole.ensures in
    rw (p.1, p.2) (head_by_tag c.args.book.now c.in-Whole.tag c.in-Whole.size whole said.0 _ said.1)

pub returns-in_err-refuse-in-Whole-2 : goal.returns-in_err-refuse-in-Whole-2
returns-in_err-refuse-in-Whole-2 c =
    let p = err_from_is_err_and c.from_residual-in_err-refuse-in-Whole-2.result c.from_residual-in_err-refuse-in-Whole-2.ensures.1 in
    let said = c.in_err-refuse-in-Whole-2.ensures in
    let whole = is_whole c.args.book.now 0 c.in-Whole.tag c.in-Whole.size c.in-Whole.ensures in
    rw (p.1, p.2) (head_by_size c.args.book.now c.in-Whole.tag c.in-Whole.size whole c.in_ok-refuse-in-Whole.ensures _ c.is_head_length.ensures said.0 _ said.1)

pub head_content-requires : goal.head_content-requires
head_content-requires c =
    let whole = is_whole c.args.book.now 0 c.in-Whole.tag c.in-Whole.size c.in-Whole.ensures in
    head_field c.args.book.now c.in-Whole.tag c.in-Whole.size whole c.in_ok-refuse-in-Whole.ensures _ c.is_head_length.ensures c.in_ok-refuse-in-Whole-2.ensures

pub returns-in_ok-refuse-in-Whole-2 : goal.returns-in_ok-refuse-in-Whole-2
returns-in_ok-refuse-in-Whole-2 c =
    let whole = is_whole c.args.book.now 0 c.in-Whole.tag c.in-Whole.size c.in-Whole.ensures in
    head_by_content c.args.book.now c.in-Whole.tag c.in-Whole.size whole c.in_ok-refuse-in-Whole.ensures _ c.is_head_length.ensures c.in_ok-refuse-in-Whole-2.ensures _ c.head_content.ensures

-- Edition, and the length that suits it.
use Rattle.std.proofs.lemmas.Result.{err_from_is_err_and}
use Rattle.book.proofs.Heads.{content_by_edition, content_by_length, content_behind}
use Rattle.book.proofs.content.head_content.Goals as goal

pub returns-in_err-refuse : goal.returns-in_err-refuse
returns-in_err-refuse c =
    let p = err_from_is_err_and c.from_residual.result c.from_residual.ensures.1 in
    let said = c.in_err-refuse.ensures in
    rw (p.1, p.2) (content_by_edition c.args.book.now _ c.is_edition.ensures said.0 _ said.1)

pub returns-in_err-refuse-2 : goal.returns-in_err-refuse-2
returns-in_err-refuse-2 c =
    let p = err_from_is_err_and c.from_residual-in_err-refuse-2.result c.from_residual-in_err-refuse-2.ensures.1 in
    let said = c.in_err-refuse-2.ensures in
    rw (p.1, p.2) (content_by_length c.args.book.now _ c.is_edition.ensures c.in_ok-refuse.ensures _ c.requires.size_is _ c.head_length.ensures said.0 _ said.1)

pub returns : goal.returns
returns c = content_behind c.args.book.now _ c.is_edition.ensures c.in_ok-refuse.ensures _ c.requires.size_is _ c.head_length.ensures c.in_ok-refuse-2.ensures _ c.head_says.ensures

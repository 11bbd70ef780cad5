-- No such kind or rule set, or as the rows say.
use Rattle.std.proofs.Common.{◌∙◌}
use Rattle.std.proofs.lemmas.Result.{err_from_is_err_and}
use Rattle.table.specs.Lent.{lanes_seen}
use Rattle.closing.proofs.Judging.{close_by_known}
use Rattle.closing.proofs.judge.checked.Goals as goal

pub returns-in_err-numbered : goal.returns-in_err-numbered
returns-in_err-numbered c =
    let p = err_from_is_err_and c.from_residual.result c.from_residual.ensures.1 in
    rw (p.1, p.2) (c.in_err-numbered.ensures (lanes_seen c.args.rows.now) c.args.rows.now.count)

pub returns : goal.returns
returns c =
    let e = c.in_ok-numbered.ensures in
    let t = c.args.rows.now in
    rw (e.0, e.1) at (c.check.ensures ∙ close_by_known c.in_ok-numbered.numbered.0 c.in_ok-numbered.numbered.1 (lanes_seen t) t.count)

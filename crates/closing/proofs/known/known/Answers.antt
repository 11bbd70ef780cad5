-- No such kind, or no such rule set.
use Rattle.std.proofs.Common.{arith}
use Rattle.std.proofs.lemmas.Result.{err_from_is_err_and}
use Rattle.annotation.proofs.Known.{kind-passes, unknown_is4}
use Rattle.closing.proofs.Judging.{unknown_is36, close_by_kind, close_by_set}
use Rattle.closing.proofs.known.known.Goals as goal

pub returns-in_err-kind : goal.returns-in_err-kind
returns-in_err-kind c =
    let p = err_from_is_err_and c.from_residual.result c.from_residual.ensures.1 in
    let e = c.in_err-kind.ensures in
    rw (p.1, p.2, e.0) (λ l n. close_by_kind c.args.kind c.args.rules l n 4 (unknown_is4 c.args.kind e.1) (omega arith))

pub returns-in_err-rules : goal.returns-in_err-rules
returns-in_err-rules c =
    let p = err_from_is_err_and c.from_residual-in_err-rules.result c.from_residual-in_err-rules.ensures.1 in
    let kind = rw c.in_ok-kind.ensures at (kind-passes c.in_ok-kind.kind) in
    let e = c.in_err-rules.ensures in
    rw (p.1, p.2, e.0) (λ l n. close_by_set c.args.kind c.args.rules l n 0 kind (omega arith) 36 (unknown_is36 c.args.rules e.1) (omega arith))

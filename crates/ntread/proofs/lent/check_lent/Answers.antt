-- Check by check.
use Rattle.std.proofs.Common.{arith, lit<}
use Rattle.std.proofs.lemmas.Result.{err_from_is_err_and}
use Rattle.annotation.proofs.Known.{known_passes, unknown_is4}
use Rattle.table.specs.Lent.{lanes_seen}
use Rattle.names.specs.Names.{lanes_of}
use Rattle.ntread.proofs.Whole.{lent-kind, lent-unfit, lent-list, lent-long, lent-annotation}
use Rattle.ntread.proofs.lent.check_lent.Goals as goal
use Rattle.ntread.proofs.lent.check_lent.Goals.{then-is_unfit-via-then-is_unfit, then-is_unfit-via-else-is_unfit+then-is_unfit-2}

pub returns-in_err-kind-clause-judged : goal.returns-in_err-kind-clause-judged
returns-in_err-kind-clause-judged c =
    let p = err_from_is_err_and c.from_residual.result c.from_residual.ensures.1 in
    let a = c.args in
    let e = c.in_err-kind.ensures in
    rw (p.1, p.2, e.0) (lent-kind a.kind a.a a.file.now (lanes_seen a.rows.now) (lanes_of a.terms.now a.ends.now a.text.now) 4 (unknown_is4 _ e.1) (lit< tt))

pub returns-then-is_unfit-clause-judged : goal.returns-then-is_unfit-clause-judged
returns-then-is_unfit-clause-judged c =
    let a = c.args in
    let k = c.in_ok-kind in
    let n = lanes_of a.terms.now a.ends.now a.text.now in
    elim c.then-is_unfit.branch [
      | then-is_unfit-via-then-is_unfit w ↦ lent-unfit a.kind a.a a.file.now (lanes_seen a.rows.now) n 0 (known_passes k.kind _ k.ensures) (omega arith) _ c.is_unfit.ensures w.if-is_unfit.true
      | then-is_unfit-via-else-is_unfit+then-is_unfit-2 w ↦ lent-list a.kind a.a a.file.now (lanes_seen a.rows.now) n 0 (known_passes k.kind _ k.ensures) (omega arith) _ c.is_unfit.ensures w.if-is_unfit.false _ w.is_unfit-else-is_unfit.ensures w.if-is_unfit-2.true
    ]

pub returns-then-file-gt-LONGEST_FILE-clause-judged : goal.returns-then-file-gt-LONGEST_FILE-clause-judged
returns-then-file-gt-LONGEST_FILE-clause-judged c =
    let a = c.args in
    let k = c.in_ok-kind in
    lent-long a.kind a.a a.file.now (lanes_seen a.rows.now) (lanes_of a.terms.now a.ends.now a.text.now) 0 (known_passes k.kind _ k.ensures) (omega arith)
    _ c.is_unfit.ensures c.if-is_unfit.false _ c.is_unfit-else-is_unfit.ensures c.if-is_unfit-2.false c.if-file-gt-LONGEST_FILE.true

pub returns-in_err-check-clause-judged : goal.returns-in_err-check-clause-judged
returns-in_err-check-clause-judged c =
    let p = err_from_is_err_and c.from_residual-in_err-check.result c.from_residual-in_err-check.ensures.1 in
    let a = c.args in
    let k = c.in_ok-kind in
    rw (p.1, p.2)
    (lent-annotation a.kind a.a a.file.now (lanes_seen a.rows.now) (lanes_of a.terms.now a.ends.now a.text.now) 0 (known_passes k.kind _ k.ensures) (omega arith)
    _ c.is_unfit.ensures c.if-is_unfit.false _ c.is_unfit-else-is_unfit.ensures c.if-is_unfit-2.false c.if-file-gt-LONGEST_FILE.false _ (rw k.ensures at c.in_err-check.ensures))

pub returns-clause-judged : goal.returns-clause-judged
returns-clause-judged c =
    let a = c.args in
    let k = c.in_ok-kind in
    lent-annotation a.kind a.a a.file.now (lanes_seen a.rows.now) (lanes_of a.terms.now a.ends.now a.text.now) 0 (known_passes k.kind _ k.ensures) (omega arith)
    _ c.is_unfit.ensures c.if-is_unfit.false _ c.is_unfit-else-is_unfit.ensures c.if-is_unfit-2.false c.if-file-gt-LONGEST_FILE.false _ (rw k.ensures at c.in_ok-check.ensures)

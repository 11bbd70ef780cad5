-- Refused by the table, the list, a row or the room, in this order; or every line is laid.
use Rattle.std.proofs.Common.{◌≡◌, refl, arith, lit<}
use Rattle.std.proofs.lemmas.Result.{err_from_is_err_and}
use Rattle.term.proofs.Handing.{refusal_numbered}
use Rattle.annotation.proofs.Known.{unknown_is4}
use Rattle.table.specs.Lent.{lanes_seen}
use Rattle.table.proofs.Judging.{table-by_kind}
use Rattle.names.specs.Names.{lanes_of, entries_of}
use Rattle.ntwrite.specs.Listed.{entries_in}
use Rattle.ntriples.proofs.Writes.{refused-table, refused-lanes, refused-count, to-judged, refused-row, refused-room, room-left, all_written}
use Rattle.ntriples.proofs.write.Goals as goal

pub returns-in_err-kind : goal.returns-in_err-kind
returns-in_err-kind c =
    let p = err_from_is_err_and c.from_residual.result c.from_residual.ensures.1 in
    let a = c.args in
    let e = c.in_err-kind.ensures in
    rw (p.1, p.2, e.0)
    (refused-table a.kind (lanes_seen a.rows.now) a.rows.now.count (lanes_of a.terms.now a.ends.now a.text.now) a.names a.out.now _ (table-by_kind a.kind (lanes_seen a.rows.now) a.rows.now.count 4 (unknown_is4 _ e.1) (lit< tt)) (lit< tt))

pub returns-in_err-check : goal.returns-in_err-check
returns-in_err-check c =
    let p = err_from_is_err_and c.from_residual-in_err-check.result c.from_residual-in_err-check.ensures.1 in
    let a = c.args in
    let k = c.in_ok-kind in
    rw (p.1, p.2)
    (refused-table a.kind (lanes_seen a.rows.now) a.rows.now.count (lanes_of a.terms.now a.ends.now a.text.now) a.names a.out.now _ (rw k.ensures at c.in_err-check.ensures) (refusal_numbered c.in_err-check.field-0.0.why))

pub returns-then-is_unfit : goal.returns-then-is_unfit
returns-then-is_unfit c =
    let a = c.args in
    rw c.at.ensures (refused-lanes a.kind (lanes_seen a.rows.now) a.rows.now.count (lanes_of a.terms.now a.ends.now a.text.now) a.names a.out.now _ (rw c.in_ok-kind.ensures at c.in_ok-check.ensures) (omega arith) _ c.is_unfit.ensures c.if-is_unfit.true)

pub returns-then-terms-names : goal.returns-then-terms-names
returns-then-terms-names c =
    let a = c.args in
    rw c.at-then-terms-names.ensures
    (refused-count a.kind (lanes_seen a.rows.now) a.rows.now.count (lanes_of a.terms.now a.ends.now a.text.now) a.names a.out.now _ (rw c.in_ok-kind.ensures at c.in_ok-check.ensures) (omega arith) _ c.is_unfit.ensures c.if-is_unfit.false c.if-terms-names.true)

pub first_unwritable-requires : goal.first_unwritable-requires
first_unwritable-requires c =
    let a = c.args in
    to-judged a.kind (lanes_seen a.rows.now) a.rows.now.count (lanes_of a.terms.now a.ends.now a.text.now) a.names a.out.now _ (rw c.in_ok-kind.ensures at c.in_ok-check.ensures) (omega arith) _ c.is_unfit.ensures c.if-is_unfit.false c.if-terms-names.false

pub returns-in-Some : goal.returns-in-Some
returns-in-Some c =
    let a = c.args in
    let same : entries_in c.new-list.result ≡ entries_of (lanes_of a.terms.now a.ends.now a.text.now) a.names = rw (c.new-list.ensures.lanes, c.new-list.ensures.count) refl in
    rw c.at-in-Some.ensures
    (refused-row a.kind (lanes_seen a.rows.now) a.rows.now.count (lanes_of a.terms.now a.ends.now a.text.now) a.names a.out.now _ (rw c.in_ok-kind.ensures at c.in_ok-check.ensures) (omega arith) _ c.is_unfit.ensures c.if-is_unfit.false c.if-terms-names.false _ (rw same at c.in-Some.ensures.1) c.in-Some.ensures.0)

pub file_size-size-requires : goal.file_size-size-requires
file_size-size-requires c =
    let a = c.args in
    to-judged a.kind (lanes_seen a.rows.now) a.rows.now.count (lanes_of a.terms.now a.ends.now a.text.now) a.names a.out.now _ (rw c.in_ok-kind.ensures at c.in_ok-check.ensures) (omega arith) _ c.is_unfit.ensures c.if-is_unfit.false c.if-terms-names.false

pub returns-then-out-size : goal.returns-then-out-size
returns-then-out-size c =
    let a = c.args in
    let same : entries_in c.new-list.result ≡ entries_of (lanes_of a.terms.now a.ends.now a.text.now) a.names = rw (c.new-list.ensures.lanes, c.new-list.ensures.count) refl in
    rw c.at-then-out-size.ensures
    (refused-room a.kind (lanes_seen a.rows.now) a.rows.now.count (lanes_of a.terms.now a.ends.now a.text.now) a.names a.out.now _ (rw c.in_ok-kind.ensures at c.in_ok-check.ensures) (omega arith) _ c.is_unfit.ensures c.if-is_unfit.false c.if-terms-names.false _ (rw same at c.in_default.ensures) (omega arith) _ (rw same at c.file_size-size.ensures) c.if-out-size.true)

pub put_lines-requires : goal.put_lines-requires
put_lines-requires c =
    let a = c.args in (
      to-judged a.kind (lanes_seen a.rows.now) a.rows.now.count (lanes_of a.terms.now a.ends.now a.text.now) a.names a.out.now _ (rw c.in_ok-kind.ensures at c.in_ok-check.ensures) (omega arith) _ c.is_unfit.ensures c.if-is_unfit.false c.if-terms-names.false,
      room-left _ _ _ c.file_size-size.ensures c.if-out-size.false,
    )

pub returns : goal.returns
returns c =
    let a = c.args in
    let same : entries_in c.new-list.result ≡ entries_of (lanes_of a.terms.now a.ends.now a.text.now) a.names = rw (c.new-list.ensures.lanes, c.new-list.ensures.count) refl in
    all_written a.kind (lanes_seen a.rows.now) a.rows.now.count (lanes_of a.terms.now a.ends.now a.text.now) a.names a.out.now _ (rw c.in_ok-kind.ensures at c.in_ok-check.ensures) (omega arith) _ c.is_unfit.ensures c.if-is_unfit.false c.if-terms-names.false _ (rw same at c.in_default.ensures) (omega arith) _ (rw same at c.file_size-size.ensures) c.if-out-size.false _ (rw same at c.put_lines.ensures)

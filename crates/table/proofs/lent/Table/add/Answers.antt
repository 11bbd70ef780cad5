-- Refused by the table, by the triple, or as `put_row` finds room.
use Rattle.std.proofs.Common.{refl, arith}
use Rattle.std.proofs.lemmas.Result.{err_from_is_err_and}
use Rattle.term.specs.Refusal.{done}
use Rattle.term.proofs.Handing.{refusal_numbered}
use Rattle.annotation.specs.Numbered.{kind_number}
use Rattle.table.specs.Rows.{row}
use Rattle.table.specs.Lent.{lanes_in}
use Rattle.table.proofs.Adds.{add_by_table, add_by_triple, added_to_sound, added_legal, add_by_put}
use Rattle.table.proofs.lent.Table.add.Goals as goal

pub returns-in_err-check-clause-adding : goal.returns-in_err-check-clause-adding
returns-in_err-check-clause-adding c =
    let t = c.args.self.now in
    let r = c.rows.ensures in
    let p = err_from_is_err_and c.from_residual.result c.from_residual.ensures.1 in
    let e = rw (r.same_subj, r.same_pred, r.same_obj, r.same_ann, r.same_count) at c.in_err-check.ensures in
    rw (p.1, p.2) (add_by_table (kind_number t.kind) (row c.args.r.s c.args.r.p c.args.r.o c.args.r.a) (lanes_in t) t.count _ e (refusal_numbered c.in_err-check.field-0.0.why))

pub returns-in_err-check-2-clause-adding : goal.returns-in_err-check-2-clause-adding
returns-in_err-check-2-clause-adding c =
    let t = c.args.self.now in
    let r = c.rows.ensures in
    let p = err_from_is_err_and c.from_residual-in_err-check-2.result c.from_residual-in_err-check-2.ensures.1 in
    let e = rw (r.same_subj, r.same_pred, r.same_obj, r.same_ann, r.same_count) at c.in_ok-check.ensures in
    rw (p.1, p.2)
    (add_by_triple (kind_number t.kind) (row c.args.r.s c.args.r.p c.args.r.o c.args.r.a) (lanes_in t) t.count done e (omega arith) _ c.in_err-check-2.ensures (refusal_numbered c.in_err-check-2.field-0.0))

pub put_row-requires : goal.put_row-requires
put_row-requires c =
    let t = c.args.self.now in
    let r = c.rows.ensures in
    let e = rw (r.same_subj, r.same_pred, r.same_obj, r.same_ann, r.same_count) at c.in_ok-check.ensures in
    record {
      sound = added_to_sound (kind_number t.kind) (row c.args.r.s c.args.r.p c.args.r.o c.args.r.a) (lanes_in t) t.count done e (omega arith);
      legal = added_legal (kind_number t.kind) (row c.args.r.s c.args.r.p c.args.r.o c.args.r.a) (lanes_in t) t.count done e (omega arith) 0 c.in_ok-check-2.ensures (omega arith);
    }

pub returns-in_err-put_row-clause-adding : goal.returns-in_err-put_row-clause-adding
returns-in_err-put_row-clause-adding c =
    let t = c.args.self.now in
    let r = c.rows.ensures in
    let p = err_from_is_err_and c.from_residual-in_err-put_row.result c.from_residual-in_err-put_row.ensures.1 in
    let e = rw (r.same_subj, r.same_pred, r.same_obj, r.same_ann, r.same_count) at c.in_ok-check.ensures in
    rw (p.1, p.2)
    (add_by_put (kind_number t.kind) (row c.args.r.s c.args.r.p c.args.r.o c.args.r.a) (lanes_in t) t.count done e (omega arith) 0 c.in_ok-check-2.ensures (omega arith)
    _ _ _ _ 12 c.in_err-put_row.ensures.put refl)

pub returns-clause-adding : goal.returns-clause-adding
returns-clause-adding c =
    let t = c.args.self.now in
    let r = c.rows.ensures in
    let e = rw (r.same_subj, r.same_pred, r.same_obj, r.same_ann, r.same_count) at c.in_ok-check.ensures in
    add_by_put (kind_number t.kind) (row c.args.r.s c.args.r.p c.args.r.o c.args.r.a) (lanes_in t) t.count done e (omega arith) 0 c.in_ok-check-2.ensures (omega arith)
    _ _ _ _ 0 c.in_ok-put_row.ensures.put refl

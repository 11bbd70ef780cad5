-- Refused by the check, full, or closed: a law each.
use Rattle.std.proofs.Common.{arith, refl, ◌∙◌}
use Rattle.std.proofs.lemmas.Result.{err_from_is_err_and}
use Rattle.term.proofs.Handing.{refusal_numbered}
use Rattle.ruleset.specs.Numbered.{set_number}
use Rattle.table.specs.Lent.{lanes_in}
use Rattle.closing.proofs.Judging.{close_by_known}
use Rattle.closing.proofs.Whole.{closing_refused, closing_ready, closing_done, closing_no_room}
use Rattle.closing.proofs.close_table.Goals as goal

pub returns-in_err-check-clause-closing : goal.returns-in_err-check-clause-closing
returns-in_err-check-clause-closing c =
    let t = c.args.table.now in
    let r = c.rows-rows.ensures in
    let p = err_from_is_err_and c.from_residual.result c.from_residual.ensures.1 in
    let checked = rw (r.same_subj, r.same_pred, r.same_obj, r.same_ann, r.same_count) at c.in_err-check.ensures in
    rw (p.1, p.2) (closing_refused (checked ∙ close_by_known t.kind c.args.rules (lanes_in t) t.count) (refusal_numbered c.in_err-check.field-0.0.why))

pub saturate-requires : goal.saturate-requires
saturate-requires c =
    let t = c.args.table.now in
    let r = c.rows-rows.ensures in
    let checked = rw (r.same_subj, r.same_pred, r.same_obj, r.same_ann, r.same_count) at c.in_ok-check.ensures in
    (closing_ready (set_number c.args.rules) (checked ∙ close_by_known t.kind c.args.rules (lanes_in t) t.count) (omega arith)).1

pub returns-in-Ok-clause-closing : goal.returns-in-Ok-clause-closing
returns-in-Ok-clause-closing c =
    let t = c.args.table.now in
    let r = c.rows-rows.ensures in
    let checked = rw (r.same_subj, r.same_pred, r.same_obj, r.same_ann, r.same_count) at c.in_ok-check.ensures in
    let ready = closing_ready (set_number c.args.rules) (checked ∙ close_by_known t.kind c.args.rules (lanes_in t) t.count) (omega arith) in
    let saturated = rw c.number.ensures at c.in-Ok.ensures.saturated in
    rw c.wipe_past.ensures.same_count (closing_done (set_number c.args.rules) ready saturated refl c.wipe_past.ensures.wiped)

pub returns-in-Err-clause-closing : goal.returns-in-Err-clause-closing
returns-in-Err-clause-closing c =
    let t = c.args.table.now in
    let r = c.rows-rows.ensures in
    let checked = rw (r.same_subj, r.same_pred, r.same_obj, r.same_ann, r.same_count) at c.in_ok-check.ensures in
    let ready = closing_ready (set_number c.args.rules) (checked ∙ close_by_known t.kind c.args.rules (lanes_in t) t.count) (omega arith) in
    let saturated = rw c.number.ensures at c.in-Err.ensures.saturated in
    rw c.from.ensures (closing_no_room (set_number c.args.rules) ready saturated refl c.wipe.ensures.wiped)

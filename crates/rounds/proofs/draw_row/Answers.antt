use Rattle.std.proofs.Common.{rules}
use Rattle.std.proofs.lemmas.Result.{err_from_is_err_and}
use Rattle.plans.proofs.Counting.{within-plans, plan_of_set, past_plans}
use Rattle.plans.proofs.Obeying.{set-driven}
use Rattle.walks.proofs.Rising.{either_or, risen-then}
use Rattle.rounds.proofs.Staying.{set-staying}
use Rattle.rounds.proofs.Rounding.{told_or, told_still, row-start, row-pursued, row-turn, row-end}
use Rattle.rounds.proofs.draw_row.Goals as goal
use Rattle.rounds.proofs.draw_row.Goals.{then-done, else-done}

pub loop-rule-init : goal.loop-rule-init
loop-rule-init c = record { kept = search rules; drew = row-start (set-driven c.args.rules) c.requires }

pub pursue-requires : goal.pursue-requires
pursue-requires c =
    let r = c.rows.ensures in
    let row = rw (r.same_subj, r.same_pred, r.same_obj, r.same_ann) at c.row-r.ensures in
    let i = c.loop-rule.invariant in
    rw (row, i.kept.same_kind)
    (row-pursued (set-driven c.args.rules) c.requires i.drew.risen c.loop-rule.rule
    (within-plans c.args.rules _ c.plan_count-rule-end.ensures c.loop-rule-test.true)
    (plan_of_set c.args.rules _ c.plan_count-rule-end.ensures c.loop-rule-test.true (rw row at c.plan_of-plan.ensures)))

pub returns-in_err-done-clause-drawn : goal.returns-in_err-done-clause-drawn
returns-in_err-done-clause-drawn c =
    let p = err_from_is_err_and c.from_residual.result c.from_residual.ensures.1 in
    let i = c.loop-rule.invariant in
    let walked = rw i.kept.same_kind at c.in_err-done.ensures.walked in
    rw p.1 (_, risen-then i.drew.risen walked.risen (either_or _ _))

pub loop-rule-preserved : goal.loop-rule-preserved
loop-rule-preserved c =
    let r = c.rows.ensures in
    let row = rw (r.same_subj, r.same_pred, r.same_obj, r.same_ann) at c.row-r.ensures in
    let i = c.loop-rule.invariant in
    let walked = rw (row, i.kept.same_kind) at c.in_ok-done.ensures.walked in
    let within = within-plans c.args.rules _ c.plan_count-rule-end.ensures c.loop-rule-test.true in
    let plan = plan_of_set c.args.rules _ c.plan_count-rule-end.ensures c.loop-rule-test.true (rw row at c.plan_of-plan.ensures) in
    record {
      kept = search rules;
      drew = elim c.if-done.branch [
        | then-done w ↦ rw (w.row-is, w.subject-s.ensures, row)
            (row-turn (set-driven c.args.rules) c.requires (set-staying c.args.rules) i.drew within plan walked (rw w.if-done.true (told_or _ _ _)) (rw w.if-done.true (told_or _ _ _)) (either_or _ _))
        | else-done w ↦ rw w.row-is
            (row-turn (set-driven c.args.rules) c.requires (set-staying c.args.rules) i.drew within plan walked (rw w.if-done.false (told_still _ _ _)) (rw w.if-done.false (told_still _ _ _)) (either_or _ _))
      ];
    }

pub returns-clause-drawn : goal.returns-clause-drawn
returns-clause-drawn c =
    row-end (set-driven c.args.rules) c.requires c.loop-rule.invariant.drew (past_plans c.args.rules _ c.plan_count-rule-end.ensures c.loop-rule-test.false)

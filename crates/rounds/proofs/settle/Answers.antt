use Rattle.std.proofs.Common.{rules}
use Rattle.std.proofs.lemmas.Result.{err_from_is_err_and}
use Rattle.plans.proofs.Obeying.{set-driven}
use Rattle.rounds.proofs.Rounding.{settling_start, settling_end, step-due, step_less, settled-more, full-then}
use Rattle.rounds.proofs.settle.Goals as goal

pub loop-at-init : goal.loop-at-init
loop-at-init c = record { kept = search rules; settling = settling_start (set-driven c.args.rules) c.requires }

pub round-requires : goal.round-requires
round-requires c =
    let r = c.rows.ensures in
    let waits = rw (r.same_subj, r.same_count) at c.in-Some.ensures in
    let i = c.loop-at.invariant in
    rw i.kept.same_kind (step-due (set-driven c.args.rules) i.settling waits c.remove.ensures _ c.aim-turn.ensures)

pub returns-in_err-done-clause-saturated : goal.returns-in_err-done-clause-saturated
returns-in_err-done-clause-saturated c =
    let p = err_from_is_err_and c.from_residual.result c.from_residual.ensures.1 in
    let i = c.loop-at.invariant in
    let drawn = rw i.kept.same_kind at c.in_err-done.ensures.drawn in
    rw p.1 (full-then (set-driven c.args.rules) i.settling drawn.1)

pub loop-at-smaller : goal.loop-at-smaller
loop-at-smaller c =
    let r = c.rows.ensures in
    let waits = rw (r.same_subj, r.same_count) at c.in-Some.ensures in
    let i = c.loop-at.invariant in
    let drawn = rw i.kept.same_kind at c.in_ok-done.ensures.drawn in
    step_less (set-driven c.args.rules) i.settling waits c.remove.ensures drawn

pub loop-at-preserved : goal.loop-at-preserved
loop-at-preserved c =
    let i = c.loop-at.invariant in
    let drawn = rw i.kept.same_kind at c.in_ok-done.ensures.drawn in
    record { kept = search rules; settling = settled-more (set-driven c.args.rules) i.settling drawn }

pub returns-clause-saturated : goal.returns-clause-saturated
returns-clause-saturated c =
    let r = c.rows.ensures in
    let chosen = rw (r.same_subj, r.same_count, c.in_default.is) at c.choose.ensures in
    settling_end (set-driven c.args.rules) c.loop-at.invariant.settling chosen

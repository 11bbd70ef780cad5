use Rattle.std.proofs.Common.{arith, rules}
use Rattle.std.proofs.lemmas.Result.{err_from_is_err_and}
use Rattle.plans.proofs.Obeying.{set-driven}
use Rattle.rounds.proofs.Rounding.{by_set, all_due, sweep_due, settled-more, full-then, settled-then}
use Rattle.rounds.proofs.saturate.Goals as goal

pub round-requires : goal.round-requires
round-requires c = rw c.all.ensures (all_due (set-driven c.args.rules) (omega arith) c.requires)

pub round-requires-in-loop-turn : goal.round-requires-in-loop-turn
round-requires-in-loop-turn c =
    let r = c.rows.ensures in
    let spread = rw (r.same_subj, r.same_pred, r.same_obj, r.same_count) at c.spread.ensures in
    let i = c.loop-turn.invariant in
    rw i.kept.same_kind (sweep_due (set-driven c.args.rules) i.settling (by_set c.loop-turn.turn-index) spread)

pub returns-in_err-last-2-clause-saturated : goal.returns-in_err-last-2-clause-saturated
returns-in_err-last-2-clause-saturated c =
    let p = err_from_is_err_and c.from_residual-in_err-last-2.result c.from_residual-in_err-last-2.ensures.1 in
    let i = c.loop-turn.invariant in
    let drawn = rw i.kept.same_kind at c.in_err-last-2.ensures.drawn in
    rw p.1 (full-then (set-driven c.args.rules) i.settling drawn.1)

pub loop-turn-preserved : goal.loop-turn-preserved
loop-turn-preserved c =
    let i = c.loop-turn.invariant in
    let drawn = rw i.kept.same_kind at c.in_ok-last-2.ensures.drawn in
    record { kept = search rules; settling = settled-more (set-driven c.args.rules) i.settling drawn }

pub returns-clause-saturated : goal.returns-clause-saturated
returns-clause-saturated c =
    let i = c.loop-turn.invariant in
    settled-then (set-driven c.args.rules) c.args.table.now c.loop-turn.table c.settle.new.table i.kept.same_kind i.settling _ c.settle.ensures.saturated

use Rattle.std.proofs.Common.{arith, rules}
use Rattle.std.proofs.lemmas.Result.{err_from_is_err_and}
use Rattle.plans.proofs.Obeying.{set-driven}
use Rattle.walks.proofs.Rising.{either_or, risen-then}
use Rattle.rounds.proofs.Staying.{set-staying}
use Rattle.rounds.proofs.Rounding.{round_start, round_skip, first-all, onward_comes, round_turn}
use Rattle.rounds.proofs.round.Goals as goal

pub loop-at-init : goal.loop-at-init
loop-at-init c = record {
  kept = search rules;
  so_far = round_start (set-driven c.args.rules) c.requires (first-all c.first-i.ensures);
  seeking = record { down = λ e. omega (arith, c.first-i.ensures.down e) };
}

pub returns-in_err-done-clause-drawn : goal.returns-in_err-done-clause-drawn
returns-in_err-done-clause-drawn c =
    let p = err_from_is_err_and c.from_residual.result c.from_residual.ensures.1 in
    let i = c.loop-at.invariant in
    let asked = rw i.kept.same_kind at c.in_err-done.ensures.asked in
    rw p.1 (_, risen-then i.so_far.risen asked.1 (either_or _ _))

pub loop-at-preserved : goal.loop-at-preserved
loop-at-preserved c =
    let r = c.rows.ensures in
    let sought = rw (r.same_subj, r.same_pred, r.same_obj, r.same_count) at c.in-Some.ensures in
    let i = c.loop-at.invariant in
    let asked = rw i.kept.same_kind at c.in_ok-done.ensures.asked in
    let more = asked.drew.risen.more in
    record {
      kept = search rules;
      so_far = round_turn (set-driven c.args.rules) (set-staying c.args.rules) (round_skip (set-driven c.args.rules) i.so_far sought.rest) asked (either_or _ _) (onward_comes more c.onward-i.ensures);
      seeking = record { down = λ e. omega (arith, c.onward-i.ensures.down e, sought.there, more) };
    }

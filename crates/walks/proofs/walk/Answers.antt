use Rattle.std.proofs.Common.{arith, refl, rules}
use Rattle.walks.proofs.Rising.{either_or, turn, drew-full}
use Rattle.walks.proofs.Walking.{planned-later, met-values, next-met, row-met, walk_start, walk_end}
use Rattle.walks.proofs.walk.Goals as goal

pub loop-each-init : goal.loop-each-init
loop-each-init g c =
    let r = c.rows.ensures in
    let found = rw (r.same_subj, r.same_pred, r.same_obj, r.same_count, c.key_of.ensures) at c.find-i.ensures in
    record { kept = search rules; drew = rw c.unchanged-walked.ensures (walk_start c.requires (omega arith) found) }

pub meet-c-requires : goal.meet-c-requires
meet-c-requires g c =
    let r = c.rows-in-loop-each.ensures in
    let begins = rw (r.same_subj, r.same_pred, r.same_count) at c.begins.ensures in
    let i = c.loop-each.invariant in
    rw i.kept.same_kind (met-values (planned-later c.requires i.drew.risen) (begins.there c.loop-each-test.true).0)

pub draw-requires : goal.draw-requires
draw-requires g c =
    let r = c.rows-in-loop-each.ensures in
    let begins = rw (r.same_subj, r.same_pred, r.same_count) at c.begins.ensures in
    let i = c.loop-each.invariant in
    let here = begins.there c.loop-each-test.true in
    let m = next-met (planned-later c.requires i.drew.risen) here.0 here.1 here.2 (rw i.kept.same_kind at c.meet-c.ensures) in
    rw (← i.kept.same_kind) at m

pub returns-in-Err-clause-walked : goal.returns-in-Err-clause-walked
returns-in-Err-clause-walked g c =
    let i = c.loop-each.invariant in
    let d = rw i.kept.same_kind at c.in-Err.ensures.drawn in
    let b = rw i.kept.same_kind at c.meet-c.ensures in
    drew-full (turn i.drew (row-met _ _ _ _ c.loop-each.i b d) (either_or _ _)) refl

pub loop-each-preserved : goal.loop-each-preserved
loop-each-preserved g c =
    let i = c.loop-each.invariant in
    let d = rw i.kept.same_kind at c.in-Ok.ensures.drawn in
    let b = rw i.kept.same_kind at c.meet-c.ensures in
    record { kept = search rules; drew = turn i.drew (row-met _ _ _ _ c.loop-each.i b d) (either_or _ _) }

pub returns-clause-walked : goal.returns-clause-walked
returns-clause-walked g c =
    let r = c.rows.ensures in
    let found = rw (r.same_subj, r.same_pred, r.same_obj, r.same_count, c.key_of.ensures) at c.find-i.ensures in
    let s = c.rows-in-loop-each.ensures in
    let begins = rw (s.same_subj, s.same_pred, s.same_count) at c.begins.ensures in
    walk_end c.requires (omega arith) found c.loop-each.invariant.drew begins c.loop-each-test.false

-- Each return by what was just seen.
use native.Mathlib.Omega.{arith}
use Rattle.table.proofs.Searching.{between-past}
use Rattle.table.proofs.lent.Rows.in_question.Goals as goal

pub returns-then-key_at-key : goal.returns-then-key_at-key
returns-then-key_at-key c =
    let the-pre = c.requires in
    let the-if1 = c.if-count-eq0 in
    let the-key-at2 = c.key_at-2 in
    let the-if3 = c.if-key_at-key in
    between-past _ _ _ _ _ the-pre (omega (arith, the-if1.false)) (rw (← the-key-at2.ensures) the-if3.true)

-- Too far, not behind the row before, or as the row at the hint says.
use mathlib.Core.Path.{sym}
use mathlib.Core.Bool.{false≢true}
use Prim.Native.Nat.{◌-◌, ◌<◌}
use native.Mathlib.Omega.{arith}
use borrow.Author.Tests.{leb-true, leb-false}
use Rattle.table.specs.Rows.{key_at}
use Rattle.table.proofs.Searching.{before-all}
use Rattle.table.proofs.lent.Rows.is_place.Goals.{then-hint-gt0+else-key-key_at, else-hint-gt0}
use Rattle.table.proofs.lent.Rows.is_place.Goals as goal

pub returns-then-self-hint : goal.returns-then-self-hint
returns-then-self-hint c =
    let the-if1 = c.if-self-hint in
    record { placed = λ e. absurd (false≢true e); elsewhere = λ _ p. omega (arith, p.within, the-if1.true) }

pub returns-then-key-key_at : goal.returns-then-key-key_at
returns-then-key-key_at c =
    let the-args = c.args in
    let the-if2 = c.if-hint-gt0 in
    let the-key-at = c.key_at in
    let the-if3 = c.if-key-key_at in
    record { placed = λ e. absurd (false≢true e); elsewhere = λ _ p. omega (arith, p.before (the-args.hint - 1) (omega (arith, the-if2.true)), the-key-at.ensures, the-if3.true) }

pub returns-then-hint-self : goal.returns-then-hint-self
returns-then-hint-self c =
    let the-args = c.args in
    let the-if2 = c.if-hint-gt0 in
    let the-if1 = c.if-self-hint in
    let the-pre = c.requires in
    let the-key-at2 = c.key_at-then-hint-self in
    let the-if4 = c.if-hint-self in
    let behind : 0 < the-args.hint → key_at the-args.self.now.subj.now the-args.self.now.pred.now the-args.self.now.obj.now (the-args.hint - 1) < the-args.key
    = elim the-if2.branch [ then-hint-gt0+else-key-key_at w ↦ (λ _. rw (← w.key_at.ensures) w.if-key-key_at.false) | else-hint-gt0 w ↦ (λ q. absurd (omega (arith, w.if-hint-gt0.false))) ] in
    record {
      placed = λ e. record {
        within = omega (arith, the-if1.false);
        before = before-all _ _ _ _ _ the-pre the-args.hint (omega (arith, the-if1.false)) behind;
        reached = λ _. rw (← the-key-at2.ensures) (leb-true the-args.key the-key-at2.result e);
      };
      elsewhere = λ e p. omega (arith, p.reached the-if4.true, the-key-at2.ensures, leb-false the-args.key the-key-at2.result e);
    }

pub returns : goal.returns
returns c =
    let the-args = c.args in
    let the-if2 = c.if-hint-gt0 in
    let the-if1 = c.if-self-hint in
    let the-pre = c.requires in
    let the-if4 = c.if-hint-self in
    let behind : 0 < the-args.hint → key_at the-args.self.now.subj.now the-args.self.now.pred.now the-args.self.now.obj.now (the-args.hint - 1) < the-args.key
    = elim the-if2.branch [ then-hint-gt0+else-key-key_at w ↦ (λ _. rw (← w.key_at.ensures) w.if-key-key_at.false) | else-hint-gt0 w ↦ (λ q. absurd (omega (arith, w.if-hint-gt0.false))) ] in
    record {
      placed = λ _. record {
        within = omega (arith, the-if1.false);
        before = before-all _ _ _ _ _ the-pre the-args.hint (omega (arith, the-if1.false)) behind;
        reached = λ q. absurd (omega (arith, the-if4.false));
      };
      elsewhere = λ e. absurd (false≢true (sym e));
    }

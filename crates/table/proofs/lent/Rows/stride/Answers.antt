use Prim.Native.Nat.{◌-◌}
use native.Mathlib.Omega.{arith}
use borrow.Author.Rules.{rules}
use Rattle.table.proofs.Searching.{stride_on, stride_found}
use Rattle.table.proofs.lent.Rows.stride.Goals as goal

pub loop-high-init : goal.loop-high-init
loop-high-init c =
    let the-pre = c.requires in
    (search rules, the-pre.between)

pub key_at-requires : goal.key_at-requires
key_at-requires c =
    let the-pre = c.requires in
    let the-loop-test = c.loop-high-test in
    let the-loop = c.loop-high in
    record {
      in_subj = omega (arith, the-pre.ordered.in_subj, the-loop.invariant.1.within, the-loop-test.true);
      in_pred = omega (arith, the-pre.ordered.in_pred, the-loop.invariant.1.within, the-loop-test.true);
      in_obj = omega (arith, the-pre.ordered.in_obj, the-loop.invariant.1.within, the-loop-test.true);
    }

pub returns-then-key_at-key : goal.returns-then-key_at-key
returns-then-key_at-key c =
    let the-args = c.args in
    let the-pre = c.requires in
    let the-loop-test = c.loop-high-test in
    let the-loop = c.loop-high in
    let the-key-at = c.key_at in
    let the-if1 = c.if-key_at-key in
    stride_found _ _ _ _ _ the-pre.ordered (the-loop.high - (the-args.start - the-loop.high) - 1) the-loop.high the-loop.invariant.1 (omega (arith, the-loop-test.true)) (rw (← the-key-at.ensures) the-if1.true)

pub loop-high-smaller : goal.loop-high-smaller
loop-high-smaller c =
    let the-loop-test = c.loop-high-test in
    omega (arith, the-loop-test.true)

pub loop-high-preserved : goal.loop-high-preserved
loop-high-preserved c =
    let the-args = c.args in
    let the-pre = c.requires in
    let the-loop-test = c.loop-high-test in
    let the-loop = c.loop-high in
    let the-key-at = c.key_at in
    let the-if1 = c.if-key_at-key in
    (omega (arith, the-loop.invariant.0), stride_on _ _ _ _ _ the-pre.ordered (the-loop.high - (the-args.start - the-loop.high) - 1) the-loop.high the-loop.invariant.1 (omega (arith, the-loop-test.true)) (rw (← the-key-at.ensures) the-if1.false))

pub returns : goal.returns
returns c =
    let the-loop = c.loop-high in
    the-loop.invariant.1

-- The test behind an ONLY's part, as `stray` has it.
use native.Mathlib.Omega.{arith}
use Rattle.parts.proofs.Fitting.{fits}
use Rattle.parts.proofs.Second as laws
use Rattle.parts.proofs.outside.stray_test.Goals as goal

pub returns-in_err-to : goal.returns-in_err-to
returns-in_err-to c = λ inner. rw c.from_residual.ensures (laws.stray-only_unfit _ _ _ _ _ c.in_err-to.ensures)

pub overflow_sub-only : goal.overflow_sub-only
overflow_sub-only c = let w = fits _ c.requires.0 c.in_ok-to.ensures in omega arith

pub returns-then-only-to-lt6 : goal.returns-then-only-to-lt6
returns-then-only-to-lt6 c = λ inner. laws.short-test _ _ _ c.in_ok-to.ensures _ _ c.if-only-to-lt6.true

pub returns-then-test_annotation-outer-eq0 : goal.returns-then-test_annotation-outer-eq0
returns-then-test_annotation-outer-eq0 c =
    λ inner. laws.no_stray _ _ _ c.in_ok-to.ensures _ _ inner c.test_annotation.ensures c.if-test_annotation-outer-eq0.true

pub returns-else-test_annotation-outer-eq0 : goal.returns-else-test_annotation-outer-eq0
returns-else-test_annotation-outer-eq0 c =
    λ inner. laws.a-stray _ _ _ c.in_ok-to.ensures _ _ c.test_annotation.ensures c.if-test_annotation-outer-eq0.false

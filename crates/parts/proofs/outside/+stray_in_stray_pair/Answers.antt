use native.Mathlib.Omega.{arith}
use Rattle.parts.proofs.Fitting.{fits}
use Rattle.parts.proofs.Second as laws
use mathlib.Core.Path.{◌≡◌, refl}
use Prim.Native.Nat.{ℕ, ◌+◌}
use borrow.Author.Tests.{ne_eqb}
use Rattle.std.specs.Prelude.{Option, Some, None}
use Rattle.std.specs.Option.{option_or}
use Rattle.parts.specs.Bound.{or_else, numbered}
use Rattle.parts.proofs.outside.+stray_in_stray_pair.Goals as goal

numbered-or : (a b : Option ℕ) → numbered (option_or a b) ≡ or_else (numbered a) (numbered b)
numbered-or None b = refl
numbered-or (Some p) b = rw (ne_eqb (p + 1) 0 (λ z. omega arith)) refl

pub stray_in-returns-in_err-f : goal.stray_in-returns-in_err-f
stray_in-returns-in_err-f t c = rw c.from_residual.ensures (laws.stray-unfit _ _ _ _ c.in_err-f.ensures)

pub stray_in-stray_in-inner-requires : goal.stray_in-stray_in-inner-requires
stray_in-stray_in-inner-requires t c = let w = fits _ c.requires.0 c.in_ok-f.ensures in omega arith

pub stray_in-stray_test-requires : goal.stray_in-stray_test-requires
stray_in-stray_test-requires t c = let w = fits _ c.requires.0 c.in_ok-f.ensures in omega arith

pub stray_in-stray_pair-requires : goal.stray_in-stray_pair-requires
stray_in-stray_pair-requires t c = let w = fits _ c.requires.0 c.in_ok-f.ensures in omega arith

pub stray_in-returns-in-16 : goal.stray_in-returns-in-16
stray_in-returns-in-16 t c = laws.stray-triple _ _ _ c.in_ok-f.ensures _ c.in-16.is

pub stray_in-returns-in-19 : goal.stray_in-returns-in-19
stray_in-returns-in-19 t c = laws.stray-an_only _ _ _ c.in_ok-f.ensures _ c.in-19.is (c.stray_test.ensures c.stray_in-inner.ensures)

pub stray_in-returns-in_default : goal.stray_in-returns-in_default
stray_in-returns-in_default t c = laws.stray-a_pair _ _ _ c.in_ok-f.ensures _ (λ z. omega arith) (λ z. omega arith) c.stray_pair.ensures

pub stray_pair-returns-in_err-mid : goal.stray_pair-returns-in_err-mid
stray_pair-returns-in_err-mid t c = rw c.from_residual.ensures (laws.stray-pair_unfit _ _ _ _ c.in_err-mid.ensures)

pub stray_pair-used_in-right-requires : goal.stray_pair-used_in-right-requires
stray_pair-used_in-right-requires t c = let w = fits _ c.requires.0 c.in_ok-mid.ensures in omega arith

pub stray_pair-stray_in-second-requires : goal.stray_pair-stray_in-second-requires
stray_pair-stray_in-second-requires t c = let w = fits _ c.requires.0 c.in_ok-mid.ensures in omega arith

pub stray_pair-returns : goal.stray_pair-returns
stray_pair-returns t c =
    laws.stray-two _ _ _ c.in_ok-mid.ensures _ c.used_in-left.ensures c.used_in-right.ensures c.stray_in-first.ensures c.stray_in-second.ensures
    (rw c.or.ensures (numbered-or c.stray_in-first.result c.stray_in-second.result))

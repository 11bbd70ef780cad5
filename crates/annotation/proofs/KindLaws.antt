-- `Laws` for each kind of annotation. Assumes nothing.
use mathlib.Core.Path.{◌≡◌, ◌∙◌}
use mathlib.Core.Bool.{Bool, true, false, cond}
use Prim.Native.Nat.{ℕ, ◌≤◌}
use native.Mathlib.Omega.{arith}
use lib.Dec.{eqb}
use lib.Bits.{bit_and, and_comm, or_comm, and_zero_r, or_zero_r, or_self, or_lt, and_mask, and_le_l, and_le_r, or_add_and}
use Rattle.ground.proofs.Bitwise.{and_assoc, or_assoc, and-over_or}
use Rattle.annotation.specs.Algebra.{Laws}
use Rattle.annotation.specs.Kinds.{years, sheets, degree, strict, algebra}
use Rattle.annotation.proofs.Combinations.{none-larger, all_larger, and-larger, or_larger}

and-all : (a : ℕ) → a ≤ 18446744073709551615 → bit_and a 18446744073709551615 ≡ a
and-all a h = and_mask a 64 ∙ omega arith

pub years-laws : Laws years
years-laws = record {
  bottom_value = omega arith;
  top_value = omega arith;
  meet_value = λ a b va vb. omega (arith, and_le_l a b);
  join_value = λ a b va vb. omega (arith, or_lt 64 a b (omega arith) (omega arith));
  meet_comm = and_comm;
  meet_assoc = λ a b c va vb vc. and_assoc a b c;
  join_comm = or_comm;
  join_assoc = or_assoc;
  meet_join = λ a b c va vb vc. and-over_or a b c;
  meet_bottom = λ a va. and_zero_r a;
  meet_top = and-all;
  join_bottom = or_zero_r;
  join_top = λ a va. omega (arith, or_add_and a 18446744073709551615, and-all a va);
  join_self = or_self;
  join_grows = λ a b. omega (arith, or_add_and a b, and_le_r a b);
  value_bound = λ a va. va;
}

-- sheets: as years, and "larger is enough" is kept
pub sheets-laws : Laws sheets
sheets-laws = record {
  bottom_value = (omega arith, none-larger);
  top_value = (omega arith, all_larger);
  meet_value = λ a b va vb. (years-laws.meet_value a b va.0 vb.0, and-larger a b va.1 vb.1);
  join_value = λ a b va vb. (years-laws.join_value a b va.0 vb.0, or_larger a b va.1 vb.1);
  meet_comm = and_comm;
  meet_assoc = λ a b c va vb vc. and_assoc a b c;
  join_comm = or_comm;
  join_assoc = or_assoc;
  meet_join = λ a b c va vb vc. and-over_or a b c;
  meet_bottom = λ a va. and_zero_r a;
  meet_top = λ a va. and-all a va.0;
  join_bottom = or_zero_r;
  join_top = λ a va. years-laws.join_top a va.0;
  join_self = or_self;
  join_grows = years-laws.join_grows;
  value_bound = λ a va. va.0;
}

pub degree-laws : Laws degree
degree-laws = omega arith

pub strict-laws : Laws strict
strict-laws = omega arith

laws_of : (y s d : Bool) → Laws (cond y years (cond s sheets (cond d degree strict)))
laws_of true s d = years-laws
laws_of false true d = sheets-laws
laws_of false false true = degree-laws
laws_of false false false = strict-laws

pub laws : (kind : ℕ) → Laws (algebra kind)
unfolding algebra
laws kind = laws_of (eqb kind 1) (eqb kind 5) (eqb kind 3)

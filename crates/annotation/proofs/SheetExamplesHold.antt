-- The examples of kind 5: the six masks judge each annotation, the rest computes. Assumes nothing.
use mathlib.Core.Path.{◌≡◌, refl}
use mathlib.Core.Bool.{true, false}
use Prim.Native.Nat.{ℕ}
use Rattle.ground.specs.Lists.{all_below}
use Rattle.ground.specs.Bits.{has}
use Rattle.term.specs.Refusal.{verdict, done, first}
use Rattle.annotation.specs.Combinations.{is_larger}
use Rattle.annotation.specs.Kinds.{algebra, is_kind, is_in_range, is_legal, annotation_checks}
use Rattle.annotation.specs.Examples.{on_sheet0, on_sheet1, on_sheet2, on_sheet3, on_sheet4, on_sheet5, OnSheet, SheetExamples}
use Rattle.annotation.proofs.SixMasks.{is_of, bits_of, fails0, fails1, none-fails}

larger_legal : (a : ℕ) → is_in_range 5 a ≡ true → is_larger a ≡ true → is_legal 5 a ≡ true
larger_legal a r l = rw (r, l) refl

larger_passes : (a : ℕ) → is_in_range 5 a ≡ true → is_larger a ≡ true → first (annotation_checks 5 a 7) ≡ done
unfolding first
larger_passes a r l = rw (r, l) refl

other-misses : (a : ℕ) → is_in_range 5 a ≡ true → is_larger a ≡ false → first (annotation_checks 5 a 7) ≡ verdict 28 7
unfolding first
other-misses a r l = rw (r, l) refl

on_sheet : (i a : ℕ) → is_of i a ≡ true → is_in_range 5 a ≡ true → is_larger a ≡ true → OnSheet i a
on_sheet i a h r l = record { with_it = bits_of i a h; legal = larger_legal a r l }

pub sheet_examples_hold : SheetExamples
unfolding all_below has first algebra is_kind
sheet_examples_hold = record {
  alone = (
    on_sheet 0 on_sheet0 refl refl (none-fails on_sheet0 refl refl refl refl refl refl),
    on_sheet 1 on_sheet1 refl refl (none-fails on_sheet1 refl refl refl refl refl refl),
    on_sheet 2 on_sheet2 refl refl (none-fails on_sheet2 refl refl refl refl refl refl),
    on_sheet 3 on_sheet3 refl refl (none-fails on_sheet3 refl refl refl refl refl refl),
    on_sheet 4 on_sheet4 refl refl (none-fails on_sheet4 refl refl refl refl refl refl),
    on_sheet 5 on_sheet5 refl refl (none-fails on_sheet5 refl refl refl refl refl refl),
  );
  both = refl;
  or_a_third = refl;
  misses = other-misses 2 refl (fails1 2 refl);
  bottom = refl;
  all_six = larger_passes 0x8000000000000000 refl (none-fails 0x8000000000000000 refl refl refl refl refl refl);
  any_one = larger_passes 0xFFFFFFFFFFFFFFFE refl (none-fails 0xFFFFFFFFFFFFFFFE refl refl refl refl refl refl);
  none_needed = larger_passes 0xFFFFFFFFFFFFFFFF refl (none-fails 0xFFFFFFFFFFFFFFFF refl refl refl refl refl refl);
  none_alone = other-misses 1 refl (fails0 1 refl);
  kind_two = refl;
}

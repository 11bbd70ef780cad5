-- What `field_at_lem` is, case by case as the code meets it. Assumes nothing.
use mathlib.Core.Path.{◌≡◌, refl}
use mathlib.Core.Bool.{Bool, true, false, cond, or-true}
use mathlib.Core.List.{List}
use Prim.Native.Nat.{ℕ, ◌+◌, ◌-◌, ◌≤◌, ◌<◌}
use native.Mathlib.Omega.{arith}
use lib.ListN.{length}
use lib.Dec.{leb, ltb}
use borrow.Author.Tests.{le-leb, lt-leb, lt-ltb, le-ltb, leb-true, leb-false, ltb-false}
use Rattle.ground.proofs.Bools.{neither}
use Rattle.field.specs.declared.Field.TheVariants.{End, Cut, Whole}
use Rattle.field.specs.Fields.{field_at_lem, is_cut_lem, tag_at, size_at, behind}

module _ (b : List ℕ) (at : ℕ) where
  pub field_ends : length b ≤ at → End ≡ field_at_lem b at
  unfolding field_at_lem
  field_ends h = rw (le-leb (length b) at h) refl

  module _ (some : at < length b) where
    pub field_cut_front : length b - at < 3 → Cut ≡ field_at_lem b at
    unfolding field_at_lem
    field_cut_front h = rw (lt-leb (length b) at some, lt-ltb (length b) (at + 3) (omega arith)) refl

    module _ (front : 3 ≤ length b - at) (size : ℕ) (e : size ≡ size_at b at) where
      pub field_cut_value : length b - at - 3 < size → Cut ≡ field_at_lem b at
      unfolding field_at_lem
      field_cut_value h =
          rw (lt-leb (length b) at some, lt-ltb (length b) (behind b at) (rw (← e) (omega arith)), or-true (ltb (length b) (at + 3))) refl

      pub field_whole : size ≤ length b - at - 3 → Whole (tag_at b at) size ≡ field_at_lem b at
      unfolding field_at_lem
      field_whole h =
          rw (lt-leb (length b) at some, le-ltb (length b) (at + 3) (omega arith), le-ltb (length b) (behind b at) (rw (← e) (omega arith)), e) refl

-- and what each case says of the bytes
pub record WholeField (b : List ℕ) (at tag size : ℕ) : Type 0 where
  pub some : at < length b
  pub not-cut : is_cut_lem b at ≡ false
  pub fits : at + 3 + size ≤ length b
  pub tag_is : tag ≡ tag_at b at
  pub size_is : size ≡ size_at b at

module _ (b : List ℕ) (at : ℕ) where
  end_of : (p q : Bool) → leb (length b) at ≡ p → End ≡ cond p End (cond q Cut (Whole (tag_at b at) (size_at b at))) → length b ≤ at
  end_of true q e h = leb-true (length b) at e
  end_of false true e h = absurd (let z : ◌≡◌ {A = ℕ} 0 1 = cc in omega arith)
  end_of false false e h = absurd (let z : ◌≡◌ {A = ℕ} 0 1 = cc in omega arith)

  pub is-end : End ≡ field_at_lem b at → length b ≤ at
  unfolding field_at_lem
  is-end h = end_of (leb (length b) at) (is_cut_lem b at) refl h

  cut_of : (p q : Bool) → leb (length b) at ≡ p → is_cut_lem b at ≡ q → Cut ≡ cond p End (cond q Cut (Whole (tag_at b at) (size_at b at)))
      → (at < length b) × (is_cut_lem b at ≡ true)
  cut_of true q e f h = absurd (let z : ◌≡◌ {A = ℕ} 0 1 = cc in omega arith)
  cut_of false true e f h = (leb-false (length b) at e, f)
  cut_of false false e f h = absurd (let z : ◌≡◌ {A = ℕ} 0 1 = cc in omega arith)

  pub is_cut : Cut ≡ field_at_lem b at → (at < length b) × (is_cut_lem b at ≡ true)
  unfolding field_at_lem
  is_cut h = cut_of (leb (length b) at) (is_cut_lem b at) refl refl h

  whole_of : (p q : Bool) (tag size : ℕ) → leb (length b) at ≡ p → is_cut_lem b at ≡ q
      → Whole tag size ≡ cond p End (cond q Cut (Whole (tag_at b at) (size_at b at))) → WholeField b at tag size
  whole_of true q tag size e f h = absurd (let z : ◌≡◌ {A = ℕ} 0 1 = cc in omega arith)
  whole_of false true tag size e f h = absurd (let z : ◌≡◌ {A = ℕ} 0 1 = cc in omega arith)
  whole_of false false tag size e f h =
      let s : size ≡ size_at b at = cc in
      let fits = ltb-false (length b) (behind b at) (neither (ltb (length b) (at + 3)) (ltb (length b) (behind b at)) f).1 in
      record { some = leb-false (length b) at e; not-cut = f; fits = rw s fits; tag_is = cc; size_is = s }

  pub is_whole : (tag size : ℕ) → Whole tag size ≡ field_at_lem b at → WholeField b at tag size
  unfolding field_at_lem
  is_whole tag size h = whole_of (leb (length b) at) (is_cut_lem b at) tag size refl refl h

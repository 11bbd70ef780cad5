-- The code's test: for each of six sheets, the combinations without it that are enough, moved up to those with it, are enough. That says exactly "larger is
-- enough". Assumes nothing.
use mathlib.Core.Path.{◌≡◌, refl, sym, ap, ◌∙◌}
use mathlib.Core.Bool.{Bool, true, false, not, true≢false, and-eq-true_iff}
use Prim.Native.Nat.{ℕ, zero, suc, ◌+◌, ◌/◌, ◌%◌, ◌^◌, ◌<◌}
use native.Mathlib.Nat.{add_comm}
use native.Mathlib.Omega.{arith}
use lib.Dec.{eqb, ltb}
use lib.Pow.{shr-shr}
use lib.Bits.{bit_and, bit_or, or_comm, or_disjoint}
use borrow.Author.Tests.{eqb-true, eq-eqb, ltb-true, ltb-false, not-false}
use Rattle.ground.specs.Lists.{all_below}
use Rattle.ground.specs.Bits.{has}
use Rattle.ground.proofs.Below.{below_all}
use Rattle.ground.proofs.Bitwise.{subset_or}
use Rattle.ground.proofs.Masks.{has-and, has-high, has-power, has-bit, bit_has, among_and, and-among, apart-and}
use Rattle.annotation.specs.Combinations.{is_larger}
use Rattle.annotation.proofs.Combinations.{larger_holds, holds-larger, StepUp, larger_steps, steps-larger}

-- two tests of one outcome
abbrev same : Bool → Bool → Bool
same true u = u
same false u = not u

same_true : (u w : Bool) → same u w ≡ true → u ≡ w
same_true true w e = sym e
same_true false true e = e
same_true false false e = refl

-- the bits of a, below 64, are the combinations with the sheet i
abbrev pub is_of : ℕ → ℕ → Bool
is_of i a = all_below 64 (λ k. same (has a k) (has k i))

pub bits_of : (i a : ℕ) → is_of i a ≡ true → (k : ℕ) → k < 64 → has a k ≡ has k i
bits_of i a h k q = same_true (has a k) (has k i) (below_all 64 (λ k. same (has a k) (has k i)) h k q)

has-shr : (a j k : ℕ) → has (a / 2 ^ j) k ≡ has a (j + k)
unfolding has
has-shr a j k = ap (λ (x : ℕ). eqb (x % 2) 1) (shr-shr a j k)

-- adding a sheet to a combination
with_sheet : (k i : ℕ) → has k i ≡ false → bit_or k (2 ^ i) ≡ 2 ^ i + k
with_sheet k i h = or_disjoint k (2 ^ i) (apart-and k (2 ^ i) (λ j e. other j e (eqb i j) refl)) ∙ add_comm k (2 ^ i)
  where
    other : (j : ℕ) → has k j ≡ true → (u : Bool) → eqb i j ≡ u → has (2 ^ i) j ≡ false
    other j e true q = absurd (true≢false (sym e ∙ ap (has k) (sym (eqb-true i j q)) ∙ h))
    other j e false q = has-power i j ∙ q

has-sheet : (k i : ℕ) → has k i ≡ true → bit_or k (2 ^ i) ≡ k
has-sheet k i h =
    or_comm k (2 ^ i)
    ∙ subset_or (2 ^ i) k (λ j e. has-bit k j (ap (has k) (sym (eqb-true i j (sym (has-power i j) ∙ bit_has (2 ^ i) j e))) ∙ h))

-- the mask `low` holds the combinations without the sheet i
module _ (i low : ℕ) (small : low < 2 ^ 64) (bits : all_below 64 (λ k. same (has low k) (not (has k i))) ≡ true) where
  low_bits : (k : ℕ) → k < 64 → has low k ≡ not (has k i)
  low_bits k h = same_true (has low k) (not (has k i)) (below_all 64 (λ k. same (has low k) (not (has k i))) bits k h)

  abbrev pub moves_up : ℕ → Bool
  moves_up a = eqb (bit_and (bit_and a low) (a / 2 ^ (2 ^ i))) (bit_and a low)

  pub moves_step : (a : ℕ) → moves_up a ≡ true → StepUp a i
  moves_step a h k hk e = go (has k i) refl
    where
      go : (u : Bool) → has k i ≡ u → has a (bit_or k (2 ^ i)) ≡ true
      go true q = rw (has-sheet k i q) e
      go false q =
          let there : has (bit_and a low) k ≡ true = has-and a low k ∙ (and-eq-true_iff (has a k) (has low k)).1 (e, low_bits k hk ∙ rw q refl) in
          rw (with_sheet k i q, ← has-shr a (2 ^ i) k) (and-among (bit_and a low) (a / 2 ^ (2 ^ i)) (eqb-true _ _ h) k there)

  pub step-moves : (a : ℕ) → StepUp a i → moves_up a ≡ true
  step-moves a steps = eq-eqb _ _ (among_and (bit_and a low) (a / 2 ^ (2 ^ i)) (λ k e. up k e (ltb k 64) refl))
    where
      not-true : (u : Bool) → not u ≡ true → u ≡ false
      not-true true e = sym e
      not-true false e = refl

      up : (k : ℕ) → has (bit_and a low) k ≡ true → (u : Bool) → ltb k 64 ≡ u → has (a / 2 ^ (2 ^ i)) k ≡ true
      up k e true q =
          let both = (and-eq-true_iff (has a k) (has low k)).0 (sym (has-and a low k) ∙ e) in
          let hk = ltb-true k 64 q in
          let out : has k i ≡ false = not-true (has k i) (sym (low_bits k hk) ∙ both.1) in
          rw (has-shr a (2 ^ i) k, ← with_sheet k i out) (steps k hk both.0)
      up k e false q =
          let both = (and-eq-true_iff (has a k) (has low k)).0 (sym (has-and a low k) ∙ e) in
          absurd (true≢false (sym both.1 ∙ has-high low 64 k small (ltb-false k 64 q)))

  -- a test that fails shows a combination that misses a larger one
  pub fails : i < 6 → (a : ℕ) → not (moves_up a) ≡ true → is_larger a ≡ false
  fails h a m = go (is_larger a) refl
    where
      go : (u : Bool) → is_larger a ≡ u → u ≡ false
      go true e = absurd (true≢false (sym m ∙ ap not (step-moves a (larger_steps a (larger_holds a e) i h))))
      go false e = refl

-- the six masks
abbrev pub without0 : ℕ
without0 = 0x5555555555555555

abbrev pub without1 : ℕ
without1 = 0x3333333333333333

abbrev pub without2 : ℕ
without2 = 0x0F0F0F0F0F0F0F0F

abbrev pub without3 : ℕ
without3 = 0x00FF00FF00FF00FF

abbrev pub without4 : ℕ
without4 = 0x0000FFFF0000FFFF

abbrev pub without5 : ℕ
without5 = 0x00000000FFFFFFFF

-- the test of a mask, moved up by so many places
abbrev pub missed : ℕ → ℕ → ℕ → Bool
missed low by a = not (eqb (bit_and (bit_and a low) (a / 2 ^ by)) (bit_and a low))

module _ (a : ℕ) where
  pub fails0 : missed without0 1 a ≡ true → is_larger a ≡ false
  unfolding all_below has
  fails0 = fails 0 without0 (omega arith) refl (omega arith) a

  pub fails1 : missed without1 2 a ≡ true → is_larger a ≡ false
  unfolding all_below has
  fails1 = fails 1 without1 (omega arith) refl (omega arith) a

  pub fails2 : missed without2 4 a ≡ true → is_larger a ≡ false
  unfolding all_below has
  fails2 = fails 2 without2 (omega arith) refl (omega arith) a

  pub fails3 : missed without3 8 a ≡ true → is_larger a ≡ false
  unfolding all_below has
  fails3 = fails 3 without3 (omega arith) refl (omega arith) a

  pub fails4 : missed without4 16 a ≡ true → is_larger a ≡ false
  unfolding all_below has
  fails4 = fails 4 without4 (omega arith) refl (omega arith) a

  pub fails5 : missed without5 32 a ≡ true → is_larger a ≡ false
  unfolding all_below has
  fails5 = fails 5 without5 (omega arith) refl (omega arith) a

  module _ (h0 : missed without0 1 a ≡ false) (h1 : missed without1 2 a ≡ false) (h2 : missed without2 4 a ≡ false)
      (h3 : missed without3 8 a ≡ false) (h4 : missed without4 16 a ≡ false) (h5 : missed without5 32 a ≡ false) where
    each_step : (i : ℕ) → i < 6 → StepUp a i
    unfolding all_below has
    each_step zero h = moves_step 0 without0 (omega arith) refl a (not-false _ h0)
    each_step (suc zero) h = moves_step 1 without1 (omega arith) refl a (not-false _ h1)
    each_step (suc (suc zero)) h = moves_step 2 without2 (omega arith) refl a (not-false _ h2)
    each_step (suc (suc (suc zero))) h = moves_step 3 without3 (omega arith) refl a (not-false _ h3)
    each_step (suc (suc (suc (suc zero)))) h = moves_step 4 without4 (omega arith) refl a (not-false _ h4)
    each_step (suc (suc (suc (suc (suc zero))))) h = moves_step 5 without5 (omega arith) refl a (not-false _ h5)
    each_step (suc (suc (suc (suc (suc (suc i)))))) h = absurd (omega arith)

    pub none-fails : is_larger a ≡ true
    none-fails = holds-larger a (steps-larger a each_step)

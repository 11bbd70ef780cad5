-- "Larger is enough": the test says so, And and Join keep it bit by bit, and it is enough to add one sheet at a time. Assumes nothing.
use mathlib.Core.Path.{◌≡◌, refl, sym, ap, ◌∙◌}
use mathlib.Core.Bool.{Bool, true, false, not, ◌||◌, true≢false, and-eq-true_iff}
use Prim.Native.Nat.{ℕ, zero, suc, ◌*◌, ◌%◌, ◌^◌, ◌≤◌, ◌<◌}
use native.Mathlib.Nat.{zero-mul, one-mul, mod-one, mod-lt}
use native.Mathlib.Omega.{arith}
use lib.Dec.{ltb}
use lib.Pow.{pow-lt, pow_pos, split, mod-pow-add}
use lib.Bits.{bit_and, bit_or, and_mask, or_lt, or_zero_r, or_shifted_r}
use borrow.Author.Tests.{eq-eqb, ltb-true, ltb-false}
use Rattle.ground.specs.Lists.{all_below}
use Rattle.ground.specs.Bits.{bit_of, has, Subset}
use Rattle.ground.proofs.Below.{all_below_lem, below_all}
use Rattle.ground.proofs.Bitwise.{or_bit, or_assoc, subset_or}
use Rattle.ground.proofs.Masks.{has-or, has-and, has-none, has-high, has-power, has-bit, bit_has}
use Rattle.annotation.specs.Combinations.{Larger, is_within, is_larger}

implies : (u w : Bool) → not u || w ≡ true → u ≡ true → w ≡ true
implies true w h e = h
implies false w h e = absurd (true≢false (sym e))

implied : (u w : Bool) → (u ≡ true → w ≡ true) → not u || w ≡ true
implied true w f = f refl
implied false w f = refl

module _ (k m : ℕ) where
  within-subset : k < 64 → is_within k m ≡ true → Subset k m
  within-subset h w i e = go (ltb i 6) refl
    where
      go : (u : Bool) → ltb i 6 ≡ u → bit_of i m ≡ 1
      go true q = has-bit m i (implies (has k i) (has m i) (below_all 6 (λ j. not (has k j) || has m j) w i (ltb-true i 6 q)) (bit_has k i e))
      go false q = absurd (true≢false (sym (bit_has k i e) ∙ has-high k 6 i h (ltb-false i 6 q)))

  subset_within : Subset k m → is_within k m ≡ true
  subset_within s = all_below_lem 6 (λ j. not (has k j) || has m j) (λ j q. implied (has k j) (has m j) (λ e. bit_has m j (s j (has-bit k j e))))

module _ (a : ℕ) where
  abbrev goes_on : ℕ → ℕ → Bool
  goes_on k m = not (is_within k m) || (not (has a k) || has a m)

  pub larger_holds : is_larger a ≡ true → Larger a
  unfolding is_larger
  larger_holds h k m hk hm s e =
      let pair = below_all 64 (goes_on k) (below_all 64 (λ j. all_below 64 (goes_on j)) h k hk) m hm in
      implies (has a k) (has a m) (implies (is_within k m) (not (has a k) || has a m) pair (subset_within k m s)) e

  pub holds-larger : Larger a → is_larger a ≡ true
  unfolding is_larger
  holds-larger l =
      all_below_lem 64 (λ j. all_below 64 (goes_on j))
      (λ k hk. all_below_lem 64 (goes_on k)
      (λ m hm. implied (is_within k m) (not (has a k) || has a m)
      (λ w. implied (has a k) (has a m) (l k m hk hm (within-subset k m hk w)))))

-- bottom has no combination, the top has all
pub none-larger : Larger 0
none-larger k m hk hm s e = absurd (true≢false (sym e ∙ has-none k))

pub all_set : (k : ℕ) → k < 64 → has 18446744073709551615 k ≡ true
all_set k h =
    let small : 2 ^ k < 2 ^ 64 = pow-lt h in
    let same : bit_and (2 ^ k) 18446744073709551615 ≡ 2 ^ k = and_mask (2 ^ k) 64 ∙ omega arith in
    let own : has (2 ^ k) k ≡ true = has-power k k ∙ eq-eqb k k refl in
    ((and-eq-true_iff (has (2 ^ k) k) (has 18446744073709551615 k)).0 (sym (has-and (2 ^ k) 18446744073709551615 k) ∙ ap (λ (x : ℕ). has x k) same ∙ own)).1

pub all_larger : Larger 18446744073709551615
all_larger k m hk hm s e = all_set m hm

module _ (a b : ℕ) (la : Larger a) (lb : Larger b) where
  pub and-larger : Larger (bit_and a b)
  and-larger k m hk hm s e =
      let both = (and-eq-true_iff (has a k) (has b k)).0 (sym (has-and a b k) ∙ e) in
      has-and a b m ∙ (and-eq-true_iff (has a m) (has b m)).1 (la k m hk hm s both.0, lb k m hk hm s both.1)

  pub or_larger : Larger (bit_or a b)
  or_larger k m hk hm s e =
      has-or a b m ∙ go (has a k) (has b k) (has a m) (has b m) (la k m hk hm s) (lb k m hk hm s) (sym (has-or a b k) ∙ e)
    where
      go : (u v u' v' : Bool) → (u ≡ true → u' ≡ true) → (v ≡ true → v' ≡ true) → u || v ≡ true → u' || v' ≡ true
      go true v u' v' f g h = rw (f refl) refl
      go false v true v' f g h = refl
      go false v false v' f g h = g h

-- a combination that is enough is enough with the sheet i too
abbrev pub StepUp : ℕ → ℕ → Type 0
StepUp a i = (k : ℕ) → k < 64 → has a k ≡ true → has a (bit_or k (2 ^ i)) ≡ true

module _ (a : ℕ) where
  pub larger_steps : Larger a → (i : ℕ) → i < 6 → StepUp a i
  larger_steps l i h k hk e =
      l k (bit_or k (2 ^ i)) hk (or_lt 6 k (2 ^ i) hk (pow-lt h)) (λ j q. omega (arith, or_bit j k (2 ^ i), q)) e

  -- the missing sheets are added one at a time: those of m below n are there
  module _ (steps : (i : ℕ) → i < 6 → StepUp a i) (k m : ℕ) (hk : k < 64) (hm : m < 64) (e : has a k ≡ true) where
    below_64 : (n : ℕ) → n ≤ 6 → bit_or k (m % 2 ^ n) < 64
    below_64 n h = or_lt 6 k (m % 2 ^ n) hk (omega (arith, split m n))

    one_more : (n : ℕ) → m % 2 ^ suc n ≡ bit_or (m % 2 ^ n) (bit_of n m * 2 ^ n)
    one_more n =
        ap (λ (x : ℕ). m % 2 ^ x) (omega arith) ∙ mod-pow-add m 1 n ∙ sym (or_shifted_r (bit_of n m) n (m % 2 ^ n) (mod-lt _ (pow_pos n)))

    up-to : (n : ℕ) → n ≤ 6 → has a (bit_or k (m % 2 ^ n)) ≡ true
    up-to zero h = rw (mod-one m, or_zero_r k) e
    up-to (suc n) h = rw (one_more n, ← or_assoc k (m % 2 ^ n) (bit_of n m * 2 ^ n)) (go (bit_of n m) (omega arith) (up-to n (omega arith)))
      where
        go : (b : ℕ) → b < 2 → has a (bit_or k (m % 2 ^ n)) ≡ true → has a (bit_or (bit_or k (m % 2 ^ n)) (b * 2 ^ n)) ≡ true
        go zero q before = rw (zero-mul (2 ^ n), or_zero_r (bit_or k (m % 2 ^ n))) before
        go (suc zero) q before = rw (one-mul (2 ^ n)) (steps n (omega arith) (bit_or k (m % 2 ^ n)) (below_64 n (omega arith)) before)
        go (suc (suc b)) q before = absurd (omega arith)

  pub steps-larger : ((i : ℕ) → i < 6 → StepUp a i) → Larger a
  steps-larger steps k m hk hm s e =
      let whole : m % 2 ^ 6 ≡ m = omega arith in
      let same : bit_or k (m % 2 ^ 6) ≡ m = ap (bit_or k) whole ∙ subset_or k m s in
      rw (← same) (up-to steps k m hk hm e 6 (omega arith))

-- How many terms a set has: fewer where one is taken out. Assumes nothing.
use mathlib.Core.Path.{◌≡◌, refl}
use mathlib.Core.Bool.{Bool, true, false}
use mathlib.Core.List.{List}
use Prim.Native.Nat.{ℕ, zero, suc, ◌+◌, ◌≤◌, ◌<◌}
use native.Mathlib.Omega.{arith}
use lib.Dec.{eqb}
use borrow.Author.Tests.{eqb-true, eqb-false}
use Rattle.termset.specs.Termset.{holds, Without}

abbrev one-if : Bool → ℕ
one-if true = 1
one-if false = 0

-- how many numbers below n pass the test
unfoldable tally : ℕ → (ℕ → Bool) → ℕ
tally zero f = 0
tally (suc n) f = one-if (f n) + tally n f

one-most : (b : Bool) → one-if b ≤ 1
one-most true = omega arith
one-most false = omega arith

one_more : (b c : Bool) → (b ≡ true → c ≡ true) → one-if b ≤ one-if c
one_more true c h = rw (h refl) (omega arith)
one_more false c h = omega arith

tally_most : (n : ℕ) (f : ℕ → Bool) → tally n f ≤ n
unfolding tally
tally_most zero f = omega arith
tally_most (suc n) f = omega (arith, one-most (f n), tally_most n f)

module _ (f g : ℕ → Bool) (more : (k : ℕ) → f k ≡ true → g k ≡ true) where
  tally_more : (n : ℕ) → tally n f ≤ tally n g
  unfolding tally
  tally_more zero = omega arith
  tally_more (suc n) = omega (arith, one_more (f n) (g n) (more n), tally_more n)

  -- one that the other has not
  module _ (v : ℕ) (no : f v ≡ false) (yes : g v ≡ true) where
    tally_falls : (n : ℕ) → v < n → tally n f < tally n g
    unfolding tally
    tally_falls zero h = absurd (omega arith)
    tally_falls (suc n) h = go (eqb v n) refl (λ q. tally_falls n q)
      where
        go : (b : Bool) → eqb v n ≡ b → (v < n → tally n f < tally n g) → tally (suc n) f < tally (suc n) g
        go true e rest =
            let same : v ≡ n = eqb-true v n e in
            let a : one-if (f n) ≡ 0 = rw (← same, no) refl in
            let b : one-if (g n) ≡ 1 = rw (← same, yes) refl in
            omega (arith, a, b, tally_more n)
        go false e rest = omega (arith, one_more (f n) (g n) (more n), rest (omega (arith, eqb-false v n e)))

-- the terms of a set
pub members : List ℕ → ℕ
members set = tally 65536 (holds set)

pub members_most : (set : List ℕ) → members set ≤ 65536
unfolding members
members_most set = tally_most 65536 (holds set)

pub members_fall : {term : ℕ} {a b : List ℕ} → term < 65536 → holds a term ≡ true → Without term a b → members b < members a
unfolding members
members_fall {term} {a} {b} small h w = tally_falls (holds b) (holds a) w.less.also term w.gone h 65536 small

-- What can be read of annotations: a bit of kind 1's and of kind 5's, a degree of at least u of kind 3's. (Of kind 4's nothing: the And of two degrees of
-- at least u may be less.) Assumes nothing.
use mathlib.Core.Path.{◌≡◌, refl}
use mathlib.Core.Bool.{Bool, true, false, ◌&&◌, ◌||◌}
use Prim.Native.Nat.{ℕ, ◌≤◌, ◌<◌}
use native.Mathlib.Omega.{arith}
use lib.Dec.{leb}
use borrow.Author.Tests.{leb-true, leb-false, le-leb, lt-leb}
use Rattle.ground.proofs.Masks.{has-or, has-and}
use Rattle.annotation.specs.Kinds.{algebra}
use Rattle.annotation.proofs.Combinations.{all_set}
use Rattle.rhodf.specs.Plain.{Reads, has_bit}

-- a kind of which each of the 64 bits can be read
abbrev pub ReadsBits : ℕ → Type 0
ReadsBits kind = (k : ℕ) → k < 64 → Reads (algebra kind) (has_bit k)

pub years-read : ReadsBits 1
unfolding algebra
years-read k h = record { of_join = λ a b. has-or a b k; of_meet = λ a b va vb. has-and a b k; of_top = all_set k h }

pub sheets-read : ReadsBits 5
unfolding algebra
sheets-read k h = record { of_join = λ a b. has-or a b k; of_meet = λ a b va vb. has-and a b k; of_top = all_set k h }

-- a degree of at least u
module _ (u : ℕ) where
  abbrev scale : ℕ
  scale = 3

  of_join : (a b : ℕ) (v w : Bool) → leb u a ≡ v → leb u b ≡ w → leb u ((algebra scale).join a b) ≡ v || w
  unfolding algebra
  of_join a b true w e f = le-leb u _ (omega (arith, leb-true u a e))
  of_join a b false true e f = le-leb u _ (omega (arith, leb-true u b f))
  of_join a b false false e f = lt-leb u _ (omega (arith, leb-false u a e, leb-false u b f))

  of_meet : (a b : ℕ) → (algebra scale).Value a → (algebra scale).Value b
      → (v w : Bool) → leb u a ≡ v → leb u b ≡ w → leb u ((algebra scale).meet a b) ≡ v && w
  unfolding algebra
  of_meet a b va vb true true e f = le-leb u _ (omega (arith, leb-true u a e, leb-true u b f))
  of_meet a b va vb true false e f = lt-leb u _ (omega (arith, leb-false u b f))
  of_meet a b va vb false w e f = lt-leb u _ (omega (arith, leb-false u a e))

  pub degree-reads : u ≤ 1000 → Reads (algebra scale) (λ a. leb u a)
  unfolding algebra
  degree-reads h = record {
    of_join = λ a b. of_join a b (leb u a) (leb u b) refl refl;
    of_meet = λ a b va vb. of_meet a b va vb (leb u a) (leb u b) refl refl;
    of_top = le-leb u 1000 h;
  }

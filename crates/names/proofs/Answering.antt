-- What is answered before the list is looked at, case by case as the code meets it. Assumes nothing.
use mathlib.Core.Path.{◌≡◌, refl}
use mathlib.Core.Bool.{false, ◌&&◌, and-false}
use mathlib.Core.List.{List}
use Prim.Native.Nat.{ℕ, zero, suc, ◌≤◌, ◌<◌}
use lib.Dec.{eqb, ltb}
use borrow.Author.Tests.{eq-eqb, ne_eqb, lt-ltb, le-ltb}
use Rattle.std.specs.Prelude.{Ok}
use Rattle.names.specs.Names.{Entry}
use Rattle.names.specs.Entering.{lookup, five_number, lookup_five, known, first_of}
use Rattle.names.specs.Finding.{number_for}

-- ---- the first number of a sort

pub first-name : (sort : ℕ) → sort ≡ 0 → 5 ≡ first_of sort
unfolding first_of
first-name sort e = rw e refl

pub first-blank : (sort : ℕ) → sort ≡ 1 → 16384 ≡ first_of sort
unfolding first_of
first-blank sort e = rw e refl

pub first-other : (sort : ℕ) → (sort ≡ 0 → ⊥) → (sort ≡ 1 → ⊥) → 32768 ≡ first_of sort
unfolding first_of
first-other zero a b = absurd (a refl)
first-other (suc zero) a b = absurd (b refl)
first-other (suc (suc sort)) a b = refl

-- ---- the number, or the next

module _ (es : List Entry) (sort : ℕ) (word : List ℕ) where
  pub for_five : sort ≡ 0 → five_number word < 5 → Ok (five_number word) ≡ number_for es sort word
  unfolding lookup_five
  for_five e h = rw (eq-eqb sort 0 e, lt-ltb (five_number word) 5 h) refl

  not_five : eqb sort 0 && ltb (five_number word) 5 ≡ false → known es sort word ≡ lookup es sort word
  unfolding lookup_five
  not_five h = rw h refl

  pub no_five_name : 5 ≤ five_number word → known es sort word ≡ lookup es sort word
  no_five_name h = not_five (rw (le-ltb (five_number word) 5 h) (and-false (eqb sort 0)))

  pub no_five_sort : (sort ≡ 0 → ⊥) → known es sort word ≡ lookup es sort word
  no_five_sort h = not_five (rw (ne_eqb sort 0 h) refl)

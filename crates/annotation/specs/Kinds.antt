-- The kinds of annotation, a line of the document's table each.
use Rattle.std.specs.Prelude.{Bool, not, cond, ◌&&◌, ◌||◌, List, [], ◌∷◌, ℕ, ◌+◌, ◌-◌, ◌≤◌, min, max, eqb, leb}
use Rattle.std.specs.Int.Bits.{bit_and, bit_or}
use Rattle.term.specs.Refusal.{Check, refuse}
use Rattle.annotation.specs.Algebra.{Algebra}
use Rattle.annotation.specs.Combinations.{Larger, is_larger}

-- "top is all 64 bits"; "a degree from 1 to 1000"
abbrev pub all_bits : ℕ
all_bits = 18446744073709551615

abbrev pub full_degree : ℕ
full_degree = 1000

-- 1 years: And is the bits in both, Join the bits in either; "top is all 64 bits"
abbrev pub years : Algebra
years = record { Value = λ a. a ≤ all_bits; meet = bit_and; join = bit_or; top = all_bits }

-- 3 degree: And is the smaller, Join the larger; top is 1000
abbrev pub degree : Algebra
degree = record { Value = λ a. a ≤ full_degree; meet = min; join = max; top = full_degree }

-- 4 strict degree: And is "a + b - 1000, or 0 if negative", Join the larger
abbrev pub strict : Algebra
strict = record { Value = λ a. a ≤ full_degree; meet = λ a b. a + b - full_degree; join = max; top = full_degree }

-- 5 sheets, six of them: "bit k of the annotation says whether the combination of sheets whose numbers are the set bits of k is enough";
-- "And and join stay bits in both and bits in either"
abbrev pub sheets : Algebra
sheets = record { Value = λ a. (a ≤ all_bits) × Larger a; meet = years.meet; join = years.join; top = years.top }

-- (a number that is no kind is refused before its algebra matters)
unfoldable pub algebra : ℕ → Algebra
algebra kind = cond (eqb kind 1) years (cond (eqb kind 5) sheets (cond (eqb kind 3) degree strict))

-- the kinds that there are: 1, 3, 4, 5
unfoldable pub is_kind : ℕ → Bool
is_kind kind = eqb kind 1 || (leb 3 kind && leb kind 5)

-- "4: kind"
abbrev pub kind_checks : ℕ → ℕ → List Check
kind_checks kind place = refuse (not (is_kind kind)) 4 place ∷ []

-- "An annotation is a 64-bit number"
abbrev pub is64_bit : ℕ → Bool
is64_bit a = leb a all_bits

-- "Legal: not 0" for kinds 1 and 5, "1 to 1000" for kinds 3 and 4
abbrev pub is_in_range : ℕ → ℕ → Bool
is_in_range kind a = cond (eqb kind 1 || eqb kind 5) (not (eqb a 0) && is64_bit a) (leb 1 a && leb a full_degree)

-- of kind 5: "annotation misses a larger combination"
abbrev pub misses_larger : ℕ → ℕ → Bool
misses_larger kind a = eqb kind 5 && not (is_larger a)

abbrev pub is_legal : ℕ → ℕ → Bool
is_legal kind a = is_in_range kind a && not (misses_larger kind a)

-- "10: annotation illegal"; "28 annotation misses a larger combination, directly after 10"
abbrev pub annotation_checks : ℕ → ℕ → ℕ → List Check
annotation_checks kind a place = refuse (not (is_in_range kind a)) 10 place ∷ refuse (misses_larger kind a) 28 place ∷ []

-- two numbers are values of a kind
pub record Values (kind a b : ℕ) : Type 0 where
  pub left : (algebra kind).Value a
  pub right : (algebra kind).Value b

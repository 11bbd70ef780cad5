-- Sets of terms as words: bit k of word w says whether the term 64 * w + k is in.
use Rattle.std.specs.Prelude.{◌≡◌, Bool, true, false, List, ◌⊎◌, ℕ, ◌/◌, ◌%◌, length, get_or}
use Rattle.ground.specs.Bits.{has}

abbrev pub word_bits : ℕ
word_bits = 64

-- words enough for every 16-bit term
abbrev pub words : ℕ
words = 1024

abbrev pub word_of : ℕ → ℕ
word_of term = term / word_bits

abbrev pub holds : List ℕ → ℕ → Bool
holds set term = has (get_or set (word_of term) 0) (term % word_bits)

-- as long, and whatever the one holds the other holds
pub record Among (a b : List ℕ) : Type 0 where
  pub long : length b ≡ length a
  pub also : (term : ℕ) → holds a term ≡ true → holds b term ≡ true

-- all that was in the set is, and the term too where `on`
pub record With (on : Bool) (term : ℕ) (a b : List ℕ) : Type 0 where
  pub more : Among a b
  pub there : on ≡ true → holds b term ≡ true

-- all that was in the set is, but the term, and nothing else
pub record Without (term : ℕ) (a b : List ℕ) : Type 0 where
  pub less : Among b a
  pub gone : holds b term ≡ false
  pub others : (other : ℕ) → holds a other ≡ true → (other ≡ term) ⊎ (holds b other ≡ true)

-- Numbers as sets: bit k of a number says whether k is in it.
use Rattle.std.specs.Prelude.{◌≡◌, Bool, ℕ, ◌/◌, ◌%◌, ◌^◌, eqb}

-- "bit k": 1 where it is set
abbrev pub bit_of : ℕ → ℕ → ℕ
bit_of k a = a / 2 ^ k % 2

-- whether the number m has the bit k
unfoldable pub has : ℕ → ℕ → Bool
has m k = eqb (bit_of k m) 1

-- "subset": every bit of a is in b
abbrev pub Subset : ℕ → ℕ → Type 0
Subset a b = (k : ℕ) → bit_of k a ≡ 1 → bit_of k b ≡ 1

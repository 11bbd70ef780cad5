-- Combinations of the six sheets: the number k, below 64, stands for the sheets whose numbers are its set bits.
use Rattle.std.specs.Prelude.{◌≡◌, Bool, true, not, ◌||◌, ℕ, ◌<◌}
use Rattle.ground.specs.Lists.{all_below}
use Rattle.ground.specs.Bits.{has, Subset}

-- "six sheets"
abbrev pub most_sheets : ℕ
most_sheets = 6

abbrev pub combinations : ℕ
combinations = 64

-- "If a combination is enough, so is every larger one"
abbrev pub Larger : ℕ → Type 0
Larger a = (k m : ℕ) → k < combinations → m < combinations → Subset k m → has a k ≡ true → has a m ≡ true

-- the sheets of the combination k are all among those of m
abbrev pub is_within : ℕ → ℕ → Bool
is_within k m = all_below most_sheets (λ i. not (has k i) || has m i)

-- the same as a test: every two combinations are tried
unfoldable pub is_larger : ℕ → Bool
is_larger a = all_below combinations (λ k. all_below combinations (λ m. not (is_within k m) || (not (has a k) || has a m)))

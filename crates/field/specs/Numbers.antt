-- Numbers in bytes, "high byte first", and bytes of numbers.
use Rattle.std.specs.Prelude.{List, [], ◌∷◌, ◌++◌, ℕ, ◌+◌, ◌*◌, ◌/◌, ◌%◌, length, get_or, take, drop}

-- how many numbers two bytes hold, and four
abbrev pub two_hold : ℕ
two_hold = 65536

abbrev pub four_hold : ℕ
four_hold = 4294967296

unfoldable pub two_at : List ℕ → ℕ → ℕ
two_at b at = get_or b at 0 * 256 + get_or b (at + 1) 0

unfoldable pub four_at : List ℕ → ℕ → ℕ
four_at b at = two_at b at * two_hold + two_at b (at + 2)

unfoldable pub eight_at : List ℕ → ℕ → ℕ
eight_at b at = four_at b at * four_hold + four_at b (at + 4)

unfoldable pub two_bytes : ℕ → List ℕ
two_bytes n = n / 256 % 256 ∷ n % 256 ∷ []

unfoldable pub four_bytes : ℕ → List ℕ
four_bytes n = two_bytes (n / two_hold % two_hold) ++ two_bytes (n % two_hold)

unfoldable pub eight_bytes : ℕ → List ℕ
eight_bytes n = four_bytes (n / four_hold % four_hold) ++ four_bytes (n % four_hold)

-- bytes b with the bytes v written over them from `at` on
unfoldable pub written : List ℕ → ℕ → List ℕ → List ℕ
written b at v = take at b ++ v ++ drop (at + length v) b

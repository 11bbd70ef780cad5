-- std's decimal text of a number is the one of Text, and how long that is. Assumes nothing.
use mathlib.Core.Path.{◌≡◌, refl, sym, ◌∙◌}
use mathlib.Core.List.{[], ◌∷◌, ◌++◌}
use Prim.Native.Nat.{ℕ, zero, suc, ◌+◌, ◌*◌, ◌/◌, ◌%◌, ◌^◌, ◌≤◌, ◌<◌}
use native.Mathlib.Nat.{pow-suc}
use native.Mathlib.Decide.{dec_lt}
use native.Mathlib.Omega.{arith}
use lib.ListN.{length, length-append}
use borrow.Author.Tests.{lt-ltb, le-ltb}
use Rattle.std.specs.Fmt.{decimal as Fmt-decimal}
use Rattle.std.proofs.lemmas.Fmt.{AppendsLastDigit, decimal_from_appends, length-decimal-le}
use Rattle.printing.specs.Text.{decimal_in, decimal}

no_places : (n : ℕ) → decimal_in zero n ≡ []
unfolding decimal_in
no_places n = refl

one-digit : (places n : ℕ) → n < 10 → decimal_in (suc places) n ≡ (48 + n % 10) ∷ []
unfolding decimal_in
one-digit places n h = rw (lt-ltb n 10 h) refl

more-digits : (places n : ℕ) → 10 ≤ n → decimal_in (suc places) n ≡ decimal_in places (n / 10) ++ ((48 + n % 10) ∷ [])
unfolding decimal_in
more-digits places n h = rw (le-ltb n 10 h) refl

-- std's digits of a number of 64 bits are the same
last-digits : AppendsLastDigit decimal_in
last-digits = record {
  one = λ k n h. let e : n % 10 ≡ n = omega arith in one-digit k n h ∙ rw e refl;
  more = more-digits;
}

pub decimal-is : (n : ℕ) → n < 18446744073709551616 → Fmt-decimal n ≡ decimal n
unfolding decimal
decimal-is n small = sym (decimal_from_appends decimal_in last-digits 20 n small (length-decimal-le 20 n (omega arith) (omega arith) small))

-- ---- how long a text is

pub at_most_places : (places n : ℕ) → length (decimal_in places n) ≤ places
at_most_places zero n = rw (no_places n) (omega arith)
at_most_places (suc places) n = go (dec_lt n 10) (at_most_places places (n / 10))
  where
    go : Dec (n < 10) → length (decimal_in places (n / 10)) ≤ places → length (decimal_in (suc places) n) ≤ suc places
    go (yes h) rest = rw (one-digit places n h) (omega arith)
    go (no h) rest = rw (more-digits places n (omega arith)) (omega (arith, length-append (decimal_in places (n / 10)) ((48 + n % 10) ∷ [])))

below : (k places n : ℕ) → n < 10 ^ suc k → length (decimal_in places n) ≤ suc k
below k zero n h = omega (arith, at_most_places zero n)
below zero (suc places) n h = let s : n < 10 = h in rw (one-digit places n s) (omega arith)
below (suc k) (suc places) n h = go (dec_lt n 10) (below k places (n / 10) (let e : 10 ^ suc (suc k) ≡ 10 ^ suc k * 10 = pow-suc 10 (suc k) in omega arith))
  where
    go : Dec (n < 10) → length (decimal_in places (n / 10)) ≤ suc k → length (decimal_in (suc places) n) ≤ suc (suc k)
    go (yes q) rest = rw (one-digit places n q) (omega arith)
    go (no q) rest = rw (more-digits places n (omega arith)) (omega (arith, length-append (decimal_in places (n / 10)) ((48 + n % 10) ∷ [])))

pub decimal-long : (n : ℕ) → length (decimal n) ≤ 20
unfolding decimal
decimal-long n = at_most_places 20 n

pub term-long : (n : ℕ) → n < 65536 → length (decimal n) ≤ 5
unfolding decimal
term-long n h = below 4 20 n (omega arith)

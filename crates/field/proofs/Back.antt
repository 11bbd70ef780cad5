-- A number's bytes read back to the number, wherever they stand. Assumes nothing.
use mathlib.Core.Path.{◌≡◌, refl, ap, ◌∙◌}
use mathlib.Core.List.{List, ◌++◌, append_assoc}
use Prim.Native.Nat.{ℕ, ◌+◌, ◌/◌, ◌%◌, ◌<◌}
use native.Mathlib.Nat.{add_assoc}
use native.Mathlib.Omega.{arith}
use lib.ListN.{length}
use lib.Seq.{get_or-append-add}
use Rattle.field.specs.Numbers.{two_hold, four_hold, two_at, four_at, eight_at, two_bytes, four_bytes, eight_bytes}
use Rattle.field.proofs.Writing.{length_two, length-four}

-- what stands behind other bytes
module _ (pre x : List ℕ) where
  pub two_behind : (k : ℕ) → two_at (pre ++ x) (length pre + k) ≡ two_at x k
  unfolding two_at
  two_behind k = rw (get_or-append-add pre x k 0, add_assoc (length pre) k 1, get_or-append-add pre x (k + 1) 0) refl

  pub four_behind : (k : ℕ) → four_at (pre ++ x) (length pre + k) ≡ four_at x k
  unfolding four_at
  four_behind k = rw (two_behind k, add_assoc (length pre) k 2, two_behind (k + 2)) refl

  pub eight_behind : (k : ℕ) → eight_at (pre ++ x) (length pre + k) ≡ eight_at x k
  unfolding eight_at
  eight_behind k = rw (four_behind k, add_assoc (length pre) k 4, four_behind (k + 4)) refl

pub two_back : (n : ℕ) (x : List ℕ) → n < two_hold → two_at (two_bytes n ++ x) 0 ≡ n
unfolding two_at two_bytes
two_back n x h = omega arith

two_past : (v x : List ℕ) → length v ≡ 2 → two_at (v ++ x) 2 ≡ two_at x 0
two_past v x e = ap (two_at (v ++ x)) (rw e refl) ∙ two_behind v x 0

pub four_back : (n : ℕ) (x : List ℕ) → n < four_hold → four_at (four_bytes n ++ x) 0 ≡ n
unfolding four_at four_bytes
four_back n x h =
    let hi = n / two_hold % two_hold in
    let lo = n % two_hold in
    rw (append_assoc (two_bytes hi) (two_bytes lo) x, two_back hi (two_bytes lo ++ x) (omega arith), two_past (two_bytes hi) (two_bytes lo ++ x) (length_two hi), two_back lo x (omega arith))
    (omega arith)

four_past : (v x : List ℕ) → length v ≡ 4 → four_at (v ++ x) 4 ≡ four_at x 0
four_past v x e = ap (four_at (v ++ x)) (rw e refl) ∙ four_behind v x 0

pub eight_back : (n : ℕ) (x : List ℕ) → n < 18446744073709551616 → eight_at (eight_bytes n ++ x) 0 ≡ n
unfolding eight_at eight_bytes
eight_back n x h =
    let hi = n / four_hold % four_hold in
    let lo = n % four_hold in
    rw (append_assoc (four_bytes hi) (four_bytes lo) x, four_back hi (four_bytes lo ++ x) (omega arith), four_past (four_bytes hi) (four_bytes lo ++ x) (length-four hi), four_back lo x (omega arith))
    (omega arith)

-- Chunks of one size come off a list one after another. Assumes nothing.
use mathlib.Core.Path.{◌≡◌, refl, sym, ◌∙◌}
use mathlib.Core.List.{List, ◌++◌}
use Prim.Native.Nat.{ℕ, ◌+◌, ◌*◌}
use native.Mathlib.Omega.{arith}
use native.Mathlib.Numerals.{add-one}
use native.Mathlib.Nat.{suc-mul}
use lib.ListN.{length, take, drop}
use lib.Seq.{take_at, drop_at, drop-drop}

-- i chunks have come off the list xs, each of n elements
pub record ChunksLeft (n : ℕ) (xs : List ℕ) (i size : ℕ) (rest : List ℕ) : Type 0 where
  pub size_is : size ≡ n
  pub rest_is : rest ≡ drop (i * n) xs

pub chunks-start : (n : ℕ) (xs rest : List ℕ) (size : ℕ) → size ≡ n → rest ≡ xs → ChunksLeft n xs 0 size rest
chunks-start n xs rest size es er = let z : 0 * n ≡ 0 = omega arith in record { size_is = es; rest_is = er ∙ rw z refl }

module _ (n : ℕ) (xs : List ℕ) (i size : ℕ) (rest : List ℕ) (h : ChunksLeft n xs i size rest)
    (chunk rest' : List ℕ) (size' : ℕ) (same : size' ≡ size) (e : rest ≡ chunk ++ rest') (long : length chunk ≡ size) where
  pub chunk_is : chunk ≡ take n (drop (i * n) xs)
  chunk_is = sym (rw (← h.rest_is, e) (take_at chunk rest' n (long ∙ h.size_is)))

  pub chunks-next : ChunksLeft n xs (i + 1) size' rest'
  chunks-next =
      let one : (i + 1) * n ≡ i * n + n = rw (add-one i) (suc-mul i n) in
      record {
        size_is = same ∙ h.size_is;
        rest_is = sym (rw (one, ← drop-drop n (i * n) xs, ← h.rest_is, e) (drop_at chunk rest' n (long ∙ h.size_is)));
      }

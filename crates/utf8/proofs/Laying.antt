-- A character's octets stored one after another. Assumes nothing.
use mathlib.Core.Path.{◌≡◌, sym, ap}
use mathlib.Core.List.{List, [], ◌∷◌, ◌++◌}
use Prim.Native.Nat.{ℕ, ◌+◌, ◌/◌, ◌%◌, ◌≤◌, ◌<◌}
use native.Mathlib.Numerals.{add-one, add-two, add-three}
use lib.ListN.{length, set, take, drop}
use lib.Seq.{sets, sets-eq}
use Rattle.utf8.specs.Characters.{char_bytes}
use Rattle.utf8.proofs.Agree.{bytes_one, bytes-two, bytes-three, bytes-four}

module _ (c : ℕ) where
  pub size-one : c ≤ 0x7F → 1 ≡ length (char_bytes c)
  size-one h = sym (ap length (bytes_one c h))

  pub size-two : 0x7F < c → c ≤ 0x7FF → 2 ≡ length (char_bytes c)
  size-two l h = sym (ap length (bytes-two c l h))

  pub size-three : 0x7FF < c → c ≤ 0xFFFF → 3 ≡ length (char_bytes c)
  size-three l h = sym (ap length (bytes-three c l h))

  pub size-four : 0xFFFF < c → 4 ≡ length (char_bytes c)
  size-four l = sym (ap length (bytes-four c l))

module _ (b : List ℕ) (at c : ℕ) (fits : at + length (char_bytes c) ≤ length b) where
  laid : (v : List ℕ) → char_bytes c ≡ v → sets b at v ≡ take at b ++ char_bytes c ++ drop (at + length (char_bytes c)) b
  laid v e = let k : at + length v ≤ length b = rw e at fits in rw e (sets-eq v b at k)

  pub lay_one : c ≤ 0x7F → set b at c ≡ take at b ++ char_bytes c ++ drop (at + length (char_bytes c)) b
  lay_one h = laid (c ∷ []) (bytes_one c h)

  pub lay_two : 0x7F < c → c ≤ 0x7FF → (p : ℕ) → p ≡ 0x80 + c % 64
      → set (set b at (0xC0 + c / 64)) (at + 1) p ≡ take at b ++ char_bytes c ++ drop (at + length (char_bytes c)) b
  lay_two l h p e = rw (add-one at, e) (laid ((0xC0 + c / 64) ∷ (0x80 + c % 64) ∷ []) (bytes-two c l h))

  pub lay_three : 0x7FF < c → c ≤ 0xFFFF → (p q : ℕ) → p ≡ 0x80 + c / 64 % 64 → q ≡ 0x80 + c % 64
      → set (set (set b at (0xE0 + c / 4096)) (at + 1) p) (at + 2) q ≡ take at b ++ char_bytes c ++ drop (at + length (char_bytes c)) b
  lay_three l h p q e f = rw (add-one at, add-two at, e, f) (laid ((0xE0 + c / 4096) ∷ (0x80 + c / 64 % 64) ∷ (0x80 + c % 64) ∷ []) (bytes-three c l h))

  pub lay_four : 0xFFFF < c → (p q r : ℕ) → p ≡ 0x80 + c / 4096 % 64 → q ≡ 0x80 + c / 64 % 64 → r ≡ 0x80 + c % 64
      → set (set (set (set b at (0xF0 + c / 262144)) (at + 1) p) (at + 2) q) (at + 3) r ≡ take at b ++ char_bytes c ++ drop (at + length (char_bytes c)) b
  lay_four l p q r e f g =
      rw (add-one at, add-two at, add-three at, e, f, g)
      (laid ((0xF0 + c / 262144) ∷ (0x80 + c / 4096 % 64) ∷ (0x80 + c / 64 % 64) ∷ (0x80 + c % 64) ∷ []) (bytes-four c l))

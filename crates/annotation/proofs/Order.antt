-- "At most" is an order in which Join is the least upper bound and And is monotone: from `Laws` alone. Assumes nothing.
use mathlib.Core.Path.{◌≡◌, sym, ap, ◌∙◌}
use Prim.Native.Nat.{ℕ, ◌<◌, ◌≤◌}
use native.Mathlib.Decide.{dec_lt}
use native.Mathlib.Omega.{arith}
use Rattle.annotation.specs.Algebra.{Algebra, AtMost, Laws}

module _ (K : Algebra) (L : Laws K) where
  pub at_most_self : (a : ℕ) → AtMost K a a
  at_most_self a = L.join_self a

  pub at_most_trans : (a b c : ℕ) → AtMost K a b → AtMost K b c → AtMost K a c
  at_most_trans a b c h k = ap (K.join a) (sym k) ∙ sym (L.join_assoc a b c) ∙ ap (λ x. K.join x c) h ∙ k

  pub at_most_both : (a b : ℕ) → AtMost K a b → AtMost K b a → a ≡ b
  at_most_both a b h k = sym k ∙ L.join_comm b a ∙ h

  pub bottom-at_most : (a : ℕ) → AtMost K 0 a
  bottom-at_most a = L.join_comm 0 a ∙ L.join_bottom a

  pub at_most_top : (a : ℕ) → K.Value a → AtMost K a K.top
  at_most_top a v = L.join_top a v

  pub at_most_join_left : (a b : ℕ) → AtMost K a (K.join a b)
  at_most_join_left a b = sym (L.join_assoc a a b) ∙ ap (λ x. K.join x b) (L.join_self a)

  pub at_most_join_right : (a b : ℕ) → AtMost K b (K.join a b)
  at_most_join_right a b = ap (K.join b) (L.join_comm a b) ∙ at_most_join_left b a ∙ L.join_comm b a

  pub join-at_most : (a b c : ℕ) → AtMost K a c → AtMost K b c → AtMost K (K.join a b) c
  join-at_most a b c h k = L.join_assoc a b c ∙ ap (K.join a) k ∙ h

  pub meet-at_most_right : (a b c : ℕ) → K.Value a → K.Value b → K.Value c → AtMost K b c → AtMost K (K.meet a b) (K.meet a c)
  meet-at_most_right a b c va vb vc h = sym (L.meet_join a b c va vb vc) ∙ ap (K.meet a) h

  pub meet-at_most_left : (a b c : ℕ) → K.Value a → K.Value b → K.Value c → AtMost K a b → AtMost K (K.meet a c) (K.meet b c)
  meet-at_most_left a b c va vb vc h = rw (L.meet_comm a c, L.meet_comm b c) (meet-at_most_right c a b vc va vb h)

  pub meet-at_most : (a b c d : ℕ) → K.Value a → K.Value b → K.Value c → K.Value d
      → AtMost K a b → AtMost K c d → AtMost K (K.meet a c) (K.meet b d)
  meet-at_most a b c d va vb vc vd h k =
      at_most_trans (K.meet a c) (K.meet b c) (K.meet b d) (meet-at_most_left a b c va vb vc h) (meet-at_most_right b c d vb vc vd k)

  -- what is at most a number is no larger, so bottom alone is at most bottom
  pub at_most_le : (a b : ℕ) → AtMost K a b → a ≤ b
  at_most_le a b h = omega (arith, L.join_grows a b)

  -- joining gives the same or a larger number
  pub join-raises : (a b : ℕ) → (K.join a b ≡ a → ⊥) → a < K.join a b
  join-raises a b h = omega (arith, L.join_grows a b)

  -- an And other than bottom is of two other than bottom
  pub meet-not_bottom : (a b : ℕ) → K.Value a → K.Value b → 0 < K.meet a b → (0 < a) × (0 < b)
  meet-not_bottom a b va vb h = (left (dec_lt 0 a), right (dec_lt 0 b))
    where
      left : Dec (0 < a) → 0 < a
      left (yes q) = q
      left (no q) = let e : a ≡ 0 = omega arith in absurd (omega (arith, rw (e, L.meet_comm 0 b, L.meet_bottom b vb) at h))

      right : Dec (0 < b) → 0 < b
      right (yes q) = q
      right (no q) = let e : b ≡ 0 = omega arith in absurd (omega (arith, rw (e, L.meet_bottom a va) at h))

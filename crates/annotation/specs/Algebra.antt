-- What a kind of annotation is, and the laws that all theory stands on.
use Rattle.std.specs.Prelude.{◌≡◌, ℕ, ◌≤◌}

-- Which numbers are values (0, bottom, is one), And, Join, and the top.
pub record Algebra : Type 1 where
  pub Value : ℕ → Type 0
  pub meet : ℕ → ℕ → ℕ
  pub join : ℕ → ℕ → ℕ
  pub top : ℕ

-- at most: joining changes nothing
abbrev pub AtMost : Algebra → ℕ → ℕ → Type 0
AtMost K a b = K.join a b ≡ b

-- "both operations commutative and associative, x distributes over +, bottom and top as usual"
pub record Laws (K : Algebra) : Type 0 where
  pub bottom_value : K.Value 0
  pub top_value : K.Value K.top
  pub meet_value : (a b : ℕ) → K.Value a → K.Value b → K.Value (K.meet a b)
  pub join_value : (a b : ℕ) → K.Value a → K.Value b → K.Value (K.join a b)
  pub meet_comm : (a b : ℕ) → K.meet a b ≡ K.meet b a
  pub meet_assoc : (a b c : ℕ) → K.Value a → K.Value b → K.Value c → K.meet (K.meet a b) c ≡ K.meet a (K.meet b c)
  pub join_comm : (a b : ℕ) → K.join a b ≡ K.join b a
  pub join_assoc : (a b c : ℕ) → K.join (K.join a b) c ≡ K.join a (K.join b c)
  pub meet_join : (a b c : ℕ) → K.Value a → K.Value b → K.Value c → K.meet a (K.join b c) ≡ K.join (K.meet a b) (K.meet a c)
  pub meet_bottom : (a : ℕ) → K.Value a → K.meet a 0 ≡ 0
  pub meet_top : (a : ℕ) → K.Value a → K.meet a K.top ≡ a
  pub join_bottom : (a : ℕ) → K.join a 0 ≡ a
  pub join_top : (a : ℕ) → K.Value a → K.join a K.top ≡ K.top
  pub join_self : (a : ℕ) → K.join a a ≡ a
  -- joining never gives a smaller number, so that a table that is raised again and again comes to an end
  pub join_grows : (a b : ℕ) → a ≤ K.join a b
  pub value_bound : (a : ℕ) → K.Value a → a ≤ 18446744073709551615

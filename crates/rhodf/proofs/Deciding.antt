-- A table is closed, or has a conclusion that is not at most its value: found by trying a rule at every one, every two, or every three
-- of its rows. Assumes nothing.
use mathlib.Core.Path.{◌≡◌, refl}
use mathlib.Core.Bool.{Bool, true, false, Bool-discrete}
use mathlib.Core.List.{List, [], ◌∷◌}
use mathlib.Core.Logic.Dec
use mathlib.Core.Logic.{◌⊎◌, inl, inr}
use Prim.Native.Nat.{ℕ, ◌<◌}
use native.Mathlib.Decide.{ℕ_discrete}
use native.Mathlib.Omega.{arith}
use Rattle.annotation.specs.Algebra.{Algebra, AtMost, Laws}
use Rattle.table.specs.Rows.{Triple, Row, is_triple, value_at}
use Rattle.table.proofs.Values.{triple_of, triple-tells, value_none, value_there}
use Rattle.rhodf.specs.Graph.{Graph, graph_of, Valued, meet_all}
use Rattle.rhodf.specs.Rules.{Rules, Drawn}
use Rattle.rhodf.specs.Closure.{Closed}

-- a conclusion that is to be drawn
pub record ToDraw (K : Algebra) (R : Rules) (G : Graph) : Type 0 where
  pub premises : List Triple
  pub conclusion : Triple
  pub follows : R premises conclusion
  pub named : Drawn conclusion
  pub above : AtMost K (meet_all K G premises) (G conclusion) → ⊥

-- of every table it is known whether it is closed under R
abbrev pub Decided : Rules → Type 1
Decided R = (K : Algebra) → Laws K → (rows : List Row) → Valued K (graph_of rows) → Closed K R (graph_of rows) ⊎ ToDraw K R (graph_of rows)

-- P at each triple that the rows hold, or U
every : {P : Triple → Type 0} {U : Type 0} → ((t : Triple) → P t ⊎ U) → (rows : List Row) → ((t : Triple) → 0 < value_at rows t → P t) ⊎ U
every try [] = inl (λ t h. absurd (omega (arith, value_none t)))
every {P} {U} try (x ∷ xs) = go (try (triple_of x)) (every try xs)
  where
    go : P (triple_of x) ⊎ U → ((t : Triple) → 0 < value_at xs t → P t) ⊎ U → ((t : Triple) → 0 < value_at (x ∷ xs) t → P t) ⊎ U
    go (inr u) later = inr u
    go (inl p) (inr u) = inr u
    go (inl p) (inl later) = inl (λ t h. at t h (is_triple t x) refl)
      where
        at : (t : Triple) → 0 < value_at (x ∷ xs) t → (b : Bool) → is_triple t x ≡ b → P t
        at t h true e = rw (← triple-tells t x e) p
        at t h false e = later t (rw (value_there x xs t e) at h)

-- premises fit a rule where terms of theirs are equal
abbrev pub Agree : List (ℕ × ℕ) → Type 0
Agree [] = Unit {0}
Agree (e ∷ es) = (e.0 ≡ e.1) × Agree es

agrees : (es : List (ℕ × ℕ)) → Dec (Agree es)
agrees [] = yes tt
agrees (e ∷ es) = Dec.and (ℕ_discrete e.0 e.1) (agrees es)

named? : (t : Triple) → Dec (Drawn t)
named? t = Bool-discrete _ _

-- a rule of one, of two, or of three premises: which terms are to be equal, and the conclusion
pub record OfOne : Type 0 where
  pub where_equal : Triple → List (ℕ × ℕ)
  pub gives : Triple → Triple

pub record OfTwo : Type 0 where
  pub where_equal : Triple → Triple → List (ℕ × ℕ)
  pub gives : Triple → Triple → Triple

pub record OfThree : Type 0 where
  pub where_equal : Triple → Triple → Triple → List (ℕ × ℕ)
  pub gives : Triple → Triple → Triple → Triple

-- where the terms are equal, the conclusion t of the premises ps is at most its value; so at all premises that hold
abbrev Obeyed : Algebra → Graph → List (ℕ × ℕ) → List Triple → Triple → Type 0
Obeyed K G es ps t = Agree es → Drawn t → AtMost K (meet_all K G ps) (G t)

abbrev pub ObeyedByOne : Algebra → Graph → OfOne → Type 0
ObeyedByOne K G rule = (x : Triple) → 0 < G x → Obeyed K G (rule.where_equal x) (x ∷ []) (rule.gives x)

abbrev pub ObeyedByTwo : Algebra → Graph → OfTwo → Type 0
ObeyedByTwo K G rule = (x : Triple) → 0 < G x → (y : Triple) → 0 < G y → Obeyed K G (rule.where_equal x y) (x ∷ y ∷ []) (rule.gives x y)

abbrev pub ObeyedByThree : Algebra → Graph → OfThree → Type 0
ObeyedByThree K G rule =
    (x : Triple) → 0 < G x → (y : Triple) → 0 < G y → (z : Triple) → 0 < G z
    → Obeyed K G (rule.where_equal x y z) (x ∷ y ∷ z ∷ []) (rule.gives x y z)

module _ (K : Algebra) (R : Rules) (rows : List Row) where
  abbrev G : Graph
  G = graph_of rows

  obeyed_at : (es : List (ℕ × ℕ)) (ps : List Triple) (t : Triple) → (Agree es → R ps t) → Obeyed K G es ps t ⊎ ToDraw K R G
  obeyed_at es ps t rule = go (agrees es) (named? t) (ℕ_discrete (K.join (meet_all K G ps) (G t)) (G t))
    where
      go : Dec (Agree es) → Dec (Drawn t) → Dec (AtMost K (meet_all K G ps) (G t)) → Obeyed K G es ps t ⊎ ToDraw K R G
      go (no f) n a = inl (λ fit named. absurd (f fit))
      go (yes f) (no n) a = inl (λ fit named. absurd (n named))
      go (yes f) (yes n) (yes a) = inl (λ fit named. a)
      go (yes f) (yes n) (no a) = inr (record { premises = ps; conclusion = t; follows = rule f; named = n; above = a })

  pub obeyed_by_one : (rule : OfOne) → ((x : Triple) → Agree (rule.where_equal x) → R (x ∷ []) (rule.gives x)) → ObeyedByOne K G rule ⊎ ToDraw K R G
  obeyed_by_one rule is = every (λ x. obeyed_at (rule.where_equal x) (x ∷ []) (rule.gives x) (is x)) rows

  pub obeyed_by_two : (rule : OfTwo) → ((x y : Triple) → Agree (rule.where_equal x y) → R (x ∷ y ∷ []) (rule.gives x y))
      → ObeyedByTwo K G rule ⊎ ToDraw K R G
  obeyed_by_two rule is = every (λ x. every (λ y. obeyed_at (rule.where_equal x y) (x ∷ y ∷ []) (rule.gives x y) (is x y)) rows) rows

  pub obeyed_by_three : (rule : OfThree) → ((x y z : Triple) → Agree (rule.where_equal x y z) → R (x ∷ y ∷ z ∷ []) (rule.gives x y z))
      → ObeyedByThree K G rule ⊎ ToDraw K R G
  obeyed_by_three rule is =
      every (λ x. every (λ y. every (λ z. obeyed_at (rule.where_equal x y z) (x ∷ y ∷ z ∷ []) (rule.gives x y z) (is x y z)) rows) rows) rows

-- obeyed so far, or a conclusion to draw
pub ◌>>=◌ : {A B U : Type 0} → A ⊎ U → (A → B ⊎ U) → B ⊎ U
◌>>=◌ (inl a) f = f a
◌>>=◌ (inr u) f = inr u

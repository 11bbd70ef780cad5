-- Whether rows are sound, and whether they are closed under the rules, as tests that compute: for tables written out. Assumes nothing.
use mathlib.Core.Path.{◌≡◌, refl}
use mathlib.Core.Bool.{Bool, true, false, ◌&&◌, false≢true}
use mathlib.Core.List.{List, [], ◌∷◌}
use Prim.Native.Nat.{ℕ, ◌<◌}
use native.Mathlib.Omega.{arith}
use lib.Dec.{eqb, ltb}
use borrow.Author.Tests.{eqb-true, eq-eqb, ltb-true}
use Rattle.ground.specs.Lists.{All}
use Rattle.ruleset.specs.RuleSet.{reflexive_set}
use Rattle.term.specs.Term.{is_legal_term, is_name_lem}
use Rattle.annotation.specs.Algebra.{Algebra, AtMost, Laws}
use Rattle.annotation.specs.Kinds.{is_legal}
use Rattle.table.specs.Rows.{Triple, Row, key, is_triple, value_at}
use Rattle.table.specs.Sound.{LegalRow, Over, Ascending, AllLegal, SoundRows}
use Rattle.table.proofs.Values.{triple_of, triple-tells, value_none, value_there}
use Rattle.rhodf.specs.Graph.{Graph, graph_of, Valued, meet_all}
use Rattle.rhodf.specs.Rules.{Drawn, Rule, Reflexive, rules_with, rules_of}
use Rattle.rhodf.specs.Closure.{Closed}
use Rattle.rhodf.proofs.Drawing.{closed-where_held}
use Rattle.rhodf.proofs.Deciding.{Agree, OfOne, OfTwo, OfThree, ObeyedByOne, ObeyedByTwo, ObeyedByThree}
use Rattle.rhodf.proofs.RulesDecided.{rule_2a, rule_2b, rule_3a, rule_3b, rule_4a, rule_4b, rule_5a, rule_5b, closed-by_rules}
use Rattle.rhodf.proofs.Together.{closed-together}
use Rattle.rhodf.proofs.SetsDecided.{reflexive_lines, closed-by_lines}

-- several tests at once
abbrev pub all_of : List Bool → Bool
all_of [] = true
all_of (b ∷ bs) = b && all_of bs

abbrev AllTrue : List Bool → Type 0
AllTrue [] = Unit {0}
AllTrue (b ∷ bs) = (b ≡ true) × AllTrue bs

pub all_true : (bs : List Bool) → all_of bs ≡ true → AllTrue bs
all_true [] e = tt
all_true (true ∷ bs) e = (refl, all_true bs e)
all_true (false ∷ bs) e = absurd (false≢true e)

-- a test at the triple of every row
abbrev pub everywhere : (Triple → Bool) → List Row → Bool
everywhere test [] = true
everywhere test (x ∷ xs) = all_of (test (triple_of x) ∷ everywhere test xs ∷ [])

pub holds-everywhere : (test : Triple → Bool) (rows : List Row) → everywhere test rows ≡ true → (t : Triple) → 0 < value_at rows t → test t ≡ true
holds-everywhere test [] e t h = absurd (omega (arith, value_none t))
holds-everywhere test (x ∷ xs) e t h =
    let both = all_true (test (triple_of x) ∷ everywhere test xs ∷ []) e in
    go (is_triple t x) refl both.0 (holds-everywhere test xs both.1.0 t)
  where
    go : (b : Bool) → is_triple t x ≡ b → test (triple_of x) ≡ true → (0 < value_at xs t → test t ≡ true) → test t ≡ true
    go true e here later = rw (← triple-tells t x e) here
    go false e here later = later (rw (value_there x xs t e) at h)

-- the terms that are to be equal are
abbrev all_equal : List (ℕ × ℕ) → Bool
all_equal [] = true
all_equal (e ∷ es) = eqb e.0 e.1 && all_equal es

agree-equal : (es : List (ℕ × ℕ)) → Agree es → all_equal es ≡ true
agree-equal [] h = refl
agree-equal (e ∷ es) h = rw (eq-eqb e.0 e.1 h.0) (agree-equal es h.1)

-- premises that do not fit, or a conclusion that is not drawn, or one at most its value
abbrev is_obeyed : Algebra → Graph → List (ℕ × ℕ) → List Triple → Triple → Bool
is_obeyed K G es ps t = elim (all_equal es) [
  | false ↦ true
  | true ↦ elim (is_name_lem t.p) [ false ↦ true | true ↦ eqb (K.join (meet_all K G ps) (G t)) (G t) ]
]

module _ (K : Algebra) (rows : List Row) where
  abbrev G : Graph
  G = graph_of rows

  obeyed : (es : List (ℕ × ℕ)) (ps : List Triple) (t : Triple) → is_obeyed K G es ps t ≡ true → Agree es → Drawn t → AtMost K (meet_all K G ps) (G t)
  obeyed es ps t e fit named = eqb-true (K.join (meet_all K G ps) (G t)) (G t) (rw (agree-equal es fit, named, is_obeyed) at e)

  abbrev obeys_one : OfOne → Bool
  obeys_one rule = everywhere (λ x. is_obeyed K G (rule.where_equal x) (x ∷ []) (rule.gives x)) rows

  abbrev obeys_two : OfTwo → Bool
  obeys_two rule = everywhere (λ x. everywhere (λ y. is_obeyed K G (rule.where_equal x y) (x ∷ y ∷ []) (rule.gives x y)) rows) rows

  abbrev obeys_three : OfThree → Bool
  obeys_three rule =
      everywhere (λ x. everywhere (λ y. everywhere (λ z. is_obeyed K G (rule.where_equal x y z) (x ∷ y ∷ z ∷ []) (rule.gives x y z)) rows) rows) rows

  one-obeyed : (rule : OfOne) → obeys_one rule ≡ true → ObeyedByOne K G rule
  one-obeyed rule e x hx = obeyed (rule.where_equal x) (x ∷ []) (rule.gives x) (holds-everywhere (λ a. is_obeyed K G (rule.where_equal a) (a ∷ []) (rule.gives a)) rows e x hx)

  two_obeyed : (rule : OfTwo) → obeys_two rule ≡ true → ObeyedByTwo K G rule
  two_obeyed rule e x hx y hy =
      obeyed (rule.where_equal x y) (x ∷ y ∷ []) (rule.gives x y)
      (holds-everywhere (λ b. is_obeyed K G (rule.where_equal x b) (x ∷ b ∷ []) (rule.gives x b)) rows
      (holds-everywhere (λ a. everywhere (λ b. is_obeyed K G (rule.where_equal a b) (a ∷ b ∷ []) (rule.gives a b)) rows) rows e x hx) y hy)

  three-obeyed : (rule : OfThree) → obeys_three rule ≡ true → ObeyedByThree K G rule
  three-obeyed rule e x hx y hy z hz =
      obeyed (rule.where_equal x y z) (x ∷ y ∷ z ∷ []) (rule.gives x y z)
      (holds-everywhere (λ c. is_obeyed K G (rule.where_equal x y c) (x ∷ y ∷ c ∷ []) (rule.gives x y c)) rows
      (holds-everywhere (λ b. everywhere (λ c. is_obeyed K G (rule.where_equal x b c) (x ∷ b ∷ c ∷ []) (rule.gives x b c)) rows) rows
      (holds-everywhere (λ a. everywhere (λ b. everywhere (λ c. is_obeyed K G (rule.where_equal a b c) (a ∷ b ∷ c ∷ []) (rule.gives a b c)) rows) rows) rows e x hx) y hy) z hz)

  abbrev rules_obeyed : List Bool
  rules_obeyed =
      obeys_two rule_2a ∷ obeys_two rule_2b ∷ obeys_two rule_3a ∷ obeys_two rule_3b ∷ obeys_two rule_4a ∷ obeys_two rule_4b
      ∷ obeys_three rule_5a ∷ obeys_three rule_5b ∷ []

  rules-closed : Laws K → Valued K G → all_of rules_obeyed ≡ true → Closed K Rule G
  rules-closed L v e =
      let h = all_true rules_obeyed e in
      closed-where_held K L Rule G v
      (closed-by_rules K G
      (two_obeyed rule_2a h.0)
      (two_obeyed rule_2b h.1.0)
      (two_obeyed rule_3a h.1.1.0)
      (two_obeyed rule_3b h.1.1.1.0)
      (two_obeyed rule_4a h.1.1.1.1.0)
      (two_obeyed rule_4b h.1.1.1.1.1.0)
      (three-obeyed rule_5a h.1.1.1.1.1.1.0)
      (three-obeyed rule_5b h.1.1.1.1.1.1.1.0))

  abbrev lines_obeyed : List OfOne → Bool
  lines_obeyed [] = true
  lines_obeyed (line ∷ lines) = all_of (obeys_one line ∷ lines_obeyed lines ∷ [])

  lines_obeyed_lem : (lines : List OfOne) → lines_obeyed lines ≡ true → All (ObeyedByOne K G) lines
  lines_obeyed_lem [] e = tt
  lines_obeyed_lem (line ∷ lines) e =
      let h = all_true (obeys_one line ∷ lines_obeyed lines ∷ []) e in
      (one-obeyed line h.0, lines_obeyed_lem lines h.1.0)

  lines_closed : Laws K → Valued K G → lines_obeyed reflexive_lines ≡ true → Closed K Reflexive G
  lines_closed L v e = closed-where_held K L Reflexive G v (closed-by_lines K G (lines_obeyed_lem reflexive_lines e))

  -- under the rules of a set
  abbrev is_closed_with : Bool → Bool
  is_closed_with true = all_of (all_of rules_obeyed ∷ lines_obeyed reflexive_lines ∷ [])
  is_closed_with false = all_of rules_obeyed

  closed-with : (b : Bool) → Laws K → Valued K G → is_closed_with b ≡ true → Closed K (rules_with b) G
  closed-with true L v e =
      let h = all_true (all_of rules_obeyed ∷ lines_obeyed reflexive_lines ∷ []) e in
      closed-together (rules-closed L v h.0) (lines_closed L v h.1.0)
  closed-with false L v e = rules-closed L v e

  unfoldable pub is_closed_lem : ℕ → Bool
  is_closed_lem rules = is_closed_with (eqb rules reflexive_set)

  pub closed-holds : (rules : ℕ) → Laws K → Valued K G → is_closed_lem rules ≡ true → Closed K (rules_of rules) G
  unfolding is_closed_lem
  closed-holds rules = closed-with (eqb rules reflexive_set)

-- the same of sound rows
abbrev is_over : ℕ → List Row → Bool
is_over k [] = true
is_over k (x ∷ xs) = all_of (ltb k (key x) ∷ is_over k xs ∷ [])

over-holds : (k : ℕ) (rows : List Row) → is_over k rows ≡ true → Over k rows
unfolding Over
over-holds k [] e = tt
over-holds k (x ∷ xs) e = let h = all_true (ltb k (key x) ∷ is_over k xs ∷ []) e in (ltb-true k (key x) h.0, over-holds k xs h.1.0)

abbrev term_tests : Row → List Bool
term_tests x = is_legal_term x.s ∷ is_name_lem x.p ∷ is_legal_term x.o ∷ []

-- all but the annotations
unfoldable pub is_ordered : List Row → Bool
is_ordered [] = true
is_ordered (x ∷ xs) = all_of (is_over (key x) xs ∷ all_of (term_tests x) ∷ is_ordered xs ∷ [])

module _ (kind : ℕ) where
  abbrev pub AllAnnotated : List Row → Type 0
  AllAnnotated [] = Unit {0}
  AllAnnotated (x ∷ xs) = (is_legal kind x.a ≡ true) × AllAnnotated xs

  unfoldable pub is_annotated : List Row → Bool
  is_annotated [] = true
  is_annotated (x ∷ xs) = all_of (is_legal kind x.a ∷ is_annotated xs ∷ [])

  pub annotated-holds : (rows : List Row) → is_annotated rows ≡ true → AllAnnotated rows
  unfolding is_annotated
  annotated-holds [] e = tt
  annotated-holds (x ∷ xs) e = let h = all_true (is_legal kind x.a ∷ is_annotated xs ∷ []) e in (h.0, annotated-holds xs h.1.0)

  pub sound-holds : (rows : List Row) → is_ordered rows ≡ true → AllAnnotated rows → SoundRows kind rows
  unfolding is_ordered Ascending AllLegal
  sound-holds [] e a = record { ascending = tt; legal = tt }
  sound-holds (x ∷ xs) e a =
      let h = all_true (is_over (key x) xs ∷ all_of (term_tests x) ∷ is_ordered xs ∷ []) e in
      let r = all_true (term_tests x) h.1.0 in
      let rest = sound-holds xs h.1.1.0 a.1 in
      let legal : LegalRow kind x = record { subject = r.0; predicate = r.1.0; object = r.1.1.0; annotation = a.0 } in
      record { ascending = (over-holds (key x) xs h.0, rest.ascending); legal = (legal, rest.legal) }

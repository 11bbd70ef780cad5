-- The rules (document 000, table 2): the premises and the conclusion of each.
use Rattle.std.specs.Prelude.{◌≡◌, Bool, true, false, List, [], ◌∷◌, ◌⊎◌, ℕ, eqb}
use Rattle.ruleset.specs.RuleSet.{reflexive_set}
use Rattle.term.specs.Term.{sp, sc, type, dom, range, is_name_lem}
use Rattle.table.specs.Rows.{Triple, triple}

-- a set of rules: which premises give which conclusion. "Rule 6: equal triples join" has no line: a graph has one value a triple, and a value
-- that two conclusions are at most is at or above their join
abbrev pub Rules : Type 1
Rules = List Triple → Triple → Type 0

pub data Rule : List Triple → Triple → Type 0 where
  -- "2a (A sp B):l, (B sp C):m gives (A sp C)"
  r2a : (a b c : ℕ) → Rule (triple a sp b ∷ triple b sp c ∷ []) (triple a sp c)
  -- "2b (D sp E):l, (X D Y):m gives (X E Y)"
  r2b : (d e x y : ℕ) → Rule (triple d sp e ∷ triple x d y ∷ []) (triple x e y)
  -- "3a (A sc B), (B sc C) gives (A sc C)"
  r3a : (a b c : ℕ) → Rule (triple a sc b ∷ triple b sc c ∷ []) (triple a sc c)
  -- "3b (A sc B), (X type A) gives (X type B)"
  r3b : (a b x : ℕ) → Rule (triple a sc b ∷ triple x type a ∷ []) (triple x type b)
  -- "4a (D dom B), (X D Y) gives (X type B)"
  r4a : (d b x y : ℕ) → Rule (triple d dom b ∷ triple x d y ∷ []) (triple x type b)
  -- "4b (D range B), (X D Y) gives (Y type B)"
  r4b : (d b x y : ℕ) → Rule (triple d range b ∷ triple x d y ∷ []) (triple y type b)
  -- "5a (A dom B), (D sp A), (X D Y) gives (X type B)"
  r5a : (a b d x y : ℕ) → Rule (triple a dom b ∷ triple d sp a ∷ triple x d y ∷ []) (triple x type b)
  -- "5b the same with range and (Y type B)"
  r5b : (a b d x y : ℕ) → Rule (triple a range b ∷ triple d sp a ∷ triple x d y ∷ []) (triple y type b)

-- "Rule set 2 adds, with the premise's annotation": lines of one premise, numbered on from the eight above
pub data Reflexive : List Triple → Triple → Type 0 where
  -- 9: "(X A Y) gives (A sp A)"
  r9 : (x a y : ℕ) → Reflexive (triple x a y ∷ []) (triple a sp a)
  -- 10, 11: "(A sp B) gives (A sp A), (B sp B)"
  r10 : (a b : ℕ) → Reflexive (triple a sp b ∷ []) (triple a sp a)
  r11 : (a b : ℕ) → Reflexive (triple a sp b ∷ []) (triple b sp b)
  -- 12, 13: "(A dom B) or (A range B) gives (A sp A)"
  r12 : (a b : ℕ) → Reflexive (triple a dom b ∷ []) (triple a sp a)
  r13 : (a b : ℕ) → Reflexive (triple a range b ∷ []) (triple a sp a)
  -- 14, 15: "(A sc B) gives (A sc A), (B sc B)"
  r14 : (a b : ℕ) → Reflexive (triple a sc b ∷ []) (triple a sc a)
  r15 : (a b : ℕ) → Reflexive (triple a sc b ∷ []) (triple b sc b)
  -- 16, 17, 18: "(X type A), (X dom A) or (X range A) gives (A sc A)"
  r16 : (x a : ℕ) → Reflexive (triple x type a ∷ []) (triple a sc a)
  r17 : (x a : ℕ) → Reflexive (triple x dom a ∷ []) (triple a sc a)
  r18 : (x a : ℕ) → Reflexive (triple x range a ∷ []) (triple a sc a)

-- the rules of the one and of the other
abbrev pub Together : Rules → Rules → Rules
Together R S ps t = R ps t ⊎ S ps t

-- the rules, with the reflexive lines or without
abbrev pub rules_with : Bool → Rules
rules_with true = Together Rule Reflexive
rules_with false = Rule

-- of a rule set, by its number; a number that is no rule set is refused before any rule is asked for
abbrev pub rules_of : ℕ → Rules
rules_of rules = rules_with (eqb rules reflexive_set)

-- "A conclusion whose predicate isn't a name, or whose annotation is 0, is not drawn": 0 is at most anything, so it needs no line
abbrev pub Drawn : Triple → Type 0
Drawn t = is_name_lem t.p ≡ true

-- Scaffolding, cited by inner contracts alone: the rules of a set driven from one triple, which rows each looks for, and what each of those gives.
use Rattle.std.specs.Prelude.{◌≡◌, Bool, true, false, cond, List, [], ◌∷◌, ◌++◌, ℕ, eqb, get_or}
use Rattle.ruleset.specs.RuleSet.{reflexive_set}
use Rattle.term.specs.Term.{sp, sc, type, dom, range, is_legal_term}
use Rattle.annotation.specs.Algebra.{Algebra, AtMost}
use Rattle.table.specs.Rows.{Triple, triple}
use Rattle.rhodf.specs.Graph.{Graph}
use Rattle.rhodf.specs.Rules.{Drawn}
use Rattle.plans.specs.declared.Plan.{Plan}
use Rattle.plans.specs.declared.Plan.TheVariants.{Off, Rows, Alone}
use Rattle.plans.specs.declared.Each.{Each}
use Rattle.plans.specs.declared.Each.TheVariants.{Once, Behind}
use Rattle.plans.specs.declared.Once.TheVariants.{Straight, Renaming}

-- the subject and, where it is known, the object of what each row gives
abbrev pub subject_of_each : Each → ℕ
subject_of_each (Once (Straight s p)) = s
subject_of_each (Once (Renaming s o)) = s
subject_of_each (Behind d) = d.s

abbrev pub object_of_each : Each → ℕ
object_of_each (Once (Straight s p)) = s
object_of_each (Once (Renaming s o)) = o
object_of_each (Behind d) = d.s

-- and of all that a plan gives
abbrev pub subject_of : Plan → ℕ
subject_of Off = 0
subject_of (Rows q r each) = subject_of_each each
subject_of (Alone s p o) = s

abbrev pub object_of : Plan → ℕ
object_of Off = 0
object_of (Rows q r each) = object_of_each each
object_of (Alone s p o) = o

-- nothing to do
abbrev pub off_plan : Plan
off_plan = Off

-- where `on`, rows (q r z): each gives (s p z)
abbrev pub straight_if : Bool → ℕ → ℕ → ℕ → ℕ → Plan
straight_if on q r s p = cond on (Rows q r (Once (Straight s p))) Off

-- rows (q r z): each gives (s z o)
abbrev pub renaming_plan : ℕ → ℕ → ℕ → ℕ → Plan
renaming_plan q r s o = Rows q r (Once (Renaming s o))

-- rows (q r z), and for each of them rows (z t w): each of these gives (s p w)
abbrev pub behind_plan : ℕ → ℕ → ℕ → ℕ → ℕ → Plan
behind_plan q r t s p = Rows q r (Behind (record { t = t; s = s; p = p }))

-- where `on`, no row: it gives (s p s) by itself
abbrev pub alone_if : Bool → ℕ → ℕ → Plan
alone_if on s p = cond on (Alone s p s) Off

-- a line for each rule, of the triple (x d y): 2a, 2b, 3a, 3b, 4a, 4b, 5a, 5b
unfoldable pub plans_of : ℕ → ℕ → ℕ → List Plan
plans_of x d y =
    straight_if (eqb d sp) y sp x sp
    ∷ renaming_plan d sp x y
    ∷ straight_if (eqb d sc) y sc x sc
    ∷ straight_if (eqb d type) y sc x type
    ∷ straight_if true d dom x type
    ∷ straight_if true d range y type
    ∷ behind_plan d sp dom x type
    ∷ behind_plan d sp range y type
    ∷ []

-- and for each reflexive line of rule set 2, of the same triple: 9 to 18
unfoldable pub reflexive_plans : ℕ → ℕ → ℕ → List Plan
reflexive_plans x d y =
    alone_if true d sp
    ∷ alone_if (eqb d sp) x sp
    ∷ alone_if (eqb d sp) y sp
    ∷ alone_if (eqb d dom) x sp
    ∷ alone_if (eqb d range) x sp
    ∷ alone_if (eqb d sc) x sc
    ∷ alone_if (eqb d sc) y sc
    ∷ alone_if (eqb d type) y sc
    ∷ alone_if (eqb d dom) y sc
    ∷ alone_if (eqb d range) y sc
    ∷ []

abbrev pub all_plans : Triple → List Plan
all_plans t = plans_of t.s t.p t.o ++ reflexive_plans t.s t.p t.o

-- with the reflexive lines or without: all, or the first eight
abbrev pub plans_with : Bool → Triple → List Plan
plans_with true t = all_plans t
plans_with false t = plans_of t.s t.p t.o

-- of a rule set
abbrev pub plans_for : ℕ → Triple → List Plan
plans_for rules = plans_with (eqb rules reflexive_set)

-- how many they are
abbrev pub plan_count_lem : ℕ → ℕ
plan_count_lem rules = cond (eqb rules reflexive_set) 18 8

-- one of them, and nothing to do past the last
abbrev pub plan_at : List Plan → ℕ → Plan
plan_at plans k = get_or plans k off_plan

-- what it gives has legal terms where the rows that it meets have
pub record LegalPlan (plan : Plan) : Type 0 where
  pub subject : is_legal_term (subject_of plan) ≡ true
  pub object : is_legal_term (object_of plan) ≡ true

-- what a row with the object z is to give, where the And of the premises so far is c, is at most its value
abbrev pub Met : Algebra → Graph → Each → ℕ → ℕ → Type 0
Met K G (Once (Straight s p)) z c = Drawn (triple s p z) → AtMost K c (G (triple s p z))
Met K G (Once (Renaming s o)) z c = Drawn (triple s z o) → AtMost K c (G (triple s z o))
Met K G (Behind d) z c = (w : ℕ) → Drawn (triple d.s d.p w) → AtMost K (K.meet c (G (triple z d.t w))) (G (triple d.s d.p w))

-- what every row that the plan meets is to give is at most its value, and so is what the plan gives alone; a is the annotation of the row that the plan is for
abbrev pub ObeyedBy : Algebra → Graph → Plan → ℕ → Type 0
ObeyedBy K G Off a = Unit {0}
ObeyedBy K G (Rows q r each) a = (z : ℕ) → Met K G each z (K.meet a (G (triple q r z)))
ObeyedBy K G (Alone s p o) a = Drawn (triple s p o) → AtMost K a (G (triple s p o))

-- so it is in a graph
pub record Obeyed (K : Algebra) (G : Graph) (plan : Plan) (a : ℕ) : Type 0 where
  pub obeyed : ObeyedBy K G plan a

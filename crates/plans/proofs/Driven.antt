-- What plans have to show to drive a set of rules: all that rounds need to know of either; and two sets together.
-- Assumes nothing.
use mathlib.Core.List.{List, [], ◌∷◌, ◌++◌}
use Prim.Native.Nat.{◌<◌}
use Rattle.ground.specs.Lists.{All}
use Rattle.ground.proofs.Each.{all_append}
use Rattle.annotation.specs.Algebra.{Algebra, Laws}
use Rattle.table.specs.Rows.{Triple}
use Rattle.rhodf.specs.Graph.{Graph, Valued}
use Rattle.rhodf.specs.Rules.{Rules, Together}
use Rattle.rhodf.specs.Closure.{Closed}
use Rattle.rhodf.proofs.Drawing.{LegalTriple}
use Rattle.rhodf.proofs.Together.{closed-together, closed-left, closed-right}
use Rattle.plans.specs.declared.Plan.{Plan}
use Rattle.plans.specs.Plans.{LegalPlan, Obeyed}

-- the plans of a triple are obeyed
abbrev pub AllObeyed : Algebra → (Triple → List Plan) → Graph → Triple → Type 0
AllObeyed K plans G t = All (λ plan. Obeyed K G plan (G t)) (plans t)

pub record Driven (R : Rules) (plans : Triple → List Plan) : Type 1 where
  -- every rule is driven by some plan: where all are obeyed, the graph is closed
  pub enough : (K : Algebra) → Laws K → (G : Graph) → Valued K G → ((t : Triple) → 0 < G t → AllObeyed K plans G t) → Closed K R G
  -- what a plan gives follows by a rule: a closed graph obeys them all
  pub sure : (K : Algebra) → Laws K → (G : Graph) → Valued K G → Closed K R G → (t : Triple) → AllObeyed K plans G t
  pub legal : (t : Triple) → LegalTriple t → All LegalPlan (plans t)

-- all of two lists
module _ {A : Type 0} (P : A → Type 0) where
  pub all_front : (xs ys : List A) → All P (xs ++ ys) → All P xs
  all_front [] ys h = tt
  all_front (x ∷ xs) ys h = (h.0, all_front xs ys h.1)

  pub all_behind : (xs ys : List A) → All P (xs ++ ys) → All P ys
  all_behind [] ys h = h
  all_behind (x ∷ xs) ys h = all_behind xs ys h.1

-- the plans of two sets of rules, one after the other, drive both
pub driven_together : {R S : Rules} {plans more : Triple → List Plan} → Driven R plans → Driven S more → Driven (Together R S) (λ t. plans t ++ more t)
driven_together {R} {S} {plans} {more} r s = record {
  enough = λ K L G v all.
      closed-together
      (r.enough K L G v (λ t h. all_front (λ plan. Obeyed K G plan (G t)) (plans t) (more t) (all t h)))
      (s.enough K L G v (λ t h. all_behind (λ plan. Obeyed K G plan (G t)) (plans t) (more t) (all t h)));
  sure = λ K L G v c t. all_append (λ plan. Obeyed K G plan (G t)) (plans t) (more t) (r.sure K L G v (closed-left c) t) (s.sure K L G v (closed-right c) t);
  legal = λ t h. all_append LegalPlan (plans t) (more t) (r.legal t h) (s.legal t h);
}

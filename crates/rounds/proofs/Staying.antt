-- A row that obeys its plans goes on obeying them while nothing that it can meet rises; and its conclusions have its
-- subject, its object or its predicate as their subject. Assumes nothing.
use mathlib.Core.Path.{◌≡◌, refl, sym, subst}
use mathlib.Core.Bool.{Bool, true, false}
use mathlib.Core.List.{List, ◌++◌}
use mathlib.Core.Logic.{◌⊎◌, inl, inr}
use Prim.Native.Nat.{ℕ, ◌<◌}
use native.Mathlib.Omega.{arith}
use lib.Dec.{eqb}
use borrow.Author.Tests.{eqb-true}
use Rattle.ground.specs.Lists.{All}
use Rattle.ground.proofs.Each.{all_append}
use Rattle.ruleset.specs.RuleSet.{reflexive_set}
use Rattle.term.specs.Term.{sp, sc, type, dom, range}
use Rattle.annotation.specs.Algebra.{Algebra, AtMost, Laws}
use Rattle.annotation.proofs.Order.{at_most_trans, bottom-at_most}
use Rattle.table.specs.Rows.{Triple, triple}
use Rattle.table.proofs.Ordering.{Tri, less, same, more, tri}
use Rattle.rhodf.specs.Graph.{Graph, Valued, Below}
use Rattle.plans.specs.declared.Plan.{Plan}
use Rattle.plans.specs.declared.Plan.TheVariants.{Rows}
use Rattle.plans.specs.declared.Each.{Each}
use Rattle.plans.specs.declared.Each.TheVariants.{Once, Behind}
use Rattle.plans.specs.declared.Once.TheVariants.{Straight, Renaming}
use Rattle.plans.specs.Plans.{subject_of, straight_if, alone_if, plans_of, reflexive_plans, plans_with, plans_for, Met, Obeyed}
use Rattle.plans.proofs.Meeting.{met-bottom}
use Rattle.plans.proofs.Driven.{all_front, all_behind}
use Rattle.walks.specs.Walks.{OfPlan}
use Rattle.rounds.specs.Due.{Typed}

-- a row of t meets no row of these subjects
pub record Apart (S : ℕ → Type 0) (G : Graph) (t : Triple) : Type 0 where
  pub by_predicate : (r w : ℕ) → 0 < G (triple t.p r w) → S t.p → ⊥
  pub by_object : t.p < dom → (r w : ℕ) → 0 < G (triple t.o r w) → S t.o → ⊥
  pub behind : (z : ℕ) → 0 < G (triple t.p sp z) → Typed G z → S z → ⊥

-- a term of the triple
abbrev pub OneOf : Triple → ℕ → Type 0
OneOf t x = (x ≡ t.s) ⊎ ((x ≡ t.o) ⊎ (x ≡ t.p))

-- what a plan gives has such a subject
abbrev pub OfTriple : Triple → Plan → Type 0
OfTriple t plan = (x : ℕ) → OfPlan plan x → (x ≡ subject_of plan) × OneOf t x

-- what rounds need to know of plans to ask a row only when it is due
pub record Staying (plans : Triple → List Plan) : Type 1 where
  -- from G to H above it nothing but triples of the subjects S rose
  pub stays : (K : Algebra) → Laws K → (S : ℕ → Type 0) → (G H : Graph) → Valued K H → Below K G H → ((u : Triple) → (S u.s → ⊥) → H u ≡ G u)
      → (t : Triple) → Apart S H t → (a : ℕ) → K.Value a
      → All (λ plan. Obeyed K G plan a) (plans t) → All (λ plan. Obeyed K H plan a) (plans t)
  pub gives : (t : Triple) → All (OfTriple t) (plans t)

-- of what leads behind a row with the object z: where there are rows, none of the subjects is z
abbrev Deep : (ℕ → Type 0) → Graph → Each → ℕ → Type 0
Deep S H (Behind d) z = (w : ℕ) → 0 < H (triple z d.t w) → S z → ⊥
Deep S H (Once d) z = Unit {0}

module _ (K : Algebra) (L : Laws K) (S : ℕ → Type 0) (G H : Graph) (v : Valued K H) (up : Below K G H) (kept : (u : Triple) → (S u.s → ⊥) → H u ≡ G u)
    (a : ℕ) (va : K.Value a) where
  -- of one row that is met
  met_stays : (each : Each) (z c : ℕ) → K.Value c → Deep S H each z → Met K G each z c → Met K H each z c
  met_stays (Once (Straight s p)) z c vc deep m = λ named.
      let t = triple s p z in
      at_most_trans K L c (G t) (H t) (m named) (up.below t)
  met_stays (Once (Renaming s o)) z c vc deep m = λ named.
      let t = triple s z o in
      at_most_trans K L c (G t) (H t) (m named) (up.below t)
  met_stays (Behind d) z c vc deep m = λ w named.
      let t = triple d.s d.p w in
      go w (at_most_trans K L (K.meet c (G (triple z d.t w))) (G t) (H t) (m w named) (up.below t)) (tri 0 (H (triple z d.t w)))
    where
      go : (w : ℕ) → AtMost K (K.meet c (G (triple z d.t w))) (H (triple d.s d.p w))
          → Tri 0 (H (triple z d.t w)) → AtMost K (K.meet c (H (triple z d.t w))) (H (triple d.s d.p w))
      go w low (less k) = rw (kept (triple z d.t w) (deep w k)) low
      go w low (same e) = rw (← e, L.meet_bottom c vc) (bottom-at_most K L _)
      go w low (more k) = absurd (omega arith)

  rows_stay : (q r : ℕ) (each : Each) → ((z : ℕ) → 0 < H (triple q r z) → S q → ⊥) → ((z : ℕ) → 0 < H (triple q r z) → Deep S H each z)
      → Obeyed K G (Rows q r each) a → Obeyed K H (Rows q r each) a
  rows_stay q r each apart deep o = record { obeyed = λ z. go z (tri 0 (H (triple q r z))) }
    where
      go : (z : ℕ) → Tri 0 (H (triple q r z)) → Met K H each z (K.meet a (H (triple q r z)))
      go z (less h) =
          let t = triple q r z in
          let e : H t ≡ G t = kept t (apart z h) in
          let vc : K.Value (K.meet a (G t)) = L.meet_value a (G t) va (subst (λ (x : ℕ). K.Value x) e (v.value t)) in
          rw e (met_stays each z (K.meet a (G t)) vc (deep z h) (o.obeyed z))
      go z (same e) = rw (← e, L.meet_bottom a va) (met-bottom K L H v each z)
      go z (more h) = absurd (omega arith)

  straight-stays : (on : Bool) (q r s p : ℕ) → (on ≡ true → (z : ℕ) → 0 < H (triple q r z) → S q → ⊥) → Obeyed K G (straight_if on q r s p) a
      → Obeyed K H (straight_if on q r s p) a
  straight-stays true q r s p apart o = rows_stay q r _ (apart refl) (λ _ _. tt) o
  straight-stays false q r s p apart o = record { obeyed = tt }

  alone-stays : (on : Bool) (s p : ℕ) → Obeyed K G (alone_if on s p) a → Obeyed K H (alone_if on s p) a
  alone-stays true s p o = record { obeyed = λ named. let t = triple s p s in at_most_trans K L a (G t) (H t) (o.obeyed named) (up.below t) }
  alone-stays false s p o = record { obeyed = tt }

  -- the ten plans of the reflexive lines
  lines_stay : (x d y : ℕ) → All (λ plan. Obeyed K G plan a) (reflexive_plans x d y) → All (λ plan. Obeyed K H plan a) (reflexive_plans x d y)
  unfolding reflexive_plans
  lines_stay x d y o = (
    alone-stays true d sp o.0,
    (
      alone-stays (eqb d sp) x sp o.1.0,
      (
        alone-stays (eqb d sp) y sp o.1.1.0,
        (
          alone-stays (eqb d dom) x sp o.1.1.1.0,
          (
            alone-stays (eqb d range) x sp o.1.1.1.1.0,
            (
              alone-stays (eqb d sc) x sc o.1.1.1.1.1.0,
              (
                alone-stays (eqb d sc) y sc o.1.1.1.1.1.1.0,
                (
                  alone-stays (eqb d type) y sc o.1.1.1.1.1.1.1.0,
                  (alone-stays (eqb d dom) y sc o.1.1.1.1.1.1.1.1.0, (alone-stays (eqb d range) y sc o.1.1.1.1.1.1.1.1.1.0, tt)),
                ),
              ),
            ),
          ),
        ),
      ),
    ),
  )

  -- the eight plans
  all_stay : (x d y : ℕ) → Apart S H (triple x d y) → All (λ plan. Obeyed K G plan a) (plans_of x d y) → All (λ plan. Obeyed K H plan a) (plans_of x d y)
  unfolding plans_of
  all_stay x d y apart o = (
    straight-stays (eqb d sp) y sp x sp (λ e. apart.by_object (omega (arith, eqb-true d sp e)) sp) o.0,
    (
      rows_stay d sp _ (apart.by_predicate sp) (λ _ _. tt) o.1.0,
      (
        straight-stays (eqb d sc) y sc x sc (λ e. apart.by_object (omega (arith, eqb-true d sc e)) sc) o.1.1.0,
        (
          straight-stays (eqb d type) y sc x type (λ e. apart.by_object (omega (arith, eqb-true d type e)) sc) o.1.1.1.0,
          (
            rows_stay d dom _ (apart.by_predicate dom) (λ _ _. tt) o.1.1.1.1.0,
            (
              rows_stay d range _ (apart.by_predicate range) (λ _ _. tt) o.1.1.1.1.1.0,
              (
                rows_stay d sp _ (apart.by_predicate sp) (λ z h w k. apart.behind z h (w, inl k)) o.1.1.1.1.1.1.0,
                (
                  rows_stay d sp _ (apart.by_predicate sp) (λ z h w k. apart.behind z h (w, inr k)) o.1.1.1.1.1.1.1.0,
                  tt,
                ),
              ),
            ),
          ),
        ),
      ),
    ),
  )

straight-gives : (t : Triple) (on : Bool) (q r s p : ℕ) → OneOf t s → OfTriple t (straight_if on q r s p)
straight-gives t true q r s p h = λ x e. (e, subst (OneOf t) (sym e) h)
straight-gives t false q r s p h = λ x e. absurd e

alone-gives : (t : Triple) (on : Bool) (s p : ℕ) → OneOf t s → OfTriple t (alone_if on s p)
alone-gives t true s p h = λ x e. (e, subst (OneOf t) (sym e) h)
alone-gives t false s p h = λ x e. absurd e

all_give : (x d y : ℕ) → All (OfTriple (triple x d y)) (plans_of x d y)
unfolding plans_of
all_give x d y =
    let t = triple x d y in (
      straight-gives t (eqb d sp) y sp x sp (inl refl),
      (
        λ v e. (e, inl e),
        (
          straight-gives t (eqb d sc) y sc x sc (inl refl),
          (
            straight-gives t (eqb d type) y sc x type (inl refl),
            (λ v e. (e, inl e), (λ v e. (e, inr (inl e)), (λ v e. (e, inl e), (λ v e. (e, inr (inl e)), tt)))),
          ),
        ),
      ),
    )

lines_give : (x d y : ℕ) → All (OfTriple (triple x d y)) (reflexive_plans x d y)
unfolding reflexive_plans
lines_give x d y = (
  λ v e. (e, inr (inr e)),
  (
    of_subject (eqb d sp) sp,
    (
      of_object (eqb d sp) sp,
      (
        of_subject (eqb d dom) sp,
        (
          of_subject (eqb d range) sp,
          (of_subject (eqb d sc) sc, (of_object (eqb d sc) sc, (of_object (eqb d type) sc, (of_object (eqb d dom) sc, (of_object (eqb d range) sc, tt))))),
        ),
      ),
    ),
  ),
)
  where
    of_subject : (on : Bool) (p : ℕ) → OfTriple (triple x d y) (alone_if on x p)
    of_subject on p = alone-gives (triple x d y) on x p (inl refl)

    of_object : (on : Bool) (p : ℕ) → OfTriple (triple x d y) (alone_if on y p)
    of_object on p = alone-gives (triple x d y) on y p (inr (inl refl))

rhodf_staying : Staying (λ t. plans_of t.s t.p t.o)
rhodf_staying = record {
  stays = λ K L S G H v up kept t apart a va h. all_stay K L S G H v up kept a va t.s t.p t.o apart h;
  gives = λ t. all_give t.s t.p t.o;
}

lines_staying : Staying (λ t. reflexive_plans t.s t.p t.o)
lines_staying = record {
  stays = λ K L S G H v up kept t apart a va h. lines_stay K L S G H v up kept a va t.s t.p t.o h;
  gives = λ t. lines_give t.s t.p t.o;
}

-- plans one after the other
staying_together : {plans more : Triple → List Plan} → Staying plans → Staying more → Staying (λ t. plans t ++ more t)
staying_together {plans} {more} one other = record {
  stays = λ K L S G H v up kept t apart a va h.
      all_append (λ plan. Obeyed K H plan a) (plans t) (more t)
      (one.stays K L S G H v up kept t apart a va (all_front (λ plan. Obeyed K G plan a) (plans t) (more t) h))
      (other.stays K L S G H v up kept t apart a va (all_behind (λ plan. Obeyed K G plan a) (plans t) (more t) h));
  gives = λ t. all_append (OfTriple t) (plans t) (more t) (one.gives t) (other.gives t);
}

staying_with : (b : Bool) → Staying (plans_with b)
staying_with true = staying_together rhodf_staying lines_staying
staying_with false = rhodf_staying

pub set-staying : (rules : ℕ) → Staying (plans_for rules)
set-staying rules = staying_with (eqb rules reflexive_set)

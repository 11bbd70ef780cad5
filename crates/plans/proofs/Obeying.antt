-- The eight plans drive the rules of rho-df: each rule is the plan of one of its premises. The ten plans of the reflexive lines drive these, and so do the
-- plans of a rule set its rules. Assumes nothing.
use mathlib.Core.Path.{◌≡◌, refl, sym, ap, ◌∙◌}
use mathlib.Core.Bool.{Bool, true, false}
use mathlib.Core.List.{List, [], ◌∷◌}
use Prim.Native.Nat.{ℕ, ◌<◌}
use lib.Dec.{eqb}
use borrow.Author.Tests.{eqb-true}
use Rattle.ground.specs.Lists.{All}
use Rattle.ruleset.specs.RuleSet.{reflexive_set}
use Rattle.term.specs.Term.{sp, sc, type, dom, range, is_legal_term}
use Rattle.term.proofs.Sorts.{name_legal}
use Rattle.annotation.specs.Algebra.{Algebra, AtMost, Laws}
use Rattle.table.specs.Rows.{Triple, triple}
use Rattle.rhodf.specs.Graph.{Graph, Valued, meet_all}
use Rattle.rhodf.specs.Rules.{Drawn, Rule, r2a, r2b, r3a, r3b, r4a, r4b, r5a, r5b, Reflexive, r9, r10, r11, r12, r13, r14, r15, r16, r17, r18, rules_with, rules_of}
use Rattle.rhodf.specs.Closure.{Closed}
use Rattle.rhodf.proofs.Graphs.{AllHeld}
use Rattle.rhodf.proofs.Drawing.{closed-where_held, LegalTriple}
use Rattle.plans.specs.declared.Plan.{Plan}
use Rattle.plans.specs.Plans.{straight_if, renaming_plan, behind_plan, alone_if, plans_of, reflexive_plans, plans_with, plans_for, LegalPlan, Obeyed}
use Rattle.plans.proofs.Driven.{Driven, AllObeyed, driven_together}

-- the And of a rule's premises, from the row that it is driven from
module _ (K : Algebra) (L : Laws K) (G : Graph) (v : Valued K G) (t u w : Triple) where
  meet-row_first : K.meet (G t) (G u) ≡ meet_all K G (t ∷ u ∷ [])
  meet-row_first = ap (K.meet (G t)) (sym (L.meet_top (G u) (v.value u)))

  meet-row_last : K.meet (G t) (G u) ≡ meet_all K G (u ∷ t ∷ [])
  meet-row_last = L.meet_comm (G t) (G u) ∙ ap (K.meet (G u)) (sym (L.meet_top (G t) (v.value t)))

  meet-row_third : K.meet (K.meet (G t) (G u)) (G w) ≡ meet_all K G (w ∷ u ∷ t ∷ [])
  meet-row_third = L.meet_comm (K.meet (G t) (G u)) (G w) ∙ ap (K.meet (G w)) meet-row_last

-- plans of each shape
straight-obeyed : (K : Algebra) (G : Graph) (on : Bool) (q r s p a : ℕ)
    → (on ≡ true → (z : ℕ) → Drawn (triple s p z) → AtMost K (K.meet a (G (triple q r z))) (G (triple s p z))) → Obeyed K G (straight_if on q r s p) a
straight-obeyed K G true q r s p a h = record { obeyed = h refl }
straight-obeyed K G false q r s p a h = record { obeyed = tt }

renaming-obeyed : (K : Algebra) (G : Graph) (q r s o a : ℕ)
    → ((z : ℕ) → Drawn (triple s z o) → AtMost K (K.meet a (G (triple q r z))) (G (triple s z o))) → Obeyed K G (renaming_plan q r s o) a
renaming-obeyed K G q r s o a h = record { obeyed = h }

behind-obeyed : (K : Algebra) (G : Graph) (q r t s p a : ℕ)
    → ((w z : ℕ) → Drawn (triple s p z) → AtMost K (K.meet (K.meet a (G (triple q r w))) (G (triple w t z))) (G (triple s p z)))
    → Obeyed K G (behind_plan q r t s p) a
behind-obeyed K G q r t s p a h = record { obeyed = h }

alone-obeyed : (K : Algebra) (G : Graph) (on : Bool) (s p a : ℕ)
    → (on ≡ true → Drawn (triple s p s) → AtMost K a (G (triple s p s))) → Obeyed K G (alone_if on s p) a
alone-obeyed K G true s p a h = record { obeyed = h refl }
alone-obeyed K G false s p a h = record { obeyed = tt }

abbrev plain_plans : Triple → List Plan
plain_plans t = plans_of t.s t.p t.o

abbrev line_plans : Triple → List Plan
line_plans t = reflexive_plans t.s t.p t.o

-- a closed graph obeys the plans of every triple
module _ (K : Algebra) (L : Laws K) (G : Graph) (v : Valued K G) (c : Closed K Rule G) (x d y : ℕ) where
  abbrev a : ℕ
  a = G (triple x d y)

  first-premise : (u t : Triple) → Rule (triple x d y ∷ u ∷ []) t → Drawn t → AtMost K (K.meet a (G u)) (G t)
  first-premise u t rule named = rw (meet-row_first K L G v (triple x d y) u u) (c.closed _ t rule named)

  last-premise : (u t : Triple) → Rule (u ∷ triple x d y ∷ []) t → Drawn t → AtMost K (K.meet a (G u)) (G t)
  last-premise u t rule named = rw (meet-row_last K L G v (triple x d y) u u) (c.closed _ t rule named)

  third_premise : (u w t : Triple) → Rule (w ∷ u ∷ triple x d y ∷ []) t → Drawn t → AtMost K (K.meet (K.meet a (G u)) (G w)) (G t)
  third_premise u w t rule named = rw (meet-row_third K L G v (triple x d y) u w) (c.closed _ t rule named)

  closed-obeys : AllObeyed K plain_plans G (triple x d y)
  unfolding plans_of
  closed-obeys =
      let o2a = straight-obeyed K G (eqb d sp) y sp x sp a (λ e z. first-premise (triple y sp z) (triple x sp z) (rw (eqb-true d sp e) (r2a x y z))) in
      let o2b = renaming-obeyed K G d sp x y a (λ z. last-premise (triple d sp z) (triple x z y) (r2b d z x y)) in
      let o3a = straight-obeyed K G (eqb d sc) y sc x sc a (λ e z. first-premise (triple y sc z) (triple x sc z) (rw (eqb-true d sc e) (r3a x y z))) in
      let o3b = straight-obeyed K G (eqb d type) y sc x type a (λ e z. last-premise (triple y sc z) (triple x type z) (rw (eqb-true d type e) (r3b y z x))) in
      let o4a = straight-obeyed K G true d dom x type a (λ e z. last-premise (triple d dom z) (triple x type z) (r4a d z x y)) in
      let o4b = straight-obeyed K G true d range y type a (λ e z. last-premise (triple d range z) (triple y type z) (r4b d z x y)) in
      let o5a = behind-obeyed K G d sp dom x type a (λ w z. third_premise (triple d sp w) (triple w dom z) (triple x type z) (r5a w z d x y)) in
      let o5b = behind-obeyed K G d sp range y type a (λ w z. third_premise (triple d sp w) (triple w range z) (triple y type z) (r5b w z d x y)) in
      (o2a, (o2b, (o3a, (o3b, (o4a, (o4b, (o5a, (o5b, tt))))))))

-- a graph that obeys them all is closed
module _ (K : Algebra) (L : Laws K) (G : Graph) (v : Valued K G) (all : (t : Triple) → 0 < G t → AllObeyed K plain_plans G t) where
  obeyed_closed : (ps : List Triple) (t : Triple) → Rule ps t → AllHeld G ps → Drawn t → AtMost K (meet_all K G ps) (G t)
  unfolding plans_of
  obeyed_closed ps t (r2a a b c) h named =
      rw (← meet-row_first K L G v (triple a sp b) (triple b sp c) t) (((all (triple a sp b) h.0).0.obeyed c) named)
  obeyed_closed ps t (r2b d e x y) h named =
      rw (← meet-row_last K L G v (triple x d y) (triple d sp e) t) (((all (triple x d y) h.1.0).1.0.obeyed e) named)
  obeyed_closed ps t (r3a a b c) h named =
      rw (← meet-row_first K L G v (triple a sc b) (triple b sc c) t) (((all (triple a sc b) h.0).1.1.0.obeyed c) named)
  obeyed_closed ps t (r3b a b x) h named =
      rw (← meet-row_last K L G v (triple x type a) (triple a sc b) t) (((all (triple x type a) h.1.0).1.1.1.0.obeyed b) named)
  obeyed_closed ps t (r4a d b x y) h named =
      rw (← meet-row_last K L G v (triple x d y) (triple d dom b) t) (((all (triple x d y) h.1.0).1.1.1.1.0.obeyed b) named)
  obeyed_closed ps t (r4b d b x y) h named =
      rw (← meet-row_last K L G v (triple x d y) (triple d range b) t) (((all (triple x d y) h.1.0).1.1.1.1.1.0.obeyed b) named)
  obeyed_closed ps t (r5a a b d x y) h named =
      rw (← meet-row_third K L G v (triple x d y) (triple d sp a) (triple a dom b))
      (((all (triple x d y) h.1.1.0).1.1.1.1.1.1.0.obeyed a) b named)
  obeyed_closed ps t (r5b a b d x y) h named =
      rw (← meet-row_third K L G v (triple x d y) (triple d sp a) (triple a range b))
      (((all (triple x d y) h.1.1.0).1.1.1.1.1.1.1.0.obeyed a) b named)

plans_legal : (x d y : ℕ) → LegalTriple (triple x d y) → All LegalPlan (plans_of x d y)
unfolding plans_of
plans_legal x d y h = (
  straight-legal (eqb d sp) y sp sp,
  (
    record { subject = h.subject; object = h.object },
    (
      straight-legal (eqb d sc) y sc sc,
      (
        straight-legal (eqb d type) y sc type,
        (
          straight-legal true d dom type,
          (
            record { subject = h.object; object = h.object },
            (record { subject = h.subject; object = h.subject }, (record { subject = h.object; object = h.object }, tt)),
          ),
        ),
      ),
    ),
  ),
)
  where
    straight-legal : (on : Bool) (q r p : ℕ) → LegalPlan (straight_if on q r x p)
    straight-legal true q r p = record { subject = h.subject; object = h.subject }
    straight-legal false q r p = record { subject = refl; object = refl }

rhodf_driven : Driven Rule plain_plans
rhodf_driven = record {
  enough = λ K L G v all. closed-where_held K L Rule G v (obeyed_closed K L G v all);
  sure = λ K L G v c t. closed-obeys K L G v c t.s t.p t.o;
  legal = λ t. plans_legal t.s t.p t.o;
}

-- the reflexive lines: "with the premise's annotation", which is the And of one premise
module _ (K : Algebra) (L : Laws K) (G : Graph) (v : Valued K G) where
  meet-alone : (t : Triple) → meet_all K G (t ∷ []) ≡ G t
  meet-alone t = L.meet_top (G t) (v.value t)

  module _ (c : Closed K Reflexive G) (x d y : ℕ) where
    only-premise : (t : Triple) → Reflexive (triple x d y ∷ []) t → Drawn t → AtMost K (G (triple x d y)) (G t)
    only-premise t line named = rw (meet-alone (triple x d y)) at (c.closed _ t line named)

    closed-obeys_lines : AllObeyed K line_plans G (triple x d y)
    unfolding reflexive_plans
    closed-obeys_lines =
        let a = G (triple x d y) in
        let o9 = alone-obeyed K G true d sp a (λ e. only-premise (triple d sp d) (r9 x d y)) in
        let o10 = alone-obeyed K G (eqb d sp) x sp a (λ e. only-premise (triple x sp x) (rw (eqb-true d sp e) (r10 x y))) in
        let o11 = alone-obeyed K G (eqb d sp) y sp a (λ e. only-premise (triple y sp y) (rw (eqb-true d sp e) (r11 x y))) in
        let o12 = alone-obeyed K G (eqb d dom) x sp a (λ e. only-premise (triple x sp x) (rw (eqb-true d dom e) (r12 x y))) in
        let o13 = alone-obeyed K G (eqb d range) x sp a (λ e. only-premise (triple x sp x) (rw (eqb-true d range e) (r13 x y))) in
        let o14 = alone-obeyed K G (eqb d sc) x sc a (λ e. only-premise (triple x sc x) (rw (eqb-true d sc e) (r14 x y))) in
        let o15 = alone-obeyed K G (eqb d sc) y sc a (λ e. only-premise (triple y sc y) (rw (eqb-true d sc e) (r15 x y))) in
        let o16 = alone-obeyed K G (eqb d type) y sc a (λ e. only-premise (triple y sc y) (rw (eqb-true d type e) (r16 x y))) in
        let o17 = alone-obeyed K G (eqb d dom) y sc a (λ e. only-premise (triple y sc y) (rw (eqb-true d dom e) (r17 x y))) in
        let o18 = alone-obeyed K G (eqb d range) y sc a (λ e. only-premise (triple y sc y) (rw (eqb-true d range e) (r18 x y))) in
        (o9, (o10, (o11, (o12, (o13, (o14, (o15, (o16, (o17, (o18, tt))))))))))

  obeyed_closed_lines : ((t : Triple) → 0 < G t → AllObeyed K line_plans G t) → (ps : List Triple) (t : Triple) → Reflexive ps t → AllHeld G ps → Drawn t
      → AtMost K (meet_all K G ps) (G t)
  unfolding reflexive_plans
  obeyed_closed_lines all ps t (r9 x a y) h named = rw (meet-alone (triple x a y)) ((all (triple x a y) h.0).0.obeyed named)
  obeyed_closed_lines all ps t (r10 a b) h named = rw (meet-alone (triple a sp b)) ((all (triple a sp b) h.0).1.0.obeyed named)
  obeyed_closed_lines all ps t (r11 a b) h named = rw (meet-alone (triple a sp b)) ((all (triple a sp b) h.0).1.1.0.obeyed named)
  obeyed_closed_lines all ps t (r12 a b) h named = rw (meet-alone (triple a dom b)) ((all (triple a dom b) h.0).1.1.1.0.obeyed named)
  obeyed_closed_lines all ps t (r13 a b) h named = rw (meet-alone (triple a range b)) ((all (triple a range b) h.0).1.1.1.1.0.obeyed named)
  obeyed_closed_lines all ps t (r14 a b) h named = rw (meet-alone (triple a sc b)) ((all (triple a sc b) h.0).1.1.1.1.1.0.obeyed named)
  obeyed_closed_lines all ps t (r15 a b) h named = rw (meet-alone (triple a sc b)) ((all (triple a sc b) h.0).1.1.1.1.1.1.0.obeyed named)
  obeyed_closed_lines all ps t (r16 x a) h named = rw (meet-alone (triple x type a)) ((all (triple x type a) h.0).1.1.1.1.1.1.1.0.obeyed named)
  obeyed_closed_lines all ps t (r17 x a) h named = rw (meet-alone (triple x dom a)) ((all (triple x dom a) h.0).1.1.1.1.1.1.1.1.0.obeyed named)
  obeyed_closed_lines all ps t (r18 x a) h named = rw (meet-alone (triple x range a)) ((all (triple x range a) h.0).1.1.1.1.1.1.1.1.1.0.obeyed named)

line-plans_legal : (x d y : ℕ) → LegalTriple (triple x d y) → All LegalPlan (reflexive_plans x d y)
unfolding reflexive_plans
line-plans_legal x d y h = (
  alone-legal true d sp (name_legal d h.predicate),
  (
    of_subject (eqb d sp) sp,
    (
      of_object (eqb d sp) sp,
      (
        of_subject (eqb d dom) sp,
        (
          of_subject (eqb d range) sp,
          (of_subject (eqb d sc) sc, (of_object (eqb d sc) sc, (of_object (eqb d type) sc, (of_object (eqb d dom) sc, (of_object (eqb d range) sc, tt))))),
        ),
      ),
    ),
  ),
)
  where
    alone-legal : (on : Bool) (s p : ℕ) → is_legal_term s ≡ true → LegalPlan (alone_if on s p)
    alone-legal true s p e = record { subject = e; object = e }
    alone-legal false s p e = record { subject = refl; object = refl }

    of_subject : (on : Bool) (p : ℕ) → LegalPlan (alone_if on x p)
    of_subject on p = alone-legal on x p h.subject

    of_object : (on : Bool) (p : ℕ) → LegalPlan (alone_if on y p)
    of_object on p = alone-legal on y p h.object

lines_driven : Driven Reflexive line_plans
lines_driven = record {
  enough = λ K L G v all. closed-where_held K L Reflexive G v (obeyed_closed_lines K L G v all);
  sure = λ K L G v c t. closed-obeys_lines K L G v c t.s t.p t.o;
  legal = λ t. line-plans_legal t.s t.p t.o;
}

driven_with : (b : Bool) → Driven (rules_with b) (plans_with b)
driven_with true = driven_together rhodf_driven lines_driven
driven_with false = rhodf_driven

pub set-driven : (rules : ℕ) → Driven (rules_of rules) (plans_for rules)
set-driven rules = driven_with (eqb rules reflexive_set)

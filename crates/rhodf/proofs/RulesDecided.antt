-- Of every table it is decided whether it is closed under the rules: a line for each rule says which premises fit it. And they keep terms legal.
-- Assumes nothing.
use mathlib.Core.Path.{refl}
use mathlib.Core.List.{List, [], ◌∷◌}
use mathlib.Core.Logic.{inl}
use Rattle.term.specs.Term.{sp, sc, type, dom, range}
use Rattle.annotation.specs.Algebra.{Algebra, AtMost}
use Rattle.table.specs.Rows.{Triple, triple}
use Rattle.rhodf.specs.Graph.{Graph, graph_of, meet_all}
use Rattle.rhodf.specs.Rules.{Drawn, Rule, r2a, r2b, r3a, r3b, r4a, r4b, r5a, r5b}
use Rattle.rhodf.proofs.Graphs.{AllHeld}
use Rattle.rhodf.proofs.Drawing.{KeepLegal, closed-where_held}
use Rattle.rhodf.proofs.Deciding.{Decided, Agree, OfTwo, OfThree, ObeyedByTwo, ObeyedByThree, obeyed_by_two, obeyed_by_three, ◌>>=◌}

-- each rule, by the terms of its premises that are to be equal
abbrev pub rule_2a : OfTwo
rule_2a = record { where_equal = λ x y. (x.p, sp) ∷ (y.p, sp) ∷ (x.o, y.s) ∷ []; gives = λ x y. triple x.s sp y.o }

abbrev pub rule_2b : OfTwo
rule_2b = record { where_equal = λ x y. (x.p, sp) ∷ (y.p, x.s) ∷ []; gives = λ x y. triple y.s x.o y.o }

abbrev pub rule_3a : OfTwo
rule_3a = record { where_equal = λ x y. (x.p, sc) ∷ (y.p, sc) ∷ (x.o, y.s) ∷ []; gives = λ x y. triple x.s sc y.o }

abbrev pub rule_3b : OfTwo
rule_3b = record { where_equal = λ x y. (x.p, sc) ∷ (y.p, type) ∷ (y.o, x.s) ∷ []; gives = λ x y. triple y.s type x.o }

abbrev pub rule_4a : OfTwo
rule_4a = record { where_equal = λ x y. (x.p, dom) ∷ (y.p, x.s) ∷ []; gives = λ x y. triple y.s type x.o }

abbrev pub rule_4b : OfTwo
rule_4b = record { where_equal = λ x y. (x.p, range) ∷ (y.p, x.s) ∷ []; gives = λ x y. triple y.o type x.o }

abbrev pub rule_5a : OfThree
rule_5a = record { where_equal = λ x y z. (x.p, dom) ∷ (y.p, sp) ∷ (y.o, x.s) ∷ (z.p, y.s) ∷ []; gives = λ x y z. triple z.s type x.o }

abbrev pub rule_5b : OfThree
rule_5b = record { where_equal = λ x y z. (x.p, range) ∷ (y.p, sp) ∷ (y.o, x.s) ∷ (z.p, y.s) ∷ []; gives = λ x y z. triple z.o type x.o }

fits-2a : (x y : Triple) → Agree (rule_2a.where_equal x y) → Rule (x ∷ y ∷ []) (rule_2a.gives x y)
fits-2a x y f = rw (f.0, f.1.0, f.1.1.0) (r2a x.s y.s y.o)

fits-2b : (x y : Triple) → Agree (rule_2b.where_equal x y) → Rule (x ∷ y ∷ []) (rule_2b.gives x y)
fits-2b x y f = rw (f.0, f.1.0) (r2b x.s x.o y.s y.o)

fits-3a : (x y : Triple) → Agree (rule_3a.where_equal x y) → Rule (x ∷ y ∷ []) (rule_3a.gives x y)
fits-3a x y f = rw (f.0, f.1.0, f.1.1.0) (r3a x.s y.s y.o)

fits-3b : (x y : Triple) → Agree (rule_3b.where_equal x y) → Rule (x ∷ y ∷ []) (rule_3b.gives x y)
fits-3b x y f = rw (f.0, f.1.0, f.1.1.0) (r3b x.s x.o y.s)

fits-4a : (x y : Triple) → Agree (rule_4a.where_equal x y) → Rule (x ∷ y ∷ []) (rule_4a.gives x y)
fits-4a x y f = rw (f.0, f.1.0) (r4a x.s x.o y.s y.o)

fits-4b : (x y : Triple) → Agree (rule_4b.where_equal x y) → Rule (x ∷ y ∷ []) (rule_4b.gives x y)
fits-4b x y f = rw (f.0, f.1.0) (r4b x.s x.o y.s y.o)

fits-5a : (x y z : Triple) → Agree (rule_5a.where_equal x y z) → Rule (x ∷ y ∷ z ∷ []) (rule_5a.gives x y z)
fits-5a x y z f = rw (f.0, f.1.0, f.1.1.0, f.1.1.1.0) (r5a x.s x.o y.s z.s z.o)

fits-5b : (x y z : Triple) → Agree (rule_5b.where_equal x y z) → Rule (x ∷ y ∷ z ∷ []) (rule_5b.gives x y z)
fits-5b x y z f = rw (f.0, f.1.0, f.1.1.0, f.1.1.1.0) (r5b x.s x.o y.s z.s z.o)

-- a graph is closed where each of the rules is obeyed
module _ (K : Algebra) (G : Graph)
    (o2a : ObeyedByTwo K G rule_2a) (o2b : ObeyedByTwo K G rule_2b) (o3a : ObeyedByTwo K G rule_3a) (o3b : ObeyedByTwo K G rule_3b)
    (o4a : ObeyedByTwo K G rule_4a) (o4b : ObeyedByTwo K G rule_4b) (o5a : ObeyedByThree K G rule_5a) (o5b : ObeyedByThree K G rule_5b) where
  pub closed-by_rules : (ps : List Triple) (t : Triple) → Rule ps t → AllHeld G ps → Drawn t → AtMost K (meet_all K G ps) (G t)
  closed-by_rules ps t (r2a a b c) h named = o2a (triple a sp b) h.0 (triple b sp c) h.1.0 (refl, (refl, (refl, tt))) named
  closed-by_rules ps t (r2b d e x y) h named = o2b (triple d sp e) h.0 (triple x d y) h.1.0 (refl, (refl, tt)) named
  closed-by_rules ps t (r3a a b c) h named = o3a (triple a sc b) h.0 (triple b sc c) h.1.0 (refl, (refl, (refl, tt))) named
  closed-by_rules ps t (r3b a b x) h named = o3b (triple a sc b) h.0 (triple x type a) h.1.0 (refl, (refl, (refl, tt))) named
  closed-by_rules ps t (r4a d b x y) h named = o4a (triple d dom b) h.0 (triple x d y) h.1.0 (refl, (refl, tt)) named
  closed-by_rules ps t (r4b d b x y) h named = o4b (triple d range b) h.0 (triple x d y) h.1.0 (refl, (refl, tt)) named
  closed-by_rules ps t (r5a a b d x y) h named = o5a (triple a dom b) h.0 (triple d sp a) h.1.0 (triple x d y) h.1.1.0 (refl, (refl, (refl, (refl, tt)))) named
  closed-by_rules ps t (r5b a b d x y) h named = o5b (triple a range b) h.0 (triple d sp a) h.1.0 (triple x d y) h.1.1.0 (refl, (refl, (refl, (refl, tt)))) named

pub rules-decided : Decided Rule
rules-decided K L rows v = do
  o2a ← obeyed_by_two K Rule rows rule_2a fits-2a
  o2b ← obeyed_by_two K Rule rows rule_2b fits-2b
  o3a ← obeyed_by_two K Rule rows rule_3a fits-3a
  o3b ← obeyed_by_two K Rule rows rule_3b fits-3b
  o4a ← obeyed_by_two K Rule rows rule_4a fits-4a
  o4b ← obeyed_by_two K Rule rows rule_4b fits-4b
  o5a ← obeyed_by_three K Rule rows rule_5a fits-5a
  o5b ← obeyed_by_three K Rule rows rule_5b fits-5b
  inl (closed-where_held K L Rule (graph_of rows) v (closed-by_rules K (graph_of rows) o2a o2b o3a o3b o4a o4b o5a o5b))

-- each conclusion's terms are terms of the premises
pub rules-keep_legal : KeepLegal Rule
rules-keep_legal ps t (r2a a b c) h = (h.0.subject, h.1.0.object)
rules-keep_legal ps t (r2b d e x y) h = (h.1.0.subject, h.1.0.object)
rules-keep_legal ps t (r3a a b c) h = (h.0.subject, h.1.0.object)
rules-keep_legal ps t (r3b a b x) h = (h.1.0.subject, h.0.object)
rules-keep_legal ps t (r4a d b x y) h = (h.1.0.subject, h.0.object)
rules-keep_legal ps t (r4b d b x y) h = (h.1.0.object, h.0.object)
rules-keep_legal ps t (r5a a b d x y) h = (h.1.1.0.subject, h.0.object)
rules-keep_legal ps t (r5b a b d x y) h = (h.1.1.0.object, h.0.object)

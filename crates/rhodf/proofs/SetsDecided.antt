-- Of every table it is decided whether it is closed under the rules of a set, and these keep terms legal: the reflexive lines, each by the premises that
-- fit it, beside the rules. Assumes nothing.
use mathlib.Core.Path.{refl}
use mathlib.Core.Bool.{Bool, true, false}
use mathlib.Core.List.{List, [], ◌∷◌}
use mathlib.Core.Logic.{◌⊎◌, inl}
use Prim.Native.Nat.{ℕ}
use lib.Dec.{eqb}
use Rattle.ground.specs.Lists.{All}
use Rattle.ruleset.specs.RuleSet.{reflexive_set}
use Rattle.term.specs.Term.{sp, sc, type, dom, range}
use Rattle.term.proofs.Sorts.{name_legal}
use Rattle.annotation.specs.Algebra.{Algebra, AtMost}
use Rattle.table.specs.Rows.{Triple, triple, Row}
use Rattle.rhodf.specs.Graph.{Graph, graph_of, meet_all}
use Rattle.rhodf.specs.Rules.{Drawn, Reflexive, r9, r10, r11, r12, r13, r14, r15, r16, r17, r18, rules_with, rules_of}
use Rattle.rhodf.proofs.Graphs.{AllHeld}
use Rattle.rhodf.proofs.Drawing.{KeepLegal, closed-where_held}
use Rattle.rhodf.proofs.Deciding.{ToDraw, Decided, Agree, OfOne, ObeyedByOne, obeyed_by_one, ◌>>=◌}
use Rattle.rhodf.proofs.RulesDecided.{rules-decided, rules-keep_legal}
use Rattle.rhodf.proofs.Together.{together-decided, together-keep_legal}

-- of a premise with that predicate: what it gives
abbrev of : ℕ → (Triple → Triple) → OfOne
of predicate gives = record { where_equal = λ x. (x.p, predicate) ∷ []; gives = gives }

abbrev sp-self : ℕ → Triple
sp-self a = triple a sp a

abbrev sc-self : ℕ → Triple
sc-self a = triple a sc a

-- the lines 9 to 18
abbrev pub reflexive_lines : List OfOne
reflexive_lines =
    record { where_equal = λ x. []; gives = λ x. sp-self x.p }
    ∷ of sp (λ x. sp-self x.s) ∷ of sp (λ x. sp-self x.o)
    ∷ of dom (λ x. sp-self x.s) ∷ of range (λ x. sp-self x.s)
    ∷ of sc (λ x. sc-self x.s) ∷ of sc (λ x. sc-self x.o)
    ∷ of type (λ x. sc-self x.o) ∷ of dom (λ x. sc-self x.o) ∷ of range (λ x. sc-self x.o)
    ∷ []

abbrev Fits : OfOne → Type 0
Fits rule = (x : Triple) → Agree (rule.where_equal x) → Reflexive (x ∷ []) (rule.gives x)

lines_fit : All Fits reflexive_lines
lines_fit = (
  λ x f. r9 x.s x.p x.o,
  (
    λ x f. rw f.0 (r10 x.s x.o),
    (
      λ x f. rw f.0 (r11 x.s x.o),
      (
        λ x f. rw f.0 (r12 x.s x.o),
        (
          λ x f. rw f.0 (r13 x.s x.o),
          (
            λ x f. rw f.0 (r14 x.s x.o),
            (
              λ x f. rw f.0 (r15 x.s x.o),
              (λ x f. rw f.0 (r16 x.s x.o), (λ x f. rw f.0 (r17 x.s x.o), (λ x f. rw f.0 (r18 x.s x.o), tt))),
            ),
          ),
        ),
      ),
    ),
  ),
)

-- a graph is closed where each line is obeyed
pub closed-by_lines : (K : Algebra) (G : Graph) → All (ObeyedByOne K G) reflexive_lines
    → (ps : List Triple) (t : Triple) → Reflexive ps t → AllHeld G ps → Drawn t → AtMost K (meet_all K G ps) (G t)
closed-by_lines K G o ps t (r9 x a y) h named = o.0 (triple x a y) h.0 tt named
closed-by_lines K G o ps t (r10 a b) h named = o.1.0 (triple a sp b) h.0 (refl, tt) named
closed-by_lines K G o ps t (r11 a b) h named = o.1.1.0 (triple a sp b) h.0 (refl, tt) named
closed-by_lines K G o ps t (r12 a b) h named = o.1.1.1.0 (triple a dom b) h.0 (refl, tt) named
closed-by_lines K G o ps t (r13 a b) h named = o.1.1.1.1.0 (triple a range b) h.0 (refl, tt) named
closed-by_lines K G o ps t (r14 a b) h named = o.1.1.1.1.1.0 (triple a sc b) h.0 (refl, tt) named
closed-by_lines K G o ps t (r15 a b) h named = o.1.1.1.1.1.1.0 (triple a sc b) h.0 (refl, tt) named
closed-by_lines K G o ps t (r16 x a) h named = o.1.1.1.1.1.1.1.0 (triple x type a) h.0 (refl, tt) named
closed-by_lines K G o ps t (r17 x a) h named = o.1.1.1.1.1.1.1.1.0 (triple x dom a) h.0 (refl, tt) named
closed-by_lines K G o ps t (r18 x a) h named = o.1.1.1.1.1.1.1.1.1.0 (triple x range a) h.0 (refl, tt) named

all_obeyed : (K : Algebra) (rows : List Row) (lines : List OfOne) → All Fits lines
    → All (ObeyedByOne K (graph_of rows)) lines ⊎ ToDraw K Reflexive (graph_of rows)
all_obeyed K rows [] fit = inl tt
all_obeyed K rows (line ∷ lines) fit = do
  here ← obeyed_by_one K Reflexive rows line fit.0
  there ← all_obeyed K rows lines fit.1
  inl (here, there)

lines_decided : Decided Reflexive
lines_decided K L rows v = do
  all ← all_obeyed K rows reflexive_lines lines_fit
  inl (closed-where_held K L Reflexive (graph_of rows) v (closed-by_lines K (graph_of rows) all))

-- each conclusion's terms are terms of the premise; a name is a legal term
lines_keep_legal : KeepLegal Reflexive
lines_keep_legal ps t (r9 x a y) h = (name_legal a h.0.predicate, name_legal a h.0.predicate)
lines_keep_legal ps t (r10 a b) h = (h.0.subject, h.0.subject)
lines_keep_legal ps t (r11 a b) h = (h.0.object, h.0.object)
lines_keep_legal ps t (r12 a b) h = (h.0.subject, h.0.subject)
lines_keep_legal ps t (r13 a b) h = (h.0.subject, h.0.subject)
lines_keep_legal ps t (r14 a b) h = (h.0.subject, h.0.subject)
lines_keep_legal ps t (r15 a b) h = (h.0.object, h.0.object)
lines_keep_legal ps t (r16 x a) h = (h.0.object, h.0.object)
lines_keep_legal ps t (r17 x a) h = (h.0.object, h.0.object)
lines_keep_legal ps t (r18 x a) h = (h.0.object, h.0.object)

decided_with : (b : Bool) → Decided (rules_with b)
decided_with true = together-decided rules-decided lines_decided
decided_with false = rules-decided

pub set_decided : (rules : ℕ) → Decided (rules_of rules)
set_decided rules = decided_with (eqb rules reflexive_set)

keep_legal_with : (b : Bool) → KeepLegal (rules_with b)
keep_legal_with true = together-keep_legal rules-keep_legal lines_keep_legal
keep_legal_with false = rules-keep_legal

pub set-keeps_legal : (rules : ℕ) → KeepLegal (rules_of rules)
set-keeps_legal rules = keep_legal_with (eqb rules reflexive_set)

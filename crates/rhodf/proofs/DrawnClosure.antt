-- Rows drawn one after another until the table is closed are its closure: each conclusion leaves the closure as it is. Assumes nothing.
use mathlib.Core.Path.{◌≡◌}
use mathlib.Core.Bool.{Bool, true}
use mathlib.Core.List.{List, [], ◌∷◌}
use mathlib.Core.Logic.{inl, inr}
use Prim.Native.Nat.{ℕ}
use lib.Dec.{ltb}
use borrow.Author.Tests.{ltb-true}
use Rattle.ruleset.specs.RuleSet.{basic_set, reflexive_set}
use Rattle.term.specs.Term.{is_name_lem}
use Rattle.annotation.specs.Kinds.{algebra}
use Rattle.annotation.proofs.KindLaws.{laws}
use Rattle.table.specs.Rows.{Triple, Row, add_row, value_at}
use Rattle.table.specs.Sound.{LegalRow, SoundRows}
use Rattle.table.proofs.Values.{legal-small, all_legal_small}
use Rattle.table.proofs.Putting.{sound-add}
use Rattle.rhodf.specs.Graph.{graph_of}
use Rattle.rhodf.specs.Rules.{Rules, Rule, Reflexive, rules_of}
use Rattle.rhodf.specs.Closure.{ClosureOf}
use Rattle.rhodf.proofs.Growing.{rows-valued}
use Rattle.rhodf.proofs.Drawing.{conclusion_row, drawn-same_closure, conclusion_legal}
use Rattle.rhodf.proofs.ClosedStays.{closed-is_closure}
use Rattle.rhodf.proofs.SetsDecided.{set-keeps_legal}
use Rattle.rhodf.proofs.Checking.{all_of, all_true, is_closed_lem, closed-holds, is_ordered, AllAnnotated, is_annotated, annotated-holds, sound-holds}

-- a conclusion, and the rule that gives it
pub record Conclusion (R : Rules) : Type 0 where
  pub premises : List Triple
  pub gives : Triple
  pub follows : R premises gives

-- by a rule, in rule set 1, and in rule set 2 by one of those rules or by a reflexive line
abbrev pub by : {ps : List Triple} {t : Triple} → Rule ps t → Conclusion (rules_of basic_set)
by {ps} {t} rule = record { premises = ps; gives = t; follows = rule }

abbrev pub by_rule : {ps : List Triple} {t : Triple} → Rule ps t → Conclusion (rules_of reflexive_set)
by_rule {ps} {t} rule = record { premises = ps; gives = t; follows = inl rule }

abbrev pub by_line : {ps : List Triple} {t : Triple} → Reflexive ps t → Conclusion (rules_of reflexive_set)
by_line {ps} {t} line = record { premises = ps; gives = t; follows = inr line }

module _ (rules kind : ℕ) where
  abbrev row_of : Conclusion (rules_of rules) → List Row → Row
  row_of c rows = conclusion_row (algebra kind) (graph_of rows) c.premises c.gives

  -- the rows with the conclusions drawn, one after another
  unfoldable pub drawn : List (Conclusion (rules_of rules)) → List Row → List Row
  drawn [] rows = rows
  drawn (c ∷ cs) rows = drawn cs (add_row (algebra kind) (row_of c rows) rows)

  -- each is to be drawn: its predicate is a name, its annotation not 0
  unfoldable pub are_drawn : List (Conclusion (rules_of rules)) → List Row → Bool
  are_drawn [] rows = true
  are_drawn (c ∷ cs) rows =
      let r : Row = row_of c rows in
      all_of (is_name_lem r.p ∷ ltb 0 r.a ∷ are_drawn cs (add_row (algebra kind) r rows) ∷ [])

  drawn-closure : (cs : List (Conclusion (rules_of rules))) (rows : List Row) → SoundRows kind rows → are_drawn cs rows ≡ true → is_closed_lem (algebra kind) (drawn cs rows) rules ≡ true
      → ClosureOf kind (rules_of rules) rows (drawn cs rows)
  unfolding drawn are_drawn
  drawn-closure [] rows sound e closed =
      closed-is_closure kind (rules_of rules) rows sound (closed-holds (algebra kind) rows rules (laws kind) (rows-valued kind rows sound) closed)
  drawn-closure (c ∷ cs) rows sound e closed =
      let r : Row = row_of c rows in
      let h = all_true (is_name_lem r.p ∷ ltb 0 r.a ∷ are_drawn cs (add_row (algebra kind) r rows) ∷ []) e in
      let legal : LegalRow kind r
      = conclusion_legal kind rows sound (rules_of rules) (set-keeps_legal rules) c.premises c.gives c.follows h.0 (ltb-true 0 r.a h.1.0) in
      let next = drawn-closure cs (add_row (algebra kind) r rows) (sound-add kind r rows legal sound) h.1.1.0 closed in
      record {
        sound = next.sound;
        is_least = drawn-same_closure (algebra kind) (laws kind) (rules_of rules) rows (all_legal_small kind rows sound.legal) sound.ascending
            (rows-valued kind rows sound) c.premises c.gives c.follows h.0 (legal-small legal)
            (graph_of (drawn cs (add_row (algebra kind) r rows))) next.is_least;
      }

-- for a table and its closure written out: the rows are ordered, each conclusion is to be drawn, and what then stands there is closed
unfoldable pub is_drawn_by : (rules kind : ℕ) → List (Conclusion (rules_of rules)) → List Row → List Row → Bool
unfolding algebra add_row value_at is_ordered are_drawn drawn is_closed_lem
is_drawn_by rules kind cs rows closed = all_of (is_ordered rows ∷ are_drawn rules kind cs rows ∷ is_closed_lem (algebra kind) closed rules ∷ [])

-- its annotations are known to be legal
pub closure_with : (rules : ℕ) {kind : ℕ} {rows closed : List Row} (cs : List (Conclusion (rules_of rules))) → AllAnnotated kind rows → drawn rules kind cs rows ≡ closed
    → is_drawn_by rules kind cs rows closed ≡ true → ClosureOf kind (rules_of rules) rows closed
unfolding is_drawn_by
closure_with rules {kind} {rows} {closed} cs legal e told =
    let h = all_true (is_ordered rows ∷ are_drawn rules kind cs rows ∷ is_closed_lem (algebra kind) closed rules ∷ []) told in
    rw e at (drawn-closure rules kind cs rows (sound-holds kind rows h.0 legal) h.1.0 (rw e h.1.1.0))

-- or are tried too
unfoldable pub is_closed_by : (rules kind : ℕ) → List (Conclusion (rules_of rules)) → List Row → List Row → Bool
unfolding is_drawn_by is_annotated
is_closed_by rules kind cs rows closed = all_of (is_annotated kind rows ∷ is_drawn_by rules kind cs rows closed ∷ [])

pub closure_by : (rules : ℕ) {kind : ℕ} {rows closed : List Row} (cs : List (Conclusion (rules_of rules))) → drawn rules kind cs rows ≡ closed
    → is_closed_by rules kind cs rows closed ≡ true → ClosureOf kind (rules_of rules) rows closed
unfolding is_closed_by
closure_by rules {kind} {rows} {closed} cs e told =
    let h = all_true (is_annotated kind rows ∷ is_drawn_by rules kind cs rows closed ∷ []) told in
    closure_with rules cs (annotated-holds kind rows h.0) e h.1.0

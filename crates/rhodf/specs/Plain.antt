-- The plain rules, without annotations: what they draw from some triples, in any number of steps; and the tests that tell which triples those are.
use Rattle.std.specs.Prelude.{◌≡◌, Bool, true, ◌&&◌, ◌||◌, List, [], ◌∷◌, ◌↔◌, ℕ, ◌+◌, ◌-◌, ◌≤◌, ◌<◌}
use Rattle.ground.specs.Bits.{has}
use Rattle.annotation.specs.Algebra.{Algebra}
use Rattle.table.specs.Rows.{Triple, Row}
use Rattle.rhodf.specs.Graph.{graph_of}
use Rattle.rhodf.specs.Rules.{Rules, Drawn}

-- "that triple is one of the lines .. or the plain rules, without annotations, draw it from them": S tells which triples are lines. A premise may
-- itself be drawn, and a conclusion is drawn as in a graph, with a name as its predicate
mutual
  pub data DrawnFrom (R : Rules) (S : Triple → Type 0) : Triple → Type 0 where
    line : (t : Triple) → S t → DrawnFrom R S t
    drawn : (ps : List Triple) (t : Triple) → R ps t → Drawn t → AllDrawnFrom R S ps → DrawnFrom R S t

  pub data AllDrawnFrom (R : Rules) (S : Triple → Type 0) : List Triple → Type 0 where
    none : AllDrawnFrom R S []
    and : (p : Triple) (ps : List Triple) → DrawnFrom R S p → AllDrawnFrom R S ps → AllDrawnFrom R S (p ∷ ps)

-- a test of annotations that goes through Join as "or" and through And as "and", and that the top passes: a year, a combination of sheets,
-- "at least u"
pub record Reads (K : Algebra) (test : ℕ → Bool) : Type 0 where
  pub of_join : (a b : ℕ) → test (K.join a b) ≡ test a || test b
  pub of_meet : (a b : ℕ) → K.Value a → K.Value b → test (K.meet a b) ≡ test a && test b
  pub of_top : test K.top ≡ true

-- "the lines of that year": the triples of a table whose annotation passes the test
abbrev pub LinesOf : (ℕ → Bool) → List Row → Triple → Type 0
LinesOf test rows t = test (graph_of rows t) ≡ true

-- "a year is in a closed row exactly when that triple is one of the lines of that year or the plain rules, without annotations, draw it from them"
abbrev pub ExactlyDrawn : Rules → (ℕ → Bool) → List Row → List Row → Type 0
ExactlyDrawn R test rows closed = (t : Triple) → LinesOf test closed t ↔ DrawnFrom R (LinesOf test rows) t

-- two tables "agree, for one year, on which triples hold in it": the year may be another bit of the one's annotations than of the other's
abbrev pub Agree : (ℕ → Bool) → (ℕ → Bool) → List Row → List Row → Type 0
Agree test test' rows rows' = (t : Triple) → test (graph_of rows t) ≡ test' (graph_of rows' t)

-- bit k of an annotation: a year of kind 1
abbrev pub has_bit : ℕ → ℕ → Bool
has_bit k a = has a k

-- "bit k is base year + k"
abbrev pub in_year : ℕ → ℕ → ℕ → Bool
in_year base year = has_bit (year - base)

-- a year that a book of that base year has a bit for
pub record YearOf (base year : ℕ) : Type 0 where
  pub from_base : base ≤ year
  pub in_64 : year < base + 64

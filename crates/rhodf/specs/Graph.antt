-- Graphs: what a table says of each triple.
use Rattle.std.specs.Prelude.{List, [], ◌∷◌, ℕ}
use Rattle.annotation.specs.Algebra.{Algebra, AtMost}
use Rattle.table.specs.Rows.{Triple, Row, value_at}

-- each triple's annotation; "0 is bottom", where it does not hold
abbrev pub Graph : Type 0
Graph = Triple → ℕ

-- the graph of a table's rows
abbrev pub graph_of : List Row → Graph
graph_of rows = value_at rows

-- every annotation is a value of the kind
pub record Valued (K : Algebra) (G : Graph) : Type 0 where
  pub value : (t : Triple) → K.Value (G t)

-- G is at most H, triple by triple: H is "at or above" G
pub record Below (K : Algebra) (G H : Graph) : Type 0 where
  pub below : (t : Triple) → AtMost K (G t) (H t)

-- "the And of the premises'"; of no premise, the top
abbrev pub meet_all : Algebra → Graph → List Triple → ℕ
meet_all K G [] = K.top
meet_all K G (t ∷ ts) = K.meet (G t) (meet_all K G ts)

-- What it is to be closed, and the closure of a table.
use Rattle.std.specs.Prelude.{List, ℕ}
use Rattle.annotation.specs.Algebra.{Algebra, AtMost}
use Rattle.annotation.specs.Kinds.{algebra}
use Rattle.table.specs.Rows.{Triple, Row}
use Rattle.table.specs.Sound.{SoundRows}
use Rattle.rhodf.specs.Graph.{Graph, graph_of, Valued, Below, meet_all}
use Rattle.rhodf.specs.Rules.{Rules, Drawn}

-- "A graph is closed if every conclusion is at most its value there."
pub record Closed (K : Algebra) (R : Rules) (G : Graph) : Type 0 where
  pub closed : (ps : List Triple) (t : Triple) → R ps t → Drawn t → AtMost K (meet_all K G ps) (G t)

-- "The closure is the least closed graph at or above the input."
pub record Least (K : Algebra) (R : Rules) (input G : Graph) : Type 0 where
  pub valued : Valued K G
  pub is_closed : Closed K R G
  pub holds : Below K input G
  pub least : (H : Graph) → Valued K H → Closed K R H → Below K input H → Below K G H

-- the same of tables: sound rows whose graph is the closure of the table's
pub record ClosureOf (kind : ℕ) (R : Rules) (rows closed : List Row) : Type 0 where
  pub sound : SoundRows kind closed
  pub is_least : Least (algebra kind) R (graph_of rows) (graph_of closed)

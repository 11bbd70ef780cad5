-- Two closures of one table are the same rows: their graphs agree, and sound rows are told by their graph. Assumes nothing.
use mathlib.Core.Path.{◌≡◌}
use mathlib.Core.List.{List}
use Prim.Native.Nat.{ℕ}
use Rattle.annotation.specs.Kinds.{algebra}
use Rattle.annotation.proofs.KindLaws.{laws}
use Rattle.table.specs.Rows.{Row}
use Rattle.table.proofs.SameGraph.{tables_agree}
use Rattle.rhodf.specs.Graph.{graph_of}
use Rattle.rhodf.specs.Rules.{Rules}
use Rattle.rhodf.specs.Closure.{ClosureOf}
use Rattle.rhodf.proofs.LeastAgree.{least-agree}

module _ (kind : ℕ) where
  pub closures_equal : (R : Rules) (rows G H : List Row) → ClosureOf kind R rows G → ClosureOf kind R rows H → G ≡ H
  closures_equal R rows G H g h =
      tables_agree kind G H g.sound h.sound
      (least-agree (algebra kind) (laws kind) R (graph_of rows) (graph_of G) (graph_of H) g.is_least h.is_least)

-- Closing what is closed changes nothing: a closed graph is its own closure, and a closed table the only one of its own. Assumes nothing.
use mathlib.Core.Path.{◌≡◌}
use mathlib.Core.List.{List}
use Prim.Native.Nat.{ℕ}
use Rattle.annotation.specs.Algebra.{Algebra, Laws}
use Rattle.annotation.specs.Kinds.{algebra}
use Rattle.annotation.proofs.KindLaws.{laws}
use Rattle.table.specs.Rows.{Row}
use Rattle.table.specs.Sound.{SoundRows}
use Rattle.rhodf.specs.Graph.{Graph, graph_of, Valued}
use Rattle.rhodf.specs.Rules.{Rules}
use Rattle.rhodf.specs.Closure.{Closed, Least, ClosureOf}
use Rattle.rhodf.proofs.Graphs.{below_self}
use Rattle.rhodf.proofs.Growing.{rows-valued}
use Rattle.rhodf.proofs.TablesAgree.{closures_equal}

pub closed-is_least : (K : Algebra) → Laws K → (R : Rules) (I : Graph) → Valued K I → Closed K R I → Least K R I I
closed-is_least K L R I v c = record { valued = v; is_closed = c; holds = below_self K L I; least = λ H w d b. b }

module _ (kind : ℕ) (R : Rules) where
  pub closed-is_closure : (rows : List Row) → SoundRows kind rows → Closed (algebra kind) R (graph_of rows) → ClosureOf kind R rows rows
  closed-is_closure rows sound c = record {
    sound = sound;
    is_least = closed-is_least (algebra kind) (laws kind) R (graph_of rows) (rows-valued kind rows sound) c;
  }

  pub closed-stays : (rows after : List Row) → SoundRows kind rows → Closed (algebra kind) R (graph_of rows) → ClosureOf kind R rows after → after ≡ rows
  closed-stays rows after sound c a = closures_equal kind R rows after rows a (closed-is_closure rows sound c)

  pub closing_twice : (rows once twice : List Row) → ClosureOf kind R rows once → ClosureOf kind R once twice → twice ≡ once
  closing_twice rows once twice a b = closed-stays once twice a.sound a.is_least.is_closed b

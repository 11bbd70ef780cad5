-- A larger input has a larger closure: the larger closure is closed and holds the smaller input. Assumes nothing.
use Rattle.annotation.specs.Algebra.{Algebra, Laws}
use Rattle.rhodf.specs.Graph.{Graph, Below}
use Rattle.rhodf.specs.Rules.{Rules}
use Rattle.rhodf.specs.Closure.{Least}
use Rattle.rhodf.proofs.Graphs.{below-trans}

pub larger_input_larger_closure : (K : Algebra) → Laws K → (R : Rules) (I J G H : Graph) → Below K I J → Least K R I G → Least K R J H → Below K G H
larger_input_larger_closure K L R I J G H b g h = g.least H h.valued h.is_closed (below-trans K L b h.holds)

-- Two closures of one input agree at each triple: each is below the other. Assumes nothing.
use mathlib.Core.Path.{◌≡◌}
use Rattle.annotation.specs.Algebra.{Algebra, Laws}
use Rattle.annotation.proofs.Order.{at_most_both}
use Rattle.table.specs.Rows.{Triple}
use Rattle.rhodf.specs.Graph.{Graph}
use Rattle.rhodf.specs.Rules.{Rules}
use Rattle.rhodf.specs.Closure.{Least}

pub least-agree : (K : Algebra) → Laws K → (R : Rules) (I G H : Graph) → Least K R I G → Least K R I H → (t : Triple) → G t ≡ H t
least-agree K L R I G H g h t =
    at_most_both K L (G t) (H t)
    ((g.least H h.valued h.is_closed h.holds).below t)
    ((h.least G g.valued g.is_closed g.holds).below t)

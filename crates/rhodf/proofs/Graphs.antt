-- Graphs are ordered triple by triple, and the And of some triples' annotations grows with the graph and is bottom unless all hold: from `Laws` alone. Assumes nothing.
use mathlib.Core.List.{List, [], ◌∷◌}
use Prim.Native.Nat.{◌<◌}
use Rattle.annotation.specs.Algebra.{Algebra, AtMost, Laws}
use Rattle.annotation.proofs.Order.{at_most_self, at_most_trans, meet-at_most, meet-not_bottom}
use Rattle.table.specs.Rows.{Triple}
use Rattle.rhodf.specs.Graph.{Graph, Valued, Below, meet_all}

module _ (K : Algebra) (L : Laws K) where
  pub below_self : (G : Graph) → Below K G G
  below_self G = record { below = λ t. at_most_self K L (G t) }

  pub below-trans : {G H I : Graph} → Below K G H → Below K H I → Below K G I
  below-trans {G} {H} {I} h k = record { below = λ t. at_most_trans K L (G t) (H t) (I t) (h.below t) (k.below t) }

  pub meet_all-value : (G : Graph) → Valued K G → (ps : List Triple) → K.Value (meet_all K G ps)
  meet_all-value G v [] = L.top_value
  meet_all-value G v (p ∷ ps) = L.meet_value (G p) (meet_all K G ps) (v.value p) (meet_all-value G v ps)

  pub meet_all-grows : (G H : Graph) → Valued K G → Valued K H → Below K G H → (ps : List Triple) → AtMost K (meet_all K G ps) (meet_all K H ps)
  meet_all-grows G H v w h [] = at_most_self K L K.top
  meet_all-grows G H v w h (p ∷ ps) =
      meet-at_most K L (G p) (H p) (meet_all K G ps) (meet_all K H ps) (v.value p) (w.value p) (meet_all-value G v ps) (meet_all-value H w ps)
      (h.below p) (meet_all-grows G H v w h ps)

-- every one of some triples holds
abbrev pub AllHeld : Graph → List Triple → Type 0
AllHeld G [] = Unit {0}
AllHeld G (p ∷ ps) = (0 < G p) × AllHeld G ps

module _ (K : Algebra) (L : Laws K) (G : Graph) (v : Valued K G) where
  pub premises_held : (ps : List Triple) → 0 < meet_all K G ps → AllHeld G ps
  premises_held [] h = tt
  premises_held (p ∷ ps) h =
      let both = meet-not_bottom K L (G p) (meet_all K G ps) (v.value p) (meet_all-value K L G v ps) h in
      (both.0, premises_held ps both.1)

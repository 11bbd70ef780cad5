-- Two sets of rules together: a graph is closed under both where it is under each; what is decided of each, and the legal terms that each keeps, are so of
-- both. Assumes nothing.
use mathlib.Core.List.{List}
use mathlib.Core.Logic.{◌⊎◌, inl, inr}
use Rattle.annotation.specs.Algebra.{Algebra, AtMost}
use Rattle.table.specs.Rows.{Triple}
use Rattle.rhodf.specs.Graph.{Graph, meet_all}
use Rattle.rhodf.specs.Rules.{Rules, Drawn, Together}
use Rattle.rhodf.specs.Closure.{Closed}
use Rattle.rhodf.proofs.Drawing.{KeepLegal}
use Rattle.rhodf.proofs.Deciding.{ToDraw, Decided}

module _ {K : Algebra} {R S : Rules} {G : Graph} where
  pub closed-together : Closed K R G → Closed K S G → Closed K (Together R S) G
  closed-together r s = record { closed = go }
    where
      go : (ps : List Triple) (t : Triple) → Together R S ps t → Drawn t → AtMost K (meet_all K G ps) (G t)
      go ps t (inl rule) named = r.closed ps t rule named
      go ps t (inr rule) named = s.closed ps t rule named

  pub closed-left : Closed K (Together R S) G → Closed K R G
  closed-left c = record { closed = λ ps t rule. c.closed ps t (inl rule) }

  pub closed-right : Closed K (Together R S) G → Closed K S G
  closed-right c = record { closed = λ ps t rule. c.closed ps t (inr rule) }

  draw_left : ToDraw K R G → ToDraw K (Together R S) G
  draw_left u = record { premises = u.premises; conclusion = u.conclusion; follows = inl u.follows; named = u.named; above = u.above }

  draw_right : ToDraw K S G → ToDraw K (Together R S) G
  draw_right u = record { premises = u.premises; conclusion = u.conclusion; follows = inr u.follows; named = u.named; above = u.above }

  decided_by : Closed K R G ⊎ ToDraw K R G → Closed K S G ⊎ ToDraw K S G → Closed K (Together R S) G ⊎ ToDraw K (Together R S) G
  decided_by (inl r) (inl s) = inl (closed-together r s)
  decided_by (inl r) (inr u) = inr (draw_right u)
  decided_by (inr u) s = inr (draw_left u)

module _ {R S : Rules} where
  pub together-decided : Decided R → Decided S → Decided (Together R S)
  together-decided r s K L rows v = decided_by (r K L rows v) (s K L rows v)

  pub together-keep_legal : KeepLegal R → KeepLegal S → KeepLegal (Together R S)
  together-keep_legal r s ps t (inl rule) h = r ps t rule h
  together-keep_legal r s ps t (inr rule) h = s ps t rule h

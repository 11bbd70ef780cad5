-- What is due of the rows that a plan meets, where an annotation is lower or bottom; and of all plans of a list. Assumes nothing.
use mathlib.Core.List.{List, [], ◌∷◌}
use Prim.Native.Nat.{ℕ, zero, suc, ◌<◌}
use native.Mathlib.Omega.{arith}
use lib.ListN.{length, get_or}
use Rattle.ground.specs.Lists.{All}
use Rattle.annotation.specs.Algebra.{Algebra, AtMost, Laws}
use Rattle.annotation.proofs.Order.{at_most_trans, bottom-at_most, meet-at_most_left}
use Rattle.table.specs.Rows.{triple}
use Rattle.rhodf.specs.Graph.{Graph, Valued}
use Rattle.plans.specs.declared.Plan.{Plan}
use Rattle.plans.specs.declared.Plan.TheVariants.{Off, Rows, Alone}
use Rattle.plans.specs.declared.Each.{Each}
use Rattle.plans.specs.declared.Each.TheVariants.{Once, Behind}
use Rattle.plans.specs.declared.Once.TheVariants.{Straight, Renaming}
use Rattle.plans.specs.Plans.{Met, Obeyed}

module _ (K : Algebra) (L : Laws K) (G : Graph) (v : Valued K G) where
  pub met-lower : (each : Each) (z c c' : ℕ) → K.Value c → K.Value c' → AtMost K c c' → Met K G each z c' → Met K G each z c
  met-lower (Once (Straight s p)) z c c' vc vc' low m = λ named. at_most_trans K L c c' _ low (m named)
  met-lower (Once (Renaming s o)) z c c' vc vc' low m = λ named. at_most_trans K L c c' _ low (m named)
  met-lower (Behind d) z c c' vc vc' low m = λ w named.
      let b = G (triple z d.t w) in
      at_most_trans K L (K.meet c b) (K.meet c' b) _ (meet-at_most_left K L c c' b vc vc' (v.value (triple z d.t w)) low) (m w named)

  pub met-bottom : (each : Each) (z : ℕ) → Met K G each z 0
  met-bottom (Once (Straight s p)) z = λ named. bottom-at_most K L _
  met-bottom (Once (Renaming s o)) z = λ named. bottom-at_most K L _
  met-bottom (Behind d) z = λ w named.
      let b = G (triple z d.t w) in
      rw (L.meet_comm 0 b, L.meet_bottom b (v.value (triple z d.t w))) (bottom-at_most K L _)

  pub obeyed_lower : (plan : Plan) (a a' : ℕ) → K.Value a → K.Value a' → AtMost K a a' → Obeyed K G plan a' → Obeyed K G plan a
  obeyed_lower Off a a' va va' low o = record { obeyed = tt }
  obeyed_lower (Rows q r each) a a' va va' low o = record {
    obeyed = λ z.
        let t = triple q r z in
        met-lower each z (K.meet a (G t)) (K.meet a' (G t)) (L.meet_value a (G t) va (v.value t)) (L.meet_value a' (G t) va' (v.value t))
        (meet-at_most_left K L a a' (G t) va va' (v.value t) low) (o.obeyed z);
  }
  obeyed_lower (Alone s p o') a a' va va' low o = record { obeyed = λ named. at_most_trans K L a a' _ low (o.obeyed named) }

-- all of a list, by their index
module _ {A : Type 0} (P : A → Type 0) (past : A) where
  pub all_at : (xs : List A) → All P xs → (k : ℕ) → k < length xs → P (get_or xs k past)
  all_at [] h k q = absurd (omega arith)
  all_at (x ∷ xs) h zero q = h.0
  all_at (x ∷ xs) h (suc k) q = all_at xs h.1 k (omega arith)

  pub all_from : (xs : List A) → ((k : ℕ) → k < length xs → P (get_or xs k past)) → All P xs
  all_from [] h = tt
  all_from (x ∷ xs) h = (h zero (omega arith), all_from xs (λ k q. h (suc k) (omega arith)))

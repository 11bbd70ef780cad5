-- Closure induction, for every set of rules that keep terms legal and of which it is decided whether a table is closed: what holds of a table's values
-- and is kept by joining and by drawing holds of its closure's values. Conclusions are drawn one by one; each raises the sum of annotations, and that sum
-- is bounded. Assumes nothing.
use mathlib.Core.List.{List}
use mathlib.Core.Logic.{◌⊎◌, inl, inr}
use Prim.Native.Nat.{ℕ, zero, suc, ◌+◌, ◌<◌}
use native.Mathlib.Omega.{arith}
use Rattle.annotation.specs.Kinds.{algebra}
use Rattle.annotation.proofs.KindLaws.{laws}
use Rattle.annotation.proofs.Order.{bottom-at_most}
use Rattle.table.specs.Rows.{Triple, Row, add_row, total}
use Rattle.table.specs.Sound.{LegalRow, SoundRows}
use Rattle.table.proofs.Ordering.{Tri, less, same, more, tri}
use Rattle.table.proofs.Values.{legal-small, all_legal_small}
use Rattle.table.proofs.Putting.{sound-add}
use Rattle.table.proofs.Totals.{most_total, total-bound}
use Rattle.rhodf.specs.Graph.{Graph, graph_of, Valued, meet_all}
use Rattle.rhodf.specs.Rules.{Rules, Drawn}
use Rattle.rhodf.specs.Closure.{Closed, ClosureOf}
use Rattle.rhodf.proofs.Growing.{rows-valued, added_raises, at_each}
use Rattle.rhodf.proofs.Drawing.{conclusion_row, drawn-same_closure, KeepLegal, conclusion_legal}
use Rattle.rhodf.proofs.Deciding.{ToDraw, Decided}
use Rattle.rhodf.proofs.ClosedStays.{closed-is_closure}
use Rattle.rhodf.proofs.TablesAgree.{closures_equal}

-- kept by joining, and by drawing from any graph of whose every value it holds
pub record Kept (kind : ℕ) (R : Rules) (Q : Triple → ℕ → Type 0) : Type 0 where
  pub joins : (t : Triple) (a b : ℕ) → Q t a → Q t b → Q t ((algebra kind).join a b)
  pub draws : (G : Graph) → Valued (algebra kind) G → ((t : Triple) → Q t (G t)) → (ps : List Triple) (t : Triple) → R ps t → Drawn t
      → 0 < meet_all (algebra kind) G ps → Q t (meet_all (algebra kind) G ps)

module _ (R : Rules) (keeps : KeepLegal R) (decided : Decided R) (kind : ℕ) (Q : Triple → ℕ → Type 0) (kept : Kept kind R Q) where
  -- a closure, and that Q holds of it
  abbrev pub Reached : List Row → Type 0
  Reached rows = (closed : List Row) × ClosureOf kind R rows closed × ((t : Triple) → Q t (graph_of closed t))

  -- what is not at most a value is not bottom
  to-draw_not_bottom : (rows : List Row) (u : ToDraw (algebra kind) R (graph_of rows)) → 0 < meet_all (algebra kind) (graph_of rows) u.premises
  to-draw_not_bottom rows u = go (tri 0 (meet_all (algebra kind) (graph_of rows) u.premises))
    where
      go : Tri 0 (meet_all (algebra kind) (graph_of rows) u.premises) → 0 < meet_all (algebra kind) (graph_of rows) u.premises
      go (less h) = h
      go (same e) = absurd (u.above (rw (← e) (bottom-at_most (algebra kind) (laws kind) (graph_of rows u.conclusion))))
      go (more h) = absurd (omega arith)

  reached-by : (left : ℕ) (rows : List Row) → SoundRows kind rows → most_total < total rows + left → ((t : Triple) → Q t (graph_of rows t)) → Reached rows
  reached-by zero rows sound h q = absurd (omega (arith, total-bound kind rows sound.legal sound.ascending))
  reached-by (suc left) rows sound h q = go (decided (algebra kind) (laws kind) rows (rows-valued kind rows sound)) (reached-by left)
    where
      go : Closed (algebra kind) R (graph_of rows) ⊎ ToDraw (algebra kind) R (graph_of rows)
          → ((rows : List Row) → SoundRows kind rows → most_total < total rows + left → ((t : Triple) → Q t (graph_of rows t)) → Reached rows)
          → Reached rows
      go (inl c) again = (rows, closed-is_closure kind R rows sound c, q)
      go (inr u) again =
          let r : Row = conclusion_row (algebra kind) (graph_of rows) u.premises u.conclusion in
          let v = rows-valued kind rows sound in
          let above = to-draw_not_bottom rows u in
          let legal : LegalRow kind r = conclusion_legal kind rows sound R keeps u.premises u.conclusion u.follows u.named above in
          let smalls = all_legal_small kind rows sound.legal in
          let rises = added_raises (algebra kind) (laws kind) r rows (legal-small legal) smalls sound.ascending u.above in
          let new = kept.draws (graph_of rows) v q u.premises u.conclusion u.follows u.named above in
          let next = again (add_row (algebra kind) r rows) (sound-add kind r rows legal sound) (omega arith)
          (at_each (algebra kind) (laws kind) r rows (legal-small legal) smalls sound.ascending Q
          (kept.joins u.conclusion _ _ (q u.conclusion) new) q) in (
            next.0,
            record {
              sound = next.1.sound;
              is_least = drawn-same_closure (algebra kind) (laws kind) R rows smalls sound.ascending v
                  u.premises u.conclusion u.follows u.named (legal-small legal) (graph_of next.0) next.1.is_least;
            },
            next.2,
          )

  -- there is a closure of which Q holds
  pub reached : (rows : List Row) → SoundRows kind rows → ((t : Triple) → Q t (graph_of rows t)) → Reached rows
  reached rows sound q = reached-by (suc most_total) rows sound (omega arith) q

  -- and there is no other
  pub closure_induction : (rows closed : List Row) → SoundRows kind rows → ((t : Triple) → Q t (graph_of rows t)) → ClosureOf kind R rows closed
      → (t : Triple) → Q t (graph_of closed t)
  closure_induction rows closed sound q c t =
      let made = reached rows sound q in
      rw (closures_equal kind R rows closed made.0 c made.1) (made.2 t)

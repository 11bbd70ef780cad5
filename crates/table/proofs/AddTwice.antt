-- Adding twice is adding once: the second time is done, and changes nothing. Assumes nothing.
use mathlib.Core.Path.{◌≡◌, refl, sym, ap, ◌∙◌}
use mathlib.Core.Bool.{true}
use Prim.Native.Nat.{ℕ}
use lib.ListN.{length}
use Rattle.term.specs.Refusal.{first}
use Rattle.term.specs.declared.refusal.Verdict.{Verdict}
use Rattle.annotation.specs.Kinds.{algebra}
use Rattle.annotation.proofs.KindLaws.{laws}
use Rattle.table.specs.Rows.{Row, Lanes, rows_of, laid, add_row}
use Rattle.table.specs.Adding.{rows_with, add_checks, add_done, Adding}
use Rattle.table.proofs.Ordering.{add_twice}
use Rattle.table.proofs.AddKeepsSound.{all_pass, laid-again, add_count, add_lanes, add_rows, add_keeps_sound, add_legal, add_fits}

pub record Unchanged (m m' : Lanes) (count number' count' : ℕ) : Type 0 where
  pub done-again : number' ≡ 0
  pub same_count : count' ≡ count
  pub same-lanes : m' ≡ m

module _ (kind : ℕ) (r : Row) (l : Lanes) (n : ℕ) (m m' : Lanes) (place count number' place' count' : ℕ)
    (once : Adding kind r l n m 0 place count) (again : Adding kind r m count m' number' place' count') where
  same_rows : rows_with kind r m count ≡ rows_with kind r l n
  same_rows = ap (add_row (algebra kind) r) (add_rows kind r l n m place count once) ∙ add_twice (algebra kind) (laws kind) r (rows_of l n)

  passes : (first (add_checks kind r m count)).number ≡ 0
  passes =
      ap (λ (v : Verdict). v.number)
      (all_pass kind r m count (record {
        sound = add_keeps_sound kind r l n m place count once;
        legal = add_legal kind r l n m place count once;
        room = rw same_rows (add_fits kind r l n m place count once);
      }))

  is_done : add_done kind r m count ≡ true
  is_done = rw passes refl

  same-laid : laid (rows_with kind r l n) m ≡ m
  same-laid =
      let R = rows_with kind r l n in
      rw (
        add_lanes kind r l n m place count once,
        laid-again (λ (x : Row). x.s) R l.subj,
        laid-again (λ (x : Row). x.p) R l.pred,
        laid-again (λ (x : Row). x.o) R l.obj,
        laid-again (λ (x : Row). x.a) R l.ann,
      ) refl

  pub add_twice_is_once : Unchanged m m' count number' count'
  add_twice_is_once = record {
    done-again = ap (λ (v : Verdict). v.number) again.verdict_is ∙ passes;
    same_count = again.count_is ∙ rw is_done (ap length same_rows ∙ sym (add_count kind r l n m place count once));
    same-lanes = again.lanes_are ∙ rw (is_done, same_rows) same-laid;
  }

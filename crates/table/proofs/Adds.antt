-- What `add` leaves: refused by the table, by the triple, for room, or done. Assumes nothing.
use mathlib.Core.Path.{◌≡◌, refl, sym, ap, ◌∙◌}
use mathlib.Core.Bool.{Bool, true, false, cond}
use mathlib.Core.List.{[], ◌∷◌, ◌++◌}
use Prim.Native.Nat.{ℕ, ◌≤◌, ◌<◌}
use native.Mathlib.Omega.{arith}
use lib.ListN.{length}
use lib.Dec.{eqb, ltb}
use borrow.Author.Tests.{ne_eqb}
use Rattle.term.specs.Refusal.{refuse, verdict, done, first}
use Rattle.term.specs.declared.refusal.Verdict.{Verdict}
use Rattle.term.proofs.Firsts.{first_stops, first-clear, first_done, first-place, first_holds, first_passes}
use Rattle.table.specs.Rows.{Row, Lanes}
use Rattle.table.specs.Checks.{triple_checks, table_checks}
use Rattle.table.specs.Sound.{LegalRow, Sound}
use Rattle.table.specs.Adding.{rows_with, add_checks, add_done, Adding}
use Rattle.table.specs.Putting.{Put}
use Rattle.table.proofs.Judging.{triple-at, triple-numbered, table-numbered}
use Rattle.table.proofs.Soundness.{passes-sound, triple-legal}

module _ (kind : ℕ) (r : Row) (l : Lanes) (n : ℕ) where
  -- a verdict that is none: nothing is changed
  refused : (v : Verdict) → v ≡ first (add_checks kind r l n) → 0 < v.number → Adding kind r l n l v.number v.place n
  refused v e h =
      let b : add_done kind r l n ≡ false = ap (λ (w : Verdict). eqb w.number 0) (sym e) ∙ ne_eqb v.number 0 (λ z. omega arith) in
      record { verdict_is = e; count_is = rw b refl; lanes_are = rw b refl }

  module _ (v : Verdict) (e : v ≡ first (table_checks kind l n)) where
    pub add_by_table : 0 < v.number → Adding kind r l n l v.number v.place n
    add_by_table h = refused v (e ∙ sym (first_stops (table_checks kind l n) _ (rw (← e) h))) h

    module _ (z : v.number ≤ 0) where
      zero_number : (first (table_checks kind l n)).number ≡ 0
      zero_number = ap (λ (w : Verdict). w.number) (sym e) ∙ omega arith

      pub added_to_sound : Sound kind l n
      added_to_sound = passes-sound kind l n (first_done (table_checks kind l n) (table-numbered kind l n) zero_number)

      to-triple : first (add_checks kind r l n) ≡ first (triple_checks kind r 0 ++ (refuse (ltb (length l.subj) (length (rows_with kind r l n))) 12 0 ∷ []))
      to-triple = first-clear (table_checks kind l n) _ (table-numbered kind l n) zero_number

      module _ (k : ℕ) (ek : k ≡ (first (triple_checks kind r 0)).number) where
        pub add_by_triple : 0 < k → Adding kind r l n l k 0 n
        add_by_triple h =
            refused (verdict k 0)
            (sym (to-triple ∙ first_stops (triple_checks kind r 0) _ (rw (← ek) h) ∙ first-place 0 (triple_checks kind r 0) (triple-at kind r 0) (rw (← ek) h)
            ∙ ap (λ (x : ℕ). verdict x 0) (sym ek)))
            h

        module _ (y : k ≤ 0) where
          pub added_legal : LegalRow kind r
          added_legal = (triple-legal kind r 0 [] (done-triple)).0
            where
              done-triple : first (triple_checks kind r 0 ++ []) ≡ done
              done-triple = first_done (triple_checks kind r 0) (triple-numbered kind r 0) (sym ek ∙ omega arith)

          to_room : first (add_checks kind r l n) ≡ first (refuse (ltb (length l.subj) (length (rows_with kind r l n))) 12 0 ∷ [])
          to_room = to-triple ∙ first-clear (triple_checks kind r 0) _ (triple-numbered kind r 0) (sym ek ∙ omega arith)

          pub add_by_put : (m : Lanes) (full changed : Bool) (n' number : ℕ) → Put kind r l n m full changed n' → number ≡ cond full 12 0
              → Adding kind r l n m number 0 n'
          unfolding first
          add_by_put m true changed n' number p en =
              let v : verdict 12 0 ≡ first (add_checks kind r l n) = sym (to_room ∙ first_holds _ 12 0 [] (sym p.full_is)) in
              let s = p.still (p.full_still refl) in
              rw (en, s.0, s.1) (refused (verdict 12 0) v (omega arith))
          add_by_put m false changed n' number p en =
              let v : done ≡ first (add_checks kind r l n) = sym (to_room ∙ first_passes _ 12 0 [] (sym p.full_is)) in
              let b : add_done kind r l n ≡ true = ap (λ (w : Verdict). eqb w.number 0) (sym v) in
              record {
                verdict_is = ap (λ (x : ℕ). verdict x 0) en ∙ v;
                count_is = p.count_is refl ∙ rw b refl;
                lanes_are = p.lanes_are refl ∙ rw b refl;
              }

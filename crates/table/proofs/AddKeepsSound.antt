-- What a done adding leaves is sound, its graph is the old one joined with the new triple at that triple and unchanged elsewhere,
-- and adding twice is adding once. Assumes nothing.
use mathlib.Core.Path.{◌≡◌, refl, sym, ap, ◌∙◌}
use mathlib.Core.Bool.{true, false}
use mathlib.Core.List.{List, [], ◌∷◌, ◌++◌, map}
use Prim.Native.Nat.{ℕ, ◌≤◌}
use native.Mathlib.Omega.{arith}
use lib.ListN.{length, drop, length-map}
use lib.Dec.{ltb}
use lib.Seq.{drop_at}
use borrow.Author.Tests.{ltb-false, le-ltb}
use Rattle.term.specs.Refusal.{Check, done, first, refuse}
use Rattle.term.specs.declared.refusal.Verdict.{Verdict}
use Rattle.term.proofs.Firsts.{first_done, first-clear, first-left, first-none, first_passes, first-split, numbered-append}
use Rattle.annotation.specs.Kinds.{algebra}
use Rattle.annotation.proofs.KindLaws.{laws}
use Rattle.table.specs.Rows.{Triple, Row, Lanes, rows_of, laid, value_at, is_triple}
use Rattle.table.specs.Checks.{table_checks, triple_checks}
use Rattle.table.specs.Sound.{LegalRow, Sound}
use Rattle.table.specs.Adding.{rows_with, add_checks, add_done, Adding}
use Rattle.table.proofs.Judging.{table-numbered, triple-numbered}
use Rattle.table.proofs.Soundness.{passes-sound, sound-passes, triple-legal, triple-passes, sound-list, list_sound, sound-within}
use Rattle.table.proofs.Putting.{sound-add}
use Rattle.table.proofs.Values.{legal-small, all_legal_small, triple_of, value-add_same, value-add_other}
use Rattle.table.proofs.Laid.{laid-rows, laid-as_long}

pub laid-again : (f : Row → ℕ) (R : List Row) (l : List ℕ) → drop (length R) (map f R ++ drop (length R) l) ≡ drop (length R) l
laid-again f R l = drop_at (map f R) (drop (length R) l) (length R) (length-map R f)

-- a done adding: the table was sound, the triple legal, and there was room
module _ (kind : ℕ) (r : Row) (l : Lanes) (n : ℕ) where
  abbrev after : List Row
  after = rows_with kind r l n

  pub record Fine : Type 0 where
    pub sound : Sound kind l n
    pub legal : LegalRow kind r
    pub room : length after ≤ length l.subj

  pub fine : (first (add_checks kind r l n)).number ≡ 0 → Fine
  fine e =
      let clear = first-left (table_checks kind l n) _ e in
      let e' = ap (λ (v : Verdict). v.number) (sym (first-clear (table_checks kind l n) (triple_checks kind r 0 ++ last-check) (table-numbered kind l n) clear)) ∙ e in
      let d : first (triple_checks kind r 0 ++ last-check) ≡ done
      = first_done (triple_checks kind r 0 ++ last-check) (numbered-append (triple_checks kind r 0) last-check (triple-numbered kind r 0) (omega arith, tt)) e' in
      let t = triple-legal kind r 0 last-check d in
      record {
        sound = passes-sound kind l n (first_done (table_checks kind l n) (table-numbered kind l n) clear);
        legal = t.0;
        room = ltb-false (length l.subj) (length after) (first-split 12 0 _ [] (omega arith) t.1).0;
      }
    where
      last-check : List Check
      last-check = refuse (ltb (length l.subj) (length after)) 12 0 ∷ []

  pub all_pass : Fine → first (add_checks kind r l n) ≡ done
  all_pass f =
      first-clear (table_checks kind l n) _ (table-numbered kind l n) (ap (λ (v : Verdict). v.number) (sound-passes kind l n f.sound))
      ∙ triple-passes kind r 0 _ f.legal
      ∙ first_passes _ 12 0 [] (le-ltb (length l.subj) (length after) f.room)
      ∙ first-none

  module _ (m : Lanes) (place count : ℕ) (a : Adding kind r l n m 0 place count) where
    number-zero : (first (add_checks kind r l n)).number ≡ 0
    number-zero = ap (λ (v : Verdict). v.number) (sym a.verdict_is)

    is_done : add_done kind r l n ≡ true
    is_done = rw number-zero refl

    f : Fine
    f = fine number-zero

    pub add_count : count ≡ length after
    add_count = a.count_is ∙ rw is_done refl

    pub add_lanes : m ≡ laid after l
    add_lanes = a.lanes_are ∙ rw is_done refl

    pub add_legal : LegalRow kind r
    add_legal = f.legal

    pub add_fits : length after ≤ length m.subj
    add_fits = rw add_lanes (omega (arith, (laid-as_long after l (sound-within f.sound f.room)).same_subj, f.room))

    -- the rows are the old ones with the triple added
    pub add_rows : rows_of m count ≡ after
    add_rows = rw (add_lanes, add_count) (laid-rows after _ _ _ _)

    -- what adding leaves is sound
    pub add_keeps_sound : Sound kind m count
    add_keeps_sound =
        let h = f.sound in
        let long = laid-as_long after l (sound-within h f.room) in
        list_sound h m count (rw add_lanes long)
        (rw (add_lanes, add_count) (omega (arith, long.same_subj, f.room)))
        (rw add_rows (sound-add kind r (rows_of l n) f.legal (sound-list h)))

    -- its graph is the old one, joined with the new triple at that triple
    pub add_joins_there : value_at (rows_of m count) (triple_of r) ≡ (algebra kind).join (value_at (rows_of l n) (triple_of r)) r.a
    add_joins_there =
        let s = sound-list f.sound in
        ap (λ (R : List Row). value_at R (triple_of r)) add_rows
        ∙ value-add_same (algebra kind) r (legal-small f.legal) (laws kind) (rows_of l n) (all_legal_small kind (rows_of l n) s.legal) s.ascending

    pub add_keeps_others : (t : Triple) → is_triple t r ≡ false → value_at (rows_of m count) t ≡ value_at (rows_of l n) t
    add_keeps_others t h =
        let s = sound-list f.sound in
        ap (λ (R : List Row). value_at R t) add_rows
        ∙ value-add_other (algebra kind) r (legal-small f.legal) (rows_of l n) (all_legal_small kind (rows_of l n) s.legal) t h

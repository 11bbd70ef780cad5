-- What a done reading gives are sound rows of the head's kind, base year and rule set, what it leaves in the lanes is a sound table; and a refusal's place is within the
-- book. Assumes nothing.
use mathlib.Core.Path.{◌≡◌, refl, sym, ap, ◌∙◌}
use mathlib.Core.Bool.{Bool, true, false, not}
use mathlib.Core.List.{List, [], ◌∷◌, ◌++◌}
use Prim.Native.Nat.{ℕ, zero, suc, ◌≤◌, ◌<◌}
use native.Mathlib.Omega.{arith}
use lib.ListN.{length}
use lib.Dec.{eqb, leb, ltb}
use borrow.Author.Tests.{eqb-true, eqb-false, leb-false, ltb-false, not-false, eq-eqb}
use Rattle.term.specs.Refusal.{Check, refuse, first}
use Rattle.term.specs.declared.refusal.Verdict.{Verdict}
use Rattle.term.proofs.Firsts.{Numbered, AllAt, numbered-append, at_append, first_done, first-place, first-split, first-left, first-clear}
use Rattle.ruleset.specs.RuleSet.{is_rule_set, rule_set_checks}
use Rattle.ruleset.proofs.Judged.{rule_set_numbered, rule_set_at, passes-rule_set}
use Rattle.annotation.specs.Kinds.{algebra, is_kind, kind_checks}
use Rattle.annotation.proofs.Judged.{kind-numbered, kind_at, passes-kind}
use Rattle.table.specs.Rows.{Row, Lanes, AsLong, add_row, rows_of, filled}
use Rattle.table.specs.Checks.{is_unfit}
use Rattle.table.specs.Sound.{Sound, Ascending, AllLegal, SoundRows}
use Rattle.table.proofs.Putting.{sound-add}
use Rattle.table.proofs.Soundness.{fit_of, fit-within, rows-sound}
use Rattle.table.proofs.Laid.{filled-as_long, filled-rows}
use Rattle.field.specs.Fields.{is_cut_lem, tag_at, size_at, behind}
use Rattle.book.specs.Format.{is_edition, head_length_lem, is_head_length, is_base, head_edition, head_kind, head_base, head_rules, head_says_checks, head_checks, field_checks, row_in, base_checks}
use Rattle.book.specs.Reading.{Read, refused, read_as, go_on, when_done, when_more, step_checks, fields_from, fields_of, read_book, longest_book, lend_checks, reading, Reading}
use Rattle.book.proofs.Contents.{field_numbered, field_at, field_legal}

-- by cases: done, and what follows; or refused
when-done : (P : Read → Type 0) (v : Verdict) (next : Unit {0} → Read) → (v.number ≡ 0 → P (next tt)) → ((v.number ≡ 0 → ⊥) → P (refused v)) → P (when_done v next)
when-done P v next goes stops = go (eqb v.number 0) refl
  where
    go : (t : Bool) → eqb v.number 0 ≡ t → P (go_on t v next)
    go true e = goes (eqb-true v.number 0 e)
    go false e = stops (eqb-false v.number 0 e)

-- a reading of a book of so many bytes into so much room
pub record Fine (long room kind base rules : ℕ) (r : Read) : Type 0 where
  pub placed : r.verdict_of.place ≤ long
  pub same_kind : r.verdict_of.number ≡ 0 → r.kind ≡ kind
  pub same_base : r.verdict_of.number ≡ 0 → r.base ≡ base
  pub same-rules : r.verdict_of.number ≡ 0 → r.rules ≡ rules
  pub sound : r.verdict_of.number ≡ 0 → SoundRows kind r.rows
  pub fits : r.verdict_of.number ≡ 0 → length r.rows ≤ room

module _ (kind base rules : ℕ) (b : List ℕ) (room : ℕ) where
  abbrev Good : Read → Type 0
  Good r = Fine (length b) room kind base rules r

  read-good : (R : List Row) → SoundRows kind R → length R ≤ room → Good (read_as kind base rules R)
  read-good R s h = record { placed = omega arith; same_kind = λ z. refl; same_base = λ z. refl; same-rules = λ z. refl; sound = λ z. s; fits = λ z. h }

  refused-good : (v : Verdict) → v.place ≤ length b → (v.number ≡ 0 → ⊥) → Good (refused v)
  refused-good v h n = record {
    placed = h;
    same_kind = λ z. absurd (n z);
    same_base = λ z. absurd (n z);
    same-rules = λ z. absurd (n z);
    sound = λ z. absurd (n z);
    fits = λ z. absurd (n z);
  }

  abbrev steps : ℕ → List Row → List Check
  steps at R = step_checks kind b room at R

  steps-numbered : (at : ℕ) (R : List Row) → Numbered (steps at R)
  steps-numbered at R =
      numbered-append (field_checks kind b at) (refuse (ltb room (length (add_row (algebra kind) (row_in b at) R))) 12 at ∷ []) (field_numbered kind b at) (omega arith, tt)

  steps-at : (at : ℕ) (R : List Row) → AllAt at (steps at R)
  steps-at at R =
      at_append at (field_checks kind b at) (refuse (ltb room (length (add_row (algebra kind) (row_in b at) R))) 12 at ∷ []) (field_at kind b at) (refl, tt)

  -- a field that passes adds a legal row for which there is room
  step-sound : (at : ℕ) (R : List Row) → (first (steps at R)).number ≡ 0 → SoundRows kind R
      → SoundRows kind (add_row (algebra kind) (row_in b at) R) × (length (add_row (algebra kind) (row_in b at) R) ≤ room)
  step-sound at R e s =
      let f = first-left (field_checks kind b at) _ e in
      let last = refuse (ltb room (length (add_row (algebra kind) (row_in b at) R))) 12 at ∷ [] in
      let l : (first last).number ≡ 0 = ap (λ (v : Verdict). v.number) (sym (first-clear (field_checks kind b at) last (field_numbered kind b at) f)) ∙ e in (
        sound-add kind (row_in b at) R (field_legal kind b at (first_done (field_checks kind b at) (field_numbered kind b at) f)) s,
        ltb-false room _ (first-split 12 at (ltb room (length (add_row (algebra kind) (row_in b at) R))) [] (omega arith) (first_done last (omega arith, tt) l)).0,
      )

  -- what is read behind a field that passes
  abbrev left : ℕ → ℕ → List Row → Read
  left fuel at R = fields_from fuel kind base rules b room (behind b at) (add_row (algebra kind) (row_in b at) R)

  fields_good : (fuel at : ℕ) (R : List Row) → SoundRows kind R → length R ≤ room → Good (fields_from fuel kind base rules b room at R)
  unfolding fields_from
  fields_good zero at R s h = read-good R s h
  fields_good (suc fuel) at R s h = more (leb (length b) at) refl (λ e. fields_good fuel (behind b at) _ (step-sound at R e s).0 (step-sound at R e s).1)
    where
      stop : at < length b → ((first (steps at R)).number ≡ 0 → ⊥) → Good (refused (first (steps at R)))
      stop q n =
          let p : (first (steps at R)).place ≡ at = ap (λ (v : Verdict). v.place) (first-place at (steps at R) (steps-at at R) (omega (arith, n))) in
          refused-good (first (steps at R)) (omega (arith, p)) n

      more : (t : Bool) → leb (length b) at ≡ t → ((first (steps at R)).number ≡ 0 → Good (left fuel at R)) → Good (when_more t (read_as kind base rules R) (λ _. when_done (first (steps at R)) (λ _. left fuel at R)))
      more true e ih = read-good R s h
      more false e ih = when-done Good (first (steps at R)) (λ _. left fuel at R) ih (stop (leb-false (length b) at e))

-- the head
pub record LegalHead (kind base rules : ℕ) : Type 0 where
  pub kind_known : is_kind kind ≡ true
  pub year : is_base kind base ≡ true
  pub rules_known : is_rule_set rules ≡ true

says-numbered : (b : List ℕ) → Numbered (head_says_checks b)
says-numbered b =
    numbered-append (kind_checks (head_kind b) 0) (base_checks (head_kind b) (head_base b) 0 ++ rule_set_checks (head_rules b) 0) (kind-numbered (head_kind b) 0)
    (omega arith, rule_set_numbered (head_rules b) 0)

says_at : (b : List ℕ) → AllAt 0 (head_says_checks b)
says_at b =
    at_append 0 (kind_checks (head_kind b) 0) (base_checks (head_kind b) (head_base b) 0 ++ rule_set_checks (head_rules b) 0) (kind_at (head_kind b) 0)
    (refl, rule_set_at (head_rules b) 0)

pub head_numbered : (b : List ℕ) → Numbered (head_checks b)
head_numbered b = (omega arith, (omega arith, (omega arith, (omega arith, (omega arith, (omega arith, says-numbered b))))))

pub head_at : (b : List ℕ) → AllAt 0 (head_checks b)
head_at b = (refl, (refl, (refl, (refl, (refl, (refl, says_at b))))))

pub legal-head : (b : List ℕ) → (first (head_checks b)).number ≡ 0 → LegalHead (head_kind b) (head_base b) (head_rules b)
legal-head b z =
    let e = first_done (head_checks b) (head_numbered b) z in
    let e2 = first-split 2 0 (eqb (length b) 0) _ (omega arith) e in
    let e1 = first-split 1 0 (is_cut_lem b 0) _ (omega arith) e2.1 in
    let t = first-split 2 0 (not (eqb (tag_at b 0) 1)) _ (omega arith) e1.1 in
    let s = first-split 2 0 (not (is_head_length (size_at b 0))) _ (omega arith) t.1 in
    let d = first-split 3 0 (not (is_edition (head_edition b))) _ (omega arith) s.1 in
    let f = first-split 2 0 (not (eqb (size_at b 0) (head_length_lem (head_edition b)))) _ (omega arith) d.1 in
    let k = passes-kind (head_kind b) 0 _ f.1 in
    let y = first-split 5 0 (not (is_base (head_kind b) (head_base b))) _ (omega arith) k.1 in
    let r = passes-rule_set (head_rules b) 0 [] y.1 in
    record { kind_known = k.0; year = not-false _ y.0; rules_known = r.0 }

pub no_rows : (kind : ℕ) → SoundRows kind []
unfolding Ascending AllLegal
no_rows kind = record { ascending = tt; legal = tt }

-- what is known of any reading
pub record Reads (long room : ℕ) (r : Read) : Type 0 where
  pub placed : r.verdict_of.place ≤ long
  pub head : r.verdict_of.number ≡ 0 → LegalHead r.kind r.base r.rules
  pub sound : r.verdict_of.number ≡ 0 → SoundRows r.kind r.rows
  pub fits : r.verdict_of.number ≡ 0 → length r.rows ≤ room

refused-reads : (long room : ℕ) (v : Verdict) → v.place ≤ long → (v.number ≡ 0 → ⊥) → Reads long room (refused v)
refused-reads long room v h n = record { placed = h; head = λ z. absurd (n z); sound = λ z. absurd (n z); fits = λ z. absurd (n z) }

module _ (b : List ℕ) (room : ℕ) where
  fine_reads : (kind base rules : ℕ) (r : Read) → LegalHead kind base rules → Fine (length b) room kind base rules r → Reads (length b) room r
  fine_reads kind base rules r l f = record {
    placed = f.placed;
    head = λ z. rw (f.same_kind z, f.same_base z, f.same-rules z) l;
    sound = λ z. rw (f.same_kind z) (f.sound z);
    fits = f.fits;
  }

  book_reads_sound : Reads (length b) room (read_book b room)
  unfolding read_book
  book_reads_sound =
      when-done (Reads (length b) room) (first (head_checks b)) (λ _. fields_of (head_kind b) (head_base b) (head_rules b) b room (behind b 0))
      (λ z.
      fine_reads (head_kind b) (head_base b) (head_rules b) (fields_of (head_kind b) (head_base b) (head_rules b) b room (behind b 0)) (legal-head b z)
      (fields_good (head_kind b) (head_base b) (head_rules b) b room (length b) (behind b 0) [] (no_rows (head_kind b)) (omega arith)))
      (λ n.
      let p : (first (head_checks b)).place ≡ 0 = ap (λ (v : Verdict). v.place) (first-place 0 (head_checks b) (head_at b) (omega (arith, n))) in
      refused-reads (length b) room (first (head_checks b)) (omega (arith, p)) n)

pub reading-sound : (b : List ℕ) (l : Lanes) → Reads longest_book (length l.subj) (reading b l)
reading-sound b l =
    when-done (Reads longest_book (length l.subj)) (first (lend_checks b l)) (λ _. read_book b (length l.subj))
    (λ z.
    let d = first_done (lend_checks b l) (omega arith, (omega arith, tt)) z in
    let e11 = first-split 11 0 (is_unfit l) _ (omega arith) d in
    let e13 = first-split 13 0 (ltb longest_book (length b)) [] (omega arith) e11.1 in
    let short : length b ≤ longest_book = ltb-false longest_book (length b) e13.0 in
    let r = book_reads_sound b (length l.subj) in
    record { placed = omega (arith, r.placed); head = r.head; sound = r.sound; fits = r.fits })
    (λ n.
    let p : (first (lend_checks b l)).place ≡ 0 = ap (λ (v : Verdict). v.place) (first-place 0 (lend_checks b l) (refl, (refl, tt)) (omega (arith, n))) in
    refused-reads longest_book (length l.subj) (first (lend_checks b l)) (omega (arith, p)) n)

-- "A table is sound when it passes the table check": the lanes that a done reading leaves, with its count, are a sound table of its kind
module _ (b : List ℕ) (l m : Lanes) (place kind base rules count : ℕ) (read : Reading b l m 0 place kind base rules count) where
  is_read : (reading b l).verdict_of.number ≡ 0
  is_read = ap (λ (v : Verdict). v.number) (sym read.verdict_is)

  pub lent-done : (first (lend_checks b l)).number ≡ 0
  lent-done =
      when-done (λ r. r.verdict_of.number ≡ 0 → (first (lend_checks b l)).number ≡ 0) (first (lend_checks b l)) (λ _. read_book b (length l.subj))
      (λ z e. z) (λ n e. e) is_read

  lanes-filled : m ≡ filled (reading b l).rows l
  lanes-filled = read.lanes_are ∙ rw (eq-eqb _ _ lent-done) refl

  pub reading-leaves_sound : Sound kind m count
  reading-leaves_sound =
      let unfit = (first-split 11 0 (is_unfit l) _ (omega arith) (first_done (lend_checks b l) (omega arith, (omega arith, tt)) lent-done)).0 in
      let fit = fit_of kind l 0 unfit in
      let r = reading-sound b l in
      let room : length (reading b l).rows ≤ length l.subj = r.fits is_read in
      let within = fit-within kind l (length (reading b l).rows) unfit room in
      let long : AsLong l m = rw lanes-filled (filled-as_long (reading b l).rows l within) in
      let rows : rows_of m count ≡ (reading b l).rows = rw (lanes-filled, read.count_is) (filled-rows (reading b l).rows l) in
      rows-sound kind m count
      (rw read.kind_is (r.head is_read).kind_known)
      (long.same_pred ∙ fit.pred_long ∙ sym long.same_subj)
      (long.same_obj ∙ fit.obj_long ∙ sym long.same_subj)
      (long.same_ann ∙ fit.ann_long ∙ sym long.same_subj)
      (omega (arith, fit.long, long.same_subj))
      (omega (arith, room, read.count_is, long.same_subj))
      (rw (rows, read.kind_is) (r.sound is_read))

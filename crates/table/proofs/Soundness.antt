-- The table check is done exactly on the sound tables. Assumes nothing.
use mathlib.Core.Path.{◌≡◌, refl, sym, ◌∙◌}
use mathlib.Core.Bool.{true, false, not, ◌&&◌, and-eq-true_iff}
use mathlib.Core.List.{List, ◌++◌}
use Prim.Native.Nat.{ℕ, zero, suc, ◌+◌, ◌≤◌, ◌<◌}
use native.Mathlib.Omega.{arith}
use lib.ListN.{length}
use lib.Dec.{eqb, leb, ltb}
use borrow.Author.Tests.{eqb-true, leb-true, leb-false, ltb-false, not-false, eq-eqb, le-leb, lt-leb, le-ltb}
use Rattle.ground.specs.Lists.{tab}
use Rattle.term.specs.Refusal.{Check, done, first}
use Rattle.term.specs.Term.{is_legal_term, is_name_lem}
use Rattle.term.proofs.Firsts.{first_passes, first-split}
use Rattle.term.proofs.Sorts.{name_legal}
use Rattle.annotation.specs.Kinds.{is_kind}
use Rattle.annotation.proofs.Judged.{kind-passes, passes-kind, annotation-passes, passes-annotation}
use Rattle.table.specs.Rows.{Row, Lanes, AsLong, most_rows, row_at, rows_of}
use Rattle.table.specs.Checks.{triple_checks, row_checks, rows_checks, is_not_above, is_unfit, table_checks}
use Rattle.table.specs.Sound.{LegalRow, Sound, AllLegal, SoundRows}
use Rattle.table.specs.Places.{Ordered, RowsWithin}
use Rattle.table.proofs.Ordering.{Tri, less, same, more, tri, ascending-tab, tab-ascending}

-- a triple passes its checks exactly if it is legal
module _ (kind : ℕ) (r : Row) (place : ℕ) (cs : List Check) where
  pub triple-passes : LegalRow kind r → first (triple_checks kind r place ++ cs) ≡ first cs
  triple-passes h =
      let e : not (is_legal_term r.s && (is_legal_term r.p && is_legal_term r.o)) ≡ false
      = rw (h.subject, name_legal r.p h.predicate, h.object) refl in
      first_passes _ 8 place _ e
      ∙ first_passes (not (is_name_lem r.p)) 9 place _ (rw h.predicate refl)
      ∙ annotation-passes kind r.a place cs h.annotation

  pub triple-legal : first (triple_checks kind r place ++ cs) ≡ done → LegalRow kind r × (first cs ≡ done)
  triple-legal e =
      let e8 = first-split 8 place (not (is_legal_term r.s && (is_legal_term r.p && is_legal_term r.o))) _ (omega arith) e in
      let e9 = first-split 9 place (not (is_name_lem r.p)) _ (omega arith) e8.1 in
      let e10 = passes-annotation kind r.a place cs e9.1 in
      let terms = (and-eq-true_iff (is_legal_term r.s) (is_legal_term r.p && is_legal_term r.o)).0 (not-false _ e8.0) in (
        record {
          subject = terms.0;
          predicate = not-false (is_name_lem r.p) e9.0;
          object = ((and-eq-true_iff (is_legal_term r.p) (is_legal_term r.o)).0 terms.1).1;
          annotation = e10.0;
        },
        e10.1,
      )

module _ (kind : ℕ) (l : Lanes) where
  -- row i is legal, and above the one before
  record RowOk (i : ℕ) : Type 0 where
    legal : LegalRow kind (row_at l i)
    above : is_not_above l.subj l.pred l.obj i ≡ false

  row-passes : (i : ℕ) (cs : List Check) → RowOk i → first (row_checks kind l i ++ cs) ≡ first cs
  row-passes i cs h = triple-passes kind (row_at l i) i _ h.legal ∙ first_passes _ 15 i cs h.above

  row_ok : (i : ℕ) (cs : List Check) → first (row_checks kind l i ++ cs) ≡ done → RowOk i × (first cs ≡ done)
  row_ok i cs e =
      let t = triple-legal kind (row_at l i) i _ e in
      let a = first-split 15 i (is_not_above l.subj l.pred l.obj i) cs (omega arith) t.1 in
      (record { legal = t.0; above = a.0 }, a.1)

  rows_pass : (i n : ℕ) → ((j : ℕ) → i ≤ j → j < i + n → RowOk j) → first (rows_checks kind l i n) ≡ done
  unfolding rows_checks first
  rows_pass i zero h = refl
  rows_pass i (suc n) h =
      row-passes i (rows_checks kind l (suc i) n) (h i (omega arith) (omega arith))
      ∙ rows_pass (suc i) n (λ j p q. h j (omega arith) (omega arith))

  one_of : (i j : ℕ) → RowOk i → Tri i j → i ≤ j → (i < j → RowOk j) → RowOk j
  one_of i j here (less w) p later = later w
  one_of i j here (same w) p later = rw (← w) here
  one_of i j here (more w) p later = absurd (omega arith)

  rows_ok : (i n : ℕ) → first (rows_checks kind l i n) ≡ done → (j : ℕ) → i ≤ j → j < i + n → RowOk j
  unfolding rows_checks
  rows_ok i zero e j p q = absurd (omega arith)
  rows_ok i (suc n) e j p q =
      let split = row_ok i (rows_checks kind l (suc i) n) e in
      one_of i j split.0 (tri i j) p (λ w. rows_ok (suc i) n split.1 j w (omega arith))

-- a table passes the check exactly if it is sound
module _ (kind : ℕ) (l : Lanes) (n : ℕ) where
  fit-passes : Sound kind l n → is_unfit l ≡ false
  fit-passes h =
      rw (eq-eqb _ _ h.pred_long, eq-eqb _ _ h.obj_long, eq-eqb _ _ h.ann_long, le-leb (length l.subj) most_rows h.long) refl

  above-passes : Sound kind l n → (i : ℕ) → i < n → is_not_above l.subj l.pred l.obj i ≡ false
  above-passes h zero q = refl
  above-passes h (suc i) q = lt-leb _ _ (h.ascending i q)

  pub sound-passes : Sound kind l n → first (table_checks kind l n) ≡ done
  sound-passes h =
      kind-passes kind 0 _ h.kind_known
      ∙ first_passes (is_unfit l) 11 0 _ (fit-passes h)
      ∙ first_passes (ltb (length l.subj) n) 14 0 _ (le-ltb (length l.subj) n h.within)
      ∙ rows_pass kind l 0 n (λ j p q. record { legal = h.legal j (omega arith); above = above-passes h j (omega arith) })

  -- the lanes fit
  pub record Fit : Type 0 where
    pub pred_long : length l.pred ≡ length l.subj
    pub obj_long : length l.obj ≡ length l.subj
    pub ann_long : length l.ann ≡ length l.subj
    pub long : length l.subj ≤ most_rows

  pub fit_of : is_unfit l ≡ false → Fit
  fit_of e =
      let a = (and-eq-true_iff (eqb (length l.pred) (length l.subj)) _).0 (not-false _ e) in
      let b = (and-eq-true_iff (eqb (length l.obj) (length l.subj)) _).0 a.1 in
      let c = (and-eq-true_iff (eqb (length l.ann) (length l.subj)) (leb (length l.subj) most_rows)).0 b.1 in
      record {
        pred_long = eqb-true _ _ a.0;
        obj_long = eqb-true _ _ b.0;
        ann_long = eqb-true _ _ c.0;
        long = leb-true _ _ c.1;
      }

  pub passes-sound : first (table_checks kind l n) ≡ done → Sound kind l n
  passes-sound e =
      let e4 = passes-kind kind 0 _ e in
      let e11 = first-split 11 0 (is_unfit l) _ (omega arith) e4.1 in
      let e14 = first-split 14 0 (ltb (length l.subj) n) _ (omega arith) e11.1 in
      let fit = fit_of e11.0 in
      let ok = rows_ok kind l 0 n e14.1 in
      record {
        kind_known = e4.0;
        pred_long = fit.pred_long;
        obj_long = fit.obj_long;
        ann_long = fit.ann_long;
        long = fit.long;
        within = ltb-false (length l.subj) n e14.0;
        legal = λ i q. (ok i (omega arith) (omega arith)).legal;
        ascending = λ i q. leb-false _ _ (ok (suc i) (omega arith) (omega arith)).above;
      }

  pub fit-within : is_unfit l ≡ false → n ≤ length l.subj → RowsWithin l n
  fit-within e h =
      let fit = fit_of e in
      record {
        in_subj = h;
        in_pred = omega (arith, fit.pred_long);
        in_obj = omega (arith, fit.obj_long);
        in_ann = omega (arith, fit.ann_long);
      }

-- what the lanes of a sound table hold
module _ {kind : ℕ} {l : Lanes} {n : ℕ} (h : Sound kind l n) where
  pub sound-within : {k : ℕ} → k ≤ length l.subj → RowsWithin l k
  sound-within q = record {
    in_subj = q;
    in_pred = omega (arith, h.pred_long);
    in_obj = omega (arith, h.obj_long);
    in_ann = omega (arith, h.ann_long);
  }

  pub sound-rows_within : RowsWithin l n
  sound-rows_within = sound-within h.within

  pub sound-ordered : Ordered l.subj l.pred l.obj n
  sound-ordered = record {
    in_subj = h.within;
    in_pred = sound-rows_within.in_pred;
    in_obj = sound-rows_within.in_obj;
    ascending = h.ascending;
  }

  -- of two sound tables one lane of each tells the others' lengths
  pub sound-as_long : {m : Lanes} {n' : ℕ} → Sound kind m n' → length m.subj ≡ length l.subj → AsLong l m
  sound-as_long g e = record {
    same_subj = e;
    same_pred = g.pred_long ∙ e ∙ sym h.pred_long;
    same_obj = g.obj_long ∙ e ∙ sym h.obj_long;
    same_ann = g.ann_long ∙ e ∙ sym h.ann_long;
  }

-- the rows of a sound table, as a list
all_legal_tab : (kind n : ℕ) (f : ℕ → Row) → ((i : ℕ) → i < n → LegalRow kind (f i)) → AllLegal kind (tab n f)
unfolding AllLegal tab
all_legal_tab kind zero f h = tt
all_legal_tab kind (suc n) f h = (h zero (omega arith), all_legal_tab kind n (λ i. f (suc i)) (λ i q. h (suc i) (omega arith)))

tab-all_legal : (kind n : ℕ) (f : ℕ → Row) → AllLegal kind (tab n f) → (i : ℕ) → i < n → LegalRow kind (f i)
unfolding AllLegal tab
tab-all_legal kind zero f h i q = absurd (omega arith)
tab-all_legal kind (suc n) f h zero q = h.0
tab-all_legal kind (suc n) f h (suc i) q = tab-all_legal kind n (λ i. f (suc i)) h.1 i (omega arith)

pub sound-list : {kind : ℕ} {l : Lanes} {n : ℕ} → Sound kind l n → SoundRows kind (rows_of l n)
sound-list {kind} {l} {n} h = record { ascending = ascending-tab n (row_at l) h.ascending; legal = all_legal_tab kind n (row_at l) h.legal }

-- lanes that fit, with sound rows, are a sound table
pub rows-sound : (kind : ℕ) (m : Lanes) (n : ℕ) → is_kind kind ≡ true
    → length m.pred ≡ length m.subj → length m.obj ≡ length m.subj → length m.ann ≡ length m.subj
    → length m.subj ≤ most_rows → n ≤ length m.subj → SoundRows kind (rows_of m n) → Sound kind m n
rows-sound kind m n known lp lo la long fit rows = record {
  kind_known = known;
  pred_long = lp;
  obj_long = lo;
  ann_long = la;
  long = long;
  within = fit;
  legal = tab-all_legal kind n (row_at m) rows.legal;
  ascending = tab-ascending n (row_at m) rows.ascending;
}

-- lanes as long as those of a sound table, with sound rows, are a sound table
pub list_sound : {kind : ℕ} {l : Lanes} {n : ℕ} → Sound kind l n → (m : Lanes) (n' : ℕ) → AsLong l m → n' ≤ length m.subj → SoundRows kind (rows_of m n')
    → Sound kind m n'
list_sound {kind} h m n' long fit rows =
    rows-sound kind m n' h.kind_known
    (long.same_pred ∙ h.pred_long ∙ sym long.same_subj) (long.same_obj ∙ h.obj_long ∙ sym long.same_subj) (long.same_ann ∙ h.ann_long ∙ sym long.same_subj)
    (omega (arith, h.long, long.same_subj)) fit rows

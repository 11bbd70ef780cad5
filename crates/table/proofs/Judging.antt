-- The refusals of triples, rows and tables, step by step as the code meets them. Assumes nothing.
use mathlib.Core.Path.{◌≡◌, refl, sym, ap, ◌∙◌}
use mathlib.Core.Bool.{Bool, true, false, not, cond, ◌&&◌}
use mathlib.Core.List.{List, [], ◌∷◌, ◌++◌}
use Prim.Native.Nat.{ℕ, zero, suc, ◌+◌, ◌-◌, ◌≤◌, ◌<◌}
use native.Mathlib.Numerals.{add-one}
use native.Mathlib.Decide.{dec_lt}
use lib.ListN.{length}
use lib.Dec.{leb, ltb}
use borrow.Author.Tests.{lt-ltb, le-ltb, lt-leb, le-leb}
use native.Mathlib.Omega.{arith}
use Rattle.term.specs.Refusal.{Check, refuse, verdict, done, first}
use Rattle.term.specs.Term.{is_legal_term, is_name_lem, predicate_checks}
use Rattle.term.proofs.Firsts.{Numbered, numbered-append, Without, without_append, AllAt, at_append, first_stops, first-clear, first-place, first_holds, first_passes, number-alike}
use Rattle.term.specs.declared.refusal.Verdict.{Verdict}
use Rattle.annotation.specs.Kinds.{kind_checks, annotation_checks}
use Rattle.annotation.proofs.Judged.{kind-numbered, kind-not_12, kind-refused, annotation-numbered, annotation-not_12, annotation-at, annotation-alike}
use Rattle.table.specs.Rows.{Row, Lanes, row_at, key_at}
use Rattle.table.specs.Checks.{triple_checks, row_checks, rows_checks, is_not_above, is_unfit, table_checks}

-- the number of a triple: 8 by the subject, by the object, then the predicate's, then the annotation's
module _ (kind : ℕ) (r : Row) where
  pub triple-by_subject : is_legal_term r.s ≡ false → 8 ≡ (first (triple_checks kind r 0)).number
  unfolding first
  triple-by_subject h = rw h refl

  by_object : (lp : Bool) (v : Verdict) → 8 ≡ (cond (not (lp && false)) (verdict 8 0) v).number
  by_object true v = refl
  by_object false v = refl

  pub triple-by_object : is_legal_term r.s ≡ true → is_legal_term r.o ≡ false → 8 ≡ (first (triple_checks kind r 0)).number
  unfolding first
  triple-by_object hs ho = rw (hs, ho) (by_object (is_legal_term r.p) _)

  by_predicate : (lp np : Bool) (v : Verdict) → 0 < (cond (not lp) (verdict 8 0) (cond (not np) (verdict 9 0) done)).number
      → (cond (not lp) (verdict 8 0) (cond (not np) (verdict 9 0) done)).number ≡ (cond (not (lp && true)) (verdict 8 0) (cond (not np) (verdict 9 0) v)).number
  by_predicate true true v h = absurd (omega arith)
  by_predicate true false v h = refl
  by_predicate false np v h = refl

  pub triple-by_predicate : (n : ℕ) → is_legal_term r.s ≡ true → is_legal_term r.o ≡ true
      → n ≡ (first (predicate_checks r.p 0)).number → 0 < n → n ≡ (first (triple_checks kind r 0)).number
  unfolding first
  triple-by_predicate n hs ho e h = e ∙ rw (hs, ho) (by_predicate (is_legal_term r.p) (is_name_lem r.p) _ (rw (← e) h))

  past_predicate : (lp np : Bool) (v : Verdict) → (cond (not lp) (verdict 8 0) (cond (not np) (verdict 9 0) done)).number ≤ 0
      → v.number ≡ (cond (not (lp && true)) (verdict 8 0) (cond (not np) (verdict 9 0) v)).number
  past_predicate true true v h = refl
  past_predicate true false v h = absurd (omega arith)
  past_predicate false np v h = absurd (omega arith)

  pub triple-by_annotation : (n k : ℕ) → is_legal_term r.s ≡ true → is_legal_term r.o ≡ true
      → n ≡ (first (predicate_checks r.p 0)).number → n ≤ 0 → k ≡ (first (annotation_checks kind r.a 0)).number
      → k ≡ (first (triple_checks kind r 0)).number
  unfolding first
  triple-by_annotation n k hs ho e h ea = ea ∙ rw (hs, ho) (past_predicate (is_legal_term r.p) (is_name_lem r.p) _ (rw (← e) h))

-- a triple's number is the same at every place
pub triple-anywhere : (kind : ℕ) (r : Row) (p : ℕ) → (first (triple_checks kind r 0)).number ≡ (first (triple_checks kind r p)).number
triple-anywhere kind r p = number-alike (triple_checks kind r 0) (triple_checks kind r p) ((refl, refl), ((refl, refl), annotation-alike kind r.a 0 p))

pub triple-at : (kind : ℕ) (r : Row) (p : ℕ) → AllAt p (triple_checks kind r p)
triple-at kind r p = (refl, (refl, annotation-at kind r.a p))

pub triple-numbered : (kind : ℕ) (r : Row) (p : ℕ) → Numbered (triple_checks kind r p)
triple-numbered kind r p = (omega arith, (omega arith, annotation-numbered kind r.a p))

-- "15: row not above the one before"
abbrev order_check : Lanes → ℕ → Check
order_check l i = refuse (is_not_above l.subj l.pred l.obj i) 15 i

row-at : (kind : ℕ) (l : Lanes) (i : ℕ) → AllAt i (row_checks kind l i)
row-at kind l i = at_append i (triple_checks kind (row_at l i) i) (order_check l i ∷ []) (triple-at kind (row_at l i) i) (refl, tt)

row-numbered : (kind : ℕ) (l : Lanes) (i : ℕ) → Numbered (row_checks kind l i)
row-numbered kind l i = numbered-append (triple_checks kind (row_at l i) i) (order_check l i ∷ []) (triple-numbered kind (row_at l i) i) (omega arith, tt)

rows-numbered : (kind : ℕ) (l : Lanes) (i n : ℕ) → Numbered (rows_checks kind l i n)
unfolding rows_checks
rows-numbered kind l i zero = tt
rows-numbered kind l i (suc n) = numbered-append (row_checks kind l i) (rows_checks kind l (suc i) n) (row-numbered kind l i) (rows-numbered kind l (suc i) n)

pub table-numbered : (kind : ℕ) (l : Lanes) (n : ℕ) → Numbered (table_checks kind l n)
table-numbered kind l n =
    numbered-append (kind_checks kind 0) (refuse (is_unfit l) 11 0 ∷ refuse (ltb (length l.subj) n) 14 0 ∷ rows_checks kind l 0 n) (kind-numbered kind 0)
    (omega arith, (omega arith, rows-numbered kind l 0 n))

-- none of the table's checks says "no room": 12 is not among its numbers
row-not_12 : (kind : ℕ) (l : Lanes) (i : ℕ) → Without 12 (row_checks kind l i)
row-not_12 kind l i =
    without_append 12 (triple_checks kind (row_at l i) i) (order_check l i ∷ [])
    (λ e. omega arith, (λ e. omega arith, annotation-not_12 kind (row_at l i).a i)) (λ e. omega arith, tt)

rows-not_12 : (kind : ℕ) (l : Lanes) (i n : ℕ) → Without 12 (rows_checks kind l i n)
unfolding rows_checks
rows-not_12 kind l i zero = tt
rows-not_12 kind l i (suc n) = without_append 12 (row_checks kind l i) (rows_checks kind l (suc i) n) (row-not_12 kind l i) (rows-not_12 kind l (suc i) n)

pub table-not_12 : (kind : ℕ) (l : Lanes) (n : ℕ) → Without 12 (table_checks kind l n)
table-not_12 kind l n =
    without_append 12 (kind_checks kind 0) (refuse (is_unfit l) 11 0 ∷ refuse (ltb (length l.subj) n) 14 0 ∷ rows_checks kind l 0 n) (kind-not_12 kind 0)
    (λ e. omega arith, (λ e. omega arith, rows-not_12 kind l 0 n))

-- the number of a row: its triple's, then 15
module _ (kind : ℕ) (l : Lanes) (i n : ℕ) (e : n ≡ (first (triple_checks kind (row_at l i) 0)).number) where
  e_at : n ≡ (first (triple_checks kind (row_at l i) i)).number
  e_at = e ∙ triple-anywhere kind (row_at l i) i

  pub row-by_triple : 0 < n → n ≡ (first (row_checks kind l i)).number
  row-by_triple h =
      e_at ∙ ap (λ (v : Verdict). v.number) (sym (first_stops (triple_checks kind (row_at l i) i) _ (rw (← e_at) h)))

  past_triple : n ≤ 0 → first (row_checks kind l i) ≡ first (refuse (is_not_above l.subj l.pred l.obj i) 15 i ∷ [])
  past_triple h = first-clear (triple_checks kind (row_at l i) i) _ (triple-numbered kind (row_at l i) i) (sym e_at ∙ omega arith)

  pub row-by_order : n ≤ 0 → (b : Bool) → b ≡ is_not_above l.subj l.pred l.obj i → b ≡ true → 15 ≡ (first (row_checks kind l i)).number
  row-by_order h b eb ht =
      ap (λ (v : Verdict). v.number) (sym (past_triple h ∙ first_holds _ 15 i [] (sym eb ∙ ht)))

  pub row-clear : n ≤ 0 → (b : Bool) → b ≡ is_not_above l.subj l.pred l.obj i → b ≡ false → 0 ≡ (first (row_checks kind l i)).number
  unfolding first
  row-clear h b eb hf =
      ap (λ (v : Verdict). v.number) (sym (past_triple h ∙ first_passes _ 15 i [] (sym eb ∙ hf)))

-- rows passed one after another
module _ (kind : ℕ) (l : Lanes) (n : ℕ) where
  at_row : (i : ℕ) → i < n → first (rows_checks kind l i (n - i)) ≡ first (row_checks kind l i ++ rows_checks kind l (suc i) (n - suc i))
  unfolding rows_checks
  at_row i h = let e : n - i ≡ suc (n - suc i) = omega arith in rw e refl

  pub rows_step : (i k : ℕ) → i < n → k ≡ (first (row_checks kind l i)).number → k ≤ 0
      → first (rows_checks kind l 0 n) ≡ first (rows_checks kind l i (n - i))
      → first (rows_checks kind l 0 n) ≡ first (rows_checks kind l (i + 1) (n - (i + 1)))
  rows_step i k h e z inv =
      rw (add-one i) (inv ∙ at_row i h ∙ first-clear (row_checks kind l i) (rows_checks kind l (suc i) (n - suc i)) (row-numbered kind l i) (sym e ∙ omega arith))

  pub rows-stop : (i k : ℕ) → i < n → k ≡ (first (row_checks kind l i)).number → 0 < k
      → first (rows_checks kind l 0 n) ≡ first (rows_checks kind l i (n - i))
      → verdict k i ≡ first (rows_checks kind l 0 n)
  rows-stop i k h e p inv =
      sym (inv ∙ at_row i h ∙ first_stops (row_checks kind l i) (rows_checks kind l (suc i) (n - suc i)) (rw (← e) p)
      ∙ first-place i (row_checks kind l i) (row-at kind l i) (rw (← e) p)
      ∙ ap (λ (z : ℕ). verdict z i) (sym e))

  pub rows_start : first (rows_checks kind l 0 n) ≡ first (rows_checks kind l 0 (n - 0))
  rows_start = let e : n - 0 ≡ n = omega arith in rw e refl

  pub rows_end : (i : ℕ) → n ≤ i → first (rows_checks kind l 0 n) ≡ first (rows_checks kind l i (n - i)) → done ≡ first (rows_checks kind l 0 n)
  unfolding rows_checks first
  rows_end i h inv = sym (inv ∙ (let e : n - i ≡ 0 = omega arith in rw e refl))

-- a row past the first is compared with the one before
pub not-above_later : (S P O : List ℕ) (i : ℕ) → (i ≡ 0 → ⊥) → leb (key_at S P O i) (key_at S P O (i - 1)) ≡ is_not_above S P O i
not-above_later S P O zero h = absurd (h refl)
not-above_later S P O (suc i) h = let e : suc i - 1 ≡ i = omega arith in rw e refl

-- past a bound is not within it
pub past_is_not_within : (m n : ℕ) → ltb m n ≡ not (leb n m)
past_is_not_within m n = go (dec_lt m n)
  where
    go : Dec (m < n) → ltb m n ≡ not (leb n m)
    go (yes h) = rw (lt-ltb m n h, lt-leb n m h) refl
    go (no h) = rw (le-ltb m n (omega arith), le-leb n m (omega arith)) refl

-- the table check, step by step
module _ (kind : ℕ) (l : Lanes) (n : ℕ) where
  abbrev past_kind : List Check
  past_kind = refuse (is_unfit l) 11 0 ∷ refuse (ltb (length l.subj) n) 14 0 ∷ rows_checks kind l 0 n

  module _ (k : ℕ) (e : k ≡ (first (kind_checks kind 0)).number) where
    pub table-by_kind : 0 < k → verdict 4 0 ≡ first (table_checks kind l n)
    table-by_kind h = sym (kind-refused kind 0 past_kind (rw (← e) h))

    module _ (z : k ≤ 0) where
      to-lanes : first (table_checks kind l n) ≡ first past_kind
      to-lanes = first-clear (kind_checks kind 0) past_kind (kind-numbered kind 0) (sym e ∙ omega arith)

      pub table-by_lanes : is_unfit l ≡ true → verdict 11 0 ≡ first (table_checks kind l n)
      table-by_lanes h = sym (to-lanes ∙ first_holds (is_unfit l) 11 0 _ h)

      module _ (fit : is_unfit l ≡ false) where
        to-count : first (table_checks kind l n) ≡ first (refuse (ltb (length l.subj) n) 14 0 ∷ rows_checks kind l 0 n)
        to-count = to-lanes ∙ first_passes (is_unfit l) 11 0 _ fit

        pub table-by_count : length l.subj < n → verdict 14 0 ≡ first (table_checks kind l n)
        table-by_count h = sym (to-count ∙ first_holds (ltb (length l.subj) n) 14 0 _ (lt-ltb (length l.subj) n h))

        pub table-by_rows : n ≤ length l.subj → first (rows_checks kind l 0 n) ≡ first (table_checks kind l n)
        table-by_rows h = sym (to-count ∙ first_passes (ltb (length l.subj) n) 14 0 _ (le-ltb (length l.subj) n h))

-- A book's fields read back to their rows: one field, field after field, the head, the whole. Assumes nothing.
use mathlib.Core.Path.{◌≡◌, refl, sym, ap, ◌∙◌}
use mathlib.Core.Bool.{Bool, true, false, not, cond, and-eq-true_iff}
use mathlib.Core.List.{List, [], ◌∷◌, ◌++◌, append_assoc, append-nil}
use Prim.Native.Nat.{ℕ, zero, suc, ◌+◌, ◌≤◌, ◌<◌}
use native.Mathlib.Omega.{arith}
use lib.ListN.{length, length-append}
use lib.Seq.{get_or-append_seam}
use lib.Dec.{eqb, leb, ltb}
use borrow.Author.Tests.{eq-eqb, ne_eqb, eqb-false, leb-true, le-ltb, lt-leb}
use Rattle.term.specs.Refusal.{Check, done, first}
use Rattle.term.proofs.Firsts.{first_passes, first-none}
use Rattle.term.proofs.Sorts.{legal-below, name_below, term-passes, predicate-passes}
use Rattle.ruleset.specs.RuleSet.{basic_set, reflexive_set, is_rule_set}
use Rattle.ruleset.proofs.Judged.{rule_set_passes}
use Rattle.annotation.specs.Kinds.{algebra, is_kind}
use Rattle.annotation.proofs.KindLaws.{laws}
use Rattle.annotation.proofs.Legal.{legal-value}
use Rattle.annotation.proofs.Judged.{kind-passes, annotation-passes}
use Rattle.table.specs.Rows.{Row, add_row, add_all}
use Rattle.table.specs.Sound.{LegalRow, AllLegal}
use Rattle.table.proofs.Many.{all_no_fewer}
use Rattle.field.specs.Numbers.{two_at, eight_at, two_bytes, eight_bytes}
use Rattle.field.specs.Fields.{is_cut_lem, tag_at, size_at, behind}
use Rattle.field.proofs.Back.{two_behind, eight_behind, two_back, eight_back}
use Rattle.book.specs.Format.{first_edition, second_edition, is_edition, head_length_lem, is_head_length, edition_for, triple_length, head_size_lem, triple_size, is_base, head_checks, head_base, head_rules, row_in, content_checks, field_checks, rules_bytes, head_bytes, field_bytes, fields_bytes, book_bytes}
use Rattle.book.specs.Reading.{read_as, step_checks, fields_from, read_book}
use Rattle.book.proofs.FieldByField.{fields_over}
use Rattle.book.proofs.Writes.{length-head, length-field}

-- content that is legal passes
content_passes : (kind : ℕ) (r : Row) (p : ℕ) (cs : List Check) → LegalRow kind r → first (content_checks kind r p ++ cs) ≡ first cs
content_passes kind r p cs h =
    term-passes r.s p _ h.subject
    ∙ predicate-passes r.p p _ h.predicate
    ∙ term-passes r.o p _ h.object
    ∙ annotation-passes kind r.a p cs h.annotation

-- the bytes of one row, whatever stands before and behind
module _ (kind : ℕ) (r : Row) (h : LegalRow kind r) (pre rest : List ℕ) where
  abbrev S : List ℕ
  S = two_bytes r.s

  abbrev P : List ℕ
  P = two_bytes r.p

  abbrev O : List ℕ
  O = two_bytes r.o

  abbrev A : List ℕ
  A = eight_bytes r.a

  abbrev tail : List ℕ
  tail = 3 ∷ 0 ∷ triple_length ∷ (S ++ (P ++ (O ++ (A ++ rest))))

  opened : field_bytes r ++ rest ≡ tail
  unfolding field_bytes
  opened = simp append_assoc

  abbrev b : List ℕ
  b = pre ++ tail

  front-size : two_at tail 1 ≡ triple_length
  unfolding two_at
  front-size = refl

  to-content : (k : ℕ) → two_at tail (3 + k) ≡ two_at (S ++ (P ++ (O ++ (A ++ rest)))) k
  to-content k = two_behind (3 ∷ 0 ∷ triple_length ∷ []) (S ++ (P ++ (O ++ (A ++ rest)))) k

  subject : two_at tail 3 ≡ r.s
  subject = to-content 0 ∙ two_back r.s _ (omega (arith, legal-below r.s h.subject))

  predicate : two_at tail 5 ≡ r.p
  unfolding two_bytes
  predicate = to-content 2 ∙ two_behind S (P ++ (O ++ (A ++ rest))) 0 ∙ two_back r.p _ (omega (arith, name_below r.p h.predicate))

  object : two_at tail 7 ≡ r.o
  unfolding two_bytes
  object =
      to-content 4 ∙ two_behind S (P ++ (O ++ (A ++ rest))) 2 ∙ two_behind P (O ++ (A ++ rest)) 0
      ∙ two_back r.o _ (omega (arith, legal-below r.o h.object))

  annotation : eight_at tail 9 ≡ r.a
  unfolding two_bytes
  annotation =
      eight_behind (3 ∷ 0 ∷ triple_length ∷ []) (S ++ (P ++ (O ++ (A ++ rest)))) 6 ∙ eight_behind S (P ++ (O ++ (A ++ rest))) 4
      ∙ eight_behind P (O ++ (A ++ rest)) 2 ∙ eight_behind O (A ++ rest) 0
      ∙ eight_back r.a rest (omega (arith, (laws kind).value_bound r.a (legal-value r.a kind h.annotation).1))

  pub row_back : row_in b (length pre) ≡ r
  unfolding row_in
  row_back =
      rw (two_behind pre tail 3, two_behind pre tail 5, two_behind pre tail 7, eight_behind pre tail 9, subject, predicate, object, annotation) refl

  tail-long : length tail ≡ triple_size + length rest
  tail-long = ap length (sym opened) ∙ length-append (field_bytes r) rest ∙ rw (length-field r) refl

  b_long : length b ≡ length pre + (triple_size + length rest)
  b_long = length-append pre tail ∙ rw tail-long refl

  size_back : size_at b (length pre) ≡ triple_length
  size_back = two_behind pre tail 1 ∙ front-size

  tag_back : tag_at b (length pre) ≡ 3
  tag_back = get_or-append_seam pre 3 _ 0

  -- the next field stands behind its bytes
  pub behind-back : behind b (length pre) ≡ length (pre ++ field_bytes r)
  behind-back = rw (size_back, length-append pre (field_bytes r), length-field r) (omega arith)

  not-cut : is_cut_lem b (length pre) ≡ false
  not-cut = rw (size_back, le-ltb (length b) (length pre + 3) (omega (arith, b_long)), le-ltb (length b) (length pre + 3 + triple_length) (omega (arith, b_long))) refl

  pub field_passes : (cs : List Check) → first (field_checks kind b (length pre) ++ cs) ≡ first cs
  field_passes cs =
      let at = length pre in
      first_passes (is_cut_lem b at) 1 at _ not-cut
      ∙ first_passes (eqb (tag_at b at) 1) 2 at _ (rw tag_back refl)
      ∙ first_passes (not (eqb (tag_at b at) 3)) 6 at _ (rw tag_back refl)
      ∙ first_passes (not (eqb (size_at b at) triple_length)) 7 at _ (rw size_back refl)
      ∙ content_passes kind (row_in b at) at cs (rw row_back h)

-- field after field: the fields left are added to the rows before them
module _ (kind base rules room : ℕ) where
  one_more : (r : Row) (pre rest : List ℕ) (R : List Row) (fuel : ℕ) → LegalRow kind r → length (add_row (algebra kind) r R) ≤ room
      → fields_from (suc fuel) kind base rules (pre ++ (field_bytes r ++ rest)) room (length pre) R
      ≡ fields_from fuel kind base rules (pre ++ (field_bytes r ++ rest)) room (length (pre ++ field_bytes r)) (add_row (algebra kind) r R)
  unfolding fields_from
  one_more r pre rest R fuel h fits =
      rw (opened kind r h pre rest)
      (rw (lt-leb (length (pre ++ tail kind r h pre rest)) (length pre) (omega (arith, b_long kind r h pre rest)), passes, behind-back kind r h pre rest, row_back kind r h pre rest) refl)
    where
      fits_in : ltb room (length (add_row (algebra kind) (row_in (b kind r h pre rest) (length pre)) R)) ≡ false
      fits_in = rw (row_back kind r h pre rest) (le-ltb room (length (add_row (algebra kind) r R)) fits)

      passes : first (step_checks kind (b kind r h pre rest) room (length pre) R) ≡ done
      passes = field_passes kind r h pre rest _ ∙ first_passes _ 12 (length pre) [] fits_in ∙ first-none

  pub fields_read : (fs : List Row) (pre : List ℕ) (R : List Row) (fuel : ℕ) → length fs ≤ fuel → AllLegal kind fs
      → length (add_all (algebra kind) fs R) ≤ room
      → fields_from fuel kind base rules (pre ++ fields_bytes fs) room (length pre) R ≡ read_as kind base rules (add_all (algebra kind) fs R)
  unfolding add_all AllLegal fields_bytes
  fields_read [] pre R fuel q legal fits = fields_over kind base rules room (pre ++ []) (length pre) fuel R (rw (append-nil pre) (omega arith))
  fields_read (r ∷ rs) pre R zero q legal fits = absurd (omega arith)
  fields_read (r ∷ rs) pre R (suc fuel) q legal fits =
      let here : length (add_row (algebra kind) r R) ≤ room = omega (arith, all_no_fewer (algebra kind) rs (add_row (algebra kind) r R)) in
      one_more r pre (fields_bytes rs) R fuel legal.0 here
      ∙ rw (← append_assoc pre (field_bytes r) (fields_bytes rs))
      (fields_read rs (pre ++ field_bytes r) (add_row (algebra kind) r R) fuel (omega arith) legal.1 fits)

fields_long : (xs : List Row) → length xs ≤ length (fields_bytes xs)
unfolding fields_bytes
fields_long [] = omega arith
fields_long (x ∷ xs) = omega (arith, length-append (field_bytes x) (fields_bytes xs), length-field x, fields_long xs)

-- the edition for a rule set is an edition, and its length a head's length
for_edition : (t : Bool) → (is_edition (cond t second_edition first_edition) ≡ true) × (is_head_length (head_length_lem (cond t second_edition first_edition)) ≡ true)
for_edition true = (refl, refl)
for_edition false = (refl, refl)

-- the head
module _ (kind base rules : ℕ) (known : is_kind kind ≡ true) (year : is_base kind base ≡ true) (set : is_rule_set rules ≡ true) (small : base < 65536) (fs : List Row) where
  abbrev book : List ℕ
  book = book_bytes kind base rules fs

  abbrev spelt : List ℕ
  spelt = 1 ∷ 0 ∷ head_length_lem (edition_for rules) ∷ edition_for rules ∷ kind ∷ (two_bytes base ++ (rules_bytes rules ++ fields_bytes fs))

  spelled : book ≡ spelt
  unfolding head_bytes
  spelled =
      ap (λ (x : List ℕ). 1 ∷ 0 ∷ head_length_lem (edition_for rules) ∷ edition_for rules ∷ kind ∷ x)
      (append_assoc (two_bytes base) (rules_bytes rules) (fields_bytes fs))

  base_back : head_base spelt ≡ base
  base_back =
      two_behind (1 ∷ 0 ∷ head_length_lem (edition_for rules) ∷ edition_for rules ∷ kind ∷ []) (two_bytes base ++ (rules_bytes rules ++ fields_bytes fs)) 0
      ∙ two_back base (rules_bytes rules ++ fields_bytes fs) small

  -- the first edition's is 1, the second's is the byte behind the base year
  rules-back : head_rules spelt ≡ rules
  unfolding two_bytes rules_bytes is_rule_set
  rules-back = go (eqb rules reflexive_set) refl
    where
      go : (t : Bool) → eqb rules reflexive_set ≡ t → head_rules spelt ≡ rules
      go true e = rw e refl
      go false e =
          let in_set = (and-eq-true_iff (leb basic_set rules) (leb rules reflexive_set)).0 set in
          rw e (omega (arith, leb-true basic_set rules in_set.0, leb-true rules reflexive_set in_set.1, eqb-false rules reflexive_set e))

  head_size_lem_2 : size_at spelt 0 ≡ head_length_lem (edition_for rules)
  unfolding two_at
  head_size_lem_2 = omega arith

  spelt_long : head_size_lem rules ≤ length spelt
  spelt_long = omega (arith, ap length spelled, length-append (head_bytes kind base rules) (fields_bytes fs), length-head kind base rules)

  head_whole : is_cut_lem spelt 0 ≡ false
  head_whole =
      rw (head_size_lem_2, le-ltb (length spelt) (0 + 3) (omega (arith, spelt_long)), le-ltb (length spelt) (0 + 3 + head_length_lem (edition_for rules)) (omega (arith, spelt_long))) refl

  head_passes : first (head_checks spelt) ≡ done
  head_passes =
      let is = for_edition (eqb rules reflexive_set) in
      first_passes (eqb (length spelt) 0) 2 0 _ (ne_eqb (length spelt) 0 (λ z. omega (arith, spelt_long)))
      ∙ first_passes (is_cut_lem spelt 0) 1 0 _ head_whole
      ∙ first_passes _ 2 0 _ refl
      ∙ first_passes _ 2 0 _ (rw (head_size_lem_2, is.1) refl)
      ∙ first_passes _ 3 0 _ (rw is.0 refl)
      ∙ first_passes _ 2 0 _ (rw (head_size_lem_2, eq-eqb (head_length_lem (edition_for rules)) (head_length_lem (edition_for rules)) refl) refl)
      ∙ kind-passes kind 0 _ known
      ∙ first_passes _ 5 0 _ (rw (base_back, year) refl)
      ∙ rule_set_passes (head_rules spelt) 0 [] (rw rules-back set)
      ∙ first-none

  -- a book of legal rows in any order reads to these rows added one after another
  pub book_reads : (room : ℕ) → AllLegal kind fs → length (add_all (algebra kind) fs []) ≤ room
      → read_book book room ≡ read_as kind base rules (add_all (algebra kind) fs [])
  unfolding read_book head_bytes two_bytes
  book_reads room legal fits =
      rw (spelled, head_passes, base_back, rules-back, head_size_lem_2)
      (rw (← spelled, ← length-head kind base rules)
      (fields_read kind base rules room fs (head_bytes kind base rules) [] (length book) enough legal fits))
    where
      enough : length fs ≤ length book
      enough = omega (arith, length-append (head_bytes kind base rules) (fields_bytes fs), fields_long fs)

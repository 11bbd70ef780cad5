-- The bytes of a head, a field, all fields, a book, as the code writes them; and what is refused. Assumes nothing.
use mathlib.Core.Path.{◌≡◌, refl, sym, ap, ◌∙◌}
use mathlib.Core.Bool.{Bool, true, false, not, cond}
use mathlib.Core.List.{List, [], ◌∷◌, ◌++◌, append_assoc, append-nil}
use Prim.Native.Nat.{ℕ, zero, suc, ◌+◌, ◌*◌, ◌/◌, ◌%◌, ◌≤◌, ◌<◌}
use native.Mathlib.Numerals.{add-one}
use native.Mathlib.Omega.{arith}
use lib.ListN.{length, set, take, drop, length-append, take-append-drop}
use lib.Dec.{eqb, ltb}
use borrow.Author.Tests.{eq-eqb, ne_eqb, ltb-false, not-false}
use Rattle.ground.specs.Lists.{tab}
use Rattle.term.specs.Refusal.{Check, refuse, verdict, done, first}
use Rattle.term.specs.declared.refusal.Verdict.{Verdict}
use Rattle.term.proofs.Firsts.{Numbered, first-none, first_stops, first-clear, first-left, first-split, first_done}
use Rattle.ruleset.specs.RuleSet.{is_rule_set, rule_set_checks}
use Rattle.ruleset.proofs.Judged.{rule_set_numbered, rule_set_at, passes-rule_set}
use Rattle.annotation.specs.Kinds.{kind_checks}
use Rattle.annotation.proofs.Judged.{kind-numbered, kind_at}
use Rattle.table.specs.Rows.{Row, Lanes, row_at, rows_of}
use Rattle.table.specs.Checks.{table_checks}
use Rattle.table.specs.Sound.{Sound}
use Rattle.table.proofs.Judging.{table-numbered}
use Rattle.table.proofs.Soundness.{passes-sound}
use Rattle.field.specs.Numbers.{written, two_bytes, eight_bytes}
use Rattle.field.proofs.Writing.{length_two, length-eight, written_both, written_one}
use Rattle.book.specs.Format.{second_edition, head_length_lem, edition_for, triple_length, head_size_lem, triple_size, is_base, base_checks, rules_bytes, head_bytes, field_bytes, fields_bytes, book_bytes}
use Rattle.book.specs.Inner.{RefusedBy}
use Rattle.book.proofs.Checked.{Past, nothing_past, passed, stopped, passed_all, stopped_at}
use Rattle.book.proofs.Heads.{length_from, length_to}
use Rattle.book.specs.Writing.{book_length_lem, write_checks, write_done_lem, Writing}

-- the second edition's head is longer by its rule set
length-with : (t : Bool) (edition kind base rules : ℕ)
    → length (1 ∷ 0 ∷ cond t 5 4 ∷ edition ∷ kind ∷ (two_bytes base ++ cond t (rules ∷ []) [])) ≡ 3 + cond t 5 4
length-with true edition kind base rules = simp (length-append, length_two)
length-with false edition kind base rules = simp (length-append, length_two)

pub length-head : (kind base rules : ℕ) → length (head_bytes kind base rules) ≡ head_size_lem rules
unfolding head_bytes rules_bytes
length-head kind base rules = length-with (eqb (edition_for rules) second_edition) (edition_for rules) kind base rules

pub length-field : (r : Row) → length (field_bytes r) ≡ triple_size
unfolding field_bytes
length-field r = simp (length-append, length_two, length-eight)

pub length_fields : (n : ℕ) (f : ℕ → Row) → length (fields_bytes (tab n f)) ≡ triple_size * n
unfolding fields_bytes tab
length_fields zero f = refl
length_fields (suc n) f =
    length-append (field_bytes (f zero)) (fields_bytes (tab n (λ i. f (suc i))))
    ∙ rw (length-field (f zero), length_fields n (λ i. f (suc i))) (omega arith)

-- the bytes of one row more
fields_more : (n : ℕ) (f : ℕ → Row) → fields_bytes (tab (suc n) f) ≡ fields_bytes (tab n f) ++ field_bytes (f n)
unfolding fields_bytes tab
fields_more zero f = append-nil (field_bytes (f zero))
fields_more (suc n) f =
    ap (λ (x : List ℕ). field_bytes (f zero) ++ x) (fields_more n (λ i. f (suc i)))
    ∙ sym (append_assoc (field_bytes (f zero)) (fields_bytes (tab n (λ i. f (suc i)))) (field_bytes (f (suc n))))

front_bytes : (tag size : ℕ) → size < 256 → tag ∷ two_bytes size ≡ tag ∷ 0 ∷ size ∷ []
unfolding two_bytes
front_bytes tag size h =
    let high : size / 256 % 256 ≡ 0 = omega arith in
    let low : size % 256 ≡ size = omega arith in
    rw (high, low) refl

regroup : (v s p o a : List ℕ) → (((v ++ s) ++ p) ++ o) ++ a ≡ v ++ (s ++ (p ++ (o ++ a)))
regroup v s p o a = simp append_assoc

-- where there is no rule set to write, the bytes stay
written_none : (b : List ℕ) (at : ℕ) → written b at [] ≡ b
unfolding written
written_none b at =
    let e : at + 0 ≡ at = omega arith in
    rw (e, append-nil (take at b)) (take-append-drop at b)

module _ (b : List ℕ) (rules : ℕ) (h : head_size_lem rules ≤ length b) where
  pub rules-fit : edition_for rules ≡ second_edition → 8 ≤ length b
  rules-fit q = rw (q) at h

  pub rules-put : edition_for rules ≡ second_edition → set b 7 rules ≡ written b 7 (rules_bytes rules)
  unfolding rules_bytes
  rules-put q = written_one b 7 rules (rules-fit q) ∙ rw (eq-eqb (edition_for rules) second_edition q) refl

  pub rules-left : (edition_for rules ≡ second_edition → ⊥) → b ≡ written b 7 (rules_bytes rules)
  unfolding rules_bytes
  rules-left q = sym (rw (ne_eqb (edition_for rules) second_edition q) (written_none b 7))

module _ (b c d e f : List ℕ) (kind base rules : ℕ) (h : head_size_lem rules ≤ length b)
    (edition size : ℕ) (edition_is : edition ≡ edition_for rules) (size_is : size ≡ head_length_lem edition)
    (ec : c ≡ written b 0 (1 ∷ two_bytes size)) (ed : d ≡ written c 3 (edition ∷ kind ∷ []))
    (ee : e ≡ written d 5 (two_bytes base)) (ef : f ≡ written e 7 (rules_bytes rules)) where
  abbrev v2 : List ℕ
  v2 = edition ∷ kind ∷ []

  abbrev v3 : List ℕ
  v3 = 1 ∷ two_bytes size

  v3_long : length v3 ≡ 3
  v3_long = ap suc (length_two size)

  v5_long : length (v3 ++ v2) ≡ 5
  v5_long = length-append v3 v2 ∙ rw v3_long refl

  v7_long : length ((v3 ++ v2) ++ two_bytes base) ≡ 7
  v7_long = length-append (v3 ++ v2) (two_bytes base) ∙ rw (v5_long, length_two base) refl

  rules-long : 7 + length (rules_bytes rules) ≡ head_size_lem rules
  unfolding head_bytes
  rules-long =
      sym (length-append (1 ∷ 0 ∷ head_length_lem (edition_for rules) ∷ edition_for rules ∷ kind ∷ two_bytes base) (rules_bytes rules) ∙ rw (length_two base) refl)
      ∙ length-head kind base rules

  long : 7 ≤ length b
  long = omega (arith, h, length_from (edition_for rules))

  to-base : e ≡ written b 0 ((v3 ++ v2) ++ two_bytes base)
  to-base =
      written_both b d e 0 5 (v3 ++ v2) (two_bytes base) v5_long (rw (length_two base) long)
      (written_both b c d 0 3 v3 v2 v3_long (omega (arith, long)) ec ed) ee

  pub head_written : f ≡ written b 0 (head_bytes kind base rules)
  unfolding head_bytes
  head_written =
      written_both b e f 0 7 ((v3 ++ v2) ++ two_bytes base) (rules_bytes rules) v7_long (omega (arith, rules-long, h)) to-base ef
      ∙ ap (λ (x : List ℕ). written b 0 (((x ++ v2) ++ two_bytes base) ++ rules_bytes rules)) (front_bytes 1 size (omega (arith, size_is, length_to edition)))
      ∙ rw (size_is, edition_is) refl

module _ (b c d e f g : List ℕ) (at : ℕ) (r : Row) (h : at + triple_size ≤ length b)
    (ec : c ≡ written b at (3 ∷ two_bytes triple_length)) (ed : d ≡ written c (at + 3) (two_bytes r.s)) (ee : e ≡ written d (at + 5) (two_bytes r.p))
    (ef : f ≡ written e (at + 7) (two_bytes r.o)) (eg : g ≡ written f (at + 9) (eight_bytes r.a)) where
  abbrev w3 : List ℕ
  w3 = 3 ∷ two_bytes triple_length

  w3_long : length w3 ≡ 3
  w3_long = ap suc (length_two triple_length)

  w5_long : length (w3 ++ two_bytes r.s) ≡ 5
  w5_long = length-append w3 (two_bytes r.s) ∙ rw (w3_long, length_two r.s) refl

  w7_long : length ((w3 ++ two_bytes r.s) ++ two_bytes r.p) ≡ 7
  w7_long = length-append (w3 ++ two_bytes r.s) (two_bytes r.p) ∙ rw (w5_long, length_two r.p) refl

  w9_long : length (((w3 ++ two_bytes r.s) ++ two_bytes r.p) ++ two_bytes r.o) ≡ 9
  w9_long = length-append ((w3 ++ two_bytes r.s) ++ two_bytes r.p) (two_bytes r.o) ∙ rw (w7_long, length_two r.o) refl

  to-subject : d ≡ written b at (w3 ++ two_bytes r.s)
  to-subject = written_both b c d at 3 w3 (two_bytes r.s) w3_long (rw (length_two r.s) (omega arith)) ec ed

  to-predicate : e ≡ written b at ((w3 ++ two_bytes r.s) ++ two_bytes r.p)
  to-predicate = written_both b d e at 5 (w3 ++ two_bytes r.s) (two_bytes r.p) w5_long (rw (length_two r.p) (omega arith)) to-subject ee

  to-object : f ≡ written b at (((w3 ++ two_bytes r.s) ++ two_bytes r.p) ++ two_bytes r.o)
  to-object = written_both b e f at 7 ((w3 ++ two_bytes r.s) ++ two_bytes r.p) (two_bytes r.o) w7_long (rw (length_two r.o) (omega arith)) to-predicate ef

  pub field_written : g ≡ written b at (field_bytes r)
  unfolding field_bytes
  field_written =
      written_both b f g at 9 (((w3 ++ two_bytes r.s) ++ two_bytes r.p) ++ two_bytes r.o) (eight_bytes r.a) w9_long
      (rw (length-eight r.a) (omega arith)) to-object eg
      ∙ ap (written b at) (regroup w3 (two_bytes r.s) (two_bytes r.p) (two_bytes r.o) (eight_bytes r.a))
      ∙ ap (λ (x : List ℕ). written b at (x ++ (two_bytes r.s ++ (two_bytes r.p ++ (two_bytes r.o ++ eight_bytes r.a))))) (front_bytes 3 triple_length (omega arith))

-- row after row
pub fields_start : (b : List ℕ) (start : ℕ) (l : Lanes) → b ≡ written b start (fields_bytes (rows_of l 0))
unfolding fields_bytes tab
fields_start b start l = sym (written_none b start)

pub fields_step : (b c d : List ℕ) (start : ℕ) (l : Lanes) (i : ℕ) → start + triple_size * (i + 1) ≤ length b
    → c ≡ written b start (fields_bytes (rows_of l i)) → d ≡ written c (start + triple_size * i) (field_bytes (row_at l i))
    → d ≡ written b start (fields_bytes (rows_of l (i + 1)))
fields_step b c d start l i h ec ed =
    written_both b c d start (triple_size * i) (fields_bytes (rows_of l i)) (field_bytes (row_at l i)) (length_fields i (row_at l))
    (rw (length-field (row_at l i)) (omega arith)) ec ed
    ∙ rw (add-one i) (ap (written b start) (sym (fields_more i (row_at l))))

-- checks behind others that pass pass too
number-left : (cs ds : List Check) → Numbered cs → (first (cs ++ ds)).number ≡ 0 → (first ds).number ≡ 0
number-left cs ds h e = ap (λ (x : Verdict). x.number) (sym (first-clear cs ds h (first-left cs ds e))) ∙ e

-- refused, or done
module _ (kind base rules : ℕ) (l : Lanes) (n room : ℕ) where
  abbrev all : List Check
  all = write_checks kind base rules l n room

  module _ (k : ℕ) (ek : k ≡ (first (kind_checks kind 0)).number) where
    pub write_by_kind : 0 < k → (v : Verdict) → v ≡ verdict k 0 → RefusedBy all v
    write_by_kind h v ev = stopped_at all (kind_checks kind 0) _ k ek (nothing_past all) 0 (kind_at kind 0) h v ev

    module _ (zk : k ≡ 0) (w : Bool) (ew : w ≡ is_base kind base) where
      past_kind : Past all (base_checks kind base 0 ++ (rule_set_checks rules 0 ++ (table_checks kind l n ++ (refuse (ltb room (book_length_lem rules n)) 12 0 ∷ []))))
      past_kind = passed_all all (kind_checks kind 0) _ k ek (nothing_past all) (kind-numbered kind 0) zk

      pub write_by_base : not w ≡ true → (v : Verdict) → v ≡ verdict 5 0 → RefusedBy all v
      write_by_base h v ev = stopped all _ 5 0 _ past_kind (ap not (sym ew) ∙ h) (omega arith) v ev

      module _ (q : not w ≡ false) (u : ℕ) (eu : u ≡ (first (rule_set_checks rules 0)).number) where
        past_base : Past all (rule_set_checks rules 0 ++ (table_checks kind l n ++ (refuse (ltb room (book_length_lem rules n)) 12 0 ∷ [])))
        past_base = passed all _ 5 0 _ past_kind (ap not (sym ew) ∙ q)

        pub write_by_rules : 0 < u → (v : Verdict) → v ≡ verdict u 0 → RefusedBy all v
        write_by_rules h v ev = stopped_at all (rule_set_checks rules 0) _ u eu past_base 0 (rule_set_at rules 0) h v ev

        module _ (zu : u ≡ 0) (t : Verdict) (et : t ≡ first (table_checks kind l n)) where
          past_rules : Past all (table_checks kind l n ++ (refuse (ltb room (book_length_lem rules n)) 12 0 ∷ []))
          past_rules = passed_all all (rule_set_checks rules 0) _ u eu past_base (rule_set_numbered rules 0) zu

          table-number : t.number ≡ (first (table_checks kind l n)).number
          table-number = ap (λ (x : Verdict). x.number) et

          pub write_by_table : 0 < t.number → (v : Verdict) → v ≡ verdict t.number t.place → RefusedBy all v
          write_by_table h v ev = record {
            verdict_is = ev ∙ et ∙ sym (past_rules.is ∙ first_stops (table_checks kind l n) _ (rw (← et) h));
            some = rw ev h;
          }

          module _ (zt : t.number ≡ 0) where
            pub written-sound : Sound kind l n
            written-sound = passes-sound kind l n (first_done (table_checks kind l n) (table-numbered kind l n) (sym table-number ∙ zt))

            past_table : Past all (refuse (ltb room (book_length_lem rules n)) 12 0 ∷ [])
            past_table = passed_all all (table_checks kind l n) _ t.number table-number past_rules (table-numbered kind l n) zt

            pub write_by_room : (size : ℕ) → size ≡ book_length_lem rules n → ltb room size ≡ true → (v : Verdict) → v ≡ verdict 12 0 → RefusedBy all v
            write_by_room size es h v ev = stopped all _ 12 0 [] past_table (rw (← es) h) (omega arith) v ev

            pub write_passes : (size : ℕ) → size ≡ book_length_lem rules n → ltb room size ≡ false → first all ≡ done
            write_passes size es h = (passed all _ 12 0 [] past_table (rw (← es) h)).is ∙ first-none

-- the whole call
module _ (kind base rules : ℕ) (l : Lanes) (n : ℕ) (out : List ℕ) where
  pub write_refused : (v : Verdict) → RefusedBy (write_checks kind base rules l n (length out)) v → Writing kind base rules l n out out v.number v.place 0
  write_refused v r =
      let t : write_done_lem kind base rules l n (length out) ≡ false = rw (← r.verdict_is) (ne_eqb v.number 0 (λ z. omega (arith, r.some))) in
      record { verdict_is = r.verdict_is; length_is = rw t refl; bytes_are = rw t refl }

  module _ (clear : (first (write_checks kind base rules l n (length out))).number ≡ 0) where
    -- the checks from each on
    abbrev from_table : List Check
    from_table = table_checks kind l n ++ (refuse (ltb (length out) (book_length_lem rules n)) 12 0 ∷ [])

    abbrev from_rules : List Check
    from_rules = rule_set_checks rules 0 ++ from_table

    abbrev from_base_lem : List Check
    from_base_lem = base_checks kind base 0 ++ from_rules

    to-base_year : (first from_base_lem).number ≡ 0
    to-base_year = number-left (kind_checks kind 0) from_base_lem (kind-numbered kind 0) clear

    to-rules : (first from_rules).number ≡ 0
    to-rules = number-left (base_checks kind base 0) from_rules (omega arith, tt) to-base_year

    to-table : (first from_table).number ≡ 0
    to-table = number-left (rule_set_checks rules 0) from_table (rule_set_numbered rules 0) to-rules

    pub write_year : is_base kind base ≡ true
    write_year =
        let q = first_done (base_checks kind base 0) (omega arith, tt) (first-left (base_checks kind base 0) from_rules to-base_year) in
        not-false (is_base kind base) (first-split 5 0 (not (is_base kind base)) [] (omega arith) q).0

    pub write_rules : is_rule_set rules ≡ true
    write_rules = (passes-rule_set rules 0 [] (first_done (rule_set_checks rules 0) (rule_set_numbered rules 0) (first-left (rule_set_checks rules 0) from_table to-rules))).0

    pub write_sound : Sound kind l n
    write_sound = passes-sound kind l n (first_done (table_checks kind l n) (table-numbered kind l n) (first-left (table_checks kind l n) _ to-table))

    pub write_room : book_length_lem rules n ≤ length out
    write_room =
        let e = number-left (table_checks kind l n) (refuse (ltb (length out) (book_length_lem rules n)) 12 0 ∷ []) (table-numbered kind l n) to-table in
        let d = first_done (refuse (ltb (length out) (book_length_lem rules n)) 12 0 ∷ []) (omega arith, tt) e in
        ltb-false (length out) (book_length_lem rules n) (first-split 12 0 (ltb (length out) (book_length_lem rules n)) [] (omega arith) d).0

    whole-book : written out 0 (book_bytes kind base rules (rows_of l n)) ≡ book_bytes kind base rules (rows_of l n) ++ drop (book_length_lem rules n) out
    unfolding written
    whole-book =
        let e : 0 + length (book_bytes kind base rules (rows_of l n)) ≡ book_length_lem rules n
        = omega (arith, length-append (head_bytes kind base rules) (fields_bytes (rows_of l n)), length-head kind base rules, length_fields n (row_at l)) in
        rw e refl

    pub write_done : first (write_checks kind base rules l n (length out)) ≡ done → (c d : List ℕ) (start size : ℕ) → c ≡ written out 0 (head_bytes kind base rules) → start ≡ head_size_lem rules
        → d ≡ written c start (fields_bytes (rows_of l n)) → size ≡ book_length_lem rules n → Writing kind base rules l n out d 0 0 size
    write_done passes c d start size ec eh ed es =
        let t : write_done_lem kind base rules l n (length out) ≡ true = rw clear refl in
        let behind-head : start ≡ 0 + head_size_lem rules = omega (arith, eh) in
        let w : d ≡ written out 0 (book_bytes kind base rules (rows_of l n))
        = written_both out c d 0 (head_size_lem rules) (head_bytes kind base rules) (fields_bytes (rows_of l n)) (length-head kind base rules) (omega (arith, length_fields n (row_at l), write_room)) ec (rw (← behind-head) ed) in
        record {
          verdict_is = sym passes;
          length_is = es ∙ rw t refl;
          bytes_are = w ∙ whole-book ∙ rw t refl;
        }

-- Reading as a whole: refused by the lanes, the length, the head or a field, or done. Assumes nothing.
use mathlib.Core.Path.{◌≡◌, refl, sym, ap, ◌∙◌}
use mathlib.Core.Bool.{true, false, cond}
use mathlib.Core.List.{List, []}
use Prim.Native.Nat.{ℕ, ◌≤◌, ◌<◌}
use native.Mathlib.Omega.{arith}
use lib.ListN.{length, length-replicate}
use lib.Dec.{eqb, ltb}
use borrow.Author.Tests.{ne_eqb, lt-ltb, le-ltb}
use Rattle.ground.proofs.Tab.{tab-length}
use Rattle.term.specs.Refusal.{verdict, done, first}
use Rattle.term.specs.declared.refusal.Verdict.{Verdict}
use Rattle.annotation.specs.Numbered.{kind_number}
use Rattle.ruleset.specs.Numbered.{set_number}
use Rattle.term.proofs.Firsts.{first_holds, first_passes, first-none}
use Rattle.table.specs.Rows.{Row, Lanes, zeroed, filled}
use Rattle.table.specs.Checks.{is_unfit}
use Rattle.table.proofs.Soundness.{fit_of, sound-as_long}
use Rattle.table.proofs.Laid.{zero_row, zeroed-alike}
use Rattle.book.specs.declared.content.Head.{Head}
use Rattle.book.specs.declared.ReadDone.{ReadDone}
use Rattle.book.specs.Format.{head_checks}
use Rattle.book.specs.Reading.{Read, refused, fields_of, read_book, longest_book, lend_checks, reading, Reading}
use Rattle.book.specs.Inner.{RefusedBy, HeadSaid, Fresh, FieldsDone, FieldsRefused, refused_done, ReadInto}
use Rattle.book.proofs.ReadsSound.{legal-head}

-- what is refused is said, and nothing else
pub refused-into : (l : Lanes) (number place : ℕ) (d : ReadDone) → d ≡ refused_done number place → ReadInto (refused (verdict number place)) l (zeroed l) d
refused-into l number place d e = rw e (record { verdict_is = refl; kind_is = refl; base_is = refl; rules_is = refl; count_is = refl; lanes_are = refl })

-- the fields behind the head
module _ (kind base rules : ℕ) (b : List ℕ) (start : ℕ) (l : Lanes) (fresh : Fresh kind l) (m : Lanes) where
  abbrev Body : Lanes → ReadDone → Type 0
  Body = ReadInto (fields_of kind base rules b (length l.subj) start) l

  pub body_refused : (v : Verdict) (count : ℕ) → FieldsRefused kind b start l m count v → (m' : Lanes) (d : ReadDone) → m' ≡ zeroed m → d ≡ refused_done v.number v.place → Body m' d
  body_refused v count f m' d em e =
      let same-zeros : zeroed m ≡ zeroed l = zeroed-alike (sound-as_long fresh.sound f.sound f.as_long) in
      rw (f.meaning base rules, em, same-zeros) (refused-into l v.number v.place d e)

  pub body_done : (count : ℕ) → FieldsDone kind b start l m count → Body m (record { number = 0; place = 0; kind = kind; base = base; rules = rules; count = count })
  body_done count f =
      rw (f.meaning base rules) (record { verdict_is = refl; kind_is = refl; base_is = refl; rules_is = refl; count_is = sym (tab-length count _); lanes_are = f.filled_is })

-- zeros laid over zeros
filled-again : (R : List Row) (l : Lanes) → filled R (zeroed l) ≡ filled R l
filled-again R l = simp length-replicate

-- the whole call
abbrev pub ReadDoneOf : List ℕ → Lanes → Lanes → ReadDone → Type 0
ReadDoneOf b l m d = Reading b l m d.number d.place d.kind d.base d.rules d.count

module _ (b : List ℕ) (l : Lanes) where
  -- the answer, once it is known what is read
  as_read : (what : Read) → reading b l ≡ what → (m : Lanes) (d : ReadDone) → verdict d.number d.place ≡ what.verdict_of → d.kind ≡ what.kind → d.base ≡ what.base
      → d.rules ≡ what.rules → d.count ≡ length what.rows → m ≡ cond (eqb (first (lend_checks b l)).number 0) (filled what.rows l) l → ReadDoneOf b l m d
  as_read what w m d v k y u c ms = record {
    verdict_is = v ∙ ap (λ (r : Read). r.verdict_of) (sym w);
    kind_is = k ∙ ap (λ (r : Read). r.kind) (sym w);
    base_is = y ∙ ap (λ (r : Read). r.base) (sym w);
    rules_is = u ∙ ap (λ (r : Read). r.rules) (sym w);
    count_is = c ∙ ap (λ (r : Read). length r.rows) (sym w);
    lanes_are = ms ∙ ap (λ (r : Read). cond (eqb (first (lend_checks b l)).number 0) (filled r.rows l) l) (sym w);
  }

  -- refused before anything is touched
  lent-refused : (number : ℕ) (d : ReadDone) → first (lend_checks b l) ≡ verdict number 0 → 0 < number → d ≡ refused_done number 0 → ReadDoneOf b l l d
  lent-refused number d e h ed =
      let t : eqb (first (lend_checks b l)).number 0 ≡ false = rw (e, ne_eqb number 0 (λ z. omega arith)) refl in
      rw ed (as_read (refused (verdict number 0)) (rw (t, e) refl) l (refused_done number 0) refl refl refl refl refl (rw t refl))

  pub read-unfit : (d : ReadDone) → is_unfit l ≡ true → d ≡ refused_done 11 0 → ReadDoneOf b l l d
  read-unfit d u ed = lent-refused 11 d (first_holds (is_unfit l) 11 0 _ u) (omega arith) ed

  module _ (fits : is_unfit l ≡ false) where
    pub read-long : (d : ReadDone) → longest_book < length b → d ≡ refused_done 13 0 → ReadDoneOf b l l d
    read-long d h ed =
        lent-refused 13 d (first_passes (is_unfit l) 11 0 _ fits ∙ first_holds (ltb longest_book (length b)) 13 0 [] (lt-ltb longest_book (length b) h)) (omega arith) ed

    module _ (short : length b ≤ longest_book) where
      lent : first (lend_checks b l) ≡ done
      lent = first_passes (is_unfit l) 11 0 _ fits ∙ first_passes (ltb longest_book (length b)) 13 0 [] (le-ltb longest_book (length b) short) ∙ first-none

      -- past 11 and 13 the answer is the book's
      lent-read : (m : Lanes) (d : ReadDone) → ReadInto (read_book b (length l.subj)) l m d → ReadDoneOf b l m d
      lent-read m d r =
          let t : eqb (first (lend_checks b l)).number 0 ≡ true = rw lent refl in
          as_read (read_book b (length l.subj)) (rw lent refl) m d r.verdict_is r.kind_is r.base_is r.rules_is r.count_is (r.lanes_are ∙ rw t refl)

      pub read-headless : (v : Verdict) → RefusedBy (head_checks b) v → (m : Lanes) (d : ReadDone) → m ≡ zeroed l → d ≡ refused_done v.number v.place → ReadDoneOf b l m d
      unfolding read_book
      read-headless v e m d em ed = lent-read m d (rw (← e.verdict_is, ne_eqb v.number 0 (λ z. omega (arith, e.some)), em) (refused-into l v.number v.place d ed))

      module _ (h : Head) (e : HeadSaid (head_checks b) b h) where
        pub read-fresh : Fresh (kind_number h.kind) (zeroed l)
        read-fresh =
            let k = legal-head b (ap (λ (v : Verdict). v.number) e.passes) in
            let ek = e.kind_is in
            let fit = fit_of (kind_number h.kind) l 0 fits in
            let es = length-replicate {A = ℕ} (length l.subj) 0 in
            record {
              sound = record {
                kind_known = rw ek k.kind_known;
                pred_long = length-replicate {A = ℕ} (length l.pred) 0 ∙ fit.pred_long ∙ sym es;
                obj_long = length-replicate {A = ℕ} (length l.obj) 0 ∙ fit.obj_long ∙ sym es;
                ann_long = length-replicate {A = ℕ} (length l.ann) 0 ∙ fit.ann_long ∙ sym es;
                long = omega (arith, es, fit.long);
                within = omega arith;
                legal = λ i q. absurd (omega arith);
                ascending = λ i q. absurd (omega arith);
              };
              zero = zero_row l;
            }

        pub read_behind : (k m : Lanes) (d : ReadDone) → k ≡ zeroed l → ReadInto (fields_of (kind_number h.kind) h.base (set_number h.rules) b (length k.subj) h.next) k m d → ReadDoneOf b l m d
        unfolding read_book
        read_behind k m d ek r =
            let z : ReadInto (fields_of (kind_number h.kind) h.base (set_number h.rules) b (length (zeroed l).subj) h.next) (zeroed l) m d = rw ek at r in
            let w : read_book b (length l.subj) ≡ fields_of (kind_number h.kind) h.base (set_number h.rules) b (length (zeroed l).subj) h.next
            = rw (e.passes, e.kind_is, e.base_is, e.rules_is, e.next_is, length-replicate {A = ℕ} (length l.subj) 0) refl in
            lent-read m d
            (rw w
            (record {
              verdict_is = z.verdict_is;
              kind_is = z.kind_is;
              base_is = z.base_is;
              rules_is = z.rules_is;
              count_is = z.count_is;
              lanes_are = z.lanes_are ∙ filled-again (fields_of (kind_number h.kind) h.base (set_number h.rules) b (length (zeroed l).subj) h.next).rows l;
            }))

-- Reading as a whole: refused by what is lent or by a line, or done. Assumes nothing.
use mathlib.Core.Path.{◌≡◌, refl, sym, ap, ◌∙◌}
use mathlib.Core.Bool.{Bool, true, false, not, cond, ◌||◌, false≢true}
use mathlib.Core.List.{List, [], ◌∷◌, ◌++◌}
use Prim.Native.Nat.{ℕ, ◌-◌, ◌≤◌, ◌<◌}
use native.Mathlib.Omega.{arith}
use lib.Dec.{eqb, ltb}
use lib.ListN.{length, take, replicate, length-replicate}
use borrow.Author.Tests.{eq-eqb, ne_eqb, lt-ltb, le-ltb, ltb-false, eqb-true}
use Rattle.ground.proofs.Bools.{neither}
use Rattle.ground.proofs.Tab.{tab-length}
use Rattle.term.specs.Refusal.{Check, refuse, verdict, done, first}
use Rattle.term.specs.declared.refusal.Verdict.{Verdict}
use Rattle.term.proofs.Firsts.{Numbered, AllAt, first_holds, first_passes, first-place, first_done, first-split, number-stops, number-passes, numbered-append, at_append}
use Rattle.annotation.specs.Kinds.{kind_checks, annotation_checks, is_legal}
use Rattle.annotation.proofs.Judged.{kind-numbered, kind_at, passes-kind, annotation-numbered, annotation-at, passes-annotation}
use Rattle.table.specs.Rows.{Row, Lanes, zeroed, filled, rows_of, row_at}
use Rattle.table.specs.Checks.{is_unfit}
use Rattle.table.proofs.Soundness.{fit_of}
use Rattle.table.proofs.Laid.{zero_row, zeroed-alike}
use Rattle.names.specs.Names.{Entry, NameLanes, lanes_of, start_of, entry_at, entries_of, is_unfit_list}
use Rattle.names.specs.Entering.{Listing}
use Rattle.names.proofs.Meaning.{listing_start}
use Rattle.ntread.specs.declared.TriplesRead.{TriplesRead}
use Rattle.ntenter.specs.Line.{Read, refused, read_as, room_of}
use Rattle.ntread.specs.Reading.{lent_checks, read_file, read_lines, lines_from, is_kept, filled_names, ReadingTriples}
use Rattle.ntread.specs.Inner.{Fresh, refused_done, all_lines_lem, LinesRead, ReadNew, zeroed_names, keeps_lem}
use Rattle.ntread.proofs.Filled.{zeros_filled, nothing-filled, zeroed-names_alike}

-- ---- the checks of what is lent

module _ (kind a : ℕ) (b : List ℕ) (l : Lanes) (n : NameLanes) where
  abbrev past_kind : List Check
  past_kind = refuse (is_unfit l || is_unfit_list n) 11 0 ∷ refuse (ltb 65535 (length b)) 13 0 ∷ annotation_checks kind a 0

  pub lent-numbered : Numbered (lent_checks kind a b l n)
  lent-numbered = numbered-append (kind_checks kind 0) past_kind (kind-numbered kind 0) (omega arith, (omega arith, annotation-numbered kind a 0))

  pub lent_at : AllAt 0 (lent_checks kind a b l n)
  lent_at = at_append 0 (kind_checks kind 0) past_kind (kind_at kind 0) (refl, (refl, annotation-at kind a 0))

  module _ (k : ℕ) (e : k ≡ (first (kind_checks kind 0)).number) where
    pub lent-kind : 0 < k → k ≡ (first (lent_checks kind a b l n)).number
    lent-kind h = number-stops k (kind_checks kind 0) past_kind e h

    module _ (z : k ≤ 0) where
      behind-kind : (c : ℕ) → c ≡ (first past_kind).number → c ≡ (first (lent_checks kind a b l n)).number
      behind-kind c q = number-passes k c (kind_checks kind 0) past_kind (kind-numbered kind 0) e z q

      pub lent-unfit : (u : Bool) → u ≡ is_unfit l → u ≡ true → 11 ≡ (first (lent_checks kind a b l n)).number
      lent-unfit u f t = behind-kind 11 (ap (λ (v : Verdict). v.number) (sym (first_holds (is_unfit l || is_unfit_list n) 11 0 _ (rw (← f, t) refl))))

      module _ (u : Bool) (f : u ≡ is_unfit l) (no : u ≡ false) where
        pub lent-list : (w : Bool) → w ≡ is_unfit_list n → w ≡ true → 11 ≡ (first (lent_checks kind a b l n)).number
        lent-list w g t = behind-kind 11 (ap (λ (v : Verdict). v.number) (sym (first_holds (is_unfit l || is_unfit_list n) 11 0 _ (rw (← f, no, ← g, t) refl))))

        module _ (w : Bool) (g : w ≡ is_unfit_list n) (nor : w ≡ false) where
          fit : is_unfit l || is_unfit_list n ≡ false
          fit = rw (← f, no, ← g, nor) refl

          pub lent-long : 65535 < length b → 13 ≡ (first (lent_checks kind a b l n)).number
          lent-long q =
              behind-kind 13 (ap (λ (v : Verdict). v.number) (sym (first_passes (is_unfit l || is_unfit_list n) 11 0 _ fit ∙ first_holds (ltb 65535 (length b)) 13 0 _ (lt-ltb 65535 (length b) q))))

          pub lent-annotation : length b ≤ 65535 → (c : ℕ) → c ≡ (first (annotation_checks kind a 0)).number → c ≡ (first (lent_checks kind a b l n)).number
          lent-annotation q c r =
              behind-kind c (r ∙ ap (λ (v : Verdict). v.number) (sym (first_passes (is_unfit l || is_unfit_list n) 11 0 _ fit ∙ first_passes (ltb 65535 (length b)) 13 0 _ (le-ltb 65535 (length b) q))))

-- ---- lines read into lanes of zeros

module _ (kind a : ℕ) (b : List ℕ) (l m : Lanes) (n k : NameLanes) (d : TriplesRead) (f : LinesRead kind a b l m n k d) where
  pub new_refused : 0 < d.number → (m' : Lanes) (k' : NameLanes) → (m' ≡ zeroed m) × (k' ≡ zeroed_names k) → ReadNew kind a b l m' n k' d
  new_refused h m' k' e =
      let w = f.refused_is h in
      let what : all_lines_lem kind a b l n ≡ refused d.number d.place = f.meaning ∙ rw (ne_eqb d.number 0 (λ z. omega arith)) refl in
      rw what (record {
        verdict_is = refl;
        count_is = ap (λ (x : TriplesRead). x.count) w;
        names_is = ap (λ (x : TriplesRead). x.names) w;
        lanes_are = e.0 ∙ zeroed-alike f.as_long;
        list_is = e.1 ∙ zeroed-names_alike f.list_long ∙ nothing-filled n;
      })

  module _ (z : d.number ≤ 0) where
    none : d.number ≡ 0
    none = omega arith

    pub new_listing : Listing k d.names
    new_listing = f.listing none

    pub new_done : (last : ℕ) → last ≡ start_of k.ends d.names → (text' : List ℕ) → text' ≡ take last k.text ++ replicate (length k.text - last) 0
        → ReadNew kind a b l m n (lanes_of k.terms k.ends text') d
    new_done last e text' t =
        let what : all_lines_lem kind a b l n ≡ read_as (entries_of k d.names) (rows_of m d.count) = f.meaning ∙ rw (eq-eqb d.number 0 none) refl in
        rw what (record {
          verdict_is = rw (none, f.place_is none) refl;
          count_is = sym (tab-length d.count (row_at m));
          names_is = sym (tab-length d.names (entry_at k));
          lanes_are = f.filled_is none;
          list_is = zeros_filled k d.names new_listing n f.list_long last e text' t;
        })

-- ---- the whole call

abbrev pub Done : ℕ → ℕ → List ℕ → Lanes → Lanes → NameLanes → NameLanes → TriplesRead → Type 0
Done kind a b l m n k d = ReadingTriples kind a b l m n k d.number d.place d.count d.names

module _ (kind a : ℕ) (b : List ℕ) (l : Lanes) (n : NameLanes) where
  abbrev checks : List Check
  checks = lent_checks kind a b l n

  as_read : (what : Read) → read_file kind a b l n ≡ what → (kept : Bool) → is_kept kind a b l n ≡ kept → (m : Lanes) (k : NameLanes) (d : TriplesRead)
      → verdict d.number d.place ≡ what.verdict_of → d.count ≡ length what.rows → d.names ≡ length what.entries
      → m ≡ cond kept l (filled what.rows l) → k ≡ cond kept n (filled_names what.entries n) → Done kind a b l m n k d
  as_read what w kept q m k d v c s ms ks =
      record {
        verdict_is = v ∙ ap (λ (r : Read). r.verdict_of) (sym w);
        count_is = c ∙ ap (λ (r : Read). length r.rows) (sym w);
        names_is = s ∙ ap (λ (r : Read). length r.entries) (sym w);
        lanes_are = ms ∙ ap (λ (r : Read). cond kept l (filled r.rows l)) (sym w) ∙ ap (λ (t : Bool). cond t l (filled (read_file kind a b l n).rows l)) (sym q);
        list_is = ks ∙ ap (λ (r : Read). cond kept n (filled_names r.entries n)) (sym w) ∙ ap (λ (t : Bool). cond t n (filled_names (read_file kind a b l n).entries n)) (sym q);
      }

  module _ (number : ℕ) (e : number ≡ (first (lent_checks kind a b l n)).number) where
    module _ (h : 0 < number) where
      is-verdict : first checks ≡ verdict number 0
      is-verdict = first-place 0 checks (lent_at kind a b l n) (rw (← e) h) ∙ ap (λ (x : ℕ). verdict x 0) (sym e)

      is-refused : read_file kind a b l n ≡ refused number 0
      unfolding read_file
      is-refused = rw (is-verdict, ne_eqb number 0 (λ z. omega arith)) refl

    kept-is : is_kept kind a b l n ≡ keeps_lem number
    kept-is = rw (← e) refl

    pub kept_refused : 0 < number → keeps_lem number ≡ true → (d : TriplesRead) → d ≡ refused_done number 0 → Done kind a b l l n n d
    kept_refused h q d r = rw r (as_read (refused number 0) (is-refused h) true (kept-is ∙ q) l n (refused_done number 0) refl refl refl refl refl)

    module _ (no : keeps_lem number ≡ false) where
      wiped : is_kept kind a b l n ≡ false
      wiped = kept-is ∙ no

      pub wiped_refused : 0 < number → (m : Lanes) (k : NameLanes) → (m ≡ zeroed l) × (k ≡ zeroed_names n) → (d : TriplesRead) → d ≡ refused_done number 0 → Done kind a b l m n k d
      wiped_refused h m k w d r =
          rw r (as_read (refused number 0) (is-refused h) false wiped m k (refused_done number 0) refl refl refl w.0 (w.1 ∙ nothing-filled n))

      module _ (z : number ≤ 0) where
        passes : first checks ≡ done
        passes = first_done checks (lent-numbered kind a b l n) (sym e ∙ (let q : number ≡ 0 = omega arith in q))

        is_read : read_file kind a b l n ≡ read_lines kind a (room_of l n) (lines_from 0 b) [] []
        unfolding read_file
        is_read = rw passes refl

        fits : (is_unfit l ≡ false) × (is_unfit_list n ≡ false)
        fits = neither (is_unfit l) (is_unfit_list n) (first-split 11 0 (is_unfit l || is_unfit_list n) _ (omega arith) (passes-kind kind 0 (past_kind kind a b l n) passes).1).0

        legal : is_legal kind a ≡ true
        legal =
            let p = (passes-kind kind 0 (past_kind kind a b l n) passes).1 in
            let q = (first-split 11 0 (is_unfit l || is_unfit_list n) _ (omega arith) p).1 in
            let r = (first-split 13 0 (ltb 65535 (length b)) _ (omega arith) q).1 in
            (passes-annotation kind a 0 [] r).0

        list_fits : (length n.terms ≡ length n.ends) × (length n.terms ≤ 512) × (length n.text ≤ 32768)
        list_fits = go (eqb (length n.terms) (length n.ends)) refl fits.1
          where
            go : (t : Bool) → eqb (length n.terms) (length n.ends) ≡ t → not t || (ltb 512 (length n.terms) || ltb 32768 (length n.text)) ≡ false
                → (length n.terms ≡ length n.ends) × (length n.terms ≤ 512) × (length n.text ≤ 32768)
            go true q w =
                let p = neither (ltb 512 (length n.terms)) (ltb 32768 (length n.text)) w in
                (eqb-true (length n.terms) (length n.ends) q, ltb-false 512 (length n.terms) p.0, ltb-false 32768 (length n.text) p.1)
            go false q w = absurd (false≢true (sym w))

        pub wiped_fresh : Fresh kind a (zeroed l) (zeroed_names n)
        wiped_fresh =
            let fit = fit_of kind l 0 fits.0 in
            let es = length-replicate {A = ℕ} (length l.subj) 0 in
            let lf = list_fits in
            record {
              sound = record {
                kind_known = (passes-kind kind 0 (past_kind kind a b l n) passes).0;
                pred_long = length-replicate {A = ℕ} (length l.pred) 0 ∙ fit.pred_long ∙ sym es;
                obj_long = length-replicate {A = ℕ} (length l.obj) 0 ∙ fit.obj_long ∙ sym es;
                ann_long = length-replicate {A = ℕ} (length l.ann) 0 ∙ fit.ann_long ∙ sym es;
                long = omega (arith, es, fit.long);
                within = omega arith;
                legal = λ i q. absurd (omega arith);
                ascending = λ i q. absurd (omega arith);
              };
              zero = zero_row l;
              legal = legal;
              listing = rw (← lf.0) (listing_start (length n.terms) (length n.text) (replicate (length n.text) 0) lf.1 (length-replicate {A = ℕ} (length n.text) 0) lf.2);
            }

        pub wiped_read : (l' m : Lanes) (n' k : NameLanes) (d : TriplesRead) → (l' ≡ zeroed l) × (n' ≡ zeroed_names n) → ReadNew kind a b l' m n' k d → Done kind a b l m n k d
        wiped_read l' m n' k d w r =
            let r' : ReadNew kind a b (zeroed l) m (zeroed_names n) k d = rw (w.0, w.1) at r in
            let rooms : read_lines kind a (room_of l n) (lines_from 0 b) [] [] ≡ all_lines_lem kind a b (zeroed l) (zeroed_names n)
            = rw (length-replicate {A = ℕ} (length l.subj) 0, length-replicate {A = ℕ} (length n.terms) 0, length-replicate {A = ℕ} (length n.text) 0) refl in
            as_read (all_lines_lem kind a b (zeroed l) (zeroed_names n)) (is_read ∙ rooms) false wiped m k d r'.verdict_is r'.count_is r'.names_is
            (r'.lanes_are ∙ filled-again (all_lines_lem kind a b (zeroed l) (zeroed_names n)).rows) (r'.list_is ∙ names_again (all_lines_lem kind a b (zeroed l) (zeroed_names n)).entries)
          where
            filled-again : (R : List Row) → filled R (zeroed l) ≡ filled R l
            filled-again R = simp length-replicate

            names_again : (es : List Entry) → filled_names es (zeroed_names n) ≡ filled_names es n
            names_again es = simp length-replicate

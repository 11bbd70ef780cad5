-- One text for each input; and what `main` writes, turn by turn, is that text. Assumes nothing.
use mathlib.Core.Path.{◌≡◌, refl, sym, ap, ◌∙◌}
use mathlib.Core.Bool.{true, false}
use mathlib.Core.List.{List, [], ◌++◌}
use Prim.Native.Nat.{ℕ, ◌≤◌, ◌<◌}
use native.Mathlib.Decide.{dec_lt}
use native.Mathlib.Omega.{arith}
use lib.ListN.{length}
use Rattle.table.specs.Rows.{Row, Lanes, rows_of}
use Rattle.table.proofs.Soundness.{sound-list}
use Rattle.rhodf.specs.Rules.{rules_of}
use Rattle.rhodf.specs.Closure.{ClosureOf}
use Rattle.rhodf.proofs.TablesAgree.{closures_equal}
use Rattle.rhodf.proofs.Exists.{closure_exists}
use Rattle.trackvesper.specs.ClosedBook.{said}
use Rattle.printing.specs.Text.{refused_line}
use Rattle.counter.specs.Counted.{Next, ended, cut, whole, next, comes_to, asked_lines, Asks, no_more, cut_short, no_room, asks, Counted, no_book, cut_book, unread, opened}
use Rattle.counter.specs.Turns.{Ready, Turned}
use Rattle.counter.specs.Run.{front, behind, Answers, last_turn, one_turn, Runs, book_alone, book_first}
use Rattle.counter.proofs.Nexts.{ended-not_cut, ended-not_whole, cut-not_whole, same_whole, true-not_false, front-ended, front_cut, front-whole}

-- ---- by what stands next, there is one way

pub asks-ended : {looks kind rules : ℕ} {rows : List Row} {s text : List ℕ} → Asks looks kind rules rows s text → next s ≡ ended → text ≡ []
asks-ended (no_more e) h = refl
asks-ended (cut_short e) h = absurd (ended-not_cut h e)
asks-ended (no_room q rest closed e c f) h = absurd (ended-not_whole h e)
asks-ended (asks q rest closed e c f m) h = absurd (ended-not_whole h e)

pub asks-cut : {looks kind rules : ℕ} {rows : List Row} {s text : List ℕ} → Asks looks kind rules rows s text → next s ≡ cut → text ≡ refused_line 1 0
asks-cut (no_more e) h = absurd (ended-not_cut e h)
asks-cut (cut_short e) h = refl
asks-cut (no_room q rest closed e c f) h = absurd (cut-not_whole h e)
asks-cut (asks q rest closed e c f m) h = absurd (cut-not_whole h e)

same-closure : {kind : ℕ} (rules : ℕ) {rows a b : List Row} → ClosureOf kind (rules_of rules) rows a → ClosureOf kind (rules_of rules) rows b → a ≡ b
same-closure {kind} rules {rows} {a} {b} p q = closures_equal kind (rules_of rules) rows a b p q

pub asks-full : {looks kind rules : ℕ} {rows closed : List Row} {s text q rest : List ℕ} → Asks looks kind rules rows s text
    → next s ≡ whole q rest → ClosureOf kind (rules_of rules) rows closed → 1024 < length closed → text ≡ refused_line 12 0
asks-full (no_more e) h c f = absurd (ended-not_whole e h)
asks-full (cut_short e) h c f = absurd (cut-not_whole e h)
asks-full (no_room q rest closed e d g) h c f = refl
asks-full {looks} {kind} {rules} (asks q rest closed e d g m) h c f = absurd (omega (arith, ap length (same-closure rules c d)))

-- what is asked, and the rest
pub record Asked (looks kind rules : ℕ) (closed : List Row) (q rest text : List ℕ) : Type 0 where
  pub more : List ℕ
  pub text_is : text ≡ asked_lines (comes_to kind closed looks q) ++ more
  pub goes_on : Asks looks kind rules closed rest more

pub asks-asked : {looks kind rules : ℕ} {rows closed : List Row} {s text q rest : List ℕ} → Asks looks kind rules rows s text
    → next s ≡ whole q rest → ClosureOf kind (rules_of rules) rows closed → length closed ≤ 1024 → Asked looks kind rules closed q rest text
asks-asked (no_more e) h c f = absurd (ended-not_whole e h)
asks-asked (cut_short e) h c f = absurd (cut-not_whole e h)
asks-asked {looks} {kind} {rules} (no_room q rest closed e d g) h c f = absurd (omega (arith, ap length (same-closure rules c d)))
asks-asked {looks} {kind} {rules} (asks {more = more} q rest closed e d g m) h c f =
    let w = same_whole h e in
    let k = same-closure rules c d in
    record {
      more = more;
      text_is = rw (w.0, k) refl;
      goes_on = rw (w.1, k) m;
    }

asks-one : {looks kind rules : ℕ} {rows : List Row} {s x y : List ℕ} → Asks looks kind rules rows s x → Asks looks kind rules rows s y → x ≡ y
asks-one (no_more e) b = sym (asks-ended b e)
asks-one (cut_short e) b = sym (asks-cut b e)
asks-one (no_room q rest closed e c f) b = sym (asks-full b e c f)
asks-one {looks} {kind} (asks q rest closed e c f m) b =
    let w = asks-asked b e c f in
    ap (λ (t : List ℕ). asked_lines (comes_to kind closed looks q) ++ t) (asks-one m w.goes_on) ∙ sym w.text_is

pub counted-short : {looks : ℕ} {s text : List ℕ} → Counted looks s text → ((b rest : List ℕ) → next s ≡ whole b rest → ⊥) → text ≡ refused_line 1 0
counted-short (no_book e) h = refl
counted-short (cut_book e) h = refl
counted-short (unread b rest e r) h = absurd (h b rest e)
counted-short (opened b rest e r a) h = absurd (h b rest e)

pub counted-unread : {looks : ℕ} {s text b rest : List ℕ} → Counted looks s text → next s ≡ whole b rest → 0 < (said b).verdict_of.number
    → text ≡ refused_line (said b).verdict_of.number (said b).verdict_of.place
counted-unread (no_book e) h f = absurd (ended-not_whole e h)
counted-unread (cut_book e) h f = absurd (cut-not_whole e h)
counted-unread (unread b rest e r) h f = rw (same_whole h e).0 refl
counted-unread (opened b rest e r a) h f = absurd (omega (arith, ap (λ (x : List ℕ). (said x).verdict_of.number) (same_whole h e).0, r))

pub counted-opened : {looks : ℕ} {s text b rest : List ℕ} → Counted looks s text → next s ≡ whole b rest → (said b).verdict_of.number ≡ 0
    → Asks looks (said b).kind (said b).rules (said b).rows rest text
counted-opened (no_book e) h f = absurd (ended-not_whole e h)
counted-opened (cut_book e) h f = absurd (cut-not_whole e h)
counted-opened (unread b rest e r) h f = absurd (omega (arith, ap (λ (x : List ℕ). (said x).verdict_of.number) (same_whole h e).0, r))
counted-opened (opened b rest e r a) h f = let w = same_whole h e in rw (w.0, w.1) a

-- "any two results allowed coincide"
pub counted-determined : {looks : ℕ} {s x y : List ℕ} → Counted looks s x → Counted looks s y → x ≡ y
counted-determined (no_book e) b = sym (counted-short b (λ q rest h. ended-not_whole e h))
counted-determined (cut_book e) b = sym (counted-short b (λ q rest h. cut-not_whole e h))
counted-determined (unread b rest e r) c = sym (counted-unread c e r)
counted-determined (opened b rest e r a) c = asks-one a (counted-opened c e r)

-- ---- turn by turn

module _ (looks kind rules : ℕ) (l : Lanes) (n : ℕ) (ready : Ready kind l n) (s : List ℕ) (m : Lanes) (count : ℕ) where
  by_closure : {P : Type 0} → ((closed : List Row) → ClosureOf kind (rules_of rules) (rows_of l n) closed → 1024 < length closed → P)
      → ((closed : List Row) → ClosureOf kind (rules_of rules) (rows_of l n) closed → length closed ≤ 1024 → P) → P
  by_closure {P} full fits = go (closure_exists kind rules (rows_of l n) (sound-list ready.sound))
    where
      go : (closed : List Row) × ClosureOf kind (rules_of rules) (rows_of l n) closed → P
      go c = pick (dec_lt 1024 (length c.0))
        where
          pick : Dec (1024 < length c.0) → P
          pick (yes q) = full c.0 c.1 q
          pick (no q) = fits c.0 c.1 (omega arith)

  last-asks : (text : List ℕ) → Turned looks kind rules (rows_of l n) (front s) true m count text → Asks looks kind rules (rows_of l n) s text
  last-asks text t = go (next s) refl
    where
      go : (x : Next) → next s ≡ x → Asks looks kind rules (rows_of l n) s text
      go ended e = rw (t.no_more (front-ended s e)).1 (no_more e)
      go cut e = rw (t.cut_short (front_cut s e)).1 (cut_short e)
      go (whole q rest) e =
          let f = (front-whole s q rest e).0 in
          by_closure
          (λ closed c h. rw (t.no_room q [] f closed c h).1 (no_room q rest closed e c h))
          (λ closed c h. absurd (true-not_false (t.asked q [] f closed c h).0))

  one-asks : (text more : List ℕ) → Turned looks kind rules (rows_of l n) (front s) false m count text → Asks looks kind rules (rows_of m count) (behind s) more
      → Asks looks kind rules (rows_of l n) s (text ++ more)
  one-asks text more t a = go (next s) refl
    where
      go : (x : Next) → next s ≡ x → Asks looks kind rules (rows_of l n) s (text ++ more)
      go ended e = absurd (true-not_false (sym (t.no_more (front-ended s e)).0))
      go cut e = absurd (true-not_false (sym (t.cut_short (front_cut s e)).0))
      go (whole q rest) e =
          let f = front-whole s q rest e in
          by_closure
          (λ closed c h. absurd (true-not_false (sym (t.no_room q [] f.0 closed c h).0)))
          (λ closed c h.
          let w = t.asked q [] f.0 closed c h in
          rw w.1 (asks q rest closed e c h (rw (w.2, f.1) at a)))

answers-asks : {looks kind rules : ℕ} {l : Lanes} {n : ℕ} {s text : List ℕ} → Ready kind l n → Answers looks kind rules l n s text → Asks looks kind rules (rows_of l n) s text
answers-asks {looks} {kind} {rules} {l} {n} {s} ready (last_turn {text = text} m count t) = last-asks looks kind rules l n ready s m count text t
answers-asks {looks} {kind} {rules} {l} {n} {s} ready (one_turn {text = text} {more = more} m count t a) =
    one-asks looks kind rules l n ready s m count text more t (answers-asks (t.ready refl) a)

-- what is written is what the definition says
pub runs_counted : {looks : ℕ} {s text : List ℕ} → Runs looks s text → Counted looks s text
runs_counted {looks} {s} (book_alone {text = text} kind rules m count o) = go (next s) refl
  where
    go : (x : Next) → next s ≡ x → Counted looks s text
    go ended e = rw (o.no_book (front-ended s e)).1 (no_book e)
    go cut e = rw (o.cut_book (front_cut s e)).1 (cut_book e)
    go (whole b rest) e = pick (dec_lt 0 (said b).verdict_of.number)
      where
        pick : Dec (0 < (said b).verdict_of.number) → Counted looks s text
        pick (yes h) = rw (o.unread b [] (front-whole s b rest e).0 h).1 (unread b rest e h)
        pick (no h) = absurd (true-not_false (o.opened b [] (front-whole s b rest e).0 (omega arith)).0)
runs_counted {looks} {s} (book_first {text = text} {more = more} kind rules m count o a) = go (next s) refl
  where
    go : (x : Next) → next s ≡ x → Counted looks s (text ++ more)
    go ended e = absurd (true-not_false (sym (o.no_book (front-ended s e)).0))
    go cut e = absurd (true-not_false (sym (o.cut_book (front_cut s e)).0))
    go (whole b rest) e = pick (dec_lt 0 (said b).verdict_of.number)
      where
        pick : Dec (0 < (said b).verdict_of.number) → Counted looks s (text ++ more)
        pick (yes h) = absurd (true-not_false (sym (o.unread b [] (front-whole s b rest e).0 h).0))
        pick (no h) =
            let f = front-whole s b rest e in
            let w = o.opened b [] f.0 (omega arith) in
            rw w.1 (opened b rest e (omega arith) (rw (w.2, w.3, w.4, f.1) at (answers-asks (o.ready refl) a)))

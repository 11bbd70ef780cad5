-- A list that entering made: what is entered is found, what was there stays, numbers and texts are one to one. Assumes nothing.
use mathlib.Core.Path.{◌≡◌, refl, sym, ap, ◌∙◌}
use mathlib.Core.Bool.{Bool, true, false, cond, ◌&&◌, ◌||◌, true≢false}
use mathlib.Core.List.{List, [], ◌∷◌, ◌++◌}
use Prim.Native.Nat.{ℕ, zero, suc, ◌+◌, ◌≤◌, ◌<◌}
use native.Mathlib.Omega.{arith}
use lib.Dec.{eqb}
use lib.ListN.{length, get_or, length-append, get_or-append}
use lib.Seq.{get_or-append_seam}
use borrow.Author.Tests.{eq-eqb, eqb-true, eqb-false}
use Rattle.term.specs.Term.{sort_of}
use Rattle.names.specs.Names.{Entry, entry, text_in}
use Rattle.names.specs.Entering.{same_text_lem, is_of, Lookup, none, number, lookup, lookup_five, known, or_else, count_of, next_of, first_of, Made, empty, more}
use Rattle.names.proofs.Same.{both_true, same-is, is_same}
use Rattle.names.proofs.Looking.{count-few}

-- a list is small enough that no sort runs into the next
abbrev pub Small : List Entry → Type 0
Small es = length es ≤ 512

-- ---- with one more behind

abbrev pub is_numbered : List Entry → ℕ → Bool
is_numbered [] n = false
is_numbered (e ∷ es) n = eqb e.number n || is_numbered es n

module _ (x : Entry) where
  abbrev last : List Entry
  last = x ∷ []

  -- what was there stays
  pub listed-stays : (es : List Entry) (sort : ℕ) (word : List ℕ) (n : ℕ) → lookup es sort word ≡ number n → lookup (es ++ (x ∷ [])) sort word ≡ number n
  unfolding lookup
  listed-stays [] sort word n h = absurd (let z : ◌≡◌ {A = ℕ} 0 1 = cc in omega arith)
  listed-stays (e ∷ es) sort word n h = go (is_of sort e && same_text_lem e.text word) refl (λ k. listed-stays es sort word n k) h
    where
      go : (t : Bool) → is_of sort e && same_text_lem e.text word ≡ t → (lookup es sort word ≡ number n → lookup (es ++ last) sort word ≡ number n)
          → cond t (number e.number) (lookup es sort word) ≡ number n → cond (is_of sort e && same_text_lem e.text word) (number e.number) (lookup (es ++ last) sort word) ≡ number n
      go true q again k = rw q k
      go false q again k = rw q (again k)

  pub not_listed : (es : List Entry) (sort : ℕ) (word : List ℕ) → lookup es sort word ≡ none → lookup (es ++ (x ∷ [])) sort word ≡ lookup (x ∷ []) sort word
  unfolding lookup
  not_listed [] sort word h = refl
  not_listed (e ∷ es) sort word h = go (is_of sort e && same_text_lem e.text word) refl (λ k. not_listed es sort word k) h
    where
      go : (t : Bool) → is_of sort e && same_text_lem e.text word ≡ t → (lookup es sort word ≡ none → lookup (es ++ last) sort word ≡ lookup last sort word)
          → cond t (number e.number) (lookup es sort word) ≡ none → cond (is_of sort e && same_text_lem e.text word) (number e.number) (lookup (es ++ last) sort word) ≡ lookup last sort word
      go true q again k = absurd (let z : ◌≡◌ {A = ℕ} 0 1 = cc in omega arith)
      go false q again k = rw q (again k)

  text-append : (es : List Entry) (n : ℕ) → text_in (es ++ (x ∷ [])) n ≡ cond (is_numbered es n) (text_in es n) (text_in (x ∷ []) n)
  unfolding text_in
  text-append [] n = refl
  text-append (e ∷ es) n = go (eqb e.number n) (text-append es n)
    where
      go : (t : Bool) → text_in (es ++ last) n ≡ cond (is_numbered es n) (text_in es n) (text_in last n)
          → cond t e.text (text_in (es ++ last) n) ≡ cond (t || is_numbered es n) (cond t e.text (text_in es n)) (text_in last n)
      go true k = refl
      go false k = k

  pub numbered-append : (es : List Entry) (n : ℕ) → is_numbered (es ++ (x ∷ [])) n ≡ is_numbered es n || eqb x.number n
  numbered-append [] n = go (eqb x.number n)
    where
      go : (t : Bool) → t || false ≡ t
      go true = refl
      go false = refl
  numbered-append (e ∷ es) n = go (eqb e.number n) (numbered-append es n)
    where
      go : (t : Bool) → is_numbered (es ++ last) n ≡ is_numbered es n || eqb x.number n → t || is_numbered (es ++ last) n ≡ (t || is_numbered es n) || eqb x.number n
      go true k = refl
      go false k = k

  count-append : (es : List Entry) (sort : ℕ) → count_of sort (es ++ (x ∷ [])) ≡ count_of sort es + cond (is_of sort x) 1 0
  unfolding count_of
  count-append [] sort = omega arith
  count-append (e ∷ es) sort = let k = count-append es sort in omega arith

pub found-numbered : (es : List Entry) (sort : ℕ) (word : List ℕ) (n : ℕ) → lookup es sort word ≡ number n → is_numbered es n ≡ true
unfolding lookup
found-numbered [] sort word n h = absurd (let z : ◌≡◌ {A = ℕ} 0 1 = cc in omega arith)
found-numbered (e ∷ es) sort word n h = go (is_of sort e && same_text_lem e.text word) (λ k. found-numbered es sort word n k) h
  where
    go : (t : Bool) → (lookup es sort word ≡ number n → is_numbered es n ≡ true) → cond t (number e.number) (lookup es sort word) ≡ number n → eqb e.number n || is_numbered es n ≡ true
    go true again k = let f : e.number ≡ n = cc in rw (eq-eqb e.number n f) refl
    go false again k = or_right (eqb e.number n) (is_numbered es n) (again k)
      where
        or_right : (t u : Bool) → u ≡ true → t || u ≡ true
        or_right true u q = refl
        or_right false u q = q

-- ---- the next number

pub sort-of_next : (es : List Entry) (sort : ℕ) → Small es → sort ≤ 2 → sort_of (next_of es sort) ≡ sort
unfolding first_of
sort-of_next es zero s h = let k = count-few 0 es in omega arith
sort-of_next es (suc zero) s h = let k = count-few 1 es in omega arith
sort-of_next es (suc (suc zero)) s h = let k = count-few 2 es in omega arith
sort-of_next es (suc (suc (suc sort))) s h = absurd (omega arith)

shorter : (es : List Entry) (x : Entry) → Small (es ++ (x ∷ [])) → Small es
shorter es x s = let k = length-append es (x ∷ []) in omega arith

-- no entry has a number from the next of its sort on
fresh : {es : List Entry} → Made es → Small es → (sort n : ℕ) → next_of es sort ≤ n → sort_of n ≡ sort → is_numbered es n ≡ false
fresh empty s sort n h e = refl
fresh (more {es = es} t w m o k) s sort n h e =
    let x : Entry = entry (next_of es t) w in
    let small = shorter es x s in
    let c = count-append x es sort in
    numbered-append x es n ∙ rw (fresh m small sort n (omega arith) e) (go (eqb (next_of es t) n) refl small c)
  where
    go : (u : Bool) → eqb (next_of es t) n ≡ u → Small es → count_of sort (es ++ (entry (next_of es t) w ∷ [])) ≡ count_of sort es + cond (is_of sort (entry (next_of es t) w)) 1 0 → eqb (next_of es t) n ≡ false
    go false q small c = q
    go true q small c =
        let f = eqb-true (next_of es t) n q in
        let same : sort_of (next_of es t) ≡ sort = ap sort_of f ∙ e in
        let g : t ≡ sort = sym (sort-of_next es t small o) ∙ same in
        let d : count_of sort (es ++ (entry (next_of es t) w ∷ [])) ≡ count_of sort es + 1 = c ∙ rw (eq-eqb (sort_of (next_of es t)) sort same) refl in
        let r : next_of es sort ≡ n = ap (next_of es) (sym g) ∙ f in
        absurd (omega arith)

none-of_both : (a b : Lookup) → or_else a b ≡ none → b ≡ none
none-of_both (number n) b h = absurd (let z : ◌≡◌ {A = ℕ} 0 1 = cc in omega arith)
none-of_both none b h = h

-- what is entered is found
pub entered-found : (es : List Entry) (sort : ℕ) (word : List ℕ) → Small es → sort ≤ 2 → known es sort word ≡ none
    → lookup (es ++ (entry (next_of es sort) word ∷ [])) sort word ≡ number (next_of es sort)
unfolding lookup
entered-found es sort word s o k =
    not_listed (entry (next_of es sort) word) es sort word (none-of_both (lookup_five sort word) (lookup es sort word) k)
    ∙ rw (eq-eqb (sort_of (next_of es sort)) sort (sort-of_next es sort s o), is_same word word refl) refl

-- a number found means its sort and text
pub number-means : {es : List Entry} → Made es → Small es → (sort : ℕ) (word : List ℕ) (n : ℕ) → lookup es sort word ≡ number n → (sort_of n ≡ sort) × (text_in es n ≡ word)
unfolding lookup text_in
number-means empty s sort word n h = absurd (let z : ◌≡◌ {A = ℕ} 0 1 = cc in omega arith)
number-means (more {es = es} t w m o k) s sort word n h =
    let small = shorter es (entry (next_of es t) w) s in
    go (lookup es sort word) refl (λ v q. number-means m small sort word v q) small
  where
    x : Entry
    x = entry (next_of es t) w

    alone : (u : Bool) → is_of sort x && same_text_lem w word ≡ u → cond u (number (next_of es t)) none ≡ number n → Small es → (sort_of n ≡ sort) × (text_in (es ++ (entry (next_of es t) w ∷ [])) n ≡ word)
    alone true q e small =
        let f : next_of es t ≡ n = cc in
        let p = both_true (is_of sort x) (same_text_lem w word) q in
        let new : is_numbered es n ≡ false = rw (← f) (fresh m small t (next_of es t) (omega arith) (sort-of_next es t small o)) in
        (ap sort_of (sym f) ∙ eqb-true (sort_of (next_of es t)) sort p.0, text-append (entry (next_of es t) w) es n ∙ rw (new, eq-eqb (next_of es t) n f) (same-is w word p.1))
    alone false q e small = absurd (let z : ◌≡◌ {A = ℕ} 0 1 = cc in omega arith)

    go : (r : Lookup) → lookup es sort word ≡ r → ((v : ℕ) → lookup es sort word ≡ number v → (sort_of v ≡ sort) × (text_in es v ≡ word)) → Small es
        → (sort_of n ≡ sort) × (text_in (es ++ (entry (next_of es t) w ∷ [])) n ≡ word)
    go (number v) q again small =
        let e : number v ≡ number n = sym (listed-stays (entry (next_of es t) w) es sort word v q) ∙ h in
        let f : v ≡ n = cc in
        let a = again n (q ∙ e) in
        (a.0, text-append (entry (next_of es t) w) es n ∙ rw (found-numbered es sort word n (q ∙ e)) a.1)
    go none q again small = alone (is_of sort x && same_text_lem w word) refl (sym (not_listed (entry (next_of es t) w) es sort word q) ∙ h) small

-- and goes on meaning them
pub text-stays : {es : List Entry} → Made es → Small es → (x : Entry) (sort : ℕ) (word : List ℕ) (n : ℕ) → lookup es sort word ≡ number n → text_in (es ++ (x ∷ [])) n ≡ word
text-stays {es} m s x sort word n h = text-append x es n ∙ rw (found-numbered es sort word n h) (number-means m s sort word n h).1

-- ---- distinct

abbrev pub at : List Entry → ℕ → Entry
at es i = get_or es i (entry 0 [])

numbered-at : (es : List Entry) (i : ℕ) → i < length es → is_numbered es (at es i).number ≡ true
numbered-at [] i h = absurd (omega arith)
numbered-at (e ∷ es) zero h = rw (eq-eqb e.number e.number refl) refl
numbered-at (e ∷ es) (suc i) h = go (eqb e.number (at es i).number) (numbered-at es i (omega arith))
  where
    go : (t : Bool) → is_numbered es (at es i).number ≡ true → t || is_numbered es (at es i).number ≡ true
    go true k = refl
    go false k = k

listed_at : (es : List Entry) (i : ℕ) → i < length es → lookup es (sort_of (at es i).number) (at es i).text ≡ none → ⊥
unfolding lookup
listed_at [] i h k = omega arith
listed_at (e ∷ es) zero h k =
    let t : is_of (sort_of e.number) e && same_text_lem e.text e.text ≡ true = rw (eq-eqb (sort_of e.number) (sort_of e.number) refl, is_same e.text e.text refl) refl in
    let q : number e.number ≡ none = rw t at k in
    let z : ◌≡◌ {A = ℕ} 0 1 = cc in
    omega arith
listed_at (e ∷ es) (suc i) h k = go (is_of (sort_of (at es i).number) e && same_text_lem e.text (at es i).text) (λ q. listed_at es i (omega arith) q) k
  where
    go : (t : Bool) → (lookup es (sort_of (at es i).number) (at es i).text ≡ none → ⊥) → cond t (number e.number) (lookup es (sort_of (at es i).number) (at es i).text) ≡ none → ⊥
    go true again q = let z : ◌≡◌ {A = ℕ} 0 1 = cc in omega arith
    go false again q = again q

-- two entries differ in number, and in sort or text
pub record Differ (a b : Entry) : Type 0 where
  pub numbers : a.number ≡ b.number → ⊥
  pub texts : sort_of a.number ≡ sort_of b.number → a.text ≡ b.text → ⊥

pub made-distinct : {es : List Entry} → Made es → Small es → (i j : ℕ) → i < j → j < length es → Differ (at es i) (at es j)
made-distinct empty s i j h k = absurd (omega arith)
made-distinct (more {es = es} t w m o q) s i j h k =
    let x : Entry = entry (next_of es t) w in
    let small = shorter es x s in
    let long = length-append es (x ∷ []) in
    let front : at (es ++ (x ∷ [])) i ≡ at es i = get_or-append es (x ∷ []) (entry 0 []) i (omega arith) in
    rw front (go (eqb j (length es)) refl small (omega arith) (λ r. made-distinct m small i j h r))
  where
    go : (b : Bool) → eqb j (length es) ≡ b → Small es → j ≤ length es → (j < length es → Differ (at es i) (at es j)) → Differ (at es i) (at (es ++ (entry (next_of es t) w ∷ [])) j)
    go true e small r again =
        let f = eqb-true j (length es) e in
        let y : at (es ++ (entry (next_of es t) w ∷ [])) j ≡ entry (next_of es t) w = ap (at (es ++ (entry (next_of es t) w ∷ []))) f ∙ get_or-append_seam es (entry (next_of es t) w) [] (entry 0 []) in
        rw y
        (record {
          numbers = λ c. true≢false (sym (numbered-at es i (omega arith)) ∙ rw c (fresh m small t (next_of es t) (omega arith) (sort-of_next es t small o)));
          texts = λ c d. listed_at es i (omega arith)
              (ap (λ (v : ℕ). lookup es v (at es i).text) (c ∙ sort-of_next es t small o) ∙ ap (lookup es t) d ∙ none-of_both (lookup_five t w) (lookup es t w) q);
        })
    go false e small r again =
        let f = eqb-false j (length es) e in
        let y : at (es ++ (entry (next_of es t) w ∷ [])) j ≡ at es j = get_or-append es (entry (next_of es t) w ∷ []) (entry 0 []) j (omega arith) in
        rw y (again (omega arith))

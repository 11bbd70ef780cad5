-- What a number answered means: its sort and its text, by the list as it is then and as it grows. Assumes nothing.
use mathlib.Core.Path.{◌≡◌, refl, sym, ap, ◌∙◌}
use mathlib.Core.Bool.{Bool, true, false, cond, ◌&&◌, ◌||◌, false≢true}
use mathlib.Core.List.{List, [], ◌∷◌, ◌++◌}
use Prim.Native.Nat.{ℕ, zero, suc, ◌≤◌, ◌<◌}
use native.Mathlib.Nat.{sub-zero}
use native.Mathlib.Omega.{arith}
use lib.Dec.{eqb, ltb}
use lib.ListN.{length, replicate, length-replicate}
use borrow.Author.Tests.{eqb-true, ltb-true, lt-ltb, le-ltb}
use Rattle.term.specs.Term.{sort_of}
use Rattle.names.specs.Five.{five_text}
use Rattle.names.specs.Names.{Entry, entry, lanes_of, start_of, text_of}
use Rattle.names.specs.Entering.{Entered, Listed, New, Full, same_text_lem, Lookup, none, number, lookup, five_number, lookup_five, known, or_else, next_of, first_of, has_room_lem, answer_of, entered_by, entries_after, Listing, Made, empty, more}
use Rattle.names.proofs.Same.{both_true, same-is}
use Rattle.names.proofs.Made.{Small, is_numbered, numbered-append, found-numbered, listed-stays, entered-found, number-means}

-- ---- the five

five_by : (word : List ℕ) (a b c d e : Bool)
    → same_text_lem (five_text 0) word ≡ a → same_text_lem (five_text 1) word ≡ b → same_text_lem (five_text 2) word ≡ c → same_text_lem (five_text 3) word ≡ d → same_text_lem (five_text 4) word ≡ e
    → cond a 0 (cond b 1 (cond c 2 (cond d 3 (cond e 4 5)))) < 5 → five_text (cond a 0 (cond b 1 (cond c 2 (cond d 3 (cond e 4 5))))) ≡ word
five_by word true b c d e ea eb ec ed ee h = same-is (five_text 0) word ea
five_by word false true c d e ea eb ec ed ee h = same-is (five_text 1) word eb
five_by word false false true d e ea eb ec ed ee h = same-is (five_text 2) word ec
five_by word false false false true e ea eb ec ed ee h = same-is (five_text 3) word ed
five_by word false false false false true ea eb ec ed ee h = same-is (five_text 4) word ee
five_by word false false false false false ea eb ec ed ee h = absurd (omega arith)

pub five_text_lem : (word : List ℕ) → five_number word < 5 → five_text (five_number word) ≡ word
unfolding five_number
five_text_lem word h = five_by word _ _ _ _ _ refl refl refl refl refl h

five_means : (es : List Entry) (sort : ℕ) (word : List ℕ) (n : ℕ) → lookup_five sort word ≡ number n → (sort_of n ≡ sort) × (text_of es n ≡ word)
unfolding lookup_five
five_means es sort word n h = go (eqb sort 0 && ltb (five_number word) 5) refl h
  where
    go : (t : Bool) → eqb sort 0 && ltb (five_number word) 5 ≡ t → cond t (number (five_number word)) none ≡ number n → (sort_of n ≡ sort) × (text_of es n ≡ word)
    go true q k =
        let f : five_number word ≡ n = cc in
        let p = both_true (eqb sort 0) (ltb (five_number word) 5) q in
        let small = ltb-true (five_number word) 5 p.1 in
        let s = eqb-true sort 0 p.0 in
        (omega arith, rw (lt-ltb n 5 (omega arith)) (ap five_text (sym f) ∙ five_text_lem word small))
    go false q k = absurd (let z : ◌≡◌ {A = ℕ} 0 1 = cc in omega arith)

-- ---- entered names have numbers from 5 on

first-five : (sort : ℕ) → 5 ≤ first_of sort
unfolding first_of
first-five zero = omega arith
first-five (suc zero) = omega arith
first-five (suc (suc sort)) = omega arith

from-five : {es : List Entry} → Made es → (n : ℕ) → is_numbered es n ≡ true → 5 ≤ n
from-five empty n h = absurd (false≢true h)
from-five (more {es = es} t w m o k) n h = go (is_numbered es n) refl (λ q. from-five m n q) (sym (numbered-append (entry (next_of es t) w) es n) ∙ h)
  where
    go : (b : Bool) → is_numbered es n ≡ b → (is_numbered es n ≡ true → 5 ≤ n) → is_numbered es n || eqb (next_of es t) n ≡ true → 5 ≤ n
    go true q again r = again q
    go false q again r =
        let e : eqb (next_of es t) n ≡ true = rw q at r in
        let f = eqb-true (next_of es t) n e in
        let g = first-five t in
        omega arith

-- ---- any number

pub known-means : {es : List Entry} → Made es → Small es → (sort : ℕ) (word : List ℕ) (n : ℕ) → known es sort word ≡ number n → (sort_of n ≡ sort) × (text_of es n ≡ word)
known-means {es} m s sort word n h = go (lookup_five sort word) refl
  where
    go : (r : Lookup) → lookup_five sort word ≡ r → (sort_of n ≡ sort) × (text_of es n ≡ word)
    go (number v) q =
        let e : number v ≡ number n = sym (ap (λ (x : Lookup). or_else x (lookup es sort word)) q) ∙ h in
        five_means es sort word n (q ∙ e)
    go none q =
        let e : lookup es sort word ≡ number n = sym (ap (λ (x : Lookup). or_else x (lookup es sort word)) q) ∙ h in
        let a = number-means m s sort word n e in
        let high = from-five m n (found-numbered es sort word n e) in
        (a.0, rw (le-ltb n 5 high) a.1)

-- what has a number keeps it
pub known-stays : (es : List Entry) (x : Entry) (sort : ℕ) (word : List ℕ) (n : ℕ) → known es sort word ≡ number n → known (es ++ (x ∷ [])) sort word ≡ number n
known-stays es x sort word n h = go (lookup_five sort word) refl
  where
    go : (r : Lookup) → lookup_five sort word ≡ r → known (es ++ (x ∷ [])) sort word ≡ number n
    go (number v) q = ap (λ (y : Lookup). or_else y (lookup (es ++ (x ∷ [])) sort word)) q ∙ sym (ap (λ (y : Lookup). or_else y (lookup es sort word)) q) ∙ h
    go none q =
        ap (λ (y : Lookup). or_else y (lookup (es ++ (x ∷ [])) sort word)) q
        ∙ listed-stays x es sort word n (sym (ap (λ (y : Lookup). or_else y (lookup es sort word)) q) ∙ h)

-- ---- entering

abbrev pub number_answered : Entered → Lookup
number_answered (Listed n) = number n
number_answered (New n) = number n
number_answered Full = none

module _ (entries bytes : ℕ) (es : List Entry) (sort : ℕ) (word : List ℕ) (legal : sort ≤ 2) where
  -- keeps a list made by entering
  pub entering_made : Made es → Made (entries_after (entered_by entries bytes es sort word) es word)
  unfolding entered_by
  entering_made m = go (known es sort word) refl (has_room_lem entries bytes es word)
    where
      go : (k : Lookup) → known es sort word ≡ k → (t : Bool) → Made (entries_after (answer_of k t (next_of es sort)) es word)
      go (number n) q t = m
      go none q true = more sort word m legal q
      go none q false = m

  -- what is answered is what the text has from then on
  pub entering_known : Small es → known (entries_after (entered_by entries bytes es sort word) es word) sort word ≡ number_answered (entered_by entries bytes es sort word)
  unfolding entered_by
  entering_known s = go (known es sort word) refl (has_room_lem entries bytes es word)
    where
      new : known es sort word ≡ none → (r : Lookup) → lookup_five sort word ≡ r → known (es ++ (entry (next_of es sort) word ∷ [])) sort word ≡ number (next_of es sort)
      new q (number v) e = absurd (let f : number v ≡ none = sym (ap (λ (y : Lookup). or_else y (lookup es sort word)) e) ∙ q in let z : ◌≡◌ {A = ℕ} 0 1 = cc in omega arith)
      new q none e = ap (λ (y : Lookup). or_else y (lookup (es ++ (entry (next_of es sort) word ∷ [])) sort word)) e ∙ entered-found es sort word s legal q

      go : (k : Lookup) → known es sort word ≡ k → (t : Bool)
          → known (entries_after (answer_of k t (next_of es sort)) es word) sort word ≡ number_answered (answer_of k t (next_of es sort))
      go (number n) q t = q
      go none q true = new q (lookup_five sort word) refl
      go none q false = q

-- ---- the first list: zeroed lanes

pub listing_start : (terms text : ℕ) (bytes : List ℕ) → terms ≤ 512 → length bytes ≡ text → text ≤ 32768 → Listing (lanes_of (replicate terms 0) (replicate terms 0) bytes) 0
unfolding start_of
listing_start terms text bytes few long short =
    let e : ◌≡◌ {A = ℕ} (length (replicate {A = ℕ} terms 0)) terms = length-replicate terms 0 in
    record {
      equal = refl;
      few = rw e few;
      short = omega arith;
      room = omega arith;
      rise = λ i h. absurd (omega arith);
      last = omega arith;
      terms_zero = ap (λ (k : ℕ). replicate k 0) (sym (sub-zero (length (replicate {A = ℕ} terms 0)) ∙ e));
      ends_zero = ap (λ (k : ℕ). replicate k 0) (sym (sub-zero (length (replicate {A = ℕ} terms 0)) ∙ e));
    }

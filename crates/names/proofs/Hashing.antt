-- Entries by hash: what the loop over those of one hash finds, and one entry more. Assumes nothing.
use mathlib.Core.Path.{◌≡◌, refl, sym, ap, subst, ◌∙◌}
use mathlib.Core.Bool.{Bool, true, false, cond, ◌&&◌}
use mathlib.Core.List.{List, [], ◌∷◌, ◌++◌}
use Prim.Native.Nat.{ℕ, zero, suc, ◌+◌, ◌-◌, ◌*◌, ◌/◌, ◌%◌, ◌≤◌, ◌<◌}
use native.Mathlib.Nat.{mod-lt, div-add-mod', add-mul-mod_self_left}
use native.Mathlib.Numerals.{add-one}
use native.Mathlib.Omega.{arith}
use lib.Dec.{eqb}
use lib.ListN.{length, get_or, set, take, drop, replicate, drop_of_length-le, length-set, length-append, length-replicate, get_or-replicate, get_or-append}
use lib.Seq.{take_all, drop-cons, get_or-append_seam, get_or-set_same, get_or-set_other}
use borrow.Author.Tests.{eqb-true, eqb-false, eq-eqb, ne_eqb}
use Rattle.ground.proofs.Tab.{tab-length, get_d_tab}
use Rattle.term.specs.Term.{sort_of}
use Rattle.names.specs.Names.{Entry, entry, NameLanes, start_of, entry_at, entries_of}
use Rattle.names.specs.Entering.{same_text_lem, is_of, Lookup, number, lookup, known, count_of, next_of, Listing}
use Rattle.std.specs.Prelude.{Option, Some, None, MatchOption, Result, Ok, Err, IsErrAnd}
use Rattle.names.specs.Finding.{found_of, number_for}
use Rattle.names.specs.Hashed.{buckets, mixed_by, hash_from, MixedIn, hash_of, hash_at, last_below, Hashed, lookup_is}
use Rattle.names.proofs.Same.{both_true, same-is}
use Rattle.names.proofs.Entries.{drop-tab, part_is, text_is}

-- ---- the hash of a word

mixed_small : (h x : ℕ) → mixed_by h x < 65536
mixed_small h x = mod-lt (h * 33 + x) (omega arith)

-- one byte more
pub mix_next : (word rest : List ℕ) (h k x : ℕ) → MixedIn word (x ∷ rest) h → k ≡ mixed_by h x → MixedIn word rest k
unfolding hash_from
mix_next word rest h k x m e = record { mixed = rw e m.mixed; small = rw e (mixed_small _ _) }

-- four bytes more
pub mix_four : (word rest : List ℕ) (h k a b c d : ℕ) → MixedIn word (a ∷ b ∷ c ∷ d ∷ rest) h → k ≡ mixed_by (mixed_by (mixed_by (mixed_by h a) b) c) d → MixedIn word rest k
unfolding hash_from
mix_four word rest h k a b c d m e = record { mixed = rw e m.mixed; small = rw e (mixed_small _ _) }

-- four bytes more, at the front of what is left
pub four_more : (word left : List ℕ) (h k : ℕ) → MixedIn word left h → 4 ≤ length left
    → k ≡ mixed_by (mixed_by (mixed_by (mixed_by h (get_or left 0 0)) (get_or left 1 0)) (get_or left 2 0)) (get_or left 3 0)
    → MixedIn word (take (length left - 4) (drop 4 left)) k
four_more word [] h k m q e = absurd (omega arith)
four_more word (a ∷ []) h k m q e = absurd (omega arith)
four_more word (a ∷ b ∷ []) h k m q e = absurd (omega arith)
four_more word (a ∷ b ∷ c ∷ []) h k m q e = absurd (omega arith)
four_more word (a ∷ b ∷ c ∷ d ∷ rest) h k m q e =
    let long : length (a ∷ b ∷ c ∷ d ∷ rest) - 4 ≡ length rest = omega arith in
    rw (long, take_all (length rest) rest (omega arith)) (mix_four word rest h k a b c d m e)

-- one byte more, of the bytes to come
pub byte_more : (word rest : List ℕ) (i h k : ℕ) → MixedIn word (drop i rest) h → i < length rest → k ≡ mixed_by h (get_or rest i 0) → MixedIn word (drop (i + 1) rest) k
byte_more word rest i h k m q e = mix_next word (drop (i + 1) rest) h k (get_or rest i 0) (rw (add-one i) (rw (drop-cons rest i 0 q) at m)) e

whole-mixed : (y x : ℕ) → mixed_by (y % 65536) x ≡ (y * 33 + x) % 65536
whole-mixed y x =
    let e : y * 33 + x ≡ (y % 65536 * 33 + x) + 65536 * (y / 65536 * 33) = omega (arith, div-add-mod' y 65536) in
    sym (ap (λ (v : ℕ). v % 65536) e ∙ add-mul-mod_self_left (y % 65536 * 33 + x) 65536 (y / 65536 * 33))

-- one sum mixes four bytes in: the fourth power of 33 is 6273 and 18 times 65536
pub four_sum : (h a b c d : ℕ) → (h * 6273 + ((a * 35937 + b * 1089) + (c * 33 + d))) % 65536 ≡ mixed_by (mixed_by (mixed_by (mixed_by h a) b) c) d
four_sum h a b c d =
    let two : mixed_by (mixed_by h a) b ≡ ((h * 33 + a) * 33 + b) % 65536 = whole-mixed (h * 33 + a) b in
    let three : mixed_by (mixed_by (mixed_by h a) b) c ≡ (((h * 33 + a) * 33 + b) * 33 + c) % 65536
    = ap (λ (v : ℕ). mixed_by v c) two ∙ whole-mixed ((h * 33 + a) * 33 + b) c in
    let four : mixed_by (mixed_by (mixed_by (mixed_by h a) b) c) d ≡ ((((h * 33 + a) * 33 + b) * 33 + c) * 33 + d) % 65536
    = ap (λ (v : ℕ). mixed_by v d) three ∙ whole-mixed (((h * 33 + a) * 33 + b) * 33 + c) d in
    let e : (((h * 33 + a) * 33 + b) * 33 + c) * 33 + d ≡ (h * 6273 + ((a * 35937 + b * 1089) + (c * 33 + d))) + 65536 * (h * 18) = omega arith in
    sym (four ∙ ap (λ (v : ℕ). v % 65536) e ∙ add-mul-mod_self_left (h * 6273 + ((a * 35937 + b * 1089) + (c * 33 + d))) 65536 (h * 18))

pub hash_is : (word : List ℕ) (h : ℕ) → MixedIn word [] h → (h % buckets ≡ hash_of word) × (h % buckets < buckets)
unfolding hash_of hash_from
hash_is word h m = (ap (λ (x : ℕ). x % buckets) m.mixed, mod-lt h (omega arith))

-- ---- the last entry below a place that has a hash

pub last-low : (es : List Entry) (h q : ℕ) → last_below es h q ≤ q
unfolding last_below
last-low es h zero = omega arith
last-low es h (suc i) = go (eqb (hash_at es i) h) (last-low es h i)
  where
    go : (t : Bool) → last_below es h i ≤ i → cond t (suc i) (last_below es h i) ≤ suc i
    go true k = omega arith
    go false k = omega arith

pub last-here : (es : List Entry) (h q : ℕ) → 0 < last_below es h q → hash_at es (last_below es h q - 1) ≡ h
unfolding last_below
last-here es h zero k = absurd (omega arith)
last-here es h (suc i) k = go (eqb (hash_at es i) h) refl (λ m. last-here es h i m) k
  where
    go : (t : Bool) → eqb (hash_at es i) h ≡ t → (0 < last_below es h i → hash_at es (last_below es h i - 1) ≡ h) → 0 < cond t (suc i) (last_below es h i)
        → hash_at es (cond t (suc i) (last_below es h i) - 1) ≡ h
    go true e again k = let f : suc i - 1 ≡ i = omega arith in ap (hash_at es) f ∙ eqb-true (hash_at es i) h e
    go false e again k = again k

abbrev pub is_text_lem : List Entry → ℕ → List ℕ → ℕ → Bool
is_text_lem es sort word i = is_of sort (get_or es i (entry 0 [])) && same_text_lem (get_or es i (entry 0 [])).text word

module _ (es : List Entry) (sort : ℕ) (word : List ℕ) where
  look_at : (i : ℕ) → i < length es → lookup (drop i es) sort word ≡ cond (is_text_lem es sort word i) (number (get_or es i (entry 0 [])).number) (lookup (drop (suc i) es) sort word)
  unfolding lookup
  look_at i q = ap (λ (r : List Entry). lookup r sort word) (drop-cons es i (entry 0 []) q)

  other-hash : (i : ℕ) → (hash_at es i ≡ hash_of word → ⊥) → is_text_lem es sort word i ≡ false
  other-hash i n = go (is_text_lem es sort word i) refl
    where
      go : (t : Bool) → is_text_lem es sort word i ≡ t → is_text_lem es sort word i ≡ false
      go true e = absurd (n (ap hash_of (same-is (get_or es i (entry 0 [])).text word (both_true (is_of sort (get_or es i (entry 0 []))) (same_text_lem (get_or es i (entry 0 [])).text word) e).1)))
      go false e = e

  -- between the two stands no such text
  skip : (q : ℕ) → q ≤ length es → lookup (drop (last_below es (hash_of word) q) es) sort word ≡ lookup (drop q es) sort word
  unfolding last_below
  skip zero k = refl
  skip (suc i) k = go (eqb (hash_at es i) (hash_of word)) refl (skip i (omega arith))
    where
      go : (t : Bool) → eqb (hash_at es i) (hash_of word) ≡ t → lookup (drop (last_below es (hash_of word) i) es) sort word ≡ lookup (drop i es) sort word
          → lookup (drop (cond t (suc i) (last_below es (hash_of word) i)) es) sort word ≡ lookup (drop (suc i) es) sort word
      go true e again = refl
      go false e again = again ∙ look_at i (omega arith) ∙ rw (other-hash i (eqb-false (hash_at es i) (hash_of word) e)) refl

  -- ---- the loop

  -- the entries from p on are looked at, and what they say is known
  pub record Chain (p : ℕ) (o : Option ℕ) : Type 0 where
    pub low : p ≤ length es
    pub here : 0 < p → hash_at es (p - 1) ≡ hash_of word
    pub found : lookup_is o ≡ lookup (drop p es) sort word

  pub chain_start : (p : ℕ) → p ≡ last_below es (hash_of word) (length es) → Chain p None
  unfolding lookup
  chain_start p e =
      record {
        low = rw e (last-low es (hash_of word) (length es));
        here = λ k. rw e (last-here es (hash_of word) (length es) (rw e at k));
        found = rw e (sym (skip (length es) (omega arith) ∙ ap (λ (r : List Entry). lookup r sort word) (drop_of_length-le es {i = length es} (omega arith))));
      }

  pub chain_next : (p i q : ℕ) (o : Option ℕ) (t : Bool) → Chain p o → i + 1 ≡ p → t ≡ is_text_lem es sort word i → q ≡ last_below es (hash_at es i) i
      → Chain q (cond t (Some (get_or es i (entry 0 [])).number) o)
  chain_next p i q o t c s e f =
      let lo = c.low in
      let back : p - 1 ≡ i = omega arith in
      let h : hash_at es i ≡ hash_of word = ap (hash_at es) (sym back) ∙ c.here (omega arith) in
      let g : q ≡ last_below es (hash_of word) i = f ∙ ap (λ (v : ℕ). last_below es v i) h in
      let b = last-low es (hash_of word) i in
      let up : suc i ≡ p = omega arith in
      record {
        low = omega arith;
        here = λ k. rw g (last-here es (hash_of word) i (rw g at k));
        found = choose t refl ∙ sym (look_at i (omega arith) ∙ rw (← e, up) refl) ∙ sym (skip i (omega arith)) ∙ sym (ap (λ (v : ℕ). lookup (drop v es) sort word) g);
      }
    where
      choose : (u : Bool) → t ≡ u → lookup_is (cond t (Some (get_or es i (entry 0 [])).number) o) ≡ cond t (number (get_or es i (entry 0 [])).number) (lookup (drop p es) sort word)
      choose true w = rw w refl
      choose false w = rw w c.found

  pub chain_end : (p : ℕ) (o : Option ℕ) → Chain p o → p ≡ 0 → lookup_is o ≡ lookup es sort word
  chain_end p o c e = c.found ∙ ap (λ (v : ℕ). lookup (drop v es) sort word) e

pub in_chain : (l : NameLanes) (names sort : ℕ) (word : List ℕ) (p : ℕ) (o : Option ℕ) → Chain (entries_of l names) sort word p o → 0 < p → p - 1 < names
in_chain l names sort word p o c k = let b = c.low in let e = tab-length names (entry_at l) in omega arith

-- ---- counting a sort

-- ---- counting a sort

pub record Counting (es : List Entry) (sort i count : ℕ) : Type 0 where
  pub counted : count_of sort es ≡ count + count_of sort (drop i es)
  pub few : count ≤ i

pub count-start : (es : List Entry) (sort : ℕ) → Counting es sort 0 0
count-start es sort = record { counted = omega arith; few = omega arith }

module _ (l : NameLanes) (names sort i count : ℕ) (c : Counting (entries_of l names) sort i count) where
  count_at : i < names → count_of sort (drop i (entries_of l names)) ≡ cond (is_of sort (entry_at l i)) 1 0 + count_of sort (drop (i + 1) (entries_of l names))
  unfolding count_of
  count_at q = rw (add-one i) (ap (count_of sort) (drop-tab names i (entry_at l) q))

  pub count-here : i < names → sort_of (get_or l.terms i 0) ≡ sort → (d : ℕ) → count + 1 ≡ d → Counting (entries_of l names) sort (i + 1) d
  count-here q e d f =
      let one : ◌≡◌ {A = ℕ} (cond (is_of sort (entry_at l i)) 1 0) 1 = rw (eq-eqb (sort_of (get_or l.terms i 0)) sort e) refl in
      let a = count_at q in
      let b = c.counted in
      let k = c.few in
      record { counted = omega arith; few = omega arith }

  pub count-other : i < names → (sort_of (get_or l.terms i 0) ≡ sort → ⊥) → (d : ℕ) → count ≡ d → Counting (entries_of l names) sort (i + 1) d
  count-other q e d f =
      let nil : ◌≡◌ {A = ℕ} (cond (is_of sort (entry_at l i)) 1 0) 0 = rw (ne_eqb (sort_of (get_or l.terms i 0)) sort e) refl in
      let a = count_at q in
      let b = c.counted in
      let k = c.few in
      record { counted = omega arith; few = omega arith }

  pub count-end : names ≤ i → count ≡ count_of sort (entries_of l names)
  unfolding count_of
  count-end q =
      let z : count_of sort (drop i (entries_of l names)) ≡ 0 = ap (count_of sort) (drop_of_length-le (entries_of l names) {i = i} (rw (tab-length names (entry_at l)) q)) in
      let b = c.counted in
      omega arith

-- ---- an entry by its place

module _ (l : NameLanes) (names : ℕ) (h : Listing l names) (i : ℕ) (q : i < names) where
  pub entry-at : get_or (entries_of l names) i (entry 0 []) ≡ entry_at l i
  entry-at = get_d_tab names (entry_at l) i (entry 0 []) q

  pub entry-is : (sort start : ℕ) (word : List ℕ) (t : Bool) → sort_of (get_or l.terms i 0) ≡ sort → start ≡ start_of l.ends i
      → t ≡ same_text_lem (take (get_or l.ends i 0 - start) (drop start l.text)) word → t ≡ (is_of sort (entry_at l i) && same_text_lem (entry_at l i).text word)
  entry-is sort start word t e f g =
      rw (eq-eqb (sort_of (get_or l.terms i 0)) sort e, text_is l names h i q, ← f) (g ∙ ap (λ (x : List ℕ). same_text_lem x word) (part_is l.text start (get_or l.ends i 0) (let r = h.rise i q in omega arith)))

  -- the loop's step, as the code has it
  pub chain_on : (sort : ℕ) (word : List ℕ) (p on : ℕ) (o : Option ℕ) (t : Bool) → Chain (entries_of l names) sort word p o → i + 1 ≡ p
      → t ≡ (is_of sort (entry_at l i) && same_text_lem (entry_at l i).text word) → on ≡ last_below (entries_of l names) (hash_at (entries_of l names) i) i
      → Chain (entries_of l names) sort word on (cond t (Some (get_or l.terms i 0)) o)
  chain_on sort word p on o t c s e f =
      let es = entries_of l names in
      subst (λ (v : ℕ). Chain es sort word on (cond t (Some v) o)) (ap (λ (x : Entry). x.number) entry-at)
      (chain_next es sort word p i on o t c s (e ∙ sym (ap (λ (x : Entry). is_of sort x && same_text_lem x.text word) entry-at)) f)

-- ---- the number, or the next

module _ (es : List Entry) (sort : ℕ) (word : List ℕ) (k : known es sort word ≡ lookup es sort word) where
  -- what is found, or what is told for none
  pub number_or : (o : Option ℕ) (r : Result ℕ ℕ) (P : ℕ → Type 0) → lookup_is o ≡ lookup es sort word → ((n : ℕ) → P n → n ≡ next_of es sort)
      → MatchOption o (IsErrAnd r P) (λ n. r ≡ Ok n) → r ≡ number_for es sort word
  number_or (Some n) r P e next h = h ∙ sym (ap (λ (x : Lookup). found_of x (next_of es sort)) (k ∙ sym e))
  number_or None (Ok n) P e next h = absurd h
  number_or None (Err n) P e next h = ap Err (next n h) ∙ sym (ap (λ (x : Lookup). found_of x (next_of es sort)) (k ∙ sym e))

-- ---- one entry more

module _ (es : List Entry) (e : Entry) where
  abbrev longer : List Entry
  longer = es ++ (e ∷ [])

  hash_before : (i : ℕ) → i < length es → hash_at longer i ≡ hash_at es i
  hash_before i q = ap (λ (x : Entry). hash_of x.text) (get_or-append es (e ∷ []) (entry 0 []) i q)

  hash_new : hash_at longer (length es) ≡ hash_of e.text
  hash_new = ap (λ (x : Entry). hash_of x.text) (get_or-append_seam es e [] (entry 0 []))

  last-before : (h q : ℕ) → q ≤ length es → last_below longer h q ≡ last_below es h q
  unfolding last_below
  last-before h zero k = refl
  last-before h (suc i) k = rw (hash_before i (omega arith), last-before h i (omega arith)) refl

  length-longer : length longer ≡ suc (length es)
  length-longer = length-append es (e ∷ []) ∙ omega arith

  module _ (heads next : List ℕ) (s : Hashed es heads next) (small : length es < 512) (hash : ℕ) (is : hash ≡ hash_of e.text) (low : hash < buckets) where
    heads_more : (h : ℕ) → h < buckets → get_or (set heads hash (length es + 1)) h 0 ≡ last_below longer h (suc (length es))
    unfolding last_below
    heads_more h k = go (eqb hash h) refl
      where
        go : (t : Bool) → eqb hash h ≡ t → get_or (set heads hash (length es + 1)) h 0 ≡ cond (eqb (hash_at longer (length es)) h) (suc (length es)) (last_below longer h (length es))
        go true q =
            let f = eqb-true hash h q in
            rw (hash_new, ← is, q, ← f) (get_or-set_same heads hash (length es + 1) 0 (rw s.heads_long low) ∙ add-one (length es))
        go false q =
            rw (hash_new, ← is, q, last-before h (length es) (omega arith))
            (get_or-set_other heads hash h (length es + 1) 0 (λ x. eqb-false hash h q (sym x)) ∙ s.heads_are h k)

    next_more : (i : ℕ) → i < suc (length es) → get_or (set next (length es) (get_or heads hash 0)) i 0 ≡ last_below longer (hash_at longer i) i
    next_more i k = go (eqb i (length es)) refl
      where
        go : (t : Bool) → eqb i (length es) ≡ t → get_or (set next (length es) (get_or heads hash 0)) i 0 ≡ last_below longer (hash_at longer i) i
        go true q =
            let f = eqb-true i (length es) q in
            rw (f, hash_new, ← is, last-before hash (length es) (omega arith))
            (get_or-set_same next (length es) (get_or heads hash 0) 0 (rw s.next_long small) ∙ s.heads_are hash low)
        go false q =
            let f = eqb-false i (length es) q in
            let b : i < length es = omega arith in
            rw (hash_before i b, last-before (hash_at es i) i (omega arith))
            (get_or-set_other next (length es) i (get_or heads hash 0) 0 f ∙ s.next_are i b)

    pub hashed_more : Hashed longer (set heads hash (length es + 1)) (set next (length es) (get_or heads hash 0))
    hashed_more =
        record {
          heads_long = length-set heads hash (length es + 1) ∙ s.heads_long;
          next_long = length-set next (length es) (get_or heads hash 0) ∙ s.next_long;
          heads_are = λ h k. heads_more h k ∙ sym (ap (last_below longer h) length-longer);
          next_are = λ i k. next_more i (rw length-longer at k);
        }

pub hashed_start : Hashed [] (replicate 512 0) (replicate 512 0)
unfolding last_below
hashed_start =
    record {
      heads_long = length-replicate {A = ℕ} 512 0;
      next_long = length-replicate {A = ℕ} 512 0;
      heads_are = λ h k. get_or-replicate {A = ℕ} 512 h 0 0 k;
      next_are = λ i k. absurd (omega arith);
    }

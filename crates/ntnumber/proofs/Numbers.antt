-- What a term's number is, by what entering answers; and the list as it stands while a text is laid behind it. Assumes nothing.
use mathlib.Core.Path.{◌≡◌, refl, sym, ap, ◌∙◌}
use mathlib.Core.Bool.{Bool, true, false, cond, ◌&&◌, false≢true, and-false}
use mathlib.Core.List.{List, [], ◌∷◌, ◌++◌, append_assoc}
use Prim.Native.Nat.{ℕ, ◌+◌, ◌-◌, ◌≤◌, ◌<◌}
use native.Mathlib.Omega.{arith}
use lib.Dec.{eqb, leb, ltb}
use lib.ListN.{length, get_or, take, drop}
use lib.Seq.{slice, take-take, take_at, drop_at, length-take-le}
use borrow.Author.Tests.{eqb-true, eqb-false, ltb-true, leb-true}
use Rattle.utf8.proofs.Seeing.{drop-take}
use Rattle.ground.proofs.Tab.{tab-length, tab-ext}
use Rattle.term.specs.Term.{sort_of}
use Rattle.field.specs.Numbers.{written}
use Rattle.std.specs.Prelude.{Option, Ok, Err}
use Rattle.names.specs.Names.{Entry, entry, NameLanes, lanes_of, start_of, text_at_lem, entry_at, entries_of}
use Rattle.names.specs.Entering.{Entered, Listed, New, Full, Listing, Lookup, same_text_lem, is_of, lookup, lookup_five, five_number, known, or_else, next_of, bytes_of, has_room_lem, answer_of, entered_by, entries_after, count_after}
use Rattle.names.specs.Finding.{found_of, number_for}
use Rattle.names.specs.Hashed.{lookup_is}
use Rattle.names.proofs.Same.{both_true, same-is, is_same, not_same}
use Rattle.names.proofs.Entries.{text_is, end_below, bytes_are}
use Rattle.names.proofs.Made.{Small, sort-of_next}
use Rattle.ntline.specs.declared.lines.Span.{Span}
use Rattle.ntline.specs.Kinds.{sort_number}
use Rattle.ntline.specs.Grammar.{Term}
use Rattle.ntline.specs.Lines.{Source, meant_by}
use Rattle.nttext.specs.Texts.{text_of_term, sort_of_term}
use Rattle.nttext.specs.Standing.{Stands, LaidIn}
use Rattle.ntnumber.specs.Numbering.{Told, numbered, found_number, numbered_of, LyingAs, ListAsLong, Numbering}

-- ---- a term's sort

pub meant_sort : (s : Source) → s.sort ≤ 2 → sort_of_term (meant_by s) ≡ s.sort
unfolding meant_by sort_of_term
meant_sort s h = go (eqb s.sort 0) (eqb s.sort 1) refl refl
  where
    go : (t u : Bool) → eqb s.sort 0 ≡ t → eqb s.sort 1 ≡ u → sort_of_term (meant_by s) ≡ s.sort
    go true u p q = rw p (sym (eqb-true s.sort 0 p))
    go false true p q = rw (p, q) (sym (eqb-true s.sort 1 q))
    go false false p q = let a = eqb-false s.sort 0 p in let c = eqb-false s.sort 1 q in rw (p, q) (omega arith)

module _ (b : List ℕ) (end : ℕ) (t : Span) (m : Term) (s : Stands b end t m) where
  pub stands-sort : sort_number t.sort ≡ sort_of_term m
  stands-sort = s.span_is.sort_is ∙ sym (ap sort_of_term (sym s.means) ∙ meant_sort _ s.is_term)

  pub stands-few : sort_of_term m ≤ 2
  stands-few = let e = stands-sort in let f = s.span_is.sort_is in let g = s.is_term in omega arith

-- ---- texts compared from the other side

pub same-flip : (a b : List ℕ) → same_text_lem a b ≡ same_text_lem b a
same-flip a b = go (same_text_lem b a) refl
  where
    go : (t : Bool) → same_text_lem b a ≡ t → same_text_lem a b ≡ t
    go true e = is_same a b (sym (same-is b a e))
    go false e = not_same a b (λ q. false≢true (sym e ∙ is_same b a (sym q)))

-- ---- the sort of a number answered

pub lookup-sort : (es : List Entry) (sort : ℕ) (word : List ℕ) (n : ℕ) → lookup es sort word ≡ Lookup.number n → sort_of n ≡ sort
unfolding lookup
lookup-sort [] sort word n h = absurd (let z : ◌≡◌ {A = ℕ} 0 1 = cc in omega arith)
lookup-sort (e ∷ es) sort word n h = go (is_of sort e && same_text_lem e.text word) refl (λ k. lookup-sort es sort word n k) h
  where
    go : (t : Bool) → is_of sort e && same_text_lem e.text word ≡ t → (lookup es sort word ≡ Lookup.number n → sort_of n ≡ sort)
        → cond t (Lookup.number e.number) (lookup es sort word) ≡ Lookup.number n → sort_of n ≡ sort
    go true q again k = let f : e.number ≡ n = cc in ap sort_of (sym f) ∙ eqb-true (sort_of e.number) sort (both_true (is_of sort e) (same_text_lem e.text word) q).0
    go false q again k = again k

five_sort : (sort : ℕ) (word : List ℕ) (n : ℕ) → lookup_five sort word ≡ Lookup.number n → sort_of n ≡ sort
unfolding lookup_five
five_sort sort word n h = go (eqb sort 0 && ltb (five_number word) 5) refl h
  where
    go : (t : Bool) → eqb sort 0 && ltb (five_number word) 5 ≡ t → cond t (Lookup.number (five_number word)) Lookup.none ≡ Lookup.number n → sort_of n ≡ sort
    go true q k =
        let f : five_number word ≡ n = cc in
        let p = both_true (eqb sort 0) (ltb (five_number word) 5) q in
        let small = ltb-true (five_number word) 5 p.1 in
        let s = eqb-true sort 0 p.0 in
        omega arith
    go false q k = absurd (let z : ◌≡◌ {A = ℕ} 0 1 = cc in omega arith)

known-sort : (es : List Entry) (sort : ℕ) (word : List ℕ) (n : ℕ) → known es sort word ≡ Lookup.number n → sort_of n ≡ sort
known-sort es sort word n h = go (lookup_five sort word) refl
  where
    go : (r : Lookup) → lookup_five sort word ≡ r → sort_of n ≡ sort
    go (Lookup.number v) q = five_sort sort word n (q ∙ sym (ap (λ (x : Lookup). or_else x (lookup es sort word)) q) ∙ h)
    go Lookup.none q = lookup-sort es sort word n (sym (ap (λ (x : Lookup). or_else x (lookup es sort word)) q) ∙ h)

answered-sort : (entries bytes : ℕ) (es : List Entry) (sort : ℕ) (word : List ℕ) (names : ℕ) → Small es → sort ≤ 2
    → (numbered_of (entered_by entries bytes es sort word) names).full ≡ false → sort_of (numbered_of (entered_by entries bytes es sort word) names).number ≡ sort
unfolding entered_by
answered-sort entries bytes es sort word names small h = go (known es sort word) refl (has_room_lem entries bytes es word)
  where
    go : (k : Lookup) → known es sort word ≡ k → (t : Bool)
        → (numbered_of (answer_of k t (next_of es sort)) names).full ≡ false → sort_of (numbered_of (answer_of k t (next_of es sort)) names).number ≡ sort
    go (Lookup.number n) q t f = known-sort es sort word n q
    go Lookup.none q true f = sort-of_next es sort small h
    go Lookup.none q false f = absurd (false≢true (sym f))

-- ---- a term's number, once it is known what entering answers

module _ (l : NameLanes) (names : ℕ) (h : Listing l names) (m : NameLanes) (t : Term) (few : sort_of_term t ≤ 2) (long : ListAsLong l m) where
  abbrev es : List Entry
  es = entries_of l names

  small : Small (entries_of l names)
  small = let e = tab-length names (entry_at l) in let f = h.few in let r = h.room in omega arith

  pub numbering_by : (e : Entered) → e ≡ entered_by (length l.terms) (length l.text) (entries_of l names) (sort_of_term t) (text_of_term t)
      → (r : Told) → r ≡ numbered_of e names → Listing m (count_after e names) → entries_of m (count_after e names) ≡ entries_after e (entries_of l names) (text_of_term t)
      → Numbering l names m t r
  numbering_by e a r q g w = record {
    answer = e;
    answer_is = a;
    number_is = q;
    entries_are = w;
    listing = rw q (counted e g);
    as_long = long;
    sort_is = rw (q, a) (answered-sort (length l.terms) (length l.text) es (sort_of_term t) (text_of_term t) names small few);
  }
    where
      counted : (e : Entered) → Listing m (count_after e names) → Listing m (numbered_of e names).names
      counted (Listed n) g = g
      counted (New n) g = g
      counted Full g = g

-- ---- bytes behind the last text do not matter

module _ (l : NameLanes) (names : ℕ) (h : Listing l names) (text' : List ℕ) (long : length text' ≡ length l.text)
    (front : take (start_of l.ends names) text' ≡ take (start_of l.ends names) l.text) where
  abbrev l' : NameLanes
  l' = lanes_of l.terms l.ends text'

  pub kept-listing : Listing (lanes_of l.terms l.ends text') names
  kept-listing = record {
    equal = h.equal;
    few = h.few;
    short = rw long h.short;
    room = h.room;
    rise = h.rise;
    last = rw long h.last;
    terms_zero = h.terms_zero;
    ends_zero = h.ends_zero;
  }

  shorter_front : (e : ℕ) → e ≤ start_of l.ends names → take e text' ≡ take e l.text
  shorter_front e k = sym (take-take e (start_of l.ends names) text' k) ∙ ap (take e) front ∙ take-take e (start_of l.ends names) l.text k

  kept_entry : (i : ℕ) → i < names → entry_at (lanes_of l.terms l.ends text') i ≡ entry_at l i
  kept_entry i k =
      let t : text_at_lem l.ends text' i ≡ text_at_lem l.ends l.text i
      = text_is l' names kept-listing i k ∙ ap (drop (start_of l.ends i)) (shorter_front (get_or l.ends i 0) (end_below l names h i k)) ∙ sym (text_is l names h i k) in
      ap (entry (get_or l.terms i 0)) t

  pub kept-entries : entries_of (lanes_of l.terms l.ends text') names ≡ entries_of l names
  kept-entries = tab-ext names (entry_at l') (entry_at l) kept_entry

-- ---- the three ways to a number

take-written : (b : List ℕ) (at : ℕ) (v : List ℕ) → at ≤ length b → take (length v) (drop at (written b at v)) ≡ v
unfolding written
take-written b at v h =
    ap (λ (l : List ℕ). take (length v) (drop at l)) (append_assoc (take at b) v (drop (at + length v) b))
    ∙ ap (take (length v)) (drop_at (take at b) (v ++ drop (at + length v) b) at (length-take-le at b h))
    ∙ take_at v (drop (at + length v) b) (length v) refl

found-known : (k : Lookup) (next n : ℕ) → Ok n ≡ found_of k next → k ≡ Lookup.number n
found-known (Lookup.number v) next n e = let f : n ≡ v = cc in ap Lookup.number (sym f)
found-known Lookup.none next n e = absurd (let z : ◌≡◌ {A = ℕ} 0 1 = cc in omega arith)

found-missing : (k : Lookup) (next n : ℕ) → Err n ≡ found_of k next → (k ≡ Lookup.none) × (n ≡ next)
found-missing (Lookup.number v) next n e = absurd (let z : ◌≡◌ {A = ℕ} 0 1 = cc in omega arith)
found-missing Lookup.none next n e = let f : n ≡ next = cc in (refl, f)

module _ (l : NameLanes) (names : ℕ) (h : Listing l names) (t : Term) (few : sort_of_term t ≤ 2) (text' : List ℕ) (fits : Bool) (to from : ℕ)
    (start : from ≡ start_of l.ends names) (laid : LaidIn (text_of_term t) l.text text' from fits to) where
  abbrev word : List ℕ
  word = text_of_term t

  abbrev sort : ℕ
  sort = sort_of_term t

  abbrev seen-es : List Entry
  seen-es = entries_of l names

  abbrev k : NameLanes
  k = lanes_of l.terms l.ends text'

  front_kept : take (start_of l.ends names) text' ≡ take (start_of l.ends names) l.text
  front_kept = rw start at laid.before_is

  pub laid-listing : Listing (lanes_of l.terms l.ends text') names
  laid-listing = kept-listing l names h text' laid.as_long front_kept

  pub laid-entries : entries_of (lanes_of l.terms l.ends text') names ≡ entries_of l names
  laid-entries = kept-entries l names h text' laid.as_long front_kept

  long_as : ListAsLong l (lanes_of l.terms l.ends text')
  long_as = record { same_terms = refl; same_ends = refl; same_text = laid.as_long }

  bytes-room : leb (bytes_of (entries_of l names) + length word) (length l.text) ≡ fits
  bytes-room = rw (bytes_are l names h, ← start) (sym laid.fits_is)

  -- its text does not fit: only what is known has a number
  no_room : fits ≡ false → has_room_lem (length l.terms) (length l.text) (entries_of l names) word ≡ false
  no_room e = rw (bytes-room, e) (and-false (ltb (length (entries_of l names)) (length l.terms)))

  pub numbered-unlaid : fits ≡ false → (o : Option ℕ) → lookup_is o ≡ known (entries_of (lanes_of l.terms l.ends text') names) (sort_of_term t) (text_of_term t)
      → Numbering l names (lanes_of l.terms l.ends text') t (found_number (lookup_is o) names)
  unfolding entered_by
  numbered-unlaid e o s = go (known seen-es sort word) refl
    where
      q : found_number (lookup_is o) names ≡ found_number (known (entries_of k names) (sort_of_term t) (text_of_term t)) names
      q = ap (λ (x : Lookup). found_number x names) s

      go : (x : Lookup) → known seen-es sort word ≡ x → Numbering l names k t (found_number (lookup_is o) names)
      go (Lookup.number n) p =
          numbering_by l names h k t few long_as (Listed n) (rw p refl) (found_number (lookup_is o) names) (q ∙ rw (laid-entries, p) refl) laid-listing laid-entries
      go Lookup.none p =
          numbering_by l names h k t few long_as Full (rw (p, no_room e) refl) (found_number (lookup_is o) names) (q ∙ rw (laid-entries, p) refl) laid-listing laid-entries

  pub laid-after : fits ≡ true → from ≤ to
  laid-after fit = let e = laid.to_is fit in omega arith

  pub laid-within : fits ≡ true → to ≤ length text'
  laid-within fit =
      let e = laid.to_is fit in
      let f = laid.as_long in
      let g = leb-true (from + length word) (length l.text) (sym laid.fits_is ∙ fit) in
      omega arith

  -- it fits, and lies behind the last
  module _ (yes : fits ≡ true) (size : ℕ) (is-size : size ≡ to - from) where
    inside : from + length word ≤ length l.text
    inside = leb-true (from + length word) (length l.text) (sym laid.fits_is ∙ yes)

    word_size : size ≡ length word
    word_size = let e = laid.to_is yes in omega arith

    pub laid-room : from + size ≤ length text'
    laid-room = let e = laid.as_long in let f = inside in let g = word_size in omega arith

    pub laid-room_start : start_of l.ends names + size ≤ length text'
    laid-room_start = let e = laid-room in omega arith

    pub laid_word : take size (drop from text') ≡ text_of_term t
    laid_word = rw (word_size, laid.bytes_are yes) (take-written l.text from word (let f = inside in omega arith))

    module _ (sort' : ℕ) (same-sort : sort' ≡ sort_of_term t) where
      pub numbered-listed : (n : ℕ) → Ok n ≡ number_for (entries_of (lanes_of l.terms l.ends text') names) sort' (take size (drop from text'))
          → (r : Told) → r ≡ numbered false n names → Numbering l names (lanes_of l.terms l.ends text') t r
      unfolding entered_by
      numbered-listed n e r q =
          let f : Ok n ≡ number_for (entries_of l names) sort word = rw (same-sort, laid_word, laid-entries) at e in
          let p = found-known (known (entries_of l names) sort word) (next_of (entries_of l names) sort) n f in
          numbering_by l names h k t few long_as (Listed n) (rw p refl) r q laid-listing laid-entries

      pub numbered-entered : (n : ℕ) → Err n ≡ number_for (entries_of (lanes_of l.terms l.ends text') names) sort' (take size (drop from text'))
          → (m : NameLanes) (r : Told) → ListAsLong (lanes_of l.terms l.ends text') m → LyingAs (lanes_of l.terms l.ends text') m names n size r → Numbering l names m t r
      unfolding entered_by
      numbered-entered n e m r g a =
          let f : Err n ≡ number_for (entries_of l names) sort word = rw (same-sort, laid_word, laid-entries) at e in
          let p = found-missing (known (entries_of l names) sort word) (next_of (entries_of l names) sort) n f in
          let room : has_room_lem (length l.terms) (length l.text) (entries_of l names) word ≡ ltb names (length l.terms)
          = rw (bytes-room, yes, tab-length names (entry_at l)) (and-true (ltb names (length l.terms))) in
          let is : a.answer ≡ entered_by (length l.terms) (length l.text) (entries_of l names) sort word
          = a.lying.answer ∙ by_room (ltb names (length l.terms)) room p in
          numbering_by l names h m t few (long-on g) a.answer is r a.answer_is a.lying.listing (a.lying.entries ∙ same_after a.answer)
        where
          and-true : (t : Bool) → t && true ≡ t
          and-true true = refl
          and-true false = refl

          by_room : (t : Bool) → has_room_lem (length l.terms) (length l.text) (entries_of l names) word ≡ t → (known (entries_of l names) sort word ≡ Lookup.none) × (n ≡ next_of (entries_of l names) sort)
              → cond t (New n) Full ≡ answer_of (known (entries_of l names) sort word) (has_room_lem (length l.terms) (length l.text) (entries_of l names) word) (next_of (entries_of l names) sort)
          by_room true q p = rw (p.0, q, p.1) refl
          by_room false q p = rw (p.0, q) refl

          long-on : ListAsLong k m → ListAsLong l m
          long-on g = record { same_terms = g.same_terms; same_ends = g.same_ends; same_text = g.same_text ∙ laid.as_long }

          lies : slice (start_of l.ends names) (start_of l.ends names + size) text' ≡ word
          lies = rw (← start) (drop-take from size text' ∙ laid_word)

          same_after : (x : Entered)
              → entries_after x (entries_of k names) (slice (start_of l.ends names) (start_of l.ends names + size) text') ≡ entries_after x (entries_of l names) word
          same_after x = rw (laid-entries, lies) refl

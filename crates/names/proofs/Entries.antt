-- The entries that lanes hold: one by one, and with one more behind the last. Assumes nothing.
use mathlib.Core.Path.{◌≡◌, refl, sym, ap, ◌∙◌}
use mathlib.Core.Bool.{Bool, true, false, cond}
use mathlib.Core.List.{List, [], ◌∷◌, ◌++◌, append_assoc}
use Prim.Native.Nat.{ℕ, zero, suc, ◌+◌, ◌-◌, ◌≤◌, ◌<◌}
use native.Mathlib.Nat.{zero-add, sub-zero, zero-sub, suc-sub-suc}
use native.Mathlib.Numerals.{add-one}
use native.Mathlib.Omega.{arith}
use lib.Dec.{eqb, leb}
use lib.ListN.{length, get_or, set, take, drop, replicate, length-set, length-drop, take-append-drop}
use lib.Seq.{slice, paste, length-slice, drop-cons, drop-drop, drop-set-lt, drop_at, get_or-set_same, get_or-set_other, length-paste, length_paste_head, take-paste, drop-paste, take-append-le, take-take, length-take-le}
use borrow.Author.Tests.{le-leb, lt-leb, lt-ltb, le-ltb, eqb-true, eqb-false}
use Rattle.std.proofs.lemmas.List.{drop-take}
use Rattle.ground.specs.Lists.{tab}
use Rattle.ground.proofs.Tab.{tab-length, tab-ext, get_d_tab}
use Rattle.names.specs.Names.{Entry, entry, NameLanes, lanes_of, start_of, ends_fit, text_at_lem, entry_at, entries_of}
use Rattle.names.specs.Entering.{New, Full, Listing, bytes_of}
use Rattle.names.specs.Finding.{appended, Lying}

-- ---- lists

-- a part of a lane, as code takes it
pub part_is : (l : List ℕ) (from to : ℕ) → from ≤ to → take (to - from) (drop from l) ≡ slice from to l
part_is l from to h = let k : from + (to - from) ≡ to = omega arith in sym (drop-take from (to - from) l) ∙ ap (λ (t : ℕ). slice from t l) k

pub tab-snoc : {A : Type 0} (n : ℕ) (f : ℕ → A) → tab (suc n) f ≡ tab n f ++ (f n ∷ [])
unfolding tab
tab-snoc zero f = refl
tab-snoc (suc n) f = ap (λ (l : List _). f zero ∷ l) (tab-snoc n (λ i. f (suc i)))

pub drop-tab : {A : Type 0} (n i : ℕ) (f : ℕ → A) → i < n → drop i (tab n f) ≡ f i ∷ drop (suc i) (tab n f)
drop-tab n i f h =
    drop-cons (tab n f) i (f i) (rw (tab-length n f) h) ∙ ap (λ (x : _). x ∷ drop (suc i) (tab n f)) (get_d_tab n f i (f i) h)

drop-zeros : (m k : ℕ) → ◌≡◌ {A = List ℕ} (drop m (replicate k 0)) (replicate (k - m) 0)
drop-zeros zero k = ap (λ (n : ℕ). replicate n 0) (sym (sub-zero k))
drop-zeros (suc m) zero = ap (λ (n : ℕ). replicate n 0) (sym (zero-sub (suc m)))
drop-zeros (suc m) (suc k) = drop-zeros m k ∙ ap (λ (n : ℕ). replicate n 0) (sym (suc-sub-suc k m))

-- zeros from n on are zeros from n + m on
zeros_on : (l : List ℕ) (n m : ℕ) → drop n l ≡ replicate (length l - n) 0 → drop (n + m) l ≡ replicate (length l - (n + m)) 0
zeros_on l n m h =
    let e : length l - n - m ≡ length l - (n + m) = omega arith in
    sym (drop-drop m n l) ∙ ap (drop m) h ∙ drop-zeros m (length l - n) ∙ ap (λ (k : ℕ). replicate k 0) e

-- ---- where a text begins

pub start_zero : (ends : List ℕ) (i : ℕ) → i ≡ 0 → 0 ≡ start_of ends i
unfolding start_of
start_zero ends i e = rw e refl

pub start_next : (ends : List ℕ) (i : ℕ) → (i ≡ 0 → ⊥) → get_or ends (i - 1) 0 ≡ start_of ends i
unfolding start_of
start_next ends zero h = absurd (h refl)
start_next ends (suc i) h = let e : suc i - 1 ≡ i = omega arith in ap (λ (k : ℕ). get_or ends k 0) e

-- ---- an entry whose ends fit

module _ (ends text : List ℕ) (i : ℕ) where
  pub text-fits : start_of ends i ≤ get_or ends i 0 → get_or ends i 0 ≤ length text → text_at_lem ends text i ≡ slice (start_of ends i) (get_or ends i 0) text
  unfolding text_at_lem
  text-fits h k = rw (le-leb (start_of ends i) (get_or ends i 0) h, le-leb (get_or ends i 0) (length text) k) refl

  pub text-falls : get_or ends i 0 < start_of ends i → text_at_lem ends text i ≡ []
  unfolding text_at_lem
  text-falls h = rw (lt-leb (start_of ends i) (get_or ends i 0) h) refl

  pub text-past : length text < get_or ends i 0 → text_at_lem ends text i ≡ []
  unfolding text_at_lem
  text-past h = go (leb (start_of ends i) (get_or ends i 0)) refl
    where
      go : (t : Bool) → leb (start_of ends i) (get_or ends i 0) ≡ t → cond (ends_fit ends text i) (slice (start_of ends i) (get_or ends i 0) text) [] ≡ []
      go true e = rw (e, lt-leb (get_or ends i 0) (length text) h) refl
      go false e = rw e refl

-- ---- a listing

module _ (l : NameLanes) (names : ℕ) (h : Listing l names) where
  -- an entry's end is at most where any later one begins
  ends-below : (n : ℕ) → n ≤ names → start_of l.ends n ≤ length l.text → (i : ℕ) → i < n → get_or l.ends i 0 ≤ start_of l.ends n
  unfolding start_of
  ends-below zero k b i q = absurd (omega arith)
  ends-below (suc n) k b i q = go (eqb i n) refl (λ m. ends-below n (omega arith) (let r = h.rise n (omega arith) in omega arith) i m)
    where
      go : (t : Bool) → eqb i n ≡ t → (i < n → get_or l.ends i 0 ≤ start_of l.ends n) → get_or l.ends i 0 ≤ get_or l.ends n 0
      go true e again = let f = eqb-true i n e in rw f (omega arith)
      go false e again = let f = eqb-false i n e in let r = h.rise n (omega arith) in let s = again (omega arith) in omega arith

  pub end_below : (i : ℕ) → i < names → get_or l.ends i 0 ≤ start_of l.ends names
  end_below i q = ends-below names (omega arith) h.last i q

  pub end_within : (i : ℕ) → i < names → get_or l.ends i 0 ≤ length l.text
  end_within i q = let b = end_below i q in let t = h.last in omega arith

  pub text_is : (i : ℕ) → i < names → text_at_lem l.ends l.text i ≡ slice (start_of l.ends i) (get_or l.ends i 0) l.text
  text_is i q = text-fits l.ends l.text i (h.rise i q) (end_within i q)

  bytes-append : (es fs : List Entry) → bytes_of (es ++ fs) ≡ bytes_of es + bytes_of fs
  unfolding bytes_of
  bytes-append [] fs = sym (zero-add (bytes_of fs))
  bytes-append (e ∷ es) fs = let r = bytes-append es fs in omega arith

  bytes_below : (n : ℕ) → n ≤ names → bytes_of (entries_of l n) ≡ start_of l.ends n
  unfolding bytes_of start_of tab
  bytes_below zero k = refl
  bytes_below (suc n) k =
      let last_one : length (text_at_lem l.ends l.text n) ≡ get_or l.ends n 0 - start_of l.ends n
      = ap length (text_is n (omega arith)) ∙ length-slice (start_of l.ends n) (get_or l.ends n 0) l.text (end_within n (omega arith)) in
      let r = h.rise n (omega arith) in
      let again = bytes_below n (omega arith) in
      ap bytes_of (tab-snoc n (entry_at l)) ∙ bytes-append (entries_of l n) (entry_at l n ∷ []) ∙ omega arith

  -- the texts fill the lane up to the last end
  pub bytes_are : bytes_of (entries_of l names) ≡ start_of l.ends names
  bytes_are = bytes_below names (omega arith)

-- ---- one more behind the last

module _ (l : NameLanes) (names n : ℕ) (word : List ℕ) (size : ℕ) (h : Listing l names) (free : names < length l.terms)
    (enough : size ≤ length word) (room : start_of l.ends names + size ≤ length l.text) where
  abbrev from : ℕ
  from = start_of l.ends names

  abbrev m : NameLanes
  m = appended l names n word size

  open_end : names < length l.ends
  open_end = let e = h.equal in omega arith

  start_same : (i : ℕ) → i ≤ names → start_of m.ends i ≡ start_of l.ends i
  unfolding start_of
  start_same zero k = refl
  start_same (suc i) k = get_or-set_other l.ends names i (from + size) 0 (λ e. omega arith)

  end_same : (i : ℕ) → i < names → get_or m.ends i 0 ≡ get_or l.ends i 0
  end_same i k = get_or-set_other l.ends names i (from + size) 0 (λ e. omega arith)

  end_new : get_or m.ends names 0 ≡ from + size
  end_new = get_or-set_same l.ends names (from + size) 0 open_end

  text-long : length m.text ≡ length l.text
  text-long = length-paste l.text from word size room enough

  front_same : (e : ℕ) → e ≤ from → take e m.text ≡ take e l.text
  front_same e k =
      take-append-le e (take from l.text ++ take size word) (drop (from + size) l.text) (let p = length_paste_head l.text from word size (omega arith) enough in omega arith)
      ∙ take-append-le e (take from l.text) (take size word) (rw (length-take-le from l.text (omega arith)) k)
      ∙ take-take e from l.text k

  entry-same : (i : ℕ) → i < names → entry_at m i ≡ entry_at l i
  entry-same i k =
      let b = end_below l names h i k in
      let t : text_at_lem m.ends m.text i ≡ text_at_lem l.ends l.text i
      = text-fits m.ends m.text i (rw (start_same i (omega arith), end_same i k) (h.rise i k)) (rw (end_same i k, text-long) (end_within l names h i k))
      ∙ rw (start_same i (omega arith), end_same i k) (ap (drop (start_of l.ends i)) (front_same (get_or l.ends i 0) b))
      ∙ sym (text_is l names h i k) in
      let e : get_or m.terms i 0 ≡ get_or l.terms i 0 = get_or-set_other l.terms names i n 0 (λ e. omega arith) in
      ap (λ (v : ℕ). entry v (text_at_lem m.ends m.text i)) e ∙ ap (entry (get_or l.terms i 0)) t

  entry_new : entry_at m names ≡ entry n (take size word)
  entry_new =
      let t : text_at_lem m.ends m.text names ≡ take size word
      = text-fits m.ends m.text names (rw (start_same names (omega arith), end_new) (omega arith)) (rw (end_new, text-long) room)
      ∙ rw (start_same names (omega arith), end_new)
      (ap (drop from) (take-paste l.text from word size (omega arith) enough) ∙ drop_at (take from l.text) (take size word) from (length-take-le from l.text (omega arith))) in
      let e : get_or m.terms names 0 ≡ n = get_or-set_same l.terms names n 0 free in
      ap (λ (v : ℕ). entry v (text_at_lem m.ends m.text names)) e ∙ ap (entry n) t

  pub entries-more : entries_of m (names + 1) ≡ entries_of l names ++ (entry n (take size word) ∷ [])
  entries-more =
      ap (λ (k : ℕ). tab k (entry_at m)) (add-one names) ∙ tab-snoc names (entry_at m)
      ∙ ap (λ (es : List Entry). es ++ (entry_at m names ∷ [])) (tab-ext names (entry_at m) (entry_at l) entry-same)
      ∙ ap (λ (e : Entry). entries_of l names ++ (e ∷ [])) entry_new

  rise-more : (i : ℕ) → i < names + 1 → start_of m.ends i ≤ get_or m.ends i 0
  rise-more i k = go (eqb i names) refl
    where
      go : (t : Bool) → eqb i names ≡ t → start_of m.ends i ≤ get_or m.ends i 0
      go true e = let f = eqb-true i names e in rw (f, start_same names (omega arith), end_new) (omega arith)
      go false e = let f = eqb-false i names e in rw (start_same i (omega arith), end_same i (omega arith)) (h.rise i (omega arith))

  start_new : start_of m.ends (names + 1) ≡ from + size
  unfolding start_of
  start_new = ap (start_of m.ends) (add-one names) ∙ end_new

  lane-zero : (lane : List ℕ) (v : ℕ) → drop names lane ≡ replicate (length lane - names) 0 → drop (names + 1) (set lane names v) ≡ replicate (length (set lane names v) - (names + 1)) 0
  lane-zero lane v z = rw (length-set lane names v) (drop-set-lt (names + 1) lane names v (omega arith) ∙ zeros_on lane names 1 z)

  pub listing-more : Listing m (names + 1)
  listing-more =
      record {
        equal = rw (length-set l.ends names (from + size), length-set l.terms names n) h.equal;
        few = rw (length-set l.terms names n) h.few;
        short = rw text-long h.short;
        room = rw (length-set l.terms names n) (omega arith);
        rise = rise-more;
        last = rw (start_new, text-long) room;
        terms_zero = lane-zero l.terms n h.terms_zero;
        ends_zero = lane-zero l.ends (from + size) h.ends_zero;
      }

  -- zeros behind the last text stay zeros
  pub text-zero_more : drop from l.text ≡ replicate (length l.text - from) 0 → drop (from + size) m.text ≡ replicate (length m.text - (from + size)) 0
  text-zero_more z = rw text-long (drop-paste l.text from word size (omega arith) enough ∙ zeros_on l.text from size z)

-- ---- one more whose bytes lie there

paste_own : (text : List ℕ) (from size : ℕ) → paste text from (drop from text) size ≡ text
paste_own text from size =
    ap (λ (l : List ℕ). (take from text ++ take size (drop from text)) ++ l) (sym (drop-drop size from text))
    ∙ append_assoc (take from text) (take size (drop from text)) (drop size (drop from text))
    ∙ ap (λ (l : List ℕ). take from text ++ l) (take-append-drop size (drop from text)) ∙ take-append-drop from text

module _ (l : NameLanes) (names n size : ℕ) (h : Listing l names) where
  lying-room : start_of l.ends names + size ≤ length l.text → size ≤ length (drop (start_of l.ends names) l.text)
  lying-room k = let e = length-drop (start_of l.ends names) l.text in omega arith

  same-lanes : appended l names n (drop (start_of l.ends names) l.text) size ≡ lanes_of (set l.terms names n) (set l.ends names (start_of l.ends names + size)) l.text
  same-lanes = ap (lanes_of (set l.terms names n) (set l.ends names (start_of l.ends names + size))) (paste_own l.text (start_of l.ends names) size)

  pub lying-done : names < length l.terms → start_of l.ends names + size ≤ length l.text
      → Lying l (lanes_of (set l.terms names n) (set l.ends names (start_of l.ends names + size)) l.text) names n size (New n)
  lying-done f k =
      record {
        answer = rw (lt-ltb names (length l.terms) f) refl;
        entries =
            ap (λ (o : NameLanes). entries_of o (names + 1)) (sym same-lanes)
            ∙ entries-more l names n (drop (start_of l.ends names) l.text) size h f (lying-room k) k
            ∙ ap (λ (w : List ℕ). entries_of l names ++ (entry n w ∷ [])) (sym (drop-take (start_of l.ends names) size l.text));
        listing = rw same-lanes at (listing-more l names n (drop (start_of l.ends names) l.text) size h f (lying-room k) k);
      }

  pub lying-full : length l.terms ≤ names → Lying l l names n size Full
  lying-full k = record { answer = rw (le-ltb names (length l.terms) k) refl; entries = refl; listing = h }

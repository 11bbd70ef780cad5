-- A term's text entered: what is listed stays the list of the different texts met, or there is no room for them. Assumes nothing.
use mathlib.Core.Path.{◌≡◌, refl, sym, ap, subst, ◌∙◌}
use mathlib.Core.Bool.{Bool, true, false, cond, ◌&&◌, ◌||◌, false≢true}
use mathlib.Core.List.{List, [], ◌∷◌, ◌++◌, map}
use Prim.Native.Nat.{ℕ, ◌+◌, ◌≤◌}
use native.Mathlib.Omega.{arith}
use lib.Dec.{leb, ltb}
use lib.ListN.{length, length-append, length-map}
use borrow.Author.Tests.{leb-true, le-leb, ltb-true, lt-ltb}
use Rattle.ground.specs.Lists.{All}
use Rattle.ground.proofs.Each.{all_append}
use Rattle.term.specs.Term.{sort_of}
use Rattle.names.specs.Names.{Entry, entry}
use Rattle.names.specs.Entering.{Entered, Listed, New, Full, same_text_lem, is_of, Lookup, lookup, bytes_of, five_number, lookup_five, or_else, known, next_of, has_room_lem, answer_of, entered_by, entries_after, Made}
use Rattle.names.proofs.Same.{both_true}
use Rattle.names.proofs.Made.{sort-of_next}
use Rattle.names.proofs.Meaning.{known-stays, entering_known, number_answered}
use Rattle.ntline.specs.Grammar.{Term}
use Rattle.nttext.specs.Texts.{text_of_term, sort_of_term, is_legal_text, Has}
use Rattle.nttext.proofs.LegalTexts.{sort-few, text-legal}
use Rattle.ntenter.specs.Line.{Read, refused, Room, when_entered, enter_term}
use Rattle.ntriples.specs.Shown.{Meant, meant_term, is_among, met_after, same_meant, is_five, besides, bytes_in}

-- ---- entries as what they mean

abbrev pub meant_entry : Entry → Meant
meant_entry e = record { sort = sort_of e.number; text = e.text }

abbrev pub is_found : Lookup → Bool
is_found Lookup.none = false
is_found (Lookup.number n) = true

pub among_listed : (es : List Entry) (m : Meant) → is_among same_meant m (map meant_entry es) ≡ is_found (lookup es m.sort m.text)
unfolding is_among lookup
among_listed [] m = refl
among_listed (e ∷ es) m = go (is_of m.sort e && same_text_lem e.text m.text) (among_listed es m)
  where
    go : (b : Bool) → is_among same_meant m (map meant_entry es) ≡ is_found (lookup es m.sort m.text) →
        (b || is_among same_meant m (map meant_entry es)) ≡ is_found (cond b (Lookup.number e.number) (lookup es m.sort m.text))
    go true h = refl
    go false h = h

pub bytes-listed : (es : List Entry) → bytes_in (map meant_entry es) ≡ bytes_of es
unfolding bytes_in bytes_of
bytes-listed [] = refl
bytes-listed (e ∷ es) = ap (λ (n : ℕ). length e.text + n) (bytes-listed es)

map_last : (es : List Entry) (e : Entry) → map meant_entry (es ++ (e ∷ [])) ≡ map meant_entry es ++ (meant_entry e ∷ [])
map_last [] e = refl
map_last (x ∷ es) e = ap (λ (l : List Meant). meant_entry x ∷ l) (map_last es e)

pub bytes-append : (xs ys : List Meant) → bytes_in (xs ++ ys) ≡ bytes_in xs + bytes_in ys
unfolding bytes_in
bytes-append [] ys = omega arith
bytes-append (x ∷ xs) ys = let h = bytes-append xs ys in omega arith

one-bytes : (m : Meant) → bytes_in (m ∷ []) ≡ length m.text
unfolding bytes_in
one-bytes m = omega arith

-- ---- a list that holds what was met

abbrev pub fits : Room → List Meant → Bool
fits room ts = leb (length ts) room.entries && leb (bytes_in ts) room.bytes

pub record Kept (room : Room) (ts : List Meant) (es : List Entry) : Type 0 where
  pub made : Made es
  pub few : length es ≤ room.entries
  pub short : bytes_of es ≤ room.bytes
  pub listed : map meant_entry es ≡ ts
  pub legal : All (λ e. is_legal_text (sort_of e.number) e.text ≡ true) es

pub kept-fits : {room : Room} {ts : List Meant} {es : List Entry} → Kept room ts es → fits room ts ≡ true
kept-fits {room} {ts} {es} k =
    let long : length ts ≡ length es = ap length (sym k.listed) ∙ length-map es meant_entry in
    let bytes : bytes_in ts ≡ bytes_of es = ap bytes_in (sym k.listed) ∙ bytes-listed es in
    rw (le-leb (length ts) room.entries (omega (arith, long, k.few)), le-leb (bytes_in ts) room.bytes (omega (arith, bytes, k.short))) refl

-- what has a number keeps it
abbrev pub Keeps : List Entry → List Entry → Type 0
Keeps es es₁ = (sort : ℕ) (word : List ℕ) (n : ℕ) → known es sort word ≡ Lookup.number n → known es₁ sort word ≡ Lookup.number n

-- ---- a text entered

abbrev pub met_with : List Meant → Meant → List Meant
met_with ts m = met_after same_meant ts (besides m)

pub data Fate (room : Room) (place : ℕ) (ts : List Meant) (es : List Entry) (t : Term) : Type 0 where
  goes : (n : ℕ) (es₁ : List Entry) → Kept room (met_with ts (meant_term t)) es₁ → known es₁ (sort_of_term t) (text_of_term t) ≡ Lookup.number n → Keeps es es₁ →
      ((next : ℕ → List Entry → Read) → enter_term room place es t next ≡ next n es₁) → Fate room place ts es t
  full : fits room (met_with ts (meant_term t)) ≡ false → ((next : ℕ → List Entry → Read) → enter_term room place es t next ≡ refused 27 place) → Fate room place ts es t

module _ (room : Room) (small : room.entries ≤ 512) (place : ℕ) (ts : List Meant) (es : List Entry) (kept : Kept room ts es) (t : Term) (has : Has t) where
  abbrev sort : ℕ
  sort = sort_of_term t

  abbrev word : List ℕ
  word = text_of_term t

  abbrev m : Meant
  m = meant_term t

  abbrev answer : Entered
  answer = entered_by room.entries room.bytes es sort word

  known_by : (b : Bool) → is_five m ≡ b → known es sort word ≡ or_else (cond b (Lookup.number (five_number word)) Lookup.none) (lookup es sort word)
  unfolding lookup_five
  known_by b e = rw e refl

  among : is_among same_meant m ts ≡ is_found (lookup es sort word)
  among = ap (is_among same_meant m) (sym kept.listed) ∙ among_listed es m

  met-five : is_five m ≡ true → met_with ts m ≡ ts
  unfolding met_after
  met-five e = rw e refl

  met-other : is_five m ≡ false → met_with ts m ≡ cond (is_found (lookup es sort word)) ts (ts ++ (m ∷ []))
  unfolding met_after
  met-other e = rw (e, among) refl

  -- a text that has a number
  met-known : (n : ℕ) → known es sort word ≡ Lookup.number n → met_with ts m ≡ ts
  met-known n h = which (is_five m) refl
    where
      which : (b : Bool) → is_five m ≡ b → met_with ts m ≡ ts
      which true e = met-five e
      which false e =
          let l : lookup es sort word ≡ Lookup.number n = sym (known_by false e) ∙ h in
          met-other e ∙ ap (λ (x : Lookup). cond (is_found x) ts (ts ++ (m ∷ []))) l

  -- and one that has none
  met-new : known es sort word ≡ Lookup.none → met_with ts m ≡ ts ++ (m ∷ [])
  met-new h = which (is_five m) refl
    where
      which : (b : Bool) → is_five m ≡ b → met_with ts m ≡ ts ++ (m ∷ [])
      which true e = absurd (let f : Lookup.number (five_number word) ≡ Lookup.none = sym (known_by true e) ∙ h in let z : ◌≡◌ {A = ℕ} 0 1 = cc in omega arith)
      which false e =
          let l : lookup es sort word ≡ Lookup.none = sym (known_by false e) ∙ h in
          met-other e ∙ ap (λ (x : Lookup). cond (is_found x) ts (ts ++ (m ∷ []))) l

  answer_is : (k : Lookup) (b : Bool) → known es sort word ≡ k → has_room_lem room.entries room.bytes es word ≡ b → answer ≡ answer_of k b (next_of es sort)
  unfolding entered_by
  answer_is k b e f = rw (e, f) refl

  enters : (r : Entered) → answer ≡ r → (next : ℕ → List Entry → Read) → enter_term room place es t next ≡ when_entered place es word r next
  enters r e next = ap (λ (x : Entered). when_entered place es word x next) e

  when-known : (n : ℕ) → known es sort word ≡ Lookup.number n → Fate room place ts es t
  when-known n h =
      goes n es (subst (λ (l : List Meant). Kept room l es) (sym (met-known n h)) kept) h (λ s w k q. q)
      (enters (Listed n) (answer_is (Lookup.number n) (has_room_lem room.entries room.bytes es word) h refl))

  less : length es ≤ 512
  less = omega (arith, kept.few)

  sort-new : sort_of (next_of es sort) ≡ sort
  sort-new = sort-of_next es sort less (sort-few t)

  when-new : known es sort word ≡ Lookup.none → has_room_lem room.entries room.bytes es word ≡ true → Fate room place ts es t
  when-new h f =
      let n : ℕ = next_of es sort in
      let x : Entry = entry n word in
      let e : answer ≡ New n = answer_is Lookup.none true h f in
      let p = both_true (ltb (length es) room.entries) (leb (bytes_of es + length word) room.bytes) f in
      let one = leb-true (length es + 1) room.entries (longer p.0) in
      let two = leb-true (bytes_of es + length word) room.bytes p.1 in
      let last : meant_entry x ≡ m = λ i. record { sort = sort-new i; text = word } in
      goes n (es ++ (x ∷ []))
      (record {
        made = Made.more sort word kept.made (sort-few t) h;
        few = omega (arith, length-append es (x ∷ []), one);
        short = omega (arith, ap bytes_in (map_last es x), bytes-listed (es ++ (x ∷ [])), bytes-append (map meant_entry es) (meant_entry x ∷ []), bytes-listed es, one-bytes (meant_entry x), two);
        listed = map_last es x ∙ ap (λ (l : List Meant). l ++ (meant_entry x ∷ [])) kept.listed ∙ ap (λ (y : Meant). ts ++ (y ∷ [])) last ∙ sym (met-new h);
        legal = all_append (λ e₁. is_legal_text (sort_of e₁.number) e₁.text ≡ true) es (x ∷ []) kept.legal (subst (λ (k : ℕ). is_legal_text k word ≡ true) (sym sort-new) (text-legal has.1), tt);
      })
      (ap (λ (r : Entered). known (entries_after r es word) sort word) (sym e) ∙ entering_known room.entries room.bytes es sort word (sort-few t) less ∙ ap number_answered e)
      (λ s w k q. known-stays es x s w k q)
      (enters (New n) e)
    where
      longer : ltb (length es) room.entries ≡ true → leb (length es + 1) room.entries ≡ true
      longer q = le-leb (length es + 1) room.entries (omega (arith, ltb-true (length es) room.entries q))

  when-full : known es sort word ≡ Lookup.none → has_room_lem room.entries room.bytes es word ≡ false → Fate room place ts es t
  when-full h f = full (which (fits room (met_with ts m)) refl) (enters Full (answer_is Lookup.none false h f))
    where
      which : (b : Bool) → fits room (met_with ts m) ≡ b → fits room (met_with ts m) ≡ false
      which false e = e
      which true e =
          let p = both_true (leb (length (met_with ts m)) room.entries) (leb (bytes_in (met_with ts m)) room.bytes) e in
          let one = leb-true (length (met_with ts m)) room.entries p.0 in
          let two = leb-true (bytes_in (met_with ts m)) room.bytes p.1 in
          let long : length ts ≡ length es = ap length (sym kept.listed) ∙ length-map es meant_entry in
          let bytes : bytes_in ts ≡ bytes_of es = ap bytes_in (sym kept.listed) ∙ bytes-listed es in
          let longer = ap length (met-new h) ∙ length-append ts (m ∷ []) in
          let more = ap bytes_in (met-new h) ∙ bytes-append ts (m ∷ []) in
          absurd (false≢true (sym f ∙ rw (lt-ltb (length es) room.entries (omega (arith, one, long, longer)), le-leb (bytes_of es + length word) room.bytes (omega (arith, two, bytes, more, one-bytes m))) refl))

  pub enter_fate : Fate room place ts es t
  enter_fate = by_known (known es sort word) refl (has_room_lem room.entries room.bytes es word) refl
    where
      by_known : (k : Lookup) → known es sort word ≡ k → (b : Bool) → has_room_lem room.entries room.bytes es word ≡ b → Fate room place ts es t
      by_known (Lookup.number n) h b f = when-known n h
      by_known Lookup.none h true f = when-new h f
      by_known Lookup.none h false f = when-full h f

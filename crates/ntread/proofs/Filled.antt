-- A list's lanes are its entries laid one behind another, and zeros. Assumes nothing.
use mathlib.Core.Path.{◌≡◌, refl, sym, ap, ◌∙◌}
use mathlib.Core.List.{List, [], ◌∷◌, ◌++◌, map, append-nil, append_assoc}
use Prim.Native.Nat.{ℕ, zero, suc, ◌+◌, ◌-◌, ◌≤◌}
use native.Mathlib.Nat.{sub-zero}
use native.Mathlib.Omega.{arith}
use lib.ListN.{length, get_or, take, drop, replicate, length-append, length-replicate, take-append-drop}
use lib.Seq.{slice, take-suc, take-add, take_at, drop_at, length-take-le, length-slice}
use Rattle.utf8.proofs.Seeing.{drop-take}
use Rattle.ground.specs.Lists.{tab}
use Rattle.ground.proofs.Tab.{tab-length}
use Rattle.names.specs.Names.{Entry, NameLanes, lanes_of, start_of, text_at_lem, entry_at, entries_of}
use Rattle.names.specs.Entering.{Listing, bytes_of}
use Rattle.names.proofs.Entries.{tab-snoc, text_is, end_within}
use Rattle.ntread.specs.Reading.{ends_from, texts_of, filled_names}
use Rattle.ntnumber.specs.Numbering.{ListAsLong}
use Rattle.ntread.specs.Inner.{zeroed_names}
use Rattle.ntnumber.proofs.Numbers.{kept-listing, kept-entries}

-- ---- one entry more

numbers_more : (es : List Entry) (e : Entry) → map (λ (x : Entry). x.number) (es ++ (e ∷ [])) ≡ map (λ (x : Entry). x.number) es ++ (e.number ∷ [])
numbers_more [] e = refl
numbers_more (x ∷ xs) e = ap (λ (l : List ℕ). x.number ∷ l) (numbers_more xs e)

bytes-more : (es : List Entry) (e : Entry) → bytes_of (es ++ (e ∷ [])) ≡ bytes_of es + length e.text
unfolding bytes_of
bytes-more [] e = omega arith
bytes-more (x ∷ xs) e = let r = bytes-more xs e in omega arith

ends_more : (at : ℕ) (es : List Entry) (e : Entry) → ends_from at (es ++ (e ∷ [])) ≡ ends_from at es ++ ((at + bytes_of es + length e.text) ∷ [])
unfolding ends_from bytes_of
ends_more at [] e = let q : at + length e.text ≡ at + 0 + length e.text = omega arith in ap (λ (k : ℕ). k ∷ []) q
ends_more at (x ∷ xs) e =
    let q : at + length x.text + bytes_of xs + length e.text ≡ at + (length x.text + bytes_of xs) + length e.text = omega arith in
    ap (λ (l : List ℕ). (at + length x.text) ∷ l) (ends_more (at + length x.text) xs e ∙ ap (λ (k : ℕ). ends_from (at + length x.text) xs ++ (k ∷ [])) q)

texts_more : (es : List Entry) (e : Entry) → texts_of (es ++ (e ∷ [])) ≡ texts_of es ++ e.text
unfolding texts_of
texts_more [] e = append-nil e.text
texts_more (x ∷ xs) e = ap (λ (l : List ℕ). x.text ++ l) (texts_more xs e) ∙ sym (append_assoc x.text (texts_of xs) e.text)

-- ---- the entries of a listing

module _ (k : NameLanes) (names : ℕ) (h : Listing k names) where
  record Front (j : ℕ) : Type 0 where
    numbers : map (λ (x : Entry). x.number) (entries_of k j) ≡ take j k.terms
    bytes : bytes_of (entries_of k j) ≡ start_of k.ends j
    ends : ends_from 0 (entries_of k j) ≡ take j k.ends
    texts : texts_of (entries_of k j) ≡ take (start_of k.ends j) k.text

  fronts : (j : ℕ) → j ≤ names → Front j
  unfolding tab bytes_of ends_from texts_of start_of
  fronts zero q = record { numbers = refl; bytes = refl; ends = refl; texts = refl }
  fronts (suc j) q =
      let f = fronts j (omega arith) in
      let start = start_of k.ends j in
      let end = get_or k.ends j 0 in
      let rise = h.rise j (omega arith) in
      let room = h.room in
      let equal = h.equal in
      let inside = end_within k names h j (omega arith) in
      let text : text_at_lem k.ends k.text j ≡ slice start end k.text = text_is k names h j (omega arith) in
      let long : length (text_at_lem k.ends k.text j) ≡ end - start = ap length text ∙ length-slice start end k.text inside in
      let more = tab-snoc j (entry_at k) in
      let fb = f.bytes in
      let sum : start + (end - start) ≡ end = omega arith in
      let at_end : 0 + bytes_of (entries_of k j) + length (text_at_lem k.ends k.text j) ≡ end = omega arith in
      record {
        numbers = ap (map (λ (x : Entry). x.number)) more ∙ numbers_more (entries_of k j) (entry_at k j)
            ∙ ap (λ (l : List ℕ). l ++ (get_or k.terms j 0 ∷ [])) f.numbers ∙ sym (take-suc k.terms j 0 (omega arith));
        bytes = ap bytes_of more ∙ bytes-more (entries_of k j) (entry_at k j) ∙ omega arith;
        ends = ap (ends_from 0) more ∙ ends_more 0 (entries_of k j) (entry_at k j)
            ∙ ap (λ (l : List ℕ). l ++ ((0 + bytes_of (entries_of k j) + length (text_at_lem k.ends k.text j)) ∷ [])) f.ends
            ∙ ap (λ (x : ℕ). take j k.ends ++ (x ∷ [])) at_end ∙ sym (take-suc k.ends j 0 (omega arith));
        texts = ap texts_of more ∙ texts_more (entries_of k j) (entry_at k j) ∙ ap (λ (l : List ℕ). l ++ text_at_lem k.ends k.text j) f.texts
            ∙ ap (λ (l : List ℕ). take start k.text ++ l) (text ∙ ap (λ (x : ℕ). drop start (take x k.text)) (sym sum) ∙ drop-take start (end - start) k.text)
            ∙ sym (take-add start (end - start) k.text) ∙ ap (λ (x : ℕ). take x k.text) sum;
      }

  pub entries-filled : (n : NameLanes) → ListAsLong n k → drop (start_of k.ends names) k.text ≡ replicate (length k.text - start_of k.ends names) 0
      → k ≡ filled_names (entries_of k names) n
  entries-filled n long zeros =
      let f = fronts names (omega arith) in
      let count = tab-length names (entry_at k) in
      let terms : k.terms ≡ map (λ (x : Entry). x.number) (entries_of k names) ++ replicate (length n.terms - length (entries_of k names)) 0
      = sym (take-append-drop names k.terms) ∙ rw (h.terms_zero, f.numbers, count, long.same_terms) refl in
      let ends : k.ends ≡ ends_from 0 (entries_of k names) ++ replicate (length n.ends - length (entries_of k names)) 0
      = sym (take-append-drop names k.ends) ∙ rw (h.ends_zero, f.ends, count, long.same_ends) refl in
      let text : k.text ≡ texts_of (entries_of k names) ++ replicate (length n.text - bytes_of (entries_of k names)) 0
      = sym (take-append-drop (start_of k.ends names) k.text) ∙ rw (zeros, f.texts, f.bytes, long.same_text) refl in
      ap (λ (x : List ℕ). lanes_of x k.ends k.text) terms
      ∙ ap (λ (x : List ℕ). lanes_of (map (λ (e : Entry). e.number) (entries_of k names) ++ replicate (length n.terms - length (entries_of k names)) 0) x k.text) ends
      ∙ ap (lanes_of (map (λ (e : Entry). e.number) (entries_of k names) ++ replicate (length n.terms - length (entries_of k names)) 0) (ends_from 0 (entries_of k names) ++ replicate (length n.ends - length (entries_of k names)) 0)) text

module _ (k : NameLanes) (names : ℕ) (h : Listing k names) where
  -- with zeros put behind the last text
  pub zeros_filled : (n : NameLanes) → ListAsLong n k → (last : ℕ) → last ≡ start_of k.ends names → (text' : List ℕ)
      → text' ≡ take last k.text ++ replicate (length k.text - last) 0 → lanes_of k.terms k.ends text' ≡ filled_names (entries_of k names) n
  zeros_filled n long last e text' t =
      let inside = h.last in
      let front_long : length (take last k.text) ≡ last = length-take-le last k.text (omega arith) in
      let same : length text' ≡ length k.text
      = ap length t ∙ length-append (take last k.text) (replicate (length k.text - last) 0) ∙ rw (front_long, length-replicate {A = ℕ} (length k.text - last) 0) (omega arith) in
      let front : take (start_of k.ends names) text' ≡ take (start_of k.ends names) k.text
      = rw (← e) (ap (take last) t ∙ take_at (take last k.text) (replicate (length k.text - last) 0) last front_long) in
      let behind : drop (start_of k.ends names) text' ≡ replicate (length text' - start_of k.ends names) 0
      = rw (← e) (ap (drop last) t ∙ drop_at (take last k.text) (replicate (length k.text - last) 0) last front_long ∙ ap (λ (x : ℕ). replicate (x - last) 0) (sym same)) in
      entries-filled (lanes_of k.terms k.ends text') names (kept-listing k names h text' same front) n (record { same_terms = long.same_terms; same_ends = long.same_ends; same_text = same ∙ long.same_text })
      behind
      ∙ ap (λ (es : List Entry). filled_names es n) (kept-entries k names h text' same front)

-- no entries: zeros
pub nothing-filled : (n : NameLanes) → zeroed_names n ≡ filled_names [] n
unfolding ends_from texts_of bytes_of
nothing-filled n = rw (sub-zero (length n.terms), sub-zero (length n.ends), sub-zero (length n.text)) refl

pub zeroed-names_alike : {n k : NameLanes} → ListAsLong n k → zeroed_names k ≡ zeroed_names n
zeroed-names_alike long = rw (long.same_terms, long.same_ends, long.same_text) refl

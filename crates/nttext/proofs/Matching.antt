-- A text compared part by part with bytes where they stand. Assumes nothing.
use mathlib.Core.Path.{◌≡◌, refl, sym, ap, ◌∙◌}
use mathlib.Core.Bool.{Bool, true, false, ◌&&◌, false≢true, true≢false}
use mathlib.Core.List.{List, [], ◌∷◌, ◌++◌, append-nil, append_assoc}
use Prim.Native.Nat.{ℕ, suc, ◌+◌, ◌-◌, ◌≤◌, ◌<◌}
use native.Mathlib.Numerals.{add-one}
use native.Mathlib.Omega.{arith}
use lib.Dec.{eqb}
use lib.ListN.{length, get_or, take, drop, length-append}
use lib.Seq.{slice, slice_empty, slice-cons, length-slice, get_or-take, get_or-drop, ext_get_or}
use borrow.Author.Tests.{eqb-true, eqb-false, eq-eqb, ne_eqb}
use Rattle.std.specs.Prelude.{Option, Some, None}
use Rattle.utf8.specs.Characters.{is_character_lem, char_bytes}
use Rattle.utf8.specs.Texts.{chars_of, seen, SeenAt}
use Rattle.utf8.proofs.Agree.{complete_front, size_few}
use Rattle.utf8.proofs.Texts.{chars-whole}
use Rattle.utf8.proofs.Seeing.{slice_join}
use Rattle.names.specs.Entering.{same_text_lem}
use Rattle.names.proofs.Same.{is_same, not_same}
use Rattle.names.specs.Finding.{SameIn}
use Rattle.ntline.specs.Runs.{plain_byte, Run}
use Rattle.nttext.specs.declared.texts.Cursor.{Cursor}
use Rattle.nttext.specs.Inner.{unit_of, span_text, MatchedIn, MatchedTo, Lays, UnitAt, SameRun}
use Rattle.nttext.proofs.Runs.{run_lays, lays-then, laid_end}

same-front : (u a b : List ℕ) → same_text_lem (u ++ a) (u ++ b) ≡ same_text_lem a b
unfolding same_text_lem
same-front [] a b = refl
same-front (x ∷ xs) a b = rw (eq-eqb x x refl) (same-front xs a b)

-- more behind it is another text
longer-other : (a b : List ℕ) → length a < length b → same_text_lem a b ≡ false
longer-other a b h = not_same a b (λ (e : a ≡ b). let l = ap length e in omega arith)

shorter_other : (a b : List ℕ) → length b < length a → same_text_lem a b ≡ false
shorter_other a b h = not_same a b (λ (e : a ≡ b). let l = ap length e in omega arith)

module _ (out : List ℕ) (at end : ℕ) where
  pub differs_here : (text : List ℕ) (to : ℕ) (same : Bool) → same ≡ false → ((more : List ℕ) → same_text_lem (text ++ more) (slice at end out) ≡ false) →
      MatchedIn text out at end same to
  differs_here text to same is o =
      record {
        rising = λ e. absurd (false≢true (sym is ∙ e));
        within = λ e. absurd (false≢true (sym is ∙ e));
        there = λ e. absurd (false≢true (sym is ∙ e));
        other = λ _. o;
      }

  -- where it would end that does not stand there says nothing
  pub unmatched : {text : List ℕ} {n m : ℕ} → MatchedIn text out at end false n → MatchedIn text out at end false m
  unmatched {text = text} {m = m} x = differs_here text m false refl (x.other refl)

  -- one text behind another
  pub matches_both : (u v : List ℕ) (mid to : ℕ) (same : Bool) → MatchedIn u out at end true mid → MatchedIn v out mid end same to →
      MatchedIn (u ++ v) out at end same to
  matches_both u v mid to same x y =
      let low : at ≤ mid = x.rising refl in
      let high : mid ≤ end = x.within refl in
      record {
        rising = λ e. let h = y.rising e in omega arith;
        within = y.within;
        there =
            λ e.
            sym (slice_join at mid to out low (y.rising e)) ∙ ap (λ (l : List ℕ). l ++ slice mid to out) (x.there refl)
            ∙ ap (λ (l : List ℕ). u ++ l) (y.there e);
        other =
            λ e more.
            ap (same_text_lem ((u ++ v) ++ more)) (sym (slice_join at mid end out low high) ∙ ap (λ (l : List ℕ). l ++ slice mid end out) (x.there refl))
            ∙ ap (λ (l : List ℕ). same_text_lem l (u ++ slice mid end out)) (append_assoc u v more)
            ∙ same-front u (v ++ more) (slice mid end out) ∙ y.other e more;
      }

  pub matches_first : (u v : List ℕ) (mid to : ℕ) → MatchedIn u out at end false mid → MatchedIn (u ++ v) out at end false to
  matches_first u v mid to x =
      differs_here (u ++ v) to false refl
      (λ more. ap (λ (l : List ℕ). same_text_lem l (slice at end out)) (append_assoc u v more) ∙ x.other refl (v ++ more))

  -- ---- one character

  nothing_left : at ≡ end → slice at end out ≡ []
  nothing_left e = ap (λ (n : ℕ). slice n end out) e ∙ slice_empty end out

  pub char-missing : (value to : ℕ) (same : Bool) → same ≡ false → at ≡ end → MatchedIn (char_bytes value) out at end same to
  char-missing value to same is e =
      differs_here (char_bytes value) to same is
      (λ more.
      ap (same_text_lem (char_bytes value ++ more)) (nothing_left e)
      ∙ shorter_other (char_bytes value ++ more) [] (omega (arith, length-append (char_bytes value) more, (size_few value).0)))

  module _ (value v n : ℕ) (good : is_character_lem value ≡ true) (s : SeenAt out at end v n) where
    front-is : (more : List ℕ) → char_bytes value ++ more ≡ slice at end out → value ∷ chars_of (drop (length (char_bytes value)) (char_bytes value ++ more)) ≡ v ∷ seen out n end
    front-is more e =
        sym (chars-whole (char_bytes value ++ more) value (length (char_bytes value)) (complete_front value more good)) ∙ ap chars_of e ∙ s.here

    pub char-seen : MatchedIn (char_bytes value) out at end (eqb v value) n
    char-seen = which (eqb v value) refl
      where
        which : (x : Bool) → eqb v value ≡ x → MatchedIn (char_bytes value) out at end x n
        which true e =
            let is : v ≡ value = eqb-true v value e in
            record {
              rising = λ _. let h = s.later in omega arith;
              within = λ _. s.within;
              there = λ _. (rw is at s.whole) good;
              other = λ f. absurd (true≢false f);
            }
        which false e =
            let no : v ≡ value → ⊥ = eqb-false v value e in
            differs_here (char_bytes value) n false refl
            (λ more.
            not_same (char_bytes value ++ more) (slice at end out)
            (λ (f : char_bytes value ++ more ≡ slice at end out). let g = front-is more f in let h : v ≡ value = cc in no h))

  module _ (value v n : ℕ) (good : is_character_lem value ≡ true) (s : SeenAt out at end v n) where
    pub char-there : v ≡ value → MatchedIn (char_bytes value) out at end true n
    char-there e = rw (eq-eqb v value e) at (char-seen value v n good s)

    pub char-other : (v ≡ value → ⊥) → MatchedIn (char_bytes value) out at end false at
    char-other e = unmatched (rw (ne_eqb v value e) at (char-seen value v n good s))

  -- ---- a backslash before it

  pub slash_missing : (value to : ℕ) (same : Bool) → same ≡ false → at ≡ end → MatchedIn (0x5C ∷ char_bytes value) out at end same to
  unfolding same_text_lem
  slash_missing value to same is e =
      differs_here (0x5C ∷ char_bytes value) to same is (λ more. ap (same_text_lem (0x5C ∷ (char_bytes value ++ more))) (nothing_left e))

  module _ (low : at < end) (high : end ≤ length out) where
    pub slash_other : (value to : ℕ) (same : Bool) → same ≡ false → (get_or out at 0 ≡ 0x5C → ⊥) → MatchedIn (0x5C ∷ char_bytes value) out at end same to
    unfolding same_text_lem
    slash_other value to same is apart =
        differs_here (0x5C ∷ char_bytes value) to same is
        (λ more.
        ap (same_text_lem (0x5C ∷ (char_bytes value ++ more))) (slice-cons at end out 0 low high)
        ∙ rw (ne_eqb 0x5C (get_or out at 0) (λ (e : 0x5C ≡ get_or out at 0). apart (sym e))) refl)

    slash_there : get_or out at 0 ≡ 0x5C → MatchedIn (0x5C ∷ []) out at end true (at + 1)
    slash_there e =
        let next : slice (suc at) (at + 1) out ≡ [] = ap (λ (n : ℕ). slice (suc at) n out) (add-one at) ∙ slice_empty (suc at) out in
        record {
          rising = λ _. omega arith;
          within = λ _. omega arith;
          there = λ _. slice-cons at (at + 1) out 0 (omega arith) (omega arith) ∙ rw (e, next) refl;
          other = λ f. absurd (true≢false f);
        }

    pub slash_first : (value : ℕ) (r : Option ℕ) → get_or out at 0 ≡ 0x5C → MatchedTo (char_bytes value) out (at + 1) end r →
        MatchedTo (0x5C ∷ char_bytes value) out at end r
    slash_first value (Some to) e m = matches_both (0x5C ∷ []) (char_bytes value) (at + 1) to true (slash_there e) m
    slash_first value None e m = unmatched (matches_both (0x5C ∷ []) (char_bytes value) (at + 1) (at + 1) false (slash_there e) m)

  -- ---- all of it

  pub matched-whole : (text : List ℕ) (same : Bool) (to : ℕ) → end ≤ length out → MatchedIn text out at end same to → (same && eqb to end) ≡ same_text_lem text (slice at end out)
  matched-whole text false to high m =
      sym (ap (λ (l : List ℕ). same_text_lem l (slice at end out)) (sym (append-nil text)) ∙ m.other refl [])
  matched-whole text true to high m = which (eqb to end) refl
    where
      which : (x : Bool) → eqb to end ≡ x → x ≡ same_text_lem text (slice at end out)
      which true e = sym (is_same text (slice at end out) (sym (m.there refl) ∙ ap (λ (n : ℕ). slice at n out) (eqb-true to end e)))
      which false e =
          let no : to ≡ end → ⊥ = eqb-false to end e in
          let size = ap length (m.there refl) in
          let here = length-slice at to out (omega (arith, m.within refl)) in
          let there = length-slice at end out high in
          sym (longer-other text (slice at end out) (omega (arith, m.rising refl, m.within refl, no)))

-- ---- a run of plain bytes

byte_in : (f t k : ℕ) (l : List ℕ) → f + k < t → get_or (slice f t l) k 0 ≡ get_or l (f + k) 0
byte_in f t k l h = get_or-drop f (take t l) k 0 ∙ get_or-take t l (f + k) 0 h

same-slices : (b out : List ℕ) (from at size : ℕ) → from + size ≤ length b → at + size ≤ length out → SameIn b from out at size →
    slice at (at + size) out ≡ slice from (from + size) b
same-slices b out from at size h l same =
    let here = length-slice at (at + size) out l in
    let there = length-slice from (from + size) b h in
    ext_get_or 0 (slice at (at + size) out) (slice from (from + size) b) (omega (arith, here, there))
    (λ k m.
    let n : k < size = omega (arith, here, m) in
    byte_in at (at + size) k out (omega arith) ∙ sym (same k n) ∙ sym (byte_in from (from + size) k b (omega arith)))

module _ (b : List ℕ) (from to : ℕ) (quoted : Bool) (out : List ℕ) (at end : ℕ) (long : to ≤ length b) (low : at ≤ end) (high : end ≤ length out) where
  pub same-run : (run most size : ℕ) → Run (plain_byte quoted) b from to run → most ≤ run - from → most ≤ end - at → size ≤ most → SameIn b from out at size →
      SameRun b from to quoted out at end size
  same-run run most size r few room h same =
      let inside = r.within in
      let later = r.later in
      let fits : from + size ≤ run = omega arith in
      let front : Run (plain_byte quoted) b from to (from + size)
      = record { later = omega arith; within = omega arith; each = λ k l m. r.each k l (omega arith) } in
      record {
        lays = run_lays b from to quoted long (from + size) front;
        there = record {
          rising = λ _. omega arith;
          within = λ _. omega arith;
          there = λ _. same-slices b out from at size (omega arith) (omega arith) same;
          other = λ e. absurd (true≢false e);
        };
      }

-- ---- part by part

pub record MatchLoop (b : List ℕ) (from to : ℕ) (quoted : Bool) (out : List ℕ) (at end i last : ℕ) : Type 0 where
  pub text : List ℕ
  pub lays : Lays b from to quoted text i
  pub there : MatchedIn text out at end true last

module _ (b : List ℕ) (from to : ℕ) (quoted : Bool) (out : List ℕ) (at end : ℕ) where
  -- a character, and the run behind it
  pub match_goes : (i last mid size : ℕ) (k : Cursor) → MatchLoop b from to quoted out at end i last → UnitAt b i to quoted k →
      MatchedIn (unit_of k.unit) out last end true mid → SameRun b k.at to quoted out mid end size →
      MatchLoop b from to quoted out at end (k.at + size) (mid + size)
  match_goes i last mid size k l u m r =
      let unit = unit_of k.unit in
      let run = slice k.at (k.at + size) b in
      record {
        text = (l.text ++ unit) ++ run;
        lays = lays-then (lays-then l.lays u.lays) r.lays;
        there = matches_both out at end (l.text ++ unit) run mid (mid + size) true (matches_both out at end l.text unit last mid true l.there m) r.there;
      }

  pub match_stops : (i last mid : ℕ) (k : Cursor) → MatchLoop b from to quoted out at end i last → UnitAt b i to quoted k →
      MatchedIn (unit_of k.unit) out last end false mid → MatchedIn (span_text b from to quoted) out at end false at
  match_stops i last mid k l u m =
      let unit = unit_of k.unit in
      let rest = span_text b k.at to quoted in
      let whole : span_text b from to quoted ≡ l.text ++ (unit ++ rest) = l.lays.lays ∙ ap (λ (x : List ℕ). l.text ++ x) u.lays.lays in
      rw whole (unmatched out at end (matches_both out at end l.text (unit ++ rest) last mid false l.there (matches_first out last end unit rest mid mid m)))

  pub match_ends : (i last : ℕ) → MatchLoop b from to quoted out at end i last → to ≤ i → MatchedIn (span_text b from to quoted) out at end true last
  match_ends i last l h =
      let e : i ≡ to = omega (arith, l.lays.within) in
      let whole : span_text b from to quoted ≡ l.text
      = l.lays.lays ∙ ap (λ (x : List ℕ). l.text ++ x) (laid_end b quoted 0 0 i to e) ∙ append-nil l.text in
      rw whole l.there

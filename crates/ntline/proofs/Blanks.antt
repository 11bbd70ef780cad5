-- White space and comments by their bytes: they are what the longest match finds. Assumes nothing.
use mathlib.Core.Path.{◌≡◌, refl, sym, ap, ◌∙◌}
use mathlib.Core.Bool.{Bool, true, false, ◌&&◌, true≢false}
use mathlib.Core.List.{List, [], ◌∷◌, ◌++◌}
use Prim.Native.Nat.{ℕ, ◌+◌, ◌≤◌, ◌<◌}
use native.Mathlib.Omega.{arith}
use lib.Dec.{eqb}
use lib.ListN.{length, get_or}
use lib.Seq.{slice, slice-cons}
use borrow.Author.Tests.{ne_eqb, eqb-true}
use Rattle.utf8.specs.declared.Character.{Character}
use Rattle.std.specs.Prelude.{Option, Some, None}
use Rattle.utf8.specs.Characters.{is_character_lem}
use Rattle.utf8.specs.Octets.{character_at}
use Rattle.utf8.specs.Texts.{bad, chars_of, seen, are_characters, is_text_lem, SeenAt}
use Rattle.utf8.proofs.Judged.{low-character}
use Rattle.utf8.proofs.Agree.{bytes_one}
use Rattle.utf8.proofs.Seeing.{seen-whole, seen-bad}
use Rattle.ntline.specs.declared.lexing.State.TheVariants.{Start, White, Remark}
use Rattle.ntline.specs.Classes.{is_white_lem}
use Rattle.ntline.specs.Lexing.{Token, token_is, munched, token_of}
use Rattle.ntline.specs.Lines.{is_nil, spaced, is_over}
use Rattle.ntline.specs.Inner.{SpacedAt}
use Rattle.ntline.proofs.Bools.{second}
use Rattle.ntline.proofs.Munching.{munched-end}
use Rattle.ntline.proofs.Words.{stops-dead, white_goes, white_begins, kind-white, remark_goes, kind-remark}
use Rattle.ntline.proofs.Worded.{Terminal, space, dot, hats, remark, label, tag, iri, string, token_sound, white_stop, remark_stop, begins-remark}
use Rattle.ntline.proofs.Passing.{low-seen}
use Rattle.ntline.proofs.Spans.{spaced-space, spaced-none, seen_none}

-- ---- the first character, and its byte

one_byte : (b : List ℕ) (at end v n : ℕ) → end ≤ length b → SeenAt b at end v n → v < 0x80 → get_or b at 0 ≡ v
one_byte b at end v n k s low =
    let bytes : slice at n b ≡ v ∷ [] = s.whole (low-character v (omega arith)) ∙ bytes_one v (omega arith) in
    let cons = slice-cons at n b 0 s.later (omega (arith, s.within)) in
    ap (λ (l : List ℕ). get_or l 0 0) (sym cons ∙ bytes)

-- the character that a position begins with; one below 0x80 is its byte
record First (b : List ℕ) (at end : ℕ) : Type 0 where
  char : ℕ
  left : List ℕ
  parts : seen b at end ≡ char ∷ left
  byte : char < 0x80 → get_or b at 0 ≡ char

first : (b : List ℕ) (at end : ℕ) → at < end → end ≤ length b → First b at end
first b at end h k = which (character_at b at end) refl
  where
    from : (v n : ℕ) → SeenAt b at end v n → First b at end
    from v n s = record { char = v; left = seen b n end; parts = s.here; byte = one_byte b at end v n k s }

    which : (c : Option Character) → character_at b at end ≡ c → First b at end
    which (Some c) e = from c.number (at + c.size) (seen-whole b at end h k c.number c.size e)
    which None e = from bad end (seen-bad b at end h k e)

-- ---- white space

head_is : (c d : ℕ) (cs ds : List ℕ) → c ∷ cs ≡ d ∷ ds → c ≡ d
head_is c d cs ds e = ap (λ (l : List ℕ). get_or l 0 0) e

first-white : {s : List ℕ} {k : ℕ} → Terminal s k → k ≡ 1 → (c : ℕ) (cs rest : List ℕ) → c ∷ cs ≡ s ++ rest → is_white_lem c ≡ true
first-white (space {c = d} {cs = ds} e w) z c cs rest p = ap is_white_lem (head_is c d cs (ds ++ rest) p) ∙ e
first-white dot z c cs rest p = absurd (omega arith)
first-white hats z c cs rest p = absurd (omega arith)
first-white (remark d) z c cs rest p = absurd (omega arith)
first-white (label d) z c cs rest p = absurd (omega arith)
first-white (tag d) z c cs rest p = absurd (omega arith)
first-white (iri d) z c cs rest p = absurd (omega arith)
first-white (string d) z c cs rest p = absurd (omega arith)

-- no white space is taken off where none begins
solid : (c : ℕ) (cs : List ℕ) → is_white_lem c ≡ false → spaced (c ∷ cs) ≡ c ∷ cs
solid c cs e =
    spaced-none (c ∷ cs)
    (λ (k : (token_of (c ∷ cs)).kind ≡ 1).
    let s = token_sound (c ∷ cs) 1 k (λ (z : 1 ≡ 0). omega arith) in
    true≢false (sym (first-white s.terminal refl c cs (token_of (c ∷ cs)).rest s.parts) ∙ e))

white_nil : munched White 1 [] [] ≡ token_is 1 (spaced [])
unfolding spaced token_of munched
white_nil = refl

spaced-nil : spaced [] ≡ []
unfolding spaced token_of munched
spaced-nil = refl

begun-white : (c : ℕ) (cs : List ℕ) → is_white_lem c ≡ true → token_of (c ∷ cs) ≡ munched White 1 cs cs
unfolding token_of
begun-white c cs e = munched-end Start White 0 (c ∷ cs) c cs 1 (white_begins c e) kind-white refl

spaced-on : (c : ℕ) (cs : List ℕ) → is_white_lem c ≡ true → munched White 1 cs cs ≡ token_is 1 (spaced cs) → spaced (c ∷ cs) ≡ spaced cs
spaced-on c cs e again =
    let q = begun-white c cs e ∙ again in
    spaced-space (c ∷ cs) (ap (λ (t : Token). t.kind) q) ∙ ap (λ (t : Token). t.rest) q

white_run : (cs : List ℕ) → munched White 1 cs cs ≡ token_is 1 (spaced cs)
white_run [] = white_nil
white_run (c ∷ cs) = which (is_white_lem c) refl (white_run cs)
  where
    which : (t : Bool) → is_white_lem c ≡ t → munched White 1 cs cs ≡ token_is 1 (spaced cs) → munched White 1 (c ∷ cs) (c ∷ cs) ≡ token_is 1 (spaced (c ∷ cs))
    which true e again =
        munched-end White White 1 (c ∷ cs) c cs 1 (white_goes c e) kind-white refl ∙ again ∙ ap (token_is 1) (sym (spaced-on c cs e again))
    which false e again = stops-dead White c cs (white_stop c e) 1 (c ∷ cs) ∙ ap (token_is 1) (sym (solid c cs e))

-- white space is taken off a character at a time
spaced-white : (c : ℕ) (cs : List ℕ) → is_white_lem c ≡ true → spaced (c ∷ cs) ≡ spaced cs
spaced-white c cs e = spaced-on c cs e (white_run cs)

white_low : (x : ℕ) → is_white_lem x ≡ true → x < 0x80
unfolding is_white_lem
white_low x h = which (eqb x 0x20) refl
  where
    which : (t : Bool) → eqb x 0x20 ≡ t → x < 0x80
    which true e = let is = eqb-true x 0x20 e in omega arith
    which false e = let is = eqb-true x 0x9 (second (eqb x 0x20) _ e h) in omega arith

-- from one position up to another all is white
pub record WhiteTo (b : List ℕ) (at end i : ℕ) : Type 0 where
  pub later : at ≤ i
  pub within : i ≤ end
  pub same : spaced (seen b at end) ≡ spaced (seen b i end)

module _ (b : List ℕ) (at end : ℕ) where
  pub white_none : at ≤ end → WhiteTo b at end at
  white_none h = record { later = omega arith; within = h; same = refl }

  pub white_over : (i : ℕ) → WhiteTo b at end i → end ≤ i → SpacedAt b at end end
  white_over i w h =
      let e : i ≡ end = omega (arith, w.within) in
      let none : seen b i end ≡ [] = ap (λ (n : ℕ). chars_of (slice n end b)) e ∙ seen_none b end in
      record { later = omega (arith, w.later); within = omega arith; rest_is = seen_none b end ∙ sym (w.same ∙ ap spaced none ∙ spaced-nil) }

  module _ (long : end ≤ length b) (i x : ℕ) (w : WhiteTo b at end i) (h : i < end) (is : x ≡ get_or b i 0) (t : Bool) (tested : t ≡ is_white_lem x) where
    pub white_more : t ≡ true → WhiteTo b at end (i + 1)
    white_more e =
        let white : is_white_lem (get_or b i 0) ≡ true = ap is_white_lem (sym is) ∙ sym tested ∙ e in
        record {
          later = omega (arith, w.later);
          within = omega arith;
          same = w.same ∙ ap spaced (low-seen b i end h long (white_low (get_or b i 0) white)) ∙ spaced-white (get_or b i 0) (seen b (i + 1) end) white;
        }

    pub white_ends : t ≡ false → SpacedAt b at end i
    white_ends e = record { later = w.later; within = w.within; rest_is = sym (w.same ∙ whole) }
      where
        f : First b i end
        f = first b i end h long

        other : (u : Bool) → is_white_lem f.char ≡ u → is_white_lem f.char ≡ false
        other true q = absurd (true≢false (sym q ∙ ap is_white_lem (sym (f.byte (white_low f.char q)) ∙ sym is) ∙ sym tested ∙ e))
        other false q = q

        whole : spaced (seen b i end) ≡ seen b i end
        whole = ap spaced f.parts ∙ solid f.char f.left (other (is_white_lem f.char) refl) ∙ sym f.parts

-- ---- comments

first-sharp : {s : List ℕ} {k : ℕ} → Terminal s k → k ≡ 4 → (c : ℕ) (cs rest : List ℕ) → c ∷ cs ≡ s ++ rest → c ≡ 0x23
first-sharp (space e w) z c cs rest p = absurd (omega arith)
first-sharp dot z c cs rest p = absurd (omega arith)
first-sharp hats z c cs rest p = absurd (omega arith)
first-sharp (remark {cs = ds} d) z c cs rest p = head_is c 0x23 cs (ds ++ rest) p
first-sharp (label d) z c cs rest p = absurd (omega arith)
first-sharp (tag d) z c cs rest p = absurd (omega arith)
first-sharp (iri d) z c cs rest p = absurd (omega arith)
first-sharp (string d) z c cs rest p = absurd (omega arith)

abbrev Remarked : Token → Bool
Remarked t = eqb t.kind 4 && is_nil t.rest

remark_left : (cs : List ℕ) → Remarked (munched Remark 4 cs cs) ≡ are_characters cs
unfolding munched are_characters
remark_left [] = refl
remark_left (c ∷ cs) = which (is_character_lem c) refl (remark_left cs)
  where
    which : (t : Bool) → is_character_lem c ≡ t → Remarked (munched Remark 4 cs cs) ≡ are_characters cs → Remarked (munched Remark 4 (c ∷ cs) (c ∷ cs)) ≡ is_character_lem c && are_characters cs
    which true e again = ap Remarked (munched-end Remark Remark 4 (c ∷ cs) c cs 4 (remark_goes c e) kind-remark refl) ∙ again ∙ rw e refl
    which false e again = ap Remarked (stops-dead Remark c cs (remark_stop c e) 4 (c ∷ cs)) ∙ rw e refl

begun-remark : (cs : List ℕ) → token_of (0x23 ∷ cs) ≡ munched Remark 4 cs cs
unfolding token_of
begun-remark cs = munched-end Start Remark 0 (0x23 ∷ cs) 0x23 cs 4 begins-remark kind-remark refl

remark_over : (xs cs : List ℕ) → spaced xs ≡ 0x23 ∷ cs → is_over xs ≡ are_characters cs
unfolding is_over
remark_over xs cs e = rw e (ap Remarked (begun-remark cs) ∙ remark_left cs)

no_remark : (xs : List ℕ) (c : ℕ) (cs : List ℕ) → spaced xs ≡ c ∷ cs → (c ≡ 0x23 → ⊥) → is_over xs ≡ false
unfolding is_over
no_remark xs c cs e other = rw (e, ne_eqb (token_of (c ∷ cs)).kind 4 none) refl
  where
    none : (token_of (c ∷ cs)).kind ≡ 4 → ⊥
    none k =
        let s = token_sound (c ∷ cs) 4 k (λ (z : 4 ≡ 0). omega arith) in
        other (first-sharp s.terminal refl c cs (token_of (c ∷ cs)).rest s.parts)

module _ (b : List ℕ) (at end from : ℕ) (long : end ≤ length b) (s : SpacedAt b at end from) (some : from ≡ end → ⊥) where
  pub over-remark : get_or b from 0 ≡ 0x23 → (r : Bool) → r ≡ is_text_lem (slice (from + 1) end b) → r ≡ is_over (seen b at end)
  unfolding is_text_lem
  over-remark is r e =
      let here : seen b from end ≡ 0x23 ∷ seen b (from + 1) end
      = low-seen b from end (omega (arith, s.within, some)) long (omega arith) ∙ ap (λ (n : ℕ). n ∷ seen b (from + 1) end) is in
      e ∙ sym (remark_over (seen b at end) (seen b (from + 1) end) (sym s.rest_is ∙ here))

  pub over_none : (get_or b from 0 ≡ 0x23 → ⊥) → false ≡ is_over (seen b at end)
  over_none other =
      let f = first b from end (omega (arith, s.within, some)) long in
      sym (no_remark (seen b at end) f.char f.left (sym s.rest_is ∙ f.parts)
      (λ (e : f.char ≡ 0x23). other (f.byte (omega arith) ∙ e)))

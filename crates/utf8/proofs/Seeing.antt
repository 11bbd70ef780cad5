-- What `see` sees, and a run of characters seen one after another. Assumes nothing.
use mathlib.Core.Path.{◌≡◌, refl, sym, ap, ◌∙◌}
use mathlib.Core.Bool.{Bool, true, false, ◌&&◌, true≢false}
use mathlib.Core.Logic.{⊎_elim}
use mathlib.Core.List.{List, [], ◌∷◌, ◌++◌, append-nil, append_assoc}
use Prim.Native.Nat.{ℕ, zero, suc, ◌+◌, ◌-◌, ◌≤◌, ◌<◌}
use native.Mathlib.Nat.{zero-add, suc-add}
use native.Mathlib.Omega.{arith}
use lib.ListN.{length, take, drop, drop_of_length-le, length-take}
use lib.Seq.{slice, slice_empty, length-slice, take-nil, drop-drop, take-take, take-add}
use Rattle.std.specs.Prelude.{None}
use Rattle.utf8.specs.Characters.{is_character_lem, char_bytes, text_bytes}
use Rattle.utf8.specs.Octets.{whole, character_at}
use Rattle.utf8.specs.Texts.{bad, chars_of, seen, are_characters, is_text_lem, AllCharacters, SeenAt}
use Rattle.utf8.proofs.Judged.{character_is}
use Rattle.utf8.proofs.Agree.{sound-in}
use Rattle.utf8.proofs.Texts.{bad-is_none, chars-nil, chars-whole, chars-bad, chars-append, chars-of_text}

-- ---- parts of lists

pub drop-take : (f n : ℕ) (l : List ℕ) → drop f (take (f + n) l) ≡ take n (drop f l)
drop-take zero n l = rw (zero-add n) refl
drop-take (suc f) n [] = ap (drop (suc f)) (take-nil (suc f + n)) ∙ sym (take-nil n)
drop-take (suc f) n (x ∷ xs) = rw (suc-add f n) (drop-take f n xs)

pub slice_take : (f t : ℕ) (l : List ℕ) → f ≤ t → slice f t l ≡ take (t - f) (drop f l)
slice_take f t l h = let e : t ≡ f + (t - f) = omega arith in ap (λ (k : ℕ). slice f k l) e ∙ drop-take f (t - f) l

-- the front of a part is a part
pub slice_front : (f n t : ℕ) (l : List ℕ) → f + n ≤ t → take n (slice f t l) ≡ slice f (f + n) l
slice_front f n t l h =
    ap (take n) (slice_take f t l (omega arith)) ∙ take-take n (t - f) (drop f l) (omega arith) ∙ sym (drop-take f n l)

-- two parts that meet are one
pub slice_join : (f m t : ℕ) (l : List ℕ) → f ≤ m → m ≤ t → slice f m l ++ slice m t l ≡ slice f t l
slice_join f m t l h k =
    let d : t - f ≡ (m - f) + (t - m) = omega arith in
    let e : f + (m - f) ≡ m = omega arith in
    let back : slice f t l ≡ take (m - f) (drop f l) ++ take (t - m) (drop m l)
    = slice_take f t l (omega arith) ∙ ap (λ (n : ℕ). take n (drop f l)) d ∙ take-add (m - f) (t - m) (drop f l)
    ∙ ap (λ (r : List ℕ). take (m - f) (drop f l) ++ take (t - m) r) (drop-drop (m - f) f l ∙ ap (λ (n : ℕ). drop n l) e) in
    rw (slice_take f m l h, slice_take m t l k) (sym back)

slice_past : (f t : ℕ) (l : List ℕ) → t ≤ f → slice f t l ≡ []
slice_past f t l h = drop_of_length-le (take t l) {i = f} (let e = length-take t l in omega arith)

-- ---- one character

module _ (b : List ℕ) (at end : ℕ) (some : at < end) (within : end ≤ length b) where
  pub whole-fits : (c n : ℕ) → character_at b at end ≡ whole c n → at + n ≤ end
  whole-fits c n e = let t = sound-in (slice at end b) c n e in omega (arith, t.fits, length-slice at end b within)

  pub seen-whole : (c n : ℕ) → character_at b at end ≡ whole c n → SeenAt b at end c (at + n)
  seen-whole c n e =
      let t = sound-in (slice at end b) c n e in
      let fits = whole-fits c n e in
      record {
        later = omega (arith, t.some);
        within = fits;
        small = ⊎_elim (λ l. omega arith) (λ h. omega (arith, h.1)) (character_is c t.character);
        here = chars-whole (slice at end b) c n e ∙ ap (λ (l : List ℕ). c ∷ chars_of l) (drop-drop n at (take end b));
        whole = λ h. sym (slice_front at n end b fits) ∙ t.bytes;
        or_bad = λ h. absurd (true≢false (sym t.character ∙ h));
      }

  pub seen-bad : character_at b at end ≡ None → SeenAt b at end bad end
  seen-bad e =
      record {
        later = some;
        within = omega arith;
        small = omega arith;
        here = chars-bad (slice at end b) (omega (arith, length-slice at end b within)) e ∙ ap (λ (l : List ℕ). bad ∷ l) (sym (ap chars_of (slice_empty end b) ∙ chars-nil));
        whole = λ h. absurd (true≢false (sym h ∙ bad-is_none));
        or_bad = λ h. (refl, refl);
      }

-- ---- whether all are

text-cons : (b : List ℕ) (at end v n : ℕ) → SeenAt b at end v n → is_text_lem (slice at end b) ≡ is_character_lem v && is_text_lem (slice n end b)
unfolding is_text_lem are_characters
text-cons b at end v n s = ap are_characters s.here

pub text-on : (b : List ℕ) (at end v n : ℕ) → SeenAt b at end v n → (v ≡ bad → ⊥) → is_text_lem (slice at end b) ≡ is_text_lem (slice n end b)
text-on b at end v n s h =
    let c : is_character_lem v ≡ true = is-it (is_character_lem v) refl (λ k. h (s.or_bad k).0) in
    text-cons b at end v n s ∙ rw c refl
  where
    is-it : (t : Bool) → is_character_lem v ≡ t → (is_character_lem v ≡ false → ⊥) → is_character_lem v ≡ true
    is-it true e k = e
    is-it false e k = absurd (k e)

pub text-not : (b : List ℕ) (at end v n : ℕ) → SeenAt b at end v n → v ≡ bad → false ≡ is_text_lem (slice at end b)
text-not b at end v n s h = sym (text-cons b at end v n s ∙ rw (h, bad-is_none) refl)

pub text-all : (b : List ℕ) (at end : ℕ) → end ≤ at → true ≡ is_text_lem (slice at end b)
unfolding is_text_lem are_characters
text-all b at end h = sym (ap are_characters (ap chars_of (slice_past at end b h) ∙ chars-nil))

-- ---- a run of characters

pub record Clean (b : List ℕ) (at i : ℕ) : Type 0 where
  pub le : at ≤ i
  pub within : i ≤ length b
  pub good : AllCharacters (seen b at i)
  pub bytes : text_bytes (seen b at i) ≡ slice at i b

all_snoc : (cs : List ℕ) (v : ℕ) → AllCharacters cs → is_character_lem v ≡ true → AllCharacters (cs ++ (v ∷ []))
all_snoc [] v h k = (k, tt)
all_snoc (c ∷ cs) v h k = (h.0, all_snoc cs v h.1 k)

text-snoc : (cs : List ℕ) (v : ℕ) → text_bytes (cs ++ (v ∷ [])) ≡ text_bytes cs ++ char_bytes v
unfolding text_bytes
text-snoc [] v = append-nil (char_bytes v)
text-snoc (c ∷ cs) v = ap (λ (l : List ℕ). char_bytes c ++ l) (text-snoc cs v) ∙ sym (append_assoc (char_bytes c) (text_bytes cs) (char_bytes v))

pub clean_start : (b : List ℕ) (at : ℕ) → at ≤ length b → Clean b at at
unfolding text_bytes
clean_start b at h =
    let none : seen b at at ≡ [] = ap chars_of (slice_empty at b) ∙ chars-nil in
    record { le = omega arith; within = h; good = rw none tt; bytes = rw none (sym (slice_empty at b)) }

module _ (b : List ℕ) (at i end v n : ℕ) (run : Clean b at i) (next : SeenAt b i end v n) (inside : end ≤ length b) (good : is_character_lem v ≡ true) where
  snoc_bytes : text_bytes (seen b at i ++ (v ∷ [])) ≡ slice at n b
  snoc_bytes =
      text-snoc (seen b at i) v ∙ ap (λ (l : List ℕ). l ++ char_bytes v) run.bytes ∙ ap (λ (l : List ℕ). slice at i b ++ l) (sym (next.whole good))
      ∙ slice_join at i n b run.le (omega (arith, next.later))

  pub clean_snoc : seen b at n ≡ seen b at i ++ (v ∷ [])
  clean_snoc = ap chars_of (sym snoc_bytes) ∙ chars-of_text (seen b at i ++ (v ∷ [])) (all_snoc (seen b at i) v run.good good)

  pub clean_step : Clean b at n
  clean_step =
      record {
        le = omega (arith, run.le, next.later);
        within = omega (arith, next.within);
        good = rw clean_snoc (all_snoc (seen b at i) v run.good good);
        bytes = rw clean_snoc snoc_bytes;
      }

pub clean_rest : (b : List ℕ) (at i end : ℕ) → Clean b at i → i ≤ end → end ≤ length b → seen b at end ≡ seen b at i ++ seen b i end
clean_rest b at i end run h k =
    ap chars_of (sym (slice_join at i end b run.le h) ∙ ap (λ (l : List ℕ). l ++ slice i end b) (sym run.bytes)) ∙ chars-append (seen b at i) (slice i end b) run.good

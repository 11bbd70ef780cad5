-- The characters of a text's octets are the text, and octets whose characters all are characters are that text's. So octets are UTF-8 in
-- at most one way. Assumes nothing.
use mathlib.Core.Path.{◌≡◌, refl, sym, ap, ◌∙◌}
use mathlib.Core.Bool.{Bool, true, false, ◌&&◌, false≢true}
use mathlib.Core.Logic.{◌↔◌}
use mathlib.Core.List.{List, [], ◌∷◌, ◌++◌, append_assoc, append-nil}
use Prim.Native.Nat.{ℕ, zero, suc, ◌≤◌}
use native.Mathlib.Omega.{arith}
use lib.ListN.{length, drop, length-drop, take-append-drop}
use lib.Seq.{drop-append_seam}
use Rattle.utf8.specs.declared.Character.{Character}
use Rattle.std.specs.Prelude.{Option, Some, None}
use Rattle.utf8.specs.Characters.{is_character_lem, char_bytes, text_bytes}
use Rattle.utf8.specs.Octets.{whole, character_in}
use Rattle.utf8.specs.Texts.{bad, front, chars_from, chars_of, are_characters, is_text_lem, AllCharacters}
use Rattle.utf8.proofs.Agree.{sound-in, complete_front}

pub bad-is_none : is_character_lem bad ≡ false
unfolding is_character_lem
bad-is_none = refl

-- ---- as many characters as may be, from any number that is enough

from-nil : (m : ℕ) → chars_from m [] ≡ []
unfolding chars_from
from-nil zero = refl
from-nil (suc m) = refl

fewer : (s : List ℕ) (c n m : ℕ) → character_in s ≡ whole c n → length s ≤ suc m → length (drop n s) ≤ m
fewer s c n m e h = let t = sound-in s c n e in let k = length-drop n s in let o = t.some in omega arith

enough : (m n : ℕ) (s : List ℕ) → length s ≤ m → length s ≤ n → chars_from m s ≡ chars_from n s
unfolding chars_from
enough zero n [] h k = sym (from-nil n)
enough zero n (x ∷ xs) h k = absurd (omega arith)
enough (suc m) n [] h k = sym (from-nil n)
enough (suc m) zero (x ∷ xs) h k = absurd (omega arith)
enough (suc m) (suc n) (x ∷ xs) h k = by (character_in (x ∷ xs)) refl (λ size p q. enough m n (drop size (x ∷ xs)) p q)
  where
    by : (f : Option Character) → character_in (x ∷ xs) ≡ f
        → ((size : ℕ) → length (drop size (x ∷ xs)) ≤ m → length (drop size (x ∷ xs)) ≤ n → chars_from m (drop size (x ∷ xs)) ≡ chars_from n (drop size (x ∷ xs)))
        → front f (λ size. chars_from m (drop size (x ∷ xs))) ≡ front f (λ size. chars_from n (drop size (x ∷ xs)))
    by (Some c) e again = ap (λ (l : List ℕ). c.number ∷ l) (again c.size (fewer (x ∷ xs) c.number c.size m e h) (fewer (x ∷ xs) c.number c.size n e k))
    by None e again = refl

pub chars-nil : chars_of [] ≡ []
unfolding chars_of chars_from
chars-nil = refl

pub chars-whole : (s : List ℕ) (c n : ℕ) → character_in s ≡ whole c n → chars_of s ≡ c ∷ chars_of (drop n s)
unfolding chars_of chars_from
chars-whole [] c n e = absurd (let t = sound-in [] c n e in let o = t.some in let f = t.fits in omega arith)
chars-whole (x ∷ xs) c n e =
    ap (λ (f : Option Character). front f (λ size. chars_from (length xs) (drop size (x ∷ xs)))) e
    ∙ ap (λ (l : List ℕ). c ∷ l) (enough (length xs) (length (drop n (x ∷ xs))) (drop n (x ∷ xs)) (fewer (x ∷ xs) c n (length xs) e (omega arith)) (omega arith))

pub chars-bad : (s : List ℕ) → 1 ≤ length s → character_in s ≡ None → chars_of s ≡ bad ∷ []
unfolding chars_of chars_from
chars-bad [] h e = absurd (omega arith)
chars-bad (x ∷ xs) h e = ap (λ (f : Option Character). front f (λ size. chars_from (length xs) (drop size (x ∷ xs)))) e

-- ---- round trip

pub chars-append : (cs s : List ℕ) → AllCharacters cs → chars_of (text_bytes cs ++ s) ≡ cs ++ chars_of s
unfolding text_bytes
chars-append [] s h = refl
chars-append (c ∷ cs) s h =
    ap chars_of (append_assoc (char_bytes c) (text_bytes cs) s)
    ∙ chars-whole (char_bytes c ++ (text_bytes cs ++ s)) c (length (char_bytes c)) (complete_front c (text_bytes cs ++ s) h.0)
    ∙ ap (λ (l : List ℕ). c ∷ chars_of l) (drop-append_seam (char_bytes c) (text_bytes cs ++ s))
    ∙ ap (λ (l : List ℕ). c ∷ l) (chars-append cs s h.1)

pub chars-of_text : (cs : List ℕ) → AllCharacters cs → chars_of (text_bytes cs) ≡ cs
chars-of_text cs h = ap chars_of (sym (append-nil (text_bytes cs))) ∙ chars-append cs [] h ∙ ap (λ (l : List ℕ). cs ++ l) chars-nil ∙ append-nil cs

text-from : (m : ℕ) (s : List ℕ) → length s ≤ m → AllCharacters (chars_of s) → text_bytes (chars_of s) ≡ s
unfolding text_bytes
text-from zero [] h all = rw chars-nil refl
text-from zero (x ∷ xs) h all = absurd (omega arith)
text-from (suc m) [] h all = rw chars-nil refl
text-from (suc m) (x ∷ xs) h all = by (character_in (x ∷ xs)) refl (λ size p q. text-from m (drop size (x ∷ xs)) p q)
  where
    by : (f : Option Character) → character_in (x ∷ xs) ≡ f
        → ((size : ℕ) → length (drop size (x ∷ xs)) ≤ m → AllCharacters (chars_of (drop size (x ∷ xs))) → text_bytes (chars_of (drop size (x ∷ xs))) ≡ drop size (x ∷ xs))
        → text_bytes (chars_of (x ∷ xs)) ≡ x ∷ xs
    by (Some f) e again =
        let first = chars-whole (x ∷ xs) f.number f.size e in
        let rest : AllCharacters (f.number ∷ chars_of (drop f.size (x ∷ xs))) = rw first at all in
        ap text_bytes first
        ∙ ap (λ (l : List ℕ). char_bytes f.number ++ l) (again f.size (fewer (x ∷ xs) f.number f.size m e h) rest.1)
        ∙ ap (λ (l : List ℕ). l ++ drop f.size (x ∷ xs)) (sym (sound-in (x ∷ xs) f.number f.size e).bytes)
        ∙ take-append-drop f.size (x ∷ xs)
    by None e again =
        let rest : AllCharacters (bad ∷ []) = rw (chars-bad (x ∷ xs) (omega arith) e) at all in
        absurd (false≢true (sym bad-is_none ∙ rest.0))

pub text_of-chars : (s : List ℕ) → AllCharacters (chars_of s) → text_bytes (chars_of s) ≡ s
text_of-chars s h = text-from (length s) s (omega arith) h

-- octets are a text in at most one way
pub text-unique : (cs ds : List ℕ) → AllCharacters cs → AllCharacters ds → text_bytes cs ≡ text_bytes ds → cs ≡ ds
text-unique cs ds hc hd e = sym (chars-of_text cs hc) ∙ ap chars_of e ∙ chars-of_text ds hd

-- ---- and which octets are one

pub are_all : (cs : List ℕ) → are_characters cs ≡ true → AllCharacters cs
unfolding are_characters
are_all [] h = tt
are_all (c ∷ cs) h = both (is_character_lem c) (are_characters cs) h refl (λ k. are_all cs k)
  where
    both : (p q : Bool) → p && q ≡ true → is_character_lem c ≡ p → (q ≡ true → AllCharacters cs) → (is_character_lem c ≡ true) × AllCharacters cs
    both true q h e again = (e, again h)
    both false q h e again = absurd (false≢true h)

pub all_are : (cs : List ℕ) → AllCharacters cs → are_characters cs ≡ true
unfolding are_characters
all_are [] h = refl
all_are (c ∷ cs) h = rw h.0 (all_are cs h.1)

-- "is UTF-8": the octets of a list of characters, and which
pub is-text : (s : List ℕ) → (is_text_lem s ≡ true) ↔ ((cs : List ℕ) × (AllCharacters cs × (text_bytes cs ≡ s)))
unfolding is_text_lem
is-text s = (
  λ h. let all = are_all (chars_of s) h in (chars_of s, (all, text_of-chars s all)),
  λ t. rw (← t.1.1, chars-of_text t.0 t.1.0) (all_are t.0 t.1.0),
)

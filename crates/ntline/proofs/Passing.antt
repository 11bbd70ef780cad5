-- Bytes passed over: what a run of them does to a state. Assumes nothing.
use mathlib.Core.Path.{◌≡◌, refl, sym, ap, subst, ◌∙◌}
use mathlib.Core.Bool.{Bool, true, false, not, ◌&&◌, ◌||◌, false≢true}
use mathlib.Core.List.{List, ◌∷◌}
use Prim.Native.Nat.{ℕ, zero, suc, ◌+◌, ◌-◌, ◌≤◌, ◌<◌}
use native.Mathlib.Numerals.{add-one}
use native.Mathlib.Omega.{arith}
use native.Mathlib.Decide.{dec_lt}
use lib.ListN.{length, get_or}
use lib.Seq.{slice, slice-cons}
use lib.Dec.{eqb, leb, ltb}
use borrow.Author.Tests.{ne_eqb, le-leb, ltb-true, leb-true, eqb-true, eqb-false, not-true}
use Rattle.ground.specs.Lists.{all_below}
use Rattle.ground.proofs.Below.{below_all}
use Rattle.utf8.specs.Characters.{within, is_character_lem}
use Rattle.utf8.specs.Octets.{whole, character_of, character_in}
use Rattle.utf8.specs.Texts.{chars_of, seen}
use Rattle.utf8.proofs.Judged.{and_left, and_right, is_one, low-character}
use Rattle.utf8.proofs.Texts.{chars-whole}
use Rattle.ntline.specs.declared.lexing.State.{State}
use Rattle.ntline.specs.declared.lexing.State.TheVariants.{Iri, Quoted}
use Rattle.ntline.specs.Classes.{is_alpha_lem, is_digit_lem, is_alnum_lem, is_barred, is_iri_char_lem, is_name_char_lem, is_scheme_char_lem}
use Rattle.ntline.specs.Escapes.{part, fed, fed_by}
use Rattle.ntline.specs.Lexing.{schemed, iri_goes, in_iri, quoted_goes, in_quoted, step, munched}
use Rattle.ntline.specs.Runs.{plain_byte, label_byte, Run, Still, RunTo}
use Rattle.ntline.proofs.Bools.{second, either}
use Rattle.ntline.proofs.Munching.{munched-on, iri-none, quoted_none}

-- ---- one byte

-- a byte below 0x80 is a character by itself
low-whole : (x : ℕ) (xs : List ℕ) → x < 0x80 → character_in (x ∷ xs) ≡ whole x 1
unfolding character_in character_of
low-whole x xs h = rw (le-leb 1 (suc (length xs)) (omega arith), is_one x (omega arith)) refl

pub low-seen : (b : List ℕ) (at end : ℕ) → at < end → end ≤ length b → get_or b at 0 < 0x80 → seen b at end ≡ get_or b at 0 ∷ seen b (at + 1) end
low-seen b at end h k l =
    ap chars_of (slice-cons at end b 0 h k) ∙ chars-whole (get_or b at 0 ∷ slice (suc at) end b) (get_or b at 0) 1 (low-whole (get_or b at 0) (slice (suc at) end b) l)
    ∙ ap (λ (n : ℕ). get_or b at 0 ∷ seen b n end) (sym (add-one at))

-- what one test says, another says of every byte
abbrev Says : (ℕ → Bool) → (ℕ → Bool) → Bool
Says P Q = all_below 256 (λ x. not (P x) || Q x)

byte_says : (P Q : ℕ → Bool) → Says P Q ≡ true → (x : ℕ) → x < 256 → P x ≡ true → Q x ≡ true
byte_says P Q all x h e = second (not (P x)) (Q x) (rw e refl) (below_all 256 (λ y. not (P y) || Q y) all x h)

pub label-low : (x : ℕ) → label_byte x ≡ true → x < 0x80
unfolding label_byte
label-low x h = ltb-true x 0x80 (and_left (ltb x 0x80) _ h)

pub label-name : (x : ℕ) → label_byte x ≡ true → is_name_char_lem x ≡ true
unfolding label_byte
label-name x h = and_right (ltb x 0x80) _ h

pub alpha_low : (x : ℕ) → is_alpha_lem x ≡ true → x < 0x80
unfolding is_alpha_lem
alpha_low x h = which (within 0x61 0x7A x) refl
  where
    which : (t : Bool) → within 0x61 0x7A x ≡ t → x < 0x80
    which true e = let l = leb-true x 0x7A (and_right (leb 0x61 x) _ e) in omega arith
    which false e = let l = leb-true x 0x5A (and_right (leb 0x41 x) _ (second (within 0x61 0x7A x) _ e h)) in omega arith

pub alpha_iri : (x : ℕ) → is_alpha_lem x ≡ true → is_iri_char_lem x ≡ true
unfolding is_alpha_lem is_iri_char_lem is_barred is_character_lem all_below
alpha_iri x h = let low = alpha_low x h in byte_says is_alpha_lem is_iri_char_lem refl x (omega arith) h

-- ---- bytes one after another

walk : (Q : ℕ → Type 0) (n at : ℕ) → Q at → ((k : ℕ) → at ≤ k → k < at + n → Q k → Q (k + 1)) → Q (at + n)
walk Q zero at q on = let e : at ≡ at + 0 = omega arith in subst Q e q
walk Q (suc n) at q on =
    let e : at + n + 1 ≡ at + suc n = omega arith in
    subst Q e (on (at + n) (omega arith) (omega arith) (walk Q n at q (λ k h l. on k h (omega arith))))

-- what holds at the first position, and behind each if it holds there, holds at the last
pub walk_to : (Q : ℕ → Type 0) (at to : ℕ) → at ≤ to → Q at → ((k : ℕ) → at ≤ k → k < to → Q k → Q (k + 1)) → Q to
walk_to Q at to h q on =
    let e : at + (to - at) ≡ to = omega arith in
    subst Q e (walk Q (to - at) at q (λ k l m. on k l (omega arith)))

-- what holds at so many positions from one on, by their numbers
pub from_here : (Q : ℕ → Type 0) (at n : ℕ) → ((k : ℕ) → k < n → Q (at + k)) → (k : ℕ) → at ≤ k → k < at + n → Q k
from_here Q at n h k l m = let is : at + (k - at) ≡ k = omega arith in subst Q is (h (k - at) (omega arith))

module _ (P : ℕ → Bool) (b : List ℕ) (at end : ℕ) where
  pub run_none : at ≤ end → Run P b at end at
  run_none h = record { later = omega arith; within = h; each = λ k l m. absurd (omega arith) }

  -- a run behind a run
  pub run_on : (i j : ℕ) → Run P b at end i → Run P b i end j → Run P b at end j
  run_on i j r s = record {
    later = omega (arith, r.later, s.later);
    within = s.within;
    each = λ k l m. which k l m (dec_lt k i);
  }
    where
      which : (k : ℕ) → at ≤ k → k < j → Dec (k < i) → P (get_or b k 0) ≡ true
      which k l m (yes q) = r.each k l q
      which k l m (no q) = s.each k (omega arith) m

  pub run_block : (i size : ℕ) → Run P b at end i → i + size ≤ end → ((k : ℕ) → k < size → P (get_or b (i + k) 0) ≡ true) → Run P b at end (i + size)
  run_block i size r h e =
      run_on i (i + size) r
      (record {
        later = omega arith;
        within = h;
        each = λ k l m. let is : i + (k - i) ≡ k = omega arith in subst (λ (n : ℕ). P (get_or b n 0) ≡ true) is (e (k - i) (omega arith));
      })

-- ---- what they do to a state

-- what stands for itself
itself : (c : ℕ) → c < 0x80 → (c ≡ 0x5C → ⊥) → fed_by 0 0 c ≡ fed 0 0 c
unfolding fed_by
itself c h n = rw (ne_eqb c 0x5C n, ne_eqb c part (λ e. omega arith)) refl

-- a number that passes a test is none that fails it
pub none_of : (P : ℕ → Bool) (x y : ℕ) → P x ≡ true → P y ≡ false → x ≡ y → ⊥
none_of P x y h k e = false≢true (sym k ∙ ap P (sym e) ∙ h)

barred_open : plain_byte false 0x3E ≡ false
unfolding plain_byte is_iri_char_lem is_barred is_character_lem
barred_open = refl

pub barred_slash : (blank : Bool) → plain_byte blank 0x5C ≡ false
unfolding plain_byte is_iri_char_lem is_barred is_character_lem
barred_slash true = refl
barred_slash false = refl

barred_string : (plain_byte true 0x22 ≡ false) × (plain_byte true 0xA ≡ false) × (plain_byte true 0xD ≡ false)
unfolding plain_byte is_iri_char_lem is_barred is_character_lem
barred_string = (refl, refl, refl)

pub plain-low : (blank : Bool) (x : ℕ) → plain_byte blank x ≡ true → x < 0x80
unfolding plain_byte
plain-low blank x h = ltb-true x 0x80 (and_left (ltb x 0x80) _ h)

plain-iri_char : (x : ℕ) → plain_byte false x ≡ true → is_iri_char_lem x ≡ true
unfolding plain_byte
plain-iri_char x h = left (is_iri_char_lem x) (and_right (ltb x 0x80) _ h)
  where
    left : (t : Bool) → (t || false) ≡ true → t ≡ true
    left true e = refl
    left false e = e

iri-still : (x : ℕ) → plain_byte false x ≡ true → Still (Iri 2 0 0) x
unfolding step in_iri iri_goes schemed
iri-still x h =
    let low = plain-low false x h in
    let bare = none_of (plain_byte false) x 0x5C h (barred_slash false) in
    record {
      low = low;
      bare = bare;
      same = rw (ne_eqb x 0x3E (none_of (plain_byte false) x 0x3E h barred_open), itself x low bare, ne_eqb x part (λ e. omega arith), plain-iri_char x h) refl;
    }

string-still : (x : ℕ) → plain_byte true x ≡ true → Still (Quoted 0 0) x
unfolding step in_quoted quoted_goes
string-still x h =
    let low = plain-low true x h in
    let bare = none_of (plain_byte true) x 0x5C h (barred_slash true) in
    record {
      low = low;
      bare = bare;
      same = rw (
        ne_eqb x 0x22 (none_of (plain_byte true) x 0x22 h barred_string.0),
        ne_eqb x 0xA (none_of (plain_byte true) x 0xA h barred_string.1),
        ne_eqb x 0xD (none_of (plain_byte true) x 0xD h barred_string.2),
        itself x low bare,
        ne_eqb x part (λ e. omega arith),
        low-character x (omega arith),
      ) refl;
    }

module _ (b : List ℕ) (at end to : ℕ) where
  pub iri-run : Run (plain_byte false) b at end to → RunTo (Iri 2 0 0) b at end to
  iri-run r = record { later = r.later; within = r.within; quiet = λ h. iri-none 2 0 0; still = λ k l m. iri-still (get_or b k 0) (r.each k l m) }

  pub string-run : Run (plain_byte true) b at end to → RunTo (Quoted 0 0) b at end to
  string-run r = record { later = r.later; within = r.within; quiet = λ h. quoted_none 0 0; still = λ k l m. string-still (get_or b k 0) (r.each k l m) }

pub stays : (s : State) (b : List ℕ) (at end : ℕ) → at ≤ end → RunTo s b at end at
stays s b at end h = record { later = omega arith; within = h; quiet = λ l. absurd (omega arith); still = λ k l m. absurd (omega arith) }

-- no terminal ends in it
pub run_same : (s : State) (b : List ℕ) (at end to : ℕ) → end ≤ length b → RunTo s b at end to → (kind : ℕ) (rest : List ℕ) →
    munched s kind rest (seen b at end) ≡ munched s kind rest (seen b to end)
run_same s b at end to long r kind rest =
    walk_to (λ (k : ℕ). munched s kind rest (seen b at end) ≡ munched s kind rest (seen b k end)) at to r.later refl
    (λ k l m q.
    let still = r.still k l m in
    q ∙ ap (munched s kind rest) (low-seen b k end (omega (arith, r.within)) long still.low)
    ∙ munched-on s s kind rest (get_or b k 0) (seen b (k + 1) end) still.same (r.quiet (omega arith)))

-- ---- schemes

scheme_says : Says is_scheme_char_lem (λ x. ltb x 0x80 && (is_iri_char_lem x && (not (eqb x 0x5C) && (not (eqb x 0x3E) && not (eqb x 0x3A))))) ≡ true
unfolding is_scheme_char_lem is_alnum_lem is_alpha_lem is_digit_lem is_iri_char_lem is_barred is_character_lem all_below
scheme_says = refl

scheme_low : (x : ℕ) → is_scheme_char_lem x ≡ true → x < 0x80
unfolding is_scheme_char_lem is_alnum_lem is_digit_lem
scheme_low x h =
    either (is_alnum_lem x) _ h
    (λ p. either (is_alpha_lem x) _ p (λ q. alpha_low x q) (λ q. let l = leb-true x 0x39 (and_right (leb 0x30 x) _ q) in omega arith))
    (λ p. either (eqb x 0x2B || eqb x 0x2D) _ p
    (λ q. either (eqb x 0x2B) _ q (λ e. let is = eqb-true x 0x2B e in omega arith) (λ e. let is = eqb-true x 0x2D e in omega arith))
    (λ e. let is = eqb-true x 0x2E e in omega arith))

scheme_still : (x : ℕ) → is_scheme_char_lem x ≡ true → Still (Iri 1 0 0) x
unfolding step in_iri iri_goes schemed
scheme_still x e =
    let small = scheme_low x e in
    let all = byte_says is_scheme_char_lem (λ y. ltb y 0x80 && (is_iri_char_lem y && (not (eqb y 0x5C) && (not (eqb y 0x3E) && not (eqb y 0x3A))))) scheme_says x (omega arith) e in
    let low = ltb-true x 0x80 (and_left (ltb x 0x80) _ all) in
    let some = and_right (ltb x 0x80) _ all in
    let char = and_left (is_iri_char_lem x) _ some in
    let rest = and_right (is_iri_char_lem x) _ some in
    let slash = not-true (eqb x 0x5C) (and_left (not (eqb x 0x5C)) _ rest) in
    let last = and_right (not (eqb x 0x5C)) _ rest in
    let close = not-true (eqb x 0x3E) (and_left (not (eqb x 0x3E)) _ last) in
    let colon = not-true (eqb x 0x3A) (and_right (not (eqb x 0x3E)) _ last) in
    let bare : x ≡ 0x5C → ⊥ = eqb-false x 0x5C slash in
    record { low = low; bare = bare; same = rw (close, itself x low bare, ne_eqb x part (λ q. omega arith), char, colon, e) refl }

module _ (b : List ℕ) (at end : ℕ) where
  pub scheme_more : (i : ℕ) → RunTo (Iri 1 0 0) b at end i → i < end → (x : ℕ) → x ≡ get_or b i 0 → (t : Bool) → t ≡ is_scheme_char_lem x → t ≡ true →
      RunTo (Iri 1 0 0) b at end (i + 1)
  scheme_more i r h x is t e f = record {
    later = omega (arith, r.later);
    within = omega arith;
    quiet = λ l. iri-none 1 0 0;
    still = λ k l m. which k l m (dec_lt k i);
  }
    where
      which : (k : ℕ) → at ≤ k → k < i + 1 → Dec (k < i) → Still (Iri 1 0 0) (get_or b k 0)
      which k l m (yes q) = r.still k l q
      which k l m (no q) =
          let same : i ≡ k = omega arith in
          subst (λ (n : ℕ). Still (Iri 1 0 0) (get_or b n 0)) same (subst (Still (Iri 1 0 0)) is (scheme_still x (sym e ∙ f)))

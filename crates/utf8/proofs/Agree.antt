-- The grammar of section 4 and the table of section 3 agree: octets are a character of the grammar exactly where they begin with a
-- character's octets, and then they are that character. Assumes nothing.
use mathlib.Core.Path.{◌≡◌, refl, sym, ap, ◌∙◌}
use mathlib.Core.Logic.{⊎_elim}
use mathlib.Core.Bool.{Bool, true, false, cond, ◌&&◌}
use mathlib.Core.List.{List, [], ◌∷◌, ◌++◌}
use Prim.Native.Nat.{ℕ, zero, suc, ◌+◌, ◌*◌, ◌/◌, ◌%◌, ◌≤◌, ◌<◌}
use native.Mathlib.Omega.{arith}
use lib.Dec.{leb}
use lib.ListN.{length, get_or, take, length-append}
use lib.Seq.{ext_get_or, get_or-take, length-take-le, take-append_seam}
use borrow.Author.Tests.{leb-true, leb-false, le-leb, lt-leb}
use Rattle.std.specs.Prelude.{Option, Some, None}
use Rattle.utf8.specs.Characters.{is_character_lem, char_bytes, one_octet, two_octets, three_octets, four_octets}
use Rattle.utf8.specs.declared.Character.{Character}
use Rattle.utf8.specs.Octets.{whole, is_one_lem, is_two, is_three, is_four, two_number, three_number, four_number, character_of, character_in}
use Rattle.utf8.proofs.Judged.{and_left, and_right, low-character, high_character, character_is, one-high, Two, Three, Four, two_is, is-two, three-is, is-three, four_is, is-four}
use Rattle.utf8.proofs.Decoding.{is-so}
use Rattle.utf8.proofs.Cases as cases

-- ---- the table, line by line

module _ (c : ℕ) where
  pub bytes_one : c ≤ 0x7F → char_bytes c ≡ c ∷ []
  unfolding char_bytes one_octet
  bytes_one h = rw (le-leb c 0x7F h) refl

  pub bytes-two : 0x80 ≤ c → c ≤ 0x7FF → char_bytes c ≡ (0xC0 + c / 64) ∷ (0x80 + c % 64) ∷ []
  unfolding char_bytes two_octets
  bytes-two l h = rw (lt-leb c 0x7F l, le-leb c 0x7FF h) refl

  pub bytes-three : 0x800 ≤ c → c ≤ 0xFFFF → char_bytes c ≡ (0xE0 + c / 4096) ∷ (0x80 + c / 64 % 64) ∷ (0x80 + c % 64) ∷ []
  unfolding char_bytes three_octets
  bytes-three l h = rw (lt-leb c 0x7F (omega arith), lt-leb c 0x7FF l, le-leb c 0xFFFF h) refl

  pub bytes-four : 0x10000 ≤ c → char_bytes c ≡ (0xF0 + c / 262144) ∷ (0x80 + c / 4096 % 64) ∷ (0x80 + c / 64 % 64) ∷ (0x80 + c % 64) ∷ []
  unfolding char_bytes four_octets
  bytes-four l = rw (lt-leb c 0x7F (omega arith), lt-leb c 0x7FF (omega arith), lt-leb c 0xFFFF l) refl

-- ---- what the grammar takes is in the table

-- a character found is one character
abbrev found_number : Option Character → ℕ
found_number (Some c) = c.number
found_number None = 0

abbrev found_size : Option Character → ℕ
found_size (Some c) = c.size
found_size None = 0

same-whole : (c n d m : ℕ) → whole c n ≡ whole d m → (c ≡ d) × (n ≡ m)
same-whole c n d m h = (ap found_number h, ap found_size h)

-- c is a character, n are its octets, and they are the first of these four
pub record Told (left c n : ℕ) (octets : List ℕ) : Type 0 where
  pub character : is_character_lem c ≡ true
  pub size : n ≡ length (char_bytes c)
  pub fits : n ≤ left
  pub some : 1 ≤ n
  pub few : n ≤ 4
  pub bytes : take n octets ≡ char_bytes c

told : (left c n : ℕ) (octets v : List ℕ) → is_character_lem c ≡ true → char_bytes c ≡ v → n ≡ length v → n ≤ left → 1 ≤ n → n ≤ 4 → take n octets ≡ v → Told left c n octets
told left c n octets v h e s f o m b = record { character = h; size = s ∙ ap length (sym e); fits = f; some = o; few = m; bytes = b ∙ sym e }

moved : (left c n d m : ℕ) (octets : List ℕ) → d ≡ c → m ≡ n → Told left d m octets → Told left c n octets
moved left c n d m octets p q t = rw (← p, ← q) t

module _ (left x y z w : ℕ) where
  abbrev four_octets_lem : List ℕ
  four_octets_lem = x ∷ y ∷ z ∷ w ∷ []

  told_one : 1 ≤ left → is_one_lem x ≡ true → Told left x 1 four_octets_lem
  told_one l h = let k = one-high x h in told left x 1 four_octets_lem (x ∷ []) (low-character x (omega arith)) (bytes_one x k) refl l (omega arith) (omega arith) refl

  told_two : 2 ≤ left → is_two x y ≡ true → Told left (two_number x y) 2 four_octets_lem
  told_two l h =
      let t = two_is x y h in
      let p : 0xC0 + two_number x y / 64 ≡ x = omega arith in
      let q : 0x80 + two_number x y % 64 ≡ y = omega arith in
      told left (two_number x y) 2 four_octets_lem (x ∷ y ∷ []) (low-character (two_number x y) (omega arith))
      (bytes-two (two_number x y) (omega arith) (omega arith) ∙ cc) refl l (omega arith) (omega arith) refl

  told_three : 3 ≤ left → is_three x y z ≡ true → Told left (three_number x y z) 3 four_octets_lem
  told_three l h =
      let t = three-is x y z h in
      let p : 0xE0 + three_number x y z / 4096 ≡ x = omega arith in
      let q : 0x80 + three_number x y z / 64 % 64 ≡ y = omega arith in
      let r : 0x80 + three_number x y z % 64 ≡ z = omega arith in
      told left (three_number x y z) 3 four_octets_lem (x ∷ y ∷ z ∷ []) t.character
      (bytes-three (three_number x y z) t.least (omega arith) ∙ cc) refl l (omega arith) (omega arith) refl

  character_four : Four x y z w → is_character_lem (four_number x y z w) ≡ true
  character_four t = let l = t.least in high_character (four_number x y z w) (omega arith) t.most

  told_four : 4 ≤ left → is_four x y z w ≡ true → Told left (four_number x y z w) 4 four_octets_lem
  told_four l h =
      let t = four_is x y z w h in
      let p : 0xF0 + four_number x y z w / 262144 ≡ x = omega arith in
      let q : 0x80 + four_number x y z w / 4096 % 64 ≡ y = omega arith in
      let r : 0x80 + four_number x y z w / 64 % 64 ≡ z = omega arith in
      let s : 0x80 + four_number x y z w % 64 ≡ w = omega arith in
      told left (four_number x y z w) 4 four_octets_lem (x ∷ y ∷ z ∷ w ∷ []) (character_four t)
      (bytes-four (four_number x y z w) t.least ∙ cc) refl l (omega arith) (omega arith) refl

  sound-from : (a b d e : Bool) (c n : ℕ) → leb 1 left && is_one_lem x ≡ a → leb 2 left && is_two x y ≡ b → leb 3 left && is_three x y z ≡ d → leb 4 left && is_four x y z w ≡ e
      → cond a (whole x 1) (cond b (whole (two_number x y) 2) (cond d (whole (three_number x y z) 3) (cond e (whole (four_number x y z w) 4) None))) ≡ whole c n → Told left c n four_octets_lem
  sound-from true b d e c n ea eb ed ee h =
      let e = same-whole (x) 1 c n h in
      let t = told_one (leb-true 1 left (and_left (leb 1 left) _ ea)) (and_right (leb 1 left) _ ea) in
      moved left c n _ _ four_octets_lem e.0 e.1 t
  sound-from false true d e c n ea eb ed ee h =
      let e = same-whole (two_number x y) 2 c n h in
      let t = told_two (leb-true 2 left (and_left (leb 2 left) _ eb)) (and_right (leb 2 left) _ eb) in
      moved left c n _ _ four_octets_lem e.0 e.1 t
  sound-from false false true e c n ea eb ed ee h =
      let e = same-whole (three_number x y z) 3 c n h in
      let t = told_three (leb-true 3 left (and_left (leb 3 left) _ ed)) (and_right (leb 3 left) _ ed) in
      moved left c n _ _ four_octets_lem e.0 e.1 t
  sound-from false false false true c n ea eb ed ee h =
      let e = same-whole (four_number x y z w) 4 c n h in
      let t = told_four (leb-true 4 left (and_left (leb 4 left) _ ee)) (and_right (leb 4 left) _ ee) in
      moved left c n _ _ four_octets_lem e.0 e.1 t
  sound-from false false false false c n ea eb ed ee h = absurd (let f : ◌≡◌ {A = ℕ} 0 1 = cc in omega arith)

  pub sound-of : (c n : ℕ) → character_of left x y z w ≡ whole c n → Told left c n (x ∷ y ∷ z ∷ w ∷ [])
  unfolding character_of
  sound-of c n h = sound-from (leb 1 left && is_one_lem x) (leb 2 left && is_two x y) (leb 3 left && is_three x y z) (leb 4 left && is_four x y z w) c n refl refl refl refl h

four_digits : (c p q r d e f x y z w : ℕ) → c ≡ p * 64 + d → p ≡ q * 64 + e → q ≡ r * 64 + f → x ≡ 0xF0 + r → y ≡ 0x80 + f → z ≡ 0x80 + e → w ≡ 0x80 + d
    → four_number x y z w ≡ c
four_digits c p q r d e f x y z w hc hp hq hx hy hz hw = omega arith

-- ---- and what is in the table, the grammar takes

module _ (left x y z w c : ℕ) (character : is_character_lem c ≡ true) where
  found-one : c ≤ 0x7F → 1 ≤ left → x ≡ c → character_of left x y z w ≡ whole c 1
  found-one h l ex = sym (ap (λ (v : ℕ). whole v 1) (sym ex) ∙ cases.one left x y z w l (omega arith))

  found-two : 0x80 ≤ c → c ≤ 0x7FF → 2 ≤ left → x ≡ 0xC0 + c / 64 → y ≡ 0x80 + c % 64 → character_of left x y z w ≡ whole c 2
  found-two l h m ex ey =
      let t : Two x y = omega arith in
      let same : two_number x y ≡ c = omega arith in
      sym (cases.two left x y z w m (omega arith) (omega arith)) ∙ sym (is-so (is_two x y) (whole (two_number x y) 2) (is-two x y t)) ∙ ap (λ (v : ℕ). whole v 2) same

  found-three : 0x800 ≤ c → c ≤ 0xFFFF → 3 ≤ left → x ≡ 0xE0 + c / 4096 → y ≡ 0x80 + c / 64 % 64 → z ≡ 0x80 + c % 64 → character_of left x y z w ≡ whole c 3
  found-three l h m ex ey ez =
      let same : three_number x y z ≡ c = omega arith in
      let t : Three x y z
      = record {
        x_low = omega arith;
        x_high = omega arith;
        y_low = omega arith;
        y_high = omega arith;
        z_low = omega arith;
        z_high = omega arith;
        least = omega arith;
        character = rw same character;
      } in
      sym (cases.three left x y z w m (omega arith) (omega arith)) ∙ sym (is-so (is_three x y z) (whole (three_number x y z) 3) (is-three x y z t)) ∙ ap (λ (v : ℕ). whole v 3) same

  found-four : 0x10000 ≤ c → c ≤ 0x10FFFF → 4 ≤ left → x ≡ 0xF0 + c / 262144 → y ≡ 0x80 + c / 4096 % 64 → z ≡ 0x80 + c / 64 % 64 → w ≡ 0x80 + c % 64
      → character_of left x y z w ≡ whole c 4
  found-four l h m ex ey ez ew =
      let same = four_digits c (c / 64) (c / 4096) (c / 262144) (c % 64) (c / 64 % 64) (c / 4096 % 64) x y z w (omega arith) (omega arith) (omega arith) ex ey ez ew in
      let t : Four x y z w
      = record {
        x_low = omega arith;
        x_high = omega arith;
        y_low = omega arith;
        y_high = omega arith;
        z_low = omega arith;
        z_high = omega arith;
        w_low = omega arith;
        w_high = omega arith;
        least = omega arith;
        most = omega arith;
      } in
      sym (cases.four left x y z w m (omega arith)) ∙ sym (is-so (is_four x y z w) (whole (four_number x y z w) 4) (is-four x y z w t)) ∙ ap (λ (v : ℕ). whole v 4) same

  not-above : c ≤ 0x10FFFF
  not-above = ⊎_elim (λ l. omega arith) (λ h. h.1) (character_is c character)

  abbrev begins : List ℕ → Type 0
  begins v = take (length v) (x ∷ y ∷ z ∷ w ∷ []) ≡ v

  -- by the line of the table
  by_line : (p q r : Bool) (v : List ℕ) → leb c 0x7F ≡ p → leb c 0x7FF ≡ q → leb c 0xFFFF ≡ r → char_bytes c ≡ v → length v ≤ left → begins v
      → character_of left x y z w ≡ whole c (length v)
  by_line true q r v ep eq er e l b =
      let h = leb-true c 0x7F ep in
      let u : v ≡ c ∷ [] = sym e ∙ bytes_one c h in
      let b' : begins (c ∷ []) = rw u at b in
      let l' : length (c ∷ []) ≤ left = rw u at l in
      rw u (found-one h l' (cc))
  by_line false true r v ep eq er e l b =
      let k = leb-false c 0x7F ep in
      let h = leb-true c 0x7FF eq in
      let o : List ℕ = (0xC0 + c / 64) ∷ (0x80 + c % 64) ∷ [] in
      let u : v ≡ o = sym e ∙ bytes-two c k h in
      let b' : begins o = rw u at b in
      let l' : length o ≤ left = rw u at l in
      rw u (found-two k h l' (cc) (cc))
  by_line false false true v ep eq er e l b =
      let k = leb-false c 0x7FF eq in
      let h = leb-true c 0xFFFF er in
      let o : List ℕ = (0xE0 + c / 4096) ∷ (0x80 + c / 64 % 64) ∷ (0x80 + c % 64) ∷ [] in
      let u : v ≡ o = sym e ∙ bytes-three c k h in
      let b' : begins o = rw u at b in
      let l' : length o ≤ left = rw u at l in
      rw u (found-three k h l' (cc) (cc) (cc))
  by_line false false false v ep eq er e l b =
      let k = leb-false c 0xFFFF er in
      let o : List ℕ = (0xF0 + c / 262144) ∷ (0x80 + c / 4096 % 64) ∷ (0x80 + c / 64 % 64) ∷ (0x80 + c % 64) ∷ [] in
      let u : v ≡ o = sym e ∙ bytes-four c k in
      let b' : begins o = rw u at b in
      let l' : length o ≤ left = rw u at l in
      rw u (found-four k not-above l' (cc) (cc) (cc) (cc))

  pub complete_of : length (char_bytes c) ≤ left → take (length (char_bytes c)) (x ∷ y ∷ z ∷ w ∷ []) ≡ char_bytes c → character_of left x y z w ≡ whole c (length (char_bytes c))
  complete_of l b = by_line (leb c 0x7F) (leb c 0x7FF) (leb c 0xFFFF) (char_bytes c) refl refl refl refl l b

-- ---- of lists

pub size_few : (c : ℕ) → (1 ≤ length (char_bytes c)) × (length (char_bytes c) ≤ 4)
size_few c = by (leb c 0x7F) (leb c 0x7FF) (leb c 0xFFFF) refl refl refl
  where
    by : (p q r : Bool) → leb c 0x7F ≡ p → leb c 0x7FF ≡ q → leb c 0xFFFF ≡ r → (1 ≤ length (char_bytes c)) × (length (char_bytes c) ≤ 4)
    by true q r ep eq er = let e = ap length (bytes_one c (leb-true c 0x7F ep)) in omega arith
    by false true r ep eq er = let e = ap length (bytes-two c (leb-false c 0x7F ep) (leb-true c 0x7FF eq)) in omega arith
    by false false true ep eq er = let e = ap length (bytes-three c (leb-false c 0x7FF eq) (leb-true c 0xFFFF er)) in omega arith
    by false false false ep eq er = let e = ap length (bytes-four c (leb-false c 0xFFFF er)) in omega arith

abbrev first_four : List ℕ → List ℕ
first_four s = get_or s 0 0 ∷ get_or s 1 0 ∷ get_or s 2 0 ∷ get_or s 3 0 ∷ []

same-four : (s : List ℕ) (i : ℕ) → i < 4 → get_or (first_four s) i 0 ≡ get_or s i 0
same-four s zero h = refl
same-four s (suc zero) h = refl
same-four s (suc (suc zero)) h = refl
same-four s (suc (suc (suc zero))) h = refl
same-four s (suc (suc (suc (suc i)))) h = absurd (omega arith)

first-octets : (s : List ℕ) (n : ℕ) → n ≤ 4 → n ≤ length s → take n (first_four s) ≡ take n s
first-octets s n h k =
    ext_get_or 0 (take n (first_four s)) (take n s) (length-take-le n (first_four s) h ∙ sym (length-take-le n s k))
    (λ i l. let m : i < n = rw (length-take-le n (first_four s) h) at l in
    get_or-take n (first_four s) i 0 m ∙ same-four s i (omega arith) ∙ sym (get_or-take n s i 0 m))

-- what octets begin with is a character, and its octets
pub sound-in : (s : List ℕ) (c n : ℕ) → character_in s ≡ whole c n → Told (length s) c n s
unfolding character_in
sound-in s c n h =
    let t = sound-of (length s) (get_or s 0 0) (get_or s 1 0) (get_or s 2 0) (get_or s 3 0) c n h in
    record { character = t.character; size = t.size; fits = t.fits; some = t.some; few = t.few; bytes = sym (first-octets s n t.few t.fits) ∙ t.bytes }

-- and where they begin with a character's octets, it is found
pub complete_in : (s : List ℕ) (c : ℕ) → is_character_lem c ≡ true → length (char_bytes c) ≤ length s → take (length (char_bytes c)) s ≡ char_bytes c
    → character_in s ≡ whole c (length (char_bytes c))
unfolding character_in
complete_in s c h l b =
    complete_of (length s) (get_or s 0 0) (get_or s 1 0) (get_or s 2 0) (get_or s 3 0) c h l (first-octets s (length (char_bytes c)) (size_few c).1 l ∙ b)

pub complete_front : (c : ℕ) (s : List ℕ) → is_character_lem c ≡ true → character_in (char_bytes c ++ s) ≡ whole c (length (char_bytes c))
complete_front c s h =
    complete_in (char_bytes c ++ s) c h (omega (arith, length-append (char_bytes c) s)) (take-append_seam (char_bytes c) s)

-- no character's octets begin another's
pub prefix_free : (c d : ℕ) (s t : List ℕ) → is_character_lem c ≡ true → is_character_lem d ≡ true → char_bytes c ++ s ≡ char_bytes d ++ t → c ≡ d
prefix_free c d s t hc hd e =
    let p = complete_front c s hc in
    let q = complete_front d t hd in
    (same-whole c (length (char_bytes c)) d (length (char_bytes d)) (sym p ∙ ap character_in e ∙ q)).0

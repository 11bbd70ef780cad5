-- What the states let through, the grammar has: escapes, and the terminals that end in a mark of their own. Assumes nothing.
use mathlib.Core.Path.{◌≡◌, refl, sym, ap, ◌∙◌}
use mathlib.Core.Bool.{Bool, true, false, cond}
use mathlib.Core.List.{List, [], ◌∷◌, ◌++◌}
use Prim.Native.Nat.{ℕ, zero, suc, ◌+◌, ◌-◌, ◌*◌, ◌≤◌, ◌<◌}
use native.Mathlib.Omega.{arith}
use lib.Dec.{eqb, leb}
use borrow.Author.Tests.{ne_eqb, le-leb, leb-true, lt-leb, leb-false}
use Rattle.utf8.specs.Characters.{is_character_lem}
use Rattle.utf8.specs.Texts.{bad}
use Rattle.ntline.specs.declared.escapes.Fed.{Fed}
use Rattle.ntline.specs.declared.lexing.State.{State}
use Rattle.ntline.specs.declared.lexing.State.TheVariants.{Dead}
use Rattle.ntline.specs.Classes.{is_hex_lem, hex_value}
use Rattle.ntline.specs.Grammar.{Hexes}
use Rattle.ntline.specs.Escapes.{part, fed, reckoned, shifted, hexed_by, fed_by}
use Rattle.ntline.specs.Lexing.{step, kind_of}
use Rattle.ntline.proofs.Digits.{hex_small, digits_grow, character_small, not-part}
use Rattle.ntline.proofs.Ending.{Ends, here, on}

-- the state behind all of them
unfoldable pub run : State → List ℕ → State
run s [] = s
run s (c ∷ cs) = run (step s c) cs

pub run_dead : (cs : List ℕ) → run Dead cs ≡ Dead
unfolding run step
run_dead [] = refl
run_dead (c ∷ cs) = run_dead cs

-- a way that ends a terminal
pub record Closing (s : State) (cs : List ℕ) (kind : ℕ) : Type 0 where
  pub ended : kind_of (run s cs) ≡ kind
  pub some : kind ≡ 0 → ⊥

pub ends-closing : {s : State} {cs : List ℕ} {kind : ℕ} → Ends s cs kind → Closing s cs kind
unfolding run
ends-closing (here e some) = record { ended = e; some = some }
ends-closing (on w) = let c = ends-closing w in record { ended = c.ended; some = c.some }

dead-kind : kind_of Dead ≡ 0
unfolding kind_of
dead-kind = refl

pub closing_dead : {s : State} {cs : List ℕ} {kind : ℕ} → Closing s cs kind → s ≡ Dead → ⊥
closing_dead {cs = cs} c e = c.some (sym c.ended ∙ ap (λ (t : State). kind_of (run t cs)) e ∙ ap kind_of (run_dead cs) ∙ dead-kind)

pub closing_nil : {s : State} {kind : ℕ} → Closing s [] kind → kind_of s ≡ 0 → ⊥
unfolding run
closing_nil c e = c.some (sym c.ended ∙ e)

-- one character on
pub closing_on : {s t : State} {c : ℕ} {cs : List ℕ} {kind : ℕ} → Closing s (c ∷ cs) kind → step s c ≡ t → Closing t cs kind
unfolding run
closing_on {s = s} {c = c} {cs = cs} w e = record { ended = ap (λ (x : State). kind_of (run x cs)) (sym e) ∙ w.ended; some = w.some }

-- ---- the digits of an escape, in whatever they stand

reckoned-first : (number : ℕ) → reckoned 1 number ≡ fed 0 0 (cond (is_character_lem number) number bad)
unfolding reckoned
reckoned-first number = refl

reckoned-next : (m number : ℕ) → reckoned (suc (suc m)) number ≡ fed (suc m) number part
unfolding reckoned
reckoned-next m number =
    let e : suc (suc m) - 1 ≡ suc m = omega arith in
    rw (ne_eqb (suc (suc m)) 1 (λ (x : suc (suc m) ≡ 1). omega arith), e) refl

fed-hex : (n value h : ℕ) → n ≤ 7 → is_hex_lem h ≡ true → fed_by (suc n) value h ≡ reckoned (suc n) (shifted value (hex_value h))
unfolding fed_by hexed_by
fed-hex n value h few hex =
    rw (ne_eqb (suc n) 0 (λ (x : suc n ≡ 0). omega arith), ne_eqb (suc n) 9 (λ (x : suc n ≡ 9). omega arith), hex) refl

fed-other : (n value h : ℕ) → n ≤ 7 → is_hex_lem h ≡ false → fed_by (suc n) value h ≡ fed 0 0 bad
unfolding fed_by hexed_by
fed-other n value h few hex =
    rw (ne_eqb (suc n) 0 (λ (x : suc n ≡ 0). omega arith), ne_eqb (suc n) 9 (λ (x : suc n ≡ 9). omega arith), hex) refl

shifted-small : (value digit : ℕ) → value ≤ 0x10FFFF → digit ≤ 15 → shifted value digit ≡ value * 16 + digit
unfolding shifted
shifted-small value digit a b = rw (le-leb value 0x10FFFF a, le-leb digit 15 b) refl

shifted-large : (value digit : ℕ) → 0x10FFFF < value → shifted value digit ≡ bad
unfolding shifted
shifted-large value digit a = rw (lt-leb value 0x10FFFF a) refl

bad-none : is_character_lem bad ≡ false
unfolding is_character_lem
bad-none = refl

module _ (S : ℕ → ℕ → State) (D : ℕ → State)
    (silent : (left value : ℕ) → kind_of (S left value) ≡ 0)
    (ruled : D bad ≡ Dead)
    (law : (left value h : ℕ) → (left ≡ 0 → ⊥) → (left ≡ 9 → ⊥) →
    step (S left value) h ≡ cond (eqb (fed_by left value h).out part) (S (fed_by left value h).left (fed_by left value h).value) (D (fed_by left value h).out)) where
  -- the digits, the character that they give, and the way on
  pub record Digits (n value : ℕ) (cs : List ℕ) (kind : ℕ) : Type 0 where
    pub hs : List ℕ
    pub rest : List ℕ
    pub number : ℕ
    pub parts : cs ≡ hs ++ rest
    pub hexes : Hexes (suc n) value hs number
    pub char : is_character_lem number ≡ true
    pub goes : Closing (D number) rest kind

  abbrev went : Fed → State
  went f = cond (eqb f.out part) (S f.left f.value) (D f.out)

  stepped : (n value h : ℕ) → n ≤ 7 → step (S (suc n) value) h ≡ went (fed_by (suc n) value h)
  stepped n value h few = law (suc n) value h (λ (x : suc n ≡ 0). omega arith) (λ (x : suc n ≡ 9). omega arith)

  -- a number past the last character gives none
  past : {n value kind : ℕ} {cs : List ℕ} → bad ≤ value → Digits n value cs kind → ⊥
  past {value = value} large d = let g = digits_grow d.hexes in let s = character_small d.number d.char in omega arith

  last-digit : (value h : ℕ) (cs : List ℕ) (kind : ℕ) → is_hex_lem h ≡ true → (number : ℕ) → shifted value (hex_value h) ≡ number → Closing (S 1 value) (h ∷ cs) kind →
      Closing (D (cond (is_character_lem number) number bad)) cs kind
  last-digit value h cs kind hex number e w =
      closing_on w
      (stepped 0 value h (omega arith)
      ∙ ap went (fed-hex 0 value h (omega arith) hex ∙ ap (reckoned 1) e ∙ reckoned-first number)
      ∙ out_is (is_character_lem number) refl)
    where
      out_is : (x : Bool) → is_character_lem number ≡ x → went (fed 0 0 (cond (is_character_lem number) number bad)) ≡ D (cond (is_character_lem number) number bad)
      out_is true q = rw (q, not-part number q) refl
      out_is false q = rw q refl

  next-digit : (m value h : ℕ) (cs : List ℕ) (kind : ℕ) → m ≤ 6 → is_hex_lem h ≡ true → (number : ℕ) → shifted value (hex_value h) ≡ number → Closing (S (suc (suc m)) value) (h ∷ cs) kind →
      Closing (S (suc m) number) cs kind
  next-digit m value h cs kind few hex number e w =
      closing_on w
      (stepped (suc m) value h (omega arith)
      ∙ ap went (fed-hex (suc m) value h (omega arith) hex ∙ ap (reckoned (suc (suc m))) e ∙ reckoned-next m number))

  digit_wrong : (n value h : ℕ) (cs : List ℕ) (kind : ℕ) → n ≤ 7 → is_hex_lem h ≡ false → Closing (S (suc n) value) (h ∷ cs) kind → ⊥
  digit_wrong n value h cs kind few hex w =
      closing_dead (closing_on w (stepped n value h few ∙ ap went (fed-other n value h few hex))) ruled

  one-digit : (value h : ℕ) (cs : List ℕ) (kind : ℕ) → is_hex_lem h ≡ true → value ≤ 0x10FFFF → Closing (S 1 value) (h ∷ cs) kind →
      (x : Bool) → is_character_lem (value * 16 + hex_value h) ≡ x → Digits 0 value (h ∷ cs) kind
  one-digit value h cs kind hex small w true q =
      let go = last-digit value h cs kind hex (value * 16 + hex_value h) (shifted-small value (hex_value h) small (hex_small h hex)) w in
      record {
        hs = h ∷ [];
        rest = cs;
        number = value * 16 + hex_value h;
        parts = refl;
        hexes = Hexes.more hex Hexes.none;
        char = q;
        goes = rw q at go;
      }
  one-digit value h cs kind hex small w false q =
      let go = last-digit value h cs kind hex (value * 16 + hex_value h) (shifted-small value (hex_value h) small (hex_small h hex)) w in
      absurd (closing_dead (rw q at go) ruled)

  pub digits_back : (n value : ℕ) (cs : List ℕ) (kind : ℕ) → n ≤ 7 → Closing (S (suc n) value) cs kind → Digits n value cs kind
  digits_back n value [] kind few w = absurd (closing_nil w (silent (suc n) value))
  digits_back zero value (h ∷ cs) kind few w = one-back (is_hex_lem h) refl (leb value 0x10FFFF) refl
    where
      one-back : (x : Bool) → is_hex_lem h ≡ x → (y : Bool) → leb value 0x10FFFF ≡ y → Digits 0 value (h ∷ cs) kind
      one-back true e true s = one-digit value h cs kind e (leb-true value 0x10FFFF s) w (is_character_lem (value * 16 + hex_value h)) refl
      one-back true e false s =
          let go = last-digit value h cs kind e bad (shifted-large value (hex_value h) (leb-false value 0x10FFFF s)) w in
          absurd (closing_dead (rw bad-none at go) ruled)
      one-back false e y s = absurd (digit_wrong 0 value h cs kind few e w)
  digits_back (suc m) value (h ∷ cs) kind few w =
      more-back (λ number c. digits_back m number cs kind (omega arith) c) (is_hex_lem h) refl (leb value 0x10FFFF) refl
    where
      more-back : ((number : ℕ) → Closing (S (suc m) number) cs kind → Digits m number cs kind) →
          (x : Bool) → is_hex_lem h ≡ x → (y : Bool) → leb value 0x10FFFF ≡ y → Digits (suc m) value (h ∷ cs) kind
      more-back later true e true s =
          let number : ℕ = value * 16 + hex_value h in
          let d = later number (next-digit m value h cs kind (omega arith) e number (shifted-small value (hex_value h) (leb-true value 0x10FFFF s) (hex_small h e)) w) in
          record {
            hs = h ∷ d.hs;
            rest = d.rest;
            number = d.number;
            parts = ap (λ (l : List ℕ). h ∷ l) d.parts;
            hexes = Hexes.more e d.hexes;
            char = d.char;
            goes = d.goes;
          }
      more-back later true e false s =
          let d = later bad (next-digit m value h cs kind (omega arith) e bad (shifted-large value (hex_value h) (leb-false value 0x10FFFF s)) w) in
          absurd (past (omega arith) d)
      more-back later false e y s = absurd (digit_wrong (suc m) value h cs kind few e w)

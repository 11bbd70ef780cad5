-- What the states let through as a string, the grammar has as one. Assumes nothing.
use mathlib.Core.Path.{◌≡◌, refl, sym, ap, subst, ◌∙◌}
use mathlib.Core.Bool.{Bool, true, false, cond, true≢false}
use mathlib.Core.List.{List, [], ◌∷◌, ◌++◌, append_assoc}
use Prim.Native.Nat.{ℕ, zero, suc, ◌≤◌}
use native.Mathlib.Omega.{arith}
use lib.ListN.{length, length-append}
use lib.Dec.{eqb}
use borrow.Author.Tests.{eqb-true}
use Rattle.utf8.specs.Characters.{is_character_lem}
use Rattle.utf8.specs.Texts.{bad}
use Rattle.ntline.specs.declared.lexing.State.{State}
use Rattle.ntline.specs.declared.lexing.State.TheVariants.{Dead, Quoted, QuotedEnd}
use Rattle.ntline.specs.Classes.{is_string_char}
use Rattle.ntline.specs.Grammar.{UCHAR, ECHAR, StringChars}
use Rattle.ntline.specs.Escapes.{part, echar_of, opened_by, fed_by}
use Rattle.ntline.specs.Lexing.{quoted_goes, in_quoted, step, kind_of}
use Rattle.ntline.proofs.Munching.{quoted_none, quoted_feeds}
use Rattle.ntline.proofs.Running.{run, Closing, closing_dead, closing_nil, closing_on, Digits, digits_back}

record StringRest (cs : List ℕ) (kind : ℕ) : Type 0 where
  kind_is : kind ≡ 8
  source : List ℕ
  string : List ℕ
  parts : cs ≡ source ++ (0x22 ∷ [])
  chars : StringChars source string

end_kind : kind_of QuotedEnd ≡ 8
unfolding kind_of
end_kind = refl

end_step : (c : ℕ) → step QuotedEnd c ≡ Dead
unfolding step
end_step c = refl

closes : (cs : List ℕ) (kind : ℕ) → Closing QuotedEnd cs kind → StringRest (0x22 ∷ cs) kind
unfolding run
closes [] kind w = record { kind_is = sym w.ended ∙ end_kind; source = []; string = []; parts = refl; chars = StringChars.none }
closes (c ∷ cs) kind w = absurd (closing_dead (closing_on w (end_step c)) refl)

quoted_given : ℕ → State
quoted_given c = cond (is_character_lem c) (Quoted 0 0) Dead

quoted_ruled : quoted_given bad ≡ Dead
unfolding quoted_given is_character_lem
quoted_ruled = refl

quoted_fed : (left value h : ℕ) → (left ≡ 0 → ⊥) → (left ≡ 9 → ⊥) →
    step (Quoted left value) h
    ≡ cond (eqb (fed_by left value h).out part) (Quoted (fed_by left value h).left (fed_by left value h).value) (quoted_given (fed_by left value h).out)
unfolding quoted_given quoted_goes
quoted_fed left value h some early = quoted_feeds left value h some

close_step : step (Quoted 0 0) 0x22 ≡ QuotedEnd
unfolding step in_quoted
close_step = refl

lf_step : step (Quoted 0 0) 0xA ≡ Dead
unfolding step in_quoted
lf_step = refl

cr_step : step (Quoted 0 0) 0xD ≡ Dead
unfolding step in_quoted
cr_step = refl

slash_step : step (Quoted 0 0) 0x5C ≡ Quoted 9 0
unfolding step in_quoted quoted_goes fed_by
slash_step = refl

short-step : step (Quoted 9 0) 0x75 ≡ Quoted 4 0
unfolding step in_quoted quoted_goes fed_by opened_by
short-step = refl

long-step : step (Quoted 9 0) 0x55 ≡ Quoted 8 0
unfolding step in_quoted quoted_goes fed_by opened_by
long-step = refl

-- what a letter behind a backslash stands for is never `part`
echar-whole : (d : ℕ) → eqb (echar_of d) part ≡ false
unfolding echar_of
echar-whole d = each (eqb d 0x74) (eqb d 0x62) (eqb d 0x6E) (eqb d 0x72) (eqb d 0x66) (eqb d 0x22) (eqb d 0x27) (eqb d 0x5C)
  where
    each : (a b c e f g h i : Bool) →
        eqb (cond a 0x9 (cond b 0x8 (cond c 0xA (cond e 0xD (cond f 0xC (cond g 0x22 (cond h 0x27 (cond i 0x5C bad)))))))) part ≡ false
    each true b c e f g h i = refl
    each false true c e f g h i = refl
    each false false true e f g h i = refl
    each false false false true f g h i = refl
    each false false false false true g h i = refl
    each false false false false false true h i = refl
    each false false false false false false true i = refl
    each false false false false false false false true = refl
    each false false false false false false false false = refl

letter-step : (d : ℕ) → eqb d 0x75 ≡ false → eqb d 0x55 ≡ false → step (Quoted 9 0) d ≡ quoted_given (echar_of d)
unfolding step in_quoted quoted_goes fed_by opened_by quoted_given
letter-step d x y = rw (x, y, echar-whole d) refl

-- an ECHAR, where it stands for a character
record Letter (d : ℕ) : Type 0 where
  char : ℕ
  is : echar_of d ≡ char
  echar : ECHAR (0x5C ∷ d ∷ []) char

bad-none : is_character_lem bad ≡ false
unfolding is_character_lem
bad-none = refl

letter-back : (d : ℕ) → is_character_lem (echar_of d) ≡ true → Letter d
unfolding echar_of
letter-back d ok = t (eqb d 0x74) refl
  where
    as_letter : {n x : ℕ} → eqb d n ≡ true → ECHAR (0x5C ∷ n ∷ []) x → echar_of d ≡ x → Letter d
    as_letter {n = n} {x = x} e k q = record { char = x; is = q; echar = subst (λ (l : ℕ). ECHAR (0x5C ∷ l ∷ []) x) (sym (eqb-true d n e)) k }

    s : eqb d 0x74 ≡ false → eqb d 0x62 ≡ false → eqb d 0x6E ≡ false → eqb d 0x72 ≡ false → eqb d 0x66 ≡ false → eqb d 0x22 ≡ false → eqb d 0x27 ≡ false →
        (b : Bool) → eqb d 0x5C ≡ b → Letter d
    s h1 h2 h3 h4 h5 h6 h7 true e = as_letter e ECHAR.backslash (rw (h1, h2, h3, h4, h5, h6, h7, e) refl)
    s h1 h2 h3 h4 h5 h6 h7 false e = absurd (true≢false (sym ok ∙ ap is_character_lem none ∙ bad-none))
      where
        none : echar_of d ≡ bad
        none = rw (h1, h2, h3, h4, h5, h6, h7, e) refl

    a : eqb d 0x74 ≡ false → eqb d 0x62 ≡ false → eqb d 0x6E ≡ false → eqb d 0x72 ≡ false → eqb d 0x66 ≡ false → eqb d 0x22 ≡ false → (b : Bool) → eqb d 0x27 ≡ b → Letter d
    a h1 h2 h3 h4 h5 h6 true e = as_letter e ECHAR.apostrophe (rw (h1, h2, h3, h4, h5, h6, e) refl)
    a h1 h2 h3 h4 h5 h6 false e = s h1 h2 h3 h4 h5 h6 e (eqb d 0x5C) refl

    q : eqb d 0x74 ≡ false → eqb d 0x62 ≡ false → eqb d 0x6E ≡ false → eqb d 0x72 ≡ false → eqb d 0x66 ≡ false → (b : Bool) → eqb d 0x22 ≡ b → Letter d
    q h1 h2 h3 h4 h5 true e = as_letter e ECHAR.quote (rw (h1, h2, h3, h4, h5, e) refl)
    q h1 h2 h3 h4 h5 false e = a h1 h2 h3 h4 h5 e (eqb d 0x27) refl

    f : eqb d 0x74 ≡ false → eqb d 0x62 ≡ false → eqb d 0x6E ≡ false → eqb d 0x72 ≡ false → (b : Bool) → eqb d 0x66 ≡ b → Letter d
    f h1 h2 h3 h4 true e = as_letter e ECHAR.formfeed (rw (h1, h2, h3, h4, e) refl)
    f h1 h2 h3 h4 false e = q h1 h2 h3 h4 e (eqb d 0x22) refl

    r : eqb d 0x74 ≡ false → eqb d 0x62 ≡ false → eqb d 0x6E ≡ false → (b : Bool) → eqb d 0x72 ≡ b → Letter d
    r h1 h2 h3 true e = as_letter e ECHAR.return (rw (h1, h2, h3, e) refl)
    r h1 h2 h3 false e = f h1 h2 h3 e (eqb d 0x66) refl

    n : eqb d 0x74 ≡ false → eqb d 0x62 ≡ false → (b : Bool) → eqb d 0x6E ≡ b → Letter d
    n h1 h2 true e = as_letter e ECHAR.newline (rw (h1, h2, e) refl)
    n h1 h2 false e = r h1 h2 e (eqb d 0x72) refl

    b : eqb d 0x74 ≡ false → (x : Bool) → eqb d 0x62 ≡ x → Letter d
    b h1 true e = as_letter e ECHAR.backspace (rw (h1, e) refl)
    b h1 false e = n h1 e (eqb d 0x6E) refl

    t : (x : Bool) → eqb d 0x74 ≡ x → Letter d
    t true e = as_letter e ECHAR.tab (rw e refl)
    t false e = b e (eqb d 0x62) refl

raw-step : (c : ℕ) → eqb c 0x22 ≡ false → eqb c 0xA ≡ false → eqb c 0xD ≡ false → eqb c 0x5C ≡ false → (b : Bool) → eqb c part ≡ b →
    step (Quoted 0 0) c ≡ quoted_given (cond b bad c)
unfolding step in_quoted quoted_goes fed_by quoted_given
raw-step c x y z w true e = rw (x, y, z, w, e) refl
raw-step c x y z w false e = rw (x, y, z, w, e, e) refl

record Given (c : ℕ) (cs : List ℕ) (kind : ℕ) : Type 0 where
  char : is_character_lem c ≡ true
  goes : Closing (Quoted 0 0) cs kind

given_back : (c : ℕ) (cs : List ℕ) (kind : ℕ) → Closing (quoted_given c) cs kind → Given c cs kind
unfolding quoted_given
given_back c cs kind w = which (is_character_lem c) refl w
  where
    which : (x : Bool) → is_character_lem c ≡ x → Closing (cond x (Quoted 0 0) Dead) cs kind → Given c cs kind
    which true e v = record { char = e; goes = v }
    which false e v = absurd (closing_dead v refl)

string-char : (c : ℕ) → is_character_lem c ≡ true → eqb c 0x22 ≡ false → eqb c 0x5C ≡ false → eqb c 0xA ≡ false → eqb c 0xD ≡ false → is_string_char c ≡ true
unfolding is_string_char
string-char c a x y z w = rw (a, x, y, z, w) refl

module _ (most : ℕ) (later : (rest : List ℕ) (kind : ℕ) → length rest ≤ most → Closing (Quoted 0 0) rest kind → StringRest rest kind) where
  uchar-back : (escape : List ℕ) (c : ℕ) (cs whole : List ℕ) (kind : ℕ) → UCHAR escape c → whole ≡ escape ++ cs → length cs ≤ most → Given c cs kind → StringRest whole kind
  uchar-back escape c cs whole kind u is short g =
      let r = later cs kind short g.goes in
      record {
        kind_is = r.kind_is;
        source = escape ++ r.source;
        string = c ∷ r.string;
        parts = is ∙ ap (λ (l : List ℕ). escape ++ l) r.parts ∙ sym (append_assoc escape r.source (0x22 ∷ []));
        chars = StringChars.uchar u r.chars refl;
      }

  echar-back : (d : ℕ) (ds : List ℕ) (kind : ℕ) → length ds ≤ most → Given (echar_of d) ds kind → StringRest (0x5C ∷ d ∷ ds) kind
  echar-back d ds kind short g =
      let r = later ds kind short g.goes in
      let k = letter-back d g.char in
      record {
        kind_is = r.kind_is;
        source = 0x5C ∷ d ∷ r.source;
        string = k.char ∷ r.string;
        parts = ap (λ (l : List ℕ). 0x5C ∷ d ∷ l) r.parts;
        chars = StringChars.echar k.echar r.chars refl;
      }

  digits_short : {n value kind : ℕ} {ds : List ℕ} (d : Digits Quoted quoted_given quoted_none quoted_ruled quoted_fed n value ds kind) → length d.rest ≤ length ds
  digits_short d = omega (arith, ap length d.parts, length-append d.hs d.rest)

  escape_back : (d : ℕ) (ds : List ℕ) (kind : ℕ) → length ds ≤ most → Closing (Quoted 9 0) (d ∷ ds) kind →
      (x : Bool) → eqb d 0x75 ≡ x → (y : Bool) → eqb d 0x55 ≡ y → StringRest (0x5C ∷ d ∷ ds) kind
  escape_back d ds kind short w true e y f =
      let is = eqb-true d 0x75 e in
      let g = digits_back Quoted quoted_given quoted_none quoted_ruled quoted_fed 3 0 ds kind (omega arith) (closing_on w (ap (step (Quoted 9 0)) is ∙ short-step)) in
      uchar-back (0x5C ∷ 0x75 ∷ g.hs) g.number g.rest (0x5C ∷ d ∷ ds) kind (UCHAR.short g.hexes g.char)
      (ap (λ (n : ℕ). 0x5C ∷ n ∷ ds) is ∙ ap (λ (l : List ℕ). 0x5C ∷ 0x75 ∷ l) g.parts)
      (omega (arith, digits_short g)) (given_back g.number g.rest kind g.goes)
  escape_back d ds kind short w false e true f =
      let is = eqb-true d 0x55 f in
      let g = digits_back Quoted quoted_given quoted_none quoted_ruled quoted_fed 7 0 ds kind (omega arith) (closing_on w (ap (step (Quoted 9 0)) is ∙ long-step)) in
      uchar-back (0x5C ∷ 0x55 ∷ g.hs) g.number g.rest (0x5C ∷ d ∷ ds) kind (UCHAR.long g.hexes g.char)
      (ap (λ (n : ℕ). 0x5C ∷ n ∷ ds) is ∙ ap (λ (l : List ℕ). 0x5C ∷ 0x55 ∷ l) g.parts)
      (omega (arith, digits_short g)) (given_back g.number g.rest kind g.goes)
  escape_back d ds kind short w false e false f =
      echar-back d ds kind short (given_back (echar_of d) ds kind (closing_on w (letter-step d e f)))

  slash_back : (cs : List ℕ) (kind : ℕ) → length cs ≤ suc most → Closing (Quoted 9 0) cs kind → StringRest (0x5C ∷ cs) kind
  slash_back [] kind short w = absurd (closing_nil w (quoted_none 9 0))
  slash_back (d ∷ ds) kind short w = escape_back d ds kind (omega arith) w (eqb d 0x75) refl (eqb d 0x55) refl

  raw-back : (c : ℕ) (cs : List ℕ) (kind : ℕ) → length cs ≤ most → is_string_char c ≡ true → Closing (Quoted 0 0) cs kind → StringRest (c ∷ cs) kind
  raw-back c cs kind short ok v =
      let r = later cs kind short v in
      record {
        kind_is = r.kind_is;
        source = c ∷ r.source;
        string = c ∷ r.string;
        parts = ap (λ (l : List ℕ). c ∷ l) r.parts;
        chars = StringChars.raw ok r.chars;
      }

  char-back : (c : ℕ) (cs : List ℕ) (kind : ℕ) → length cs ≤ most → Closing (Quoted 0 0) (c ∷ cs) kind →
      (x : Bool) → eqb c 0x22 ≡ x → (y : Bool) → eqb c 0x5C ≡ y → (l : Bool) → eqb c 0xA ≡ l → (r : Bool) → eqb c 0xD ≡ r → (z : Bool) → eqb c part ≡ z →
      StringRest (c ∷ cs) kind
  char-back c cs kind short w true e y f l h r i z g =
      let is = eqb-true c 0x22 e in
      subst (λ (n : ℕ). StringRest (n ∷ cs) kind) (sym is) (closes cs kind (closing_on w (ap (step (Quoted 0 0)) is ∙ close_step)))
  char-back c cs kind short w false e true f l h r i z g =
      let is = eqb-true c 0x5C f in
      subst (λ (n : ℕ). StringRest (n ∷ cs) kind) (sym is) (slash_back cs kind (omega arith) (closing_on w (ap (step (Quoted 0 0)) is ∙ slash_step)))
  char-back c cs kind short w false e false f true h r i z g = absurd (closing_dead (closing_on w (ap (step (Quoted 0 0)) (eqb-true c 0xA h) ∙ lf_step)) refl)
  char-back c cs kind short w false e false f false h true i z g = absurd (closing_dead (closing_on w (ap (step (Quoted 0 0)) (eqb-true c 0xD i) ∙ cr_step)) refl)
  char-back c cs kind short w false e false f false h false i true g = absurd (closing_dead (closing_on w (raw-step c e h i f true g)) quoted_ruled)
  char-back c cs kind short w false e false f false h false i false g =
      let v = given_back c cs kind (closing_on w (raw-step c e h i f false g)) in
      raw-back c cs kind short (string-char c v.char e f h i) v.goes

-- nothing is left: no '"' stands there
string-none_left : (cs : List ℕ) (kind : ℕ) → length cs ≤ 0 → Closing (Quoted 0 0) cs kind → StringRest cs kind
string-none_left [] kind short w = absurd (closing_nil w (quoted_none 0 0))
string-none_left (c ∷ cs) kind short w = absurd (omega arith)

string-more : (most : ℕ) → ((rest : List ℕ) (kind : ℕ) → length rest ≤ most → Closing (Quoted 0 0) rest kind → StringRest rest kind) →
    (cs : List ℕ) (kind : ℕ) → length cs ≤ suc most → Closing (Quoted 0 0) cs kind → StringRest cs kind
string-more most later [] kind short w = absurd (closing_nil w (quoted_none 0 0))
string-more most later (c ∷ cs) kind short w =
    char-back most later c cs kind (omega arith) w
    (eqb c 0x22) refl (eqb c 0x5C) refl (eqb c 0xA) refl (eqb c 0xD) refl (eqb c part) refl

string-back : (most : ℕ) (cs : List ℕ) (kind : ℕ) → length cs ≤ most → Closing (Quoted 0 0) cs kind → StringRest cs kind
string-back zero cs kind short w = string-none_left cs kind (omega arith) w
string-back (suc most) cs kind short w = string-more most (λ rest k s v. string-back most rest k s v) cs kind short w

-- behind '"': the inside and '"'
pub record Quotation (cs : List ℕ) (kind : ℕ) : Type 0 where
  pub kind_is : kind ≡ 8
  pub inside : List ℕ
  pub string : List ℕ
  pub parts : cs ≡ inside ++ (0x22 ∷ [])
  pub chars : StringChars inside string

pub string-sound : (cs : List ℕ) (kind : ℕ) → Closing (Quoted 0 0) cs kind → Quotation cs kind
string-sound cs kind w =
    let r = string-back (length cs) cs kind (omega arith) w in
    record { kind_is = r.kind_is; inside = r.source; string = r.string; parts = r.parts; chars = r.chars }

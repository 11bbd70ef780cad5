-- A term's source taken apart: its white space, its first terminal with its marks, and what a literal has behind its string; and that
-- every character that they give is one. Assumes nothing.
use mathlib.Core.Path.{◌≡◌, refl, sym, ap, subst, ◌∙◌}
use mathlib.Core.Bool.{Bool, true, false, cond}
use mathlib.Core.List.{List, [], ◌∷◌, ◌++◌, append_assoc, append-nil}
use Prim.Native.Nat.{ℕ, ◌≤◌}
use native.Mathlib.Omega.{arith}
use lib.Dec.{eqb}
use lib.ListN.{drop}
use Rattle.utf8.specs.Texts.{AllCharacters}
use Rattle.ground.specs.Lists.{All}
use Rattle.utf8.proofs.Judged.{low-character}
use Rattle.ntline.specs.Grammar as grammar
use Rattle.ntline.specs.Escapes.{resolved}
use Rattle.ntline.specs.Lexing.{token_of}
use Rattle.ntline.specs.Lines.{Source, source, spaced, inner, typed_of, literal_of, source_of}
use Rattle.ntline.proofs.Resolving.{raw-resolved}
use Rattle.ntline.proofs.Hearing.{iri-inner}
use Rattle.ntline.proofs.Encoded.{all_append, sign, iri-all, string-all, blank-all, tag_all, white_all}
use Rattle.ntline.proofs.Sound.{spaced-sound}
use Rattle.nttext.proofs.Given.{iri-chars, iriref-chars, string-chars, iri-before, string-before}
use Rattle.nttext.proofs.Plain.{Bare, all_bare, bare-characters, bare-resolved, label-plain, tag_plain, white_bare}
use Rattle.nttext.proofs.Shapes.{Shape, a-name, a-blank, bare, tagged, typed, hatted, shape_of}

-- ---- a source begins where the white space ends

literal-from : (from to : List ℕ) → (literal_of from to).from ≡ from
unfolding literal_of typed_of
literal-from from to = which (eqb (token_of (spaced to)).kind 6) (eqb (token_of (spaced to)).kind 3)
  where
    which : (x y : Bool) →
        (cond x (source 2 from to (token_of (spaced to)).rest) (cond y (typed_of from to (token_of (spaced to)).rest) (source 2 from to to))).from ≡ from
    which true y = refl
    which false true = refl
    which false false = refl

source-from : (cs : List ℕ) → (source_of cs).from ≡ spaced cs
unfolding source_of
source-from cs = which (eqb (token_of (spaced cs)).kind 7) (eqb (token_of (spaced cs)).kind 5) (eqb (token_of (spaced cs)).kind 8)
  where
    which : (x y z : Bool) →
        (cond x (source 0 (spaced cs) (token_of (spaced cs)).rest (token_of (spaced cs)).rest)
        (cond y (source 1 (spaced cs) (token_of (spaced cs)).rest (token_of (spaced cs)).rest)
        (cond z (literal_of (spaced cs) (token_of (spaced cs)).rest) (source 3 (spaced cs) (spaced cs) (spaced cs))))).from
        ≡ spaced cs
    which true y z = refl
    which false true z = refl
    which false false true = literal-from (spaced cs) (token_of (spaced cs)).rest
    which false false false = refl

-- ---- what is given

abbrev Gives : List ℕ → Type 0
Gives cs = AllCharacters (resolved 0 0 cs)

nothing-given : Gives []
unfolding resolved
nothing-given = tt

-- a sign that is no backslash
sign_given : (c : ℕ) → c ≤ 0xD7FF → eqb c 0x5C ≡ false → (cs : List ℕ) → Gives cs → Gives (c ∷ cs)
sign_given c h e cs g = subst AllCharacters (sym (raw-resolved c cs e (low-character c h))) (sign c h (resolved 0 0 cs) g)

bare-given : (cs rest : List ℕ) → All Bare cs → Gives rest → Gives (cs ++ rest)
bare-given cs rest h g = subst AllCharacters (sym (bare-resolved cs rest h)) (all_append cs (resolved 0 0 rest) (bare-characters cs h) g)

alone-given : (cs : List ℕ) → All Bare cs → Gives cs
alone-given cs h = subst Gives (append-nil cs) (bare-given cs [] h nothing-given)

angle_given : {s iri : List ℕ} → grammar.IRIREF s iri → Gives s
angle_given (grammar.IRIREF.iriref {inside = inside} {iri = iri} d abs is) =
    subst Gives (sym is)
    (sign_given 0x3C (omega arith) refl (inside ++ (0x3E ∷ []))
    (subst AllCharacters (sym (iri-before d (0x3E ∷ [])))
    (all_append iri (resolved 0 0 (0x3E ∷ [])) (iri-chars d) (sign_given 0x3E (omega arith) refl [] nothing-given))))

inner-given : {s iri : List ℕ} → grammar.IRIREF s iri → Gives (inner s)
inner-given d = subst AllCharacters (sym (iri-inner d)) (iriref-chars d)

string-given : {s chars : List ℕ} → grammar.STRING s chars → Gives s
string-given (grammar.STRING.string {inside = inside} {chars = chars} d is) =
    subst Gives (sym is)
    (sign_given 0x22 (omega arith) refl (inside ++ (0x22 ∷ []))
    (subst AllCharacters (sym (string-before d (0x22 ∷ [])))
    (all_append chars (resolved 0 0 (0x22 ∷ [])) (string-chars d) (sign_given 0x22 (omega arith) refl [] nothing-given))))

-- ---- apart

pub record Apart (cs : List ℕ) : Type 0 where
  pub space : List ℕ
  pub front : List ℕ
  pub mark : List ℕ
  pub line-is : cs ≡ space ++ (source_of cs).from
  pub from_is : (source_of cs).from ≡ front ++ (source_of cs).to
  pub to_is : (source_of cs).to ≡ mark ++ (source_of cs).tail
  pub all_space : AllCharacters space
  pub all_front : AllCharacters front
  pub all_mark : AllCharacters mark
  pub name_is : (source_of cs).sort ≡ 0 → (inside : List ℕ) × (front ≡ 0x3C ∷ (inside ++ (0x3E ∷ [])))
  pub blank-is : (source_of cs).sort ≡ 1 → (label : List ℕ) × (front ≡ 0x5F ∷ 0x3A ∷ label)
  pub short : (source_of cs).sort ≤ 1 → mark ≡ []
  pub good-name : (source_of cs).sort ≡ 0 → AllCharacters (resolved 0 0 (inner front))
  pub good-blank : (source_of cs).sort ≡ 1 → AllCharacters (resolved 0 0 (drop 2 front))
  pub good-string : (source_of cs).sort ≡ 2 → AllCharacters (resolved 0 0 front)
  pub good-mark : AllCharacters (resolved 0 0 mark)

iri-inside : {s iri : List ℕ} → grammar.IRIREF s iri → (inside : List ℕ) × (s ≡ 0x3C ∷ (inside ++ (0x3E ∷ [])))
iri-inside (grammar.IRIREF.iriref {inside = inside} d abs is) = (inside, is)

blank-inside : {s label : List ℕ} → grammar.BLANK s label → (l : List ℕ) × (s ≡ 0x5F ∷ 0x3A ∷ l)
blank-inside (grammar.BLANK.blank {label = label} d) = (label, refl)

blank-given : {s label : List ℕ} → grammar.BLANK s label → Gives (drop 2 s)
blank-given (grammar.BLANK.blank {label = label} d) = alone-given label (all_bare label (label-plain d))

module _ (cs : List ℕ) where
  abbrev S : Source
  S = source_of cs

  starts : cs ≡ (spaced-sound cs).space ++ S.from
  starts = (spaced-sound cs).parts ∙ ap (λ (l : List ℕ). (spaced-sound cs).space ++ l) (sym (source-from cs))

  -- a source of one terminal, or of a string and a mark
  literal-apart : {front chars : List ℕ} → grammar.STRING front chars → (mark rest : List ℕ) → S ≡ source 2 (front ++ (mark ++ rest)) (mark ++ rest) rest →
      AllCharacters mark → Gives mark → Apart cs
  literal-apart {front = front} d mark rest is all given =
      let two : S.sort ≡ 2 = ap (λ (s : Source). s.sort) is in
      record {
        space = (spaced-sound cs).space;
        front = front;
        mark = mark;
        line-is = starts;
        from_is = ap (λ (s : Source). s.from) is ∙ ap (λ (s : Source). front ++ s.to) (sym is);
        to_is = ap (λ (s : Source). s.to) is ∙ ap (λ (s : Source). mark ++ s.tail) (sym is);
        all_space = white_all (spaced-sound cs).white;
        all_front = string-all d;
        all_mark = all;
        name_is = λ h. absurd (omega (arith, two, h));
        blank-is = λ h. absurd (omega (arith, two, h));
        short = λ h. absurd (omega (arith, two, h));
        good-name = λ h. absurd (omega (arith, two, h));
        good-blank = λ h. absurd (omega (arith, two, h));
        good-string = λ h. string-given d;
        good-mark = given;
      }

  shape_apart : Shape S → Apart cs
  shape_apart (a-name {front = front} rest d is) =
      let none : S.sort ≡ 0 = ap (λ (s : Source). s.sort) is in
      record {
        space = (spaced-sound cs).space;
        front = front;
        mark = [];
        line-is = starts;
        from_is = ap (λ (s : Source). s.from) is ∙ ap (λ (s : Source). front ++ s.to) (sym is);
        to_is = ap (λ (s : Source). s.to) is ∙ ap (λ (s : Source). s.tail) (sym is);
        all_space = white_all (spaced-sound cs).white;
        all_front = iri-all d;
        all_mark = tt;
        name_is = λ h. iri-inside d;
        blank-is = λ h. absurd (omega (arith, none, h));
        short = λ h. refl;
        good-name = λ h. inner-given d;
        good-blank = λ h. absurd (omega (arith, none, h));
        good-string = λ h. absurd (omega (arith, none, h));
        good-mark = nothing-given;
      }
  shape_apart (a-blank {front = front} rest d is) =
      let one : S.sort ≡ 1 = ap (λ (s : Source). s.sort) is in
      record {
        space = (spaced-sound cs).space;
        front = front;
        mark = [];
        line-is = starts;
        from_is = ap (λ (s : Source). s.from) is ∙ ap (λ (s : Source). front ++ s.to) (sym is);
        to_is = ap (λ (s : Source). s.to) is ∙ ap (λ (s : Source). s.tail) (sym is);
        all_space = white_all (spaced-sound cs).white;
        all_front = blank-all d;
        all_mark = tt;
        name_is = λ h. absurd (omega (arith, one, h));
        blank-is = λ h. blank-inside d;
        short = λ h. refl;
        good-name = λ h. absurd (omega (arith, one, h));
        good-blank = λ h. blank-given d;
        good-string = λ h. absurd (omega (arith, one, h));
        good-mark = nothing-given;
      }
  shape_apart (bare rest d is) = literal-apart d [] rest is tt nothing-given
  shape_apart (tagged {front = front} {space = space} {tag = tag} rest d w g is) =
      literal-apart d (space ++ tag) rest
      (is ∙ ap (λ (l : List ℕ). source 2 (front ++ l) l rest) (sym (append_assoc space tag rest)))
      (all_append space tag (white_all w) (tag_all g))
      (bare-given space tag (white_bare w) (alone-given tag (all_bare tag (tag_plain g))))
  shape_apart (typed {front = front} {space = space} {more = more} {datatype = datatype} rest d w u g is) =
      let joined : space ++ hatted more (datatype ++ rest) ≡ (space ++ hatted more datatype) ++ rest
      = ap (λ (l : List ℕ). space ++ (0x5E ∷ 0x5E ∷ l)) (sym (append_assoc more datatype rest)) ∙ sym (append_assoc space (hatted more datatype) rest) in
      literal-apart d (space ++ hatted more datatype) rest
      (is ∙ ap (λ (l : List ℕ). source 2 (front ++ l) l rest) joined)
      (all_append space (hatted more datatype) (white_all w)
      (sign 0x5E (omega arith) (0x5E ∷ (more ++ datatype)) (sign 0x5E (omega arith) (more ++ datatype) (all_append more datatype (white_all u) (iri-all g)))))
      (bare-given space (hatted more datatype) (white_bare w)
      (sign_given 0x5E (omega arith) refl (0x5E ∷ (more ++ datatype))
      (sign_given 0x5E (omega arith) refl (more ++ datatype) (bare-given more datatype (white_bare u) (angle_given g)))))

pub apart : (cs : List ℕ) → (source_of cs).sort ≤ 2 → Apart cs
apart cs small = shape_apart cs (shape_of cs small)

-- The terminals, a character at a time, and the longest of them that a line begins with.
use Rattle.std.specs.Prelude.{Bool, true, false, not, cond, ◌&&◌, ◌||◌, List, [], ◌∷◌, ℕ, eqb, ltb}
use Rattle.utf8.specs.Characters.{is_character_lem}
use Rattle.ntline.specs.declared.escapes.Fed.{Fed}
use Rattle.ntline.specs.declared.lexing.State.{State}
use Rattle.ntline.specs.declared.lexing.State.TheVariants.{Start, Dead, White, Dot, Hat, Hats, Remark, Under, Colon, Label, Dots, At, Letters, Minus, Alnums, Iri, IriEnd, Quoted, QuotedEnd}
use Rattle.ntline.specs.Classes.{is_white_lem, is_alpha_lem, is_alnum_lem, is_iri_char_lem, is_name_char_lem, is_label_start_lem, is_scheme_char_lem}
use Rattle.ntline.specs.Escapes.{part, fed_by}

-- how far the scheme of an IRI is: 0 before it, 1 in it, 2 behind its colon; 3 it has none
unfoldable pub schemed : ℕ → ℕ → ℕ
schemed scheme c =
    cond (eqb scheme 2) 2
    (cond (eqb scheme 0) (cond (is_alpha_lem c) 1 3) (cond (eqb c 0x3A) 2 (cond (is_scheme_char_lem c) 1 3)))

unfoldable pub iri_goes : ℕ → Fed → State
iri_goes scheme f =
    cond (eqb f.out part) (Iri scheme f.left f.value)
    (cond (is_iri_char_lem f.out && ltb (schemed scheme f.out) 3) (Iri (schemed scheme f.out) 0 0) Dead)

-- '<' ([^#x00-#x20<>"{}|^`\] | UCHAR)* '>'
unfoldable pub in_iri : ℕ → ℕ → ℕ → ℕ → State
in_iri scheme left value c =
    cond (eqb left 0 && eqb c 0x3E) (cond (eqb scheme 2) IriEnd Dead)
    (cond (eqb left 9 && not (eqb c 0x75 || eqb c 0x55)) Dead (iri_goes scheme (fed_by left value c)))

unfoldable pub quoted_goes : Fed → State
quoted_goes f = cond (eqb f.out part) (Quoted f.left f.value) (cond (is_character_lem f.out) (Quoted 0 0) Dead)

-- '"' ([^#x22#x5C#xA#xD] | ECHAR | UCHAR)* '"'
unfoldable pub in_quoted : ℕ → ℕ → ℕ → State
in_quoted left value c =
    cond (eqb left 0 && eqb c 0x22) QuotedEnd
    (cond (eqb left 0 && (eqb c 0xA || eqb c 0xD)) Dead (quoted_goes (fed_by left value c)))

unfoldable pub begun : ℕ → State
begun c =
    cond (is_white_lem c) White
    (cond (eqb c 0x3C) (Iri 0 0 0)
    (cond (eqb c 0x5F) Under
    (cond (eqb c 0x22) (Quoted 0 0)
    (cond (eqb c 0x40) At
    (cond (eqb c 0x5E) Hat
    (cond (eqb c 0x2E) Dot
    (cond (eqb c 0x23) Remark Dead)))))))

unfoldable pub in_label : ℕ → State
in_label c = cond (is_name_char_lem c) Label (cond (eqb c 0x2E) Dots Dead)

-- the state behind one character more
unfoldable pub step : State → ℕ → State
step Start c = begun c
step Dead c = Dead
step White c = cond (is_white_lem c) White Dead
step Dot c = Dead
step Hat c = cond (eqb c 0x5E) Hats Dead
step Hats c = Dead
step Remark c = cond (is_character_lem c) Remark Dead
step Under c = cond (eqb c 0x3A) Colon Dead
step Colon c = cond (is_label_start_lem c) Label Dead
step Label c = in_label c
step Dots c = in_label c
step At c = cond (is_alpha_lem c) Letters Dead
step Letters c = cond (is_alpha_lem c) Letters (cond (eqb c 0x2D) Minus Dead)
step Minus c = cond (is_alnum_lem c) Alnums Dead
step Alnums c = cond (is_alnum_lem c) Alnums (cond (eqb c 0x2D) Minus Dead)
step (Iri scheme left value) c = in_iri scheme left value c
step IriEnd c = Dead
step (Quoted left value) c = in_quoted left value c
step QuotedEnd c = Dead

-- the terminals
abbrev pub none : ℕ
none = 0

abbrev pub a_space : ℕ
a_space = 1

abbrev pub a_dot : ℕ
a_dot = 2

abbrev pub a_hats : ℕ
a_hats = 3

abbrev pub a_remark : ℕ
a_remark = 4

abbrev pub a_label : ℕ
a_label = 5

abbrev pub a_tag : ℕ
a_tag = 6

abbrev pub an_iri : ℕ
an_iri = 7

abbrev pub a_string : ℕ
a_string = 8

-- the terminal that may end here
unfoldable pub kind_of : State → ℕ
kind_of Start = none
kind_of Dead = none
kind_of White = a_space
kind_of Dot = a_dot
kind_of Hat = none
kind_of Hats = a_hats
kind_of Remark = a_remark
kind_of Under = none
kind_of Colon = none
kind_of Label = a_label
kind_of Dots = none
kind_of At = none
kind_of Letters = a_tag
kind_of Minus = none
kind_of Alnums = a_tag
kind_of (Iri scheme left value) = none
kind_of IriEnd = an_iri
kind_of (Quoted left value) = none
kind_of QuotedEnd = a_string

unfoldable pub is_dead_lem : State → Bool
is_dead_lem Start = false
is_dead_lem Dead = true
is_dead_lem White = false
is_dead_lem Dot = false
is_dead_lem Hat = false
is_dead_lem Hats = false
is_dead_lem Remark = false
is_dead_lem Under = false
is_dead_lem Colon = false
is_dead_lem Label = false
is_dead_lem Dots = false
is_dead_lem At = false
is_dead_lem Letters = false
is_dead_lem Minus = false
is_dead_lem Alnums = false
is_dead_lem (Iri scheme left value) = false
is_dead_lem IriEnd = false
is_dead_lem (Quoted left value) = false
is_dead_lem QuotedEnd = false

-- a terminal, and what is left behind it
pub record Token : Type 0 where
  pub kind : ℕ
  pub rest : List ℕ

abbrev pub token_is : ℕ → List ℕ → Token
token_is kind rest = record { kind = kind; rest = rest }

abbrev pub later_kind : ℕ → ℕ → ℕ
later_kind new old = cond (eqb new 0) old new

abbrev pub later_rest : ℕ → List ℕ → List ℕ → List ℕ
later_rest new here old = cond (eqb new 0) old here

-- "the longest match": the last terminal that could end, over all that is left
unfoldable pub munched : State → ℕ → List ℕ → List ℕ → Token
munched s kind rest [] = token_is kind rest
munched s kind rest (c ∷ cs) =
    let k = kind_of (step s c) in
    munched (step s c) (later_kind k kind) (later_rest k cs rest) cs

-- the terminal at the front: none, and all left, where there is none
unfoldable pub token_of : List ℕ → Token
token_of cs = munched Start none cs cs

-- RDF 1.1 N-Triples, section 7: its productions, on characters. Each says of a source what it means: an IRI and a string as their
-- characters with escapes resolved, a label and a tag as they stand, a line as its triple.
use Rattle.std.specs.Prelude.{◌≡◌, Bool, true, false, ◌&&◌, ◌||◌, List, [], ◌∷◌, ◌++◌, ℕ, suc, ◌+◌, ◌*◌, eqb}
use Rattle.utf8.specs.Characters.{is_character_lem, text_bytes}
use Rattle.ntline.specs.Classes.{is_white_lem, is_alpha_lem, is_alnum_lem, is_hex_lem, hex_value, is_iri_char_lem, is_string_char, is_name_char_lem, is_label_start_lem, is_scheme_char_lem}

-- HEX HEX ..: so many of them behind a number make a number
pub data Hexes : ℕ → ℕ → List ℕ → ℕ → Type 0 where
  none : {number : ℕ} → Hexes 0 number [] number
  more : {n before h number : ℕ} {hs : List ℕ} →
      is_hex_lem h ≡ true → Hexes n (before * 16 + hex_value h) hs number → Hexes (suc n) before (h ∷ hs) number

-- UCHAR ::= '\u' HEX HEX HEX HEX | '\U' HEX HEX HEX HEX HEX HEX HEX HEX; it gives a character (D800 to DFFF and above 10FFFF are none)
pub data UCHAR : List ℕ → ℕ → Type 0 where
  short : {hs : List ℕ} {c : ℕ} → Hexes 4 0 hs c → is_character_lem c ≡ true → UCHAR (0x5C ∷ 0x75 ∷ hs) c
  long : {hs : List ℕ} {c : ℕ} → Hexes 8 0 hs c → is_character_lem c ≡ true → UCHAR (0x5C ∷ 0x55 ∷ hs) c

-- ECHAR ::= '\' [tbnrf"'\]
pub data ECHAR : List ℕ → ℕ → Type 0 where
  tab : ECHAR (0x5C ∷ 0x74 ∷ []) 0x9
  backspace : ECHAR (0x5C ∷ 0x62 ∷ []) 0x8
  newline : ECHAR (0x5C ∷ 0x6E ∷ []) 0xA
  return : ECHAR (0x5C ∷ 0x72 ∷ []) 0xD
  formfeed : ECHAR (0x5C ∷ 0x66 ∷ []) 0xC
  quote : ECHAR (0x5C ∷ 0x22 ∷ []) 0x22
  apostrophe : ECHAR (0x5C ∷ 0x27 ∷ []) 0x27
  backslash : ECHAR (0x5C ∷ 0x5C ∷ []) 0x5C

-- ([^#x00-#x20<>"{}|^`\] | UCHAR)*; what an escape gives is held to the same characters
pub data IriChars : List ℕ → List ℕ → Type 0 where
  none : IriChars [] []
  raw : {c : ℕ} {source iri : List ℕ} → is_iri_char_lem c ≡ true → IriChars source iri → IriChars (c ∷ source) (c ∷ iri)
  uchar : {c : ℕ} {escape source whole iri : List ℕ} →
      UCHAR escape c → is_iri_char_lem c ≡ true → IriChars source iri → whole ≡ escape ++ source → IriChars whole (c ∷ iri)

-- an absolute IRI begins with a scheme: a letter, then letters, digits, '+', '-', '.', then ':'
unfoldable pub has_colon : List ℕ → Bool
has_colon [] = false
has_colon (c ∷ cs) = eqb c 0x3A || (is_scheme_char_lem c && has_colon cs)

unfoldable pub is_absolute : List ℕ → Bool
is_absolute [] = false
is_absolute (c ∷ cs) = is_alpha_lem c && has_colon cs

-- IRIREF ::= '<' (..)* '>'; "IRIs are written only as absolute IRIs"
pub data IRIREF : List ℕ → List ℕ → Type 0 where
  iriref : {inside whole iri : List ℕ} →
      IriChars inside iri → is_absolute iri ≡ true → whole ≡ 0x3C ∷ (inside ++ (0x3E ∷ [])) → IRIREF whole iri

-- ([^#x22#x5C#xA#xD] | ECHAR | UCHAR)*
pub data StringChars : List ℕ → List ℕ → Type 0 where
  none : StringChars [] []
  raw : {c : ℕ} {source string : List ℕ} → is_string_char c ≡ true → StringChars source string → StringChars (c ∷ source) (c ∷ string)
  echar : {c : ℕ} {escape source whole string : List ℕ} →
      ECHAR escape c → StringChars source string → whole ≡ escape ++ source → StringChars whole (c ∷ string)
  uchar : {c : ℕ} {escape source whole string : List ℕ} →
      UCHAR escape c → StringChars source string → whole ≡ escape ++ source → StringChars whole (c ∷ string)

-- STRING_LITERAL_QUOTE ::= '"' (..)* '"'
pub data STRING : List ℕ → List ℕ → Type 0 where
  string : {inside whole chars : List ℕ} →
      StringChars inside chars → whole ≡ 0x22 ∷ (inside ++ (0x22 ∷ [])) → STRING whole chars

-- (PN_CHARS | '.')* PN_CHARS
pub data LabelEnd : List ℕ → Type 0 where
  last : {c : ℕ} → is_name_char_lem c ≡ true → LabelEnd (c ∷ [])
  char : {c : ℕ} {cs : List ℕ} → is_name_char_lem c ≡ true → LabelEnd cs → LabelEnd (c ∷ cs)
  dot : {cs : List ℕ} → LabelEnd cs → LabelEnd (0x2E ∷ cs)

-- (PN_CHARS_U | [0-9]) ((PN_CHARS | '.')* PN_CHARS)?
pub data Label : List ℕ → Type 0 where
  one : {c : ℕ} → is_label_start_lem c ≡ true → Label (c ∷ [])
  longer : {c : ℕ} {cs : List ℕ} → is_label_start_lem c ≡ true → LabelEnd cs → Label (c ∷ cs)

-- BLANK_NODE_LABEL ::= '_:' (PN_CHARS_U | [0-9]) ((PN_CHARS | '.')* PN_CHARS)?
pub data BLANK : List ℕ → List ℕ → Type 0 where
  blank : {label : List ℕ} → Label label → BLANK (0x5F ∷ 0x3A ∷ label) label

-- [a-zA-Z0-9]* ('-' [a-zA-Z0-9]+)*
pub data Subtags : List ℕ → Type 0 where
  none : Subtags []
  char : {c : ℕ} {cs : List ℕ} → is_alnum_lem c ≡ true → Subtags cs → Subtags (c ∷ cs)
  minus : {c : ℕ} {cs : List ℕ} → is_alnum_lem c ≡ true → Subtags cs → Subtags (0x2D ∷ c ∷ cs)

-- [a-zA-Z]* ('-' [a-zA-Z0-9]+)*
pub data Tag : List ℕ → Type 0 where
  none : Tag []
  letter : {c : ℕ} {cs : List ℕ} → is_alpha_lem c ≡ true → Tag cs → Tag (c ∷ cs)
  minus : {c : ℕ} {cs : List ℕ} → is_alnum_lem c ≡ true → Subtags cs → Tag (0x2D ∷ c ∷ cs)

-- LANGTAG ::= '@' [a-zA-Z]+ ('-' [a-zA-Z0-9]+)*
pub data LANGTAG : List ℕ → List ℕ → Type 0 where
  langtag : {c : ℕ} {cs : List ℕ} → is_alpha_lem c ≡ true → Tag cs → LANGTAG (0x40 ∷ c ∷ cs) (c ∷ cs)

-- white space, perhaps none
pub data White : List ℕ → Type 0 where
  none : White []
  more : {c : ℕ} {cs : List ℕ} → is_white_lem c ≡ true → White cs → White (c ∷ cs)

pub data Characters : List ℕ → Type 0 where
  none : Characters []
  more : {c : ℕ} {cs : List ℕ} → is_character_lem c ≡ true → Characters cs → Characters (c ∷ cs)

-- "Comments .. start with '#' .. and continue to the end of line", perhaps none
pub data Comment : List ℕ → Type 0 where
  none : Comment []
  comment : {cs : List ℕ} → Characters cs → Comment (0x23 ∷ cs)

-- what a literal has behind its string
pub data Sort : Type 0 where
  plain : Sort
  tagged typed : List ℕ → Sort

pub data Term : Type 0 where
  name blank : List ℕ → Term
  literal : List ℕ → Sort → Term

-- literal ::= STRING_LITERAL_QUOTE ('^^' IRIREF | LANGTAG)?; white space may stand between its terminals
pub data Literal : List ℕ → Term → Type 0 where
  bare : {source chars : List ℕ} → STRING source chars → Literal source (literal chars plain)
  with_tag : {string space tag chars language whole : List ℕ} →
      STRING string chars → White space → LANGTAG tag language → whole ≡ string ++ (space ++ tag) → Literal whole (literal chars (tagged language))
  with_type : {string space more datatype chars iri whole : List ℕ} →
      STRING string chars → White space → White more → IRIREF datatype iri →
      whole ≡ string ++ (space ++ (0x5E ∷ 0x5E ∷ (more ++ datatype))) → Literal whole (literal chars (typed iri))

-- subject ::= IRIREF | BLANK_NODE_LABEL
pub data Subject : List ℕ → Term → Type 0 where
  iri : {source chars : List ℕ} → IRIREF source chars → Subject source (name chars)
  label : {source chars : List ℕ} → BLANK source chars → Subject source (blank chars)

-- predicate ::= IRIREF
pub data Predicate : List ℕ → Term → Type 0 where
  iri : {source chars : List ℕ} → IRIREF source chars → Predicate source (name chars)

-- object ::= IRIREF | BLANK_NODE_LABEL | literal
pub data Object : List ℕ → Term → Type 0 where
  iri : {source chars : List ℕ} → IRIREF source chars → Object source (name chars)
  label : {source chars : List ℕ} → BLANK source chars → Object source (blank chars)
  lit : {source : List ℕ} {t : Term} → Literal source t → Object source t

-- triple ::= subject predicate object '.', white space around each; then perhaps a comment
pub data Triple : List ℕ → Term → Term → Term → Type 0 where
  triple : {front subject between predicate behind object before after comment whole : List ℕ} {s p o : Term} →
      White front → Subject subject s → White between → Predicate predicate p → White behind → Object object o → White before →
      White after → Comment comment →
      whole ≡ front ++ (subject ++ (between ++ (predicate ++ (behind ++ (object ++ (before ++ (0x2E ∷ (after ++ comment)))))))) →
      Triple whole s p o

-- a line that says nothing: white space, then perhaps a comment
pub data Empty : List ℕ → Type 0 where
  empty : {space comment whole : List ℕ} → White space → Comment comment → whole ≡ space ++ comment → Empty whole

pub data Said : Type 0 where
  nothing : Said
  says : Term → Term → Term → Said

-- what a line of characters says; a line that says neither is not N-Triples
pub data Says : List ℕ → Said → Type 0 where
  empty_line : {line : List ℕ} → Empty line → Says line nothing
  triple_line : {line : List ℕ} {s p o : Term} → Triple line s p o → Says line (says s p o)

-- "a Unicode character string encoded in UTF-8"
pub record LineSays (bytes : List ℕ) (said : Said) : Type 0 where
  pub line : List ℕ
  pub encoded : bytes ≡ text_bytes line
  pub says : Says line said

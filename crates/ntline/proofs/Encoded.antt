-- A line of bytes says what is heard of its characters, and nothing else: sound, complete, unambiguous. Assumes nothing.
use mathlib.Core.Path.{◌≡◌, sym, ap, subst, ◌∙◌}
use mathlib.Core.Bool.{true, ◌||◌}
use mathlib.Core.List.{List, [], ◌∷◌, ◌++◌}
use Prim.Native.Nat.{ℕ, ◌≤◌}
use native.Mathlib.Omega.{arith}
use lib.Dec.{eqb, leb}
use borrow.Author.Tests.{eqb-true, leb-true}
use Rattle.utf8.specs.Characters.{within, is_character_lem}
use Rattle.utf8.specs.Texts.{chars_of, AllCharacters}
use Rattle.utf8.proofs.Texts.{chars-of_text, text_of-chars}
use Rattle.utf8.proofs.Judged.{and_left, and_right, low-character, high_character}
use Rattle.ntline.specs.Classes.{is_white_lem, is_alpha_lem, is_digit_lem, is_alnum_lem, is_hex_lem, is_base, is_name_start, is_name_char_lem, is_label_start_lem}
use Rattle.ntline.specs.Grammar as grammar
use Rattle.ntline.specs.Lines.{line_of, heard, said_by}
use Rattle.ntline.proofs.Bools.{either}
use Rattle.ntline.proofs.Resolving.{iri-character, string-character}
use Rattle.ntline.proofs.Complete.{says-heard}
use Rattle.ntline.proofs.Sound.{heard-says}

-- ---- every class is of characters

one : (c n : ℕ) → n ≤ 0xD7FF → eqb c n ≡ true → is_character_lem c ≡ true
one c n h e = let is = eqb-true c n e in low-character c (omega arith)

range : (lo hi c : ℕ) → hi ≤ 0xD7FF → within lo hi c ≡ true → is_character_lem c ≡ true
range lo hi c h e = let top = leb-true c hi (and_right (leb lo c) (leb c hi) e) in low-character c (omega arith)

range-high : (lo hi c : ℕ) → 0xE000 ≤ lo → hi ≤ 0x10FFFF → within lo hi c ≡ true → is_character_lem c ≡ true
range-high lo hi c g h e =
    let top = leb-true c hi (and_right (leb lo c) (leb c hi) e) in
    let low = leb-true lo c (and_left (leb lo c) (leb c hi) e) in
    high_character c (omega arith) (omega arith)

pub white_char : (c : ℕ) → is_white_lem c ≡ true → is_character_lem c ≡ true
unfolding is_white_lem
white_char c e = either (eqb c 0x20) (eqb c 0x9) e (one c 0x20 (omega arith)) (one c 0x9 (omega arith))

pub alpha_char : (c : ℕ) → is_alpha_lem c ≡ true → is_character_lem c ≡ true
unfolding is_alpha_lem
alpha_char c e = either (within 0x61 0x7A c) (within 0x41 0x5A c) e (range 0x61 0x7A c (omega arith)) (range 0x41 0x5A c (omega arith))

digit_char : (c : ℕ) → is_digit_lem c ≡ true → is_character_lem c ≡ true
unfolding is_digit_lem
digit_char c e = range 0x30 0x39 c (omega arith) e

pub alnum_char : (c : ℕ) → is_alnum_lem c ≡ true → is_character_lem c ≡ true
unfolding is_alnum_lem
alnum_char c e = either (is_alpha_lem c) (is_digit_lem c) e (alpha_char c) (digit_char c)

hex_char : (c : ℕ) → is_hex_lem c ≡ true → is_character_lem c ≡ true
unfolding is_hex_lem
hex_char c e =
    either (is_digit_lem c) (within 0x41 0x46 c || within 0x61 0x66 c) e (digit_char c)
    (λ f. either (within 0x41 0x46 c) (within 0x61 0x66 c) f (range 0x41 0x46 c (omega arith)) (range 0x61 0x66 c (omega arith)))

base-char : (c : ℕ) → is_base c ≡ true → is_character_lem c ≡ true
unfolding is_base
base-char c e =
    either _ (within 0x10000 0xEFFFF c) e (λ e₁.
    either _ (within 0xFDF0 0xFFFD c) e₁ (λ e₂.
    either _ (within 0xF900 0xFDCF c) e₂ (λ e₃.
    either _ (within 0x3001 0xD7FF c) e₃ (λ e₄.
    either _ (within 0x2C00 0x2FEF c) e₄ (λ e₅.
    either _ (within 0x2070 0x218F c) e₅ (λ e₆.
    either _ (within 0x200C 0x200D c) e₆ (λ e₇.
    either _ (within 0x37F 0x1FFF c) e₇ (λ e₈.
    either _ (within 0x370 0x37D c) e₈ (λ e₉.
    either _ (within 0xF8 0x2FF c) e₉ (λ f₁.
    either _ (within 0xD8 0xF6 c) f₁ (λ f₂.
    either (is_alpha_lem c) (within 0xC0 0xD6 c) f₂ (alpha_char c) (range 0xC0 0xD6 c (omega arith)))
    (range 0xD8 0xF6 c (omega arith)))
    (range 0xF8 0x2FF c (omega arith)))
    (range 0x370 0x37D c (omega arith)))
    (range 0x37F 0x1FFF c (omega arith)))
    (range 0x200C 0x200D c (omega arith)))
    (range 0x2070 0x218F c (omega arith)))
    (range 0x2C00 0x2FEF c (omega arith)))
    (range 0x3001 0xD7FF c (omega arith)))
    (range-high 0xF900 0xFDCF c (omega arith) (omega arith)))
    (range-high 0xFDF0 0xFFFD c (omega arith) (omega arith)))
    (range-high 0x10000 0xEFFFF c (omega arith) (omega arith))

start_char : (c : ℕ) → is_name_start c ≡ true → is_character_lem c ≡ true
unfolding is_name_start
start_char c e =
    either (is_base c) (eqb c 0x5F || eqb c 0x3A) e (base-char c)
    (λ f. either (eqb c 0x5F) (eqb c 0x3A) f (one c 0x5F (omega arith)) (one c 0x3A (omega arith)))

pub name_char : (c : ℕ) → is_name_char_lem c ≡ true → is_character_lem c ≡ true
unfolding is_name_char_lem
name_char c e =
    either (is_name_start c) _ e (start_char c)
    (λ f.
    either _ (within 0x203F 0x2040 c) f (λ f₁.
    either _ (within 0x300 0x36F c) f₁ (λ f₂.
    either _ (eqb c 0xB7) f₂ (λ f₃.
    either (eqb c 0x2D) (is_digit_lem c) f₃ (one c 0x2D (omega arith)) (digit_char c))
    (one c 0xB7 (omega arith)))
    (range 0x300 0x36F c (omega arith)))
    (range 0x203F 0x2040 c (omega arith)))

pub label-char : (c : ℕ) → is_label_start_lem c ≡ true → is_character_lem c ≡ true
unfolding is_label_start_lem
label-char c e = either (is_name_start c) (is_digit_lem c) e (start_char c) (digit_char c)

-- ---- every production is

pub all_append : (xs ys : List ℕ) → AllCharacters xs → AllCharacters ys → AllCharacters (xs ++ ys)
all_append [] ys a b = b
all_append (x ∷ xs) ys a b = (a.0, all_append xs ys a.1 b)

-- a sign of the grammar
pub sign : (c : ℕ) → c ≤ 0xD7FF → (cs : List ℕ) → AllCharacters cs → AllCharacters (c ∷ cs)
sign c h cs a = (low-character c h, a)

abbrev along : {xs ys : List ℕ} → xs ≡ ys → AllCharacters ys → AllCharacters xs
along e a = subst AllCharacters (sym e) a

hexes_all : {n before number : ℕ} {hs : List ℕ} → grammar.Hexes n before hs number → AllCharacters hs
hexes_all grammar.Hexes.none = tt
hexes_all (grammar.Hexes.more {h = h} e d) = (hex_char h e, hexes_all d)

uchar-all : {escape : List ℕ} {c : ℕ} → grammar.UCHAR escape c → AllCharacters escape
uchar-all (grammar.UCHAR.short {hs = hs} d ok) = sign 0x5C (omega arith) (0x75 ∷ hs) (sign 0x75 (omega arith) hs (hexes_all d))
uchar-all (grammar.UCHAR.long {hs = hs} d ok) = sign 0x5C (omega arith) (0x55 ∷ hs) (sign 0x55 (omega arith) hs (hexes_all d))

two_all : (d : ℕ) → d ≤ 0xD7FF → AllCharacters (0x5C ∷ d ∷ [])
two_all d h = sign 0x5C (omega arith) (d ∷ []) (sign d h [] tt)

echar-all : {escape : List ℕ} {c : ℕ} → grammar.ECHAR escape c → AllCharacters escape
echar-all grammar.ECHAR.tab = two_all 0x74 (omega arith)
echar-all grammar.ECHAR.backspace = two_all 0x62 (omega arith)
echar-all grammar.ECHAR.newline = two_all 0x6E (omega arith)
echar-all grammar.ECHAR.return = two_all 0x72 (omega arith)
echar-all grammar.ECHAR.formfeed = two_all 0x66 (omega arith)
echar-all grammar.ECHAR.quote = two_all 0x22 (omega arith)
echar-all grammar.ECHAR.apostrophe = two_all 0x27 (omega arith)
echar-all grammar.ECHAR.backslash = two_all 0x5C (omega arith)

iri-chars_all : {source iri : List ℕ} → grammar.IriChars source iri → AllCharacters source
iri-chars_all grammar.IriChars.none = tt
iri-chars_all (grammar.IriChars.raw {c = c} ok d) = (iri-character c ok, iri-chars_all d)
iri-chars_all (grammar.IriChars.uchar {escape = e} {source = s} u ok d is) = along is (all_append e s (uchar-all u) (iri-chars_all d))

pub iri-all : {source iri : List ℕ} → grammar.IRIREF source iri → AllCharacters source
iri-all (grammar.IRIREF.iriref {inside = inside} d abs is) =
    along is (sign 0x3C (omega arith) (inside ++ (0x3E ∷ [])) (all_append inside (0x3E ∷ []) (iri-chars_all d) (sign 0x3E (omega arith) [] tt)))

string-chars_all : {source chars : List ℕ} → grammar.StringChars source chars → AllCharacters source
string-chars_all grammar.StringChars.none = tt
string-chars_all (grammar.StringChars.raw {c = c} ok d) = (string-character c ok, string-chars_all d)
string-chars_all (grammar.StringChars.echar {escape = e} {source = s} x d is) = along is (all_append e s (echar-all x) (string-chars_all d))
string-chars_all (grammar.StringChars.uchar {escape = e} {source = s} u d is) = along is (all_append e s (uchar-all u) (string-chars_all d))

pub string-all : {source chars : List ℕ} → grammar.STRING source chars → AllCharacters source
string-all (grammar.STRING.string {inside = inside} d is) =
    along is (sign 0x22 (omega arith) (inside ++ (0x22 ∷ [])) (all_append inside (0x22 ∷ []) (string-chars_all d) (sign 0x22 (omega arith) [] tt)))

pub label-end_all : {cs : List ℕ} → grammar.LabelEnd cs → AllCharacters cs
label-end_all (grammar.LabelEnd.last {c = c} e) = (name_char c e, tt)
label-end_all (grammar.LabelEnd.char {c = c} e d) = (name_char c e, label-end_all d)
label-end_all (grammar.LabelEnd.dot {cs = cs} d) = sign 0x2E (omega arith) cs (label-end_all d)

pub label-all : {cs : List ℕ} → grammar.Label cs → AllCharacters cs
label-all (grammar.Label.one {c = c} e) = (label-char c e, tt)
label-all (grammar.Label.longer {c = c} e d) = (label-char c e, label-end_all d)

pub blank-all : {source label : List ℕ} → grammar.BLANK source label → AllCharacters source
blank-all (grammar.BLANK.blank {label = label} d) = sign 0x5F (omega arith) (0x3A ∷ label) (sign 0x3A (omega arith) label (label-all d))

subtags_all : {cs : List ℕ} → grammar.Subtags cs → AllCharacters cs
subtags_all grammar.Subtags.none = tt
subtags_all (grammar.Subtags.char {c = c} e d) = (alnum_char c e, subtags_all d)
subtags_all (grammar.Subtags.minus {c = c} {cs = cs} e d) = sign 0x2D (omega arith) (c ∷ cs) (alnum_char c e, subtags_all d)

tag_rest_all : {cs : List ℕ} → grammar.Tag cs → AllCharacters cs
tag_rest_all grammar.Tag.none = tt
tag_rest_all (grammar.Tag.letter {c = c} e d) = (alpha_char c e, tag_rest_all d)
tag_rest_all (grammar.Tag.minus {c = c} {cs = cs} e d) = sign 0x2D (omega arith) (c ∷ cs) (alnum_char c e, subtags_all d)

pub tag_all : {source tag : List ℕ} → grammar.LANGTAG source tag → AllCharacters source
tag_all (grammar.LANGTAG.langtag {c = c} {cs = cs} e d) = sign 0x40 (omega arith) (c ∷ cs) (alpha_char c e, tag_rest_all d)

pub white_all : {cs : List ℕ} → grammar.White cs → AllCharacters cs
white_all grammar.White.none = tt
white_all (grammar.White.more {c = c} e d) = (white_char c e, white_all d)

characters_all : {cs : List ℕ} → grammar.Characters cs → AllCharacters cs
characters_all grammar.Characters.none = tt
characters_all (grammar.Characters.more e d) = (e, characters_all d)

comment-all : {cs : List ℕ} → grammar.Comment cs → AllCharacters cs
comment-all grammar.Comment.none = tt
comment-all (grammar.Comment.comment {cs = cs} d) = sign 0x23 (omega arith) cs (characters_all d)

pub literal-all : {source : List ℕ} {t : grammar.Term} → grammar.Literal source t → AllCharacters source
literal-all (grammar.Literal.bare d) = string-all d
literal-all (grammar.Literal.with_tag {string = string} {space = space} {tag = tag} d w g is) =
    along is (all_append string (space ++ tag) (string-all d) (all_append space tag (white_all w) (tag_all g)))
literal-all (grammar.Literal.with_type {string = string} {space = space} {more = more} {datatype = datatype} d w u g is) =
    along is
    (all_append string (space ++ (0x5E ∷ 0x5E ∷ (more ++ datatype))) (string-all d)
    (all_append space (0x5E ∷ 0x5E ∷ (more ++ datatype)) (white_all w)
    (sign 0x5E (omega arith) (0x5E ∷ (more ++ datatype)) (sign 0x5E (omega arith) (more ++ datatype) (all_append more datatype (white_all u) (iri-all g))))))

subject-all : {source : List ℕ} {t : grammar.Term} → grammar.Subject source t → AllCharacters source
subject-all (grammar.Subject.iri d) = iri-all d
subject-all (grammar.Subject.label d) = blank-all d

predicate-all : {source : List ℕ} {t : grammar.Term} → grammar.Predicate source t → AllCharacters source
predicate-all (grammar.Predicate.iri d) = iri-all d

pub object-all : {source : List ℕ} {t : grammar.Term} → grammar.Object source t → AllCharacters source
object-all (grammar.Object.iri d) = iri-all d
object-all (grammar.Object.label d) = blank-all d
object-all (grammar.Object.lit d) = literal-all d

pub says_all : {line : List ℕ} {said : grammar.Said} → grammar.Says line said → AllCharacters line
says_all (grammar.Says.empty_line (grammar.Empty.empty {space = space} {comment = comment} w k is)) = along is (all_append space comment (white_all w) (comment-all k))
says_all (grammar.Says.triple_line (grammar.Triple.triple {front = front} {subject = subject} {between = between} {predicate = predicate} {behind = behind} {object = object} {before = before} {after = after} {comment = comment} w s x p y o b a k is)) =
    along is
    (all_append front _ (white_all w)
    (all_append subject _ (subject-all s)
    (all_append between _ (white_all x)
    (all_append predicate _ (predicate-all p)
    (all_append behind _ (white_all y)
    (all_append object _ (object-all o)
    (all_append before _ (white_all b)
    (sign 0x2E (omega arith) (after ++ comment) (all_append after comment (white_all a) (comment-all k))))))))))

-- ---- lines of bytes

-- complete: what a line of bytes says is heard
pub line-heard : {bytes : List ℕ} {said : grammar.Said} → grammar.LineSays bytes said → said_by (line_of (chars_of bytes)) ≡ heard said
line-heard d =
    ap (λ (l : List ℕ). said_by (line_of l)) (ap chars_of d.encoded ∙ chars-of_text d.line (says_all d.says))
    ∙ says-heard d.says

-- sound: what is heard, the line says
pub heard-line : (bytes : List ℕ) (said : grammar.Said) → said_by (line_of (chars_of bytes)) ≡ heard said → grammar.LineSays bytes said
heard-line bytes said e =
    let d = heard-says (chars_of bytes) said e in
    record { line = chars_of bytes; encoded = sym (text_of-chars bytes (says_all d)); says = d }

-- unambiguous: it says one thing
pub line-one : {bytes : List ℕ} {x y : grammar.Said} → grammar.LineSays bytes x → grammar.LineSays bytes y → x ≡ y
line-one {bytes = bytes} {x = x} {y = y} d e =
    let h : said_by (line_of (chars_of bytes)) ≡ heard x = line-heard d in
    let g : said_by (line_of (chars_of bytes)) ≡ heard y = line-heard e in
    cc

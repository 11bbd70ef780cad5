-- Labels, tags and white space have no escape: each character stands for itself. Assumes nothing.
use mathlib.Core.Path.{◌≡◌, refl, ap, ◌∙◌}
use mathlib.Core.Bool.{Bool, true, false}
use mathlib.Core.List.{List, [], ◌∷◌, ◌++◌}
use Prim.Native.Nat.{ℕ}
use lib.Dec.{eqb}
use Rattle.ground.specs.Lists.{All}
use Rattle.utf8.specs.Characters.{is_character_lem, char_bytes, text_bytes}
use Rattle.utf8.specs.Texts.{AllCharacters}
use Rattle.ntline.specs.Classes.{is_white_lem, is_alpha_lem, is_digit_lem, is_alnum_lem, is_base, is_name_start, is_name_char_lem, is_label_start_lem}
use Rattle.ntline.specs.Grammar as grammar
use Rattle.ntline.specs.Escapes.{fed_by, resolved}
use Rattle.ntline.proofs.Bools.{differs}
use Rattle.ntline.proofs.Digits.{not-part}
use Rattle.ntline.proofs.Resolving.{raw-resolved}
use Rattle.ntline.proofs.Encoded.{white_char, alpha_char, alnum_char, name_char, label-char}
use Rattle.nttext.specs.Laying.{laid}

-- a character that is no backslash
pub record Bare (c : ℕ) : Type 0 where
  pub character : is_character_lem c ≡ true
  pub no_slash : eqb c 0x5C ≡ false

-- and no white space
pub record Plain (c : ℕ) : Type 0 where
  pub bare : Bare c
  pub no_white : is_white_lem c ≡ false

-- ---- what becomes of them

pub all_bare : (cs : List ℕ) → All Plain cs → All Bare cs
all_bare [] h = tt
all_bare (c ∷ cs) h = (h.0.bare, all_bare cs h.1)

pub bare-characters : (cs : List ℕ) → All Bare cs → AllCharacters cs
bare-characters [] h = tt
bare-characters (c ∷ cs) h = (h.0.character, bare-characters cs h.1)

plain-one : (c : ℕ) (rest : List ℕ) → Plain c → laid false 0 0 (c ∷ rest) ≡ char_bytes c ++ laid false 0 0 rest
unfolding laid fed_by
plain-one c rest p = rw (p.bare.no_slash, not-part c p.bare.character, not-part c p.bare.character, p.no_white) refl

pub plain-laid : (cs : List ℕ) → All Plain cs → laid false 0 0 cs ≡ text_bytes cs
unfolding laid text_bytes
plain-laid [] h = refl
plain-laid (c ∷ cs) h = plain-one c cs h.0 ∙ ap (λ (l : List ℕ). char_bytes c ++ l) (plain-laid cs h.1)

pub bare-resolved : (cs rest : List ℕ) → All Bare cs → resolved 0 0 (cs ++ rest) ≡ cs ++ resolved 0 0 rest
bare-resolved [] rest h = refl
bare-resolved (c ∷ cs) rest h = raw-resolved c (cs ++ rest) h.0.no_slash h.0.character ∙ ap (λ (l : List ℕ). c ∷ l) (bare-resolved cs rest h.1)

-- ---- classes that have neither

module _ (P : ℕ → Bool) (chars : (c : ℕ) → P c ≡ true → is_character_lem c ≡ true) (slash : P 0x5C ≡ false) (blank : P 0x20 ≡ false) (tab : P 0x9 ≡ false) where
  class_plain : (c : ℕ) → P c ≡ true → Plain c
  unfolding is_white_lem
  class_plain c ok = record {
    bare = record { character = chars c ok; no_slash = differs P c 0x5C slash ok };
    no_white = rw (differs P c 0x20 blank ok, differs P c 0x9 tab ok) refl;
  }

name_none : (is_name_char_lem 0x5C ≡ false) × (is_name_char_lem 0x20 ≡ false) × (is_name_char_lem 0x9 ≡ false)
unfolding is_name_char_lem is_name_start is_base is_alpha_lem is_digit_lem
name_none = (refl, refl, refl)

start_none : (is_label_start_lem 0x5C ≡ false) × (is_label_start_lem 0x20 ≡ false) × (is_label_start_lem 0x9 ≡ false)
unfolding is_label_start_lem is_name_start is_base is_alpha_lem is_digit_lem
start_none = (refl, refl, refl)

alpha_none : (is_alpha_lem 0x5C ≡ false) × (is_alpha_lem 0x20 ≡ false) × (is_alpha_lem 0x9 ≡ false)
unfolding is_alpha_lem
alpha_none = (refl, refl, refl)

alnum_none : (is_alnum_lem 0x5C ≡ false) × (is_alnum_lem 0x20 ≡ false) × (is_alnum_lem 0x9 ≡ false)
unfolding is_alnum_lem is_alpha_lem is_digit_lem
alnum_none = (refl, refl, refl)

name_plain : (c : ℕ) → is_name_char_lem c ≡ true → Plain c
name_plain = class_plain is_name_char_lem name_char name_none.0 name_none.1 name_none.2

start_plain : (c : ℕ) → is_label_start_lem c ≡ true → Plain c
start_plain = class_plain is_label_start_lem label-char start_none.0 start_none.1 start_none.2

alpha_plain : (c : ℕ) → is_alpha_lem c ≡ true → Plain c
alpha_plain = class_plain is_alpha_lem alpha_char alpha_none.0 alpha_none.1 alpha_none.2

alnum_plain : (c : ℕ) → is_alnum_lem c ≡ true → Plain c
alnum_plain = class_plain is_alnum_lem alnum_char alnum_none.0 alnum_none.1 alnum_none.2

dot-plain : Plain 0x2E
unfolding is_white_lem is_character_lem
dot-plain = record { bare = record { character = refl; no_slash = refl }; no_white = refl }

minus-plain : Plain 0x2D
unfolding is_white_lem is_character_lem
minus-plain = record { bare = record { character = refl; no_slash = refl }; no_white = refl }

at_plain : Plain 0x40
unfolding is_white_lem is_character_lem
at_plain = record { bare = record { character = refl; no_slash = refl }; no_white = refl }

-- ---- and the productions of them

label-end_plain : {cs : List ℕ} → grammar.LabelEnd cs → All Plain cs
label-end_plain (grammar.LabelEnd.last {c = c} e) = (name_plain c e, tt)
label-end_plain (grammar.LabelEnd.char {c = c} e d) = (name_plain c e, label-end_plain d)
label-end_plain (grammar.LabelEnd.dot d) = (dot-plain, label-end_plain d)

pub label-plain : {cs : List ℕ} → grammar.Label cs → All Plain cs
label-plain (grammar.Label.one {c = c} e) = (start_plain c e, tt)
label-plain (grammar.Label.longer {c = c} e d) = (start_plain c e, label-end_plain d)

subtags_plain : {cs : List ℕ} → grammar.Subtags cs → All Plain cs
subtags_plain grammar.Subtags.none = tt
subtags_plain (grammar.Subtags.char {c = c} e d) = (alnum_plain c e, subtags_plain d)
subtags_plain (grammar.Subtags.minus {c = c} e d) = (minus-plain, (alnum_plain c e, subtags_plain d))

tag_rest_plain : {cs : List ℕ} → grammar.Tag cs → All Plain cs
tag_rest_plain grammar.Tag.none = tt
tag_rest_plain (grammar.Tag.letter {c = c} e d) = (alpha_plain c e, tag_rest_plain d)
tag_rest_plain (grammar.Tag.minus {c = c} e d) = (minus-plain, (alnum_plain c e, subtags_plain d))

pub tag_plain : {tag language : List ℕ} → grammar.LANGTAG tag language → All Plain tag
tag_plain (grammar.LANGTAG.langtag {c = c} e d) = (at_plain, (alpha_plain c e, tag_rest_plain d))

white_slash : is_white_lem 0x5C ≡ false
unfolding is_white_lem
white_slash = refl

white_one : (c : ℕ) → is_white_lem c ≡ true → Bare c
white_one c e = record { character = white_char c e; no_slash = differs is_white_lem c 0x5C white_slash e }

pub white_bare : {w : List ℕ} → grammar.White w → All Bare w
white_bare grammar.White.none = tt
white_bare (grammar.White.more {c = c} e d) = (white_one c e, white_bare d)

white_dropped : (c : ℕ) (rest : List ℕ) → is_white_lem c ≡ true → laid false 0 0 (c ∷ rest) ≡ laid false 0 0 rest
unfolding laid fed_by
white_dropped c rest e = let b = white_one c e in rw (b.no_slash, not-part c b.character, not-part c b.character, e) refl

-- white space outside quotes leaves nothing
pub white_laid : {w : List ℕ} → grammar.White w → (rest : List ℕ) → laid false 0 0 (w ++ rest) ≡ laid false 0 0 rest
white_laid grammar.White.none rest = refl
white_laid (grammar.White.more {c = c} {cs = cs} e d) rest = white_dropped c (cs ++ rest) e ∙ white_laid d rest

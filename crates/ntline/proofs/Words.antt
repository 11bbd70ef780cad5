-- The longest match of white space, labels, tags, comments and marks: what the grammar has is found whole where what follows does not
-- go on with it. Assumes nothing.
use mathlib.Core.Path.{◌≡◌, refl, ◌∙◌}
use mathlib.Core.Bool.{true}
use mathlib.Core.List.{List, [], ◌∷◌, ◌++◌}
use Prim.Native.Nat.{ℕ}
use Rattle.utf8.specs.Characters.{is_character_lem}
use Rattle.ntline.specs.declared.lexing.State.{State}
use Rattle.ntline.specs.declared.lexing.State.TheVariants.{Start, Dead, White, Remark, Colon, Label, Dots, At, Letters, Minus, Alnums}
use Rattle.ntline.specs.Classes.{is_white_lem, is_alpha_lem, is_digit_lem, is_alnum_lem, is_base, is_name_start, is_name_char_lem, is_label_start_lem}
use Rattle.ntline.specs.Grammar as grammar
use Rattle.ntline.specs.Lexing.{begun, in_label, step, kind_of, token_is, munched, token_of, a_space, a_dot, a_hats, a_remark, a_label, a_tag}
use Rattle.ntline.proofs.Munching.{munched-dead, munched-on, munched-end, over-dot, over-hats}

-- what follows a terminal does not go on with it
abbrev pub Stops : State → List ℕ → Type 0
Stops s rest = (kind : ℕ) (left : List ℕ) → munched s kind left rest ≡ token_is kind left

pub stops_end : (s : State) → Stops s []
unfolding munched
stops_end s kind left = refl

pub stops-dead : (s : State) (c : ℕ) (cs : List ℕ) → step s c ≡ Dead → Stops s (c ∷ cs)
unfolding munched kind_of
stops-dead s c cs e kind left = rw e (munched-dead kind left cs)

-- ---- white space

pub white_goes : (c : ℕ) → is_white_lem c ≡ true → step White c ≡ White
unfolding step
white_goes c e = rw e refl

pub white_begins : (c : ℕ) → is_white_lem c ≡ true → step Start c ≡ White
unfolding step begun
white_begins c e = rw e refl

pub kind-white : kind_of White ≡ a_space
unfolding kind_of
kind-white = refl

white_inside : {w : List ℕ} → grammar.White w → (rest : List ℕ) → Stops White rest → munched White a_space (w ++ rest) (w ++ rest) ≡ token_is a_space rest
white_inside grammar.White.none rest stop = stop a_space rest
white_inside (grammar.White.more {c = c} {cs = cs} e d) rest stop =
    munched-end White White a_space (c ∷ (cs ++ rest)) c (cs ++ rest) a_space (white_goes c e) kind-white refl
    ∙ white_inside d rest stop

pub space_found : (c : ℕ) (w rest : List ℕ) → is_white_lem c ≡ true → grammar.White w → Stops White rest → token_of (c ∷ (w ++ rest)) ≡ token_is a_space rest
unfolding token_of
space_found c w rest e d stop =
    munched-end Start White 0 (c ∷ (w ++ rest)) c (w ++ rest) a_space (white_begins c e) kind-white refl
    ∙ white_inside d rest stop

-- ---- labels

label-goes : (c : ℕ) → is_name_char_lem c ≡ true → in_label c ≡ Label
unfolding in_label
label-goes c e = rw e refl

pub label-from : (c : ℕ) → is_name_char_lem c ≡ true → step Label c ≡ Label
unfolding step
label-from c e = label-goes c e

pub dots_from : (c : ℕ) → is_name_char_lem c ≡ true → step Dots c ≡ Label
unfolding step
dots_from c e = label-goes c e

pub label-dot : step Label 0x2E ≡ Dots
unfolding step in_label is_name_char_lem is_name_start is_base is_alpha_lem is_digit_lem
label-dot = refl

pub dots_dot : step Dots 0x2E ≡ Dots
unfolding step in_label is_name_char_lem is_name_start is_base is_alpha_lem is_digit_lem
dots_dot = refl

pub kind-label : kind_of Label ≡ a_label
unfolding kind_of
kind-label = refl

pub kind-dots : kind_of Dots ≡ 0
unfolding kind_of
kind-dots = refl

-- behind a character of the label, or behind dots in it
label_inside : {cs : List ℕ} → grammar.LabelEnd cs → (rest : List ℕ) → Stops Label rest → (kind : ℕ) (left : List ℕ) →
    (munched Label kind left (cs ++ rest) ≡ token_is a_label rest) × (munched Dots kind left (cs ++ rest) ≡ token_is a_label rest)
label_inside (grammar.LabelEnd.last {c = c} e) rest stop kind left = (
  munched-end Label Label kind left c rest a_label (label-from c e) kind-label refl ∙ stop a_label rest,
  munched-end Dots Label kind left c rest a_label (dots_from c e) kind-label refl ∙ stop a_label rest,
)
label_inside (grammar.LabelEnd.char {c = c} {cs = cs} e d) rest stop kind left =
    let inside = label_inside d rest stop a_label (cs ++ rest) in (
      munched-end Label Label kind left c (cs ++ rest) a_label (label-from c e) kind-label refl ∙ inside.0,
      munched-end Dots Label kind left c (cs ++ rest) a_label (dots_from c e) kind-label refl ∙ inside.0,
    )
label_inside (grammar.LabelEnd.dot {cs = cs} d) rest stop kind left =
    let inside = label_inside d rest stop kind left in (
      munched-on Label Dots kind left 0x2E (cs ++ rest) label-dot kind-dots ∙ inside.1,
      munched-on Dots Dots kind left 0x2E (cs ++ rest) dots_dot kind-dots ∙ inside.1,
    )

pub label-begins : (c : ℕ) → is_label_start_lem c ≡ true → step Colon c ≡ Label
unfolding step
label-begins c e = rw e refl

marked : (rest : List ℕ) → token_of (0x5F ∷ 0x3A ∷ rest) ≡ munched Colon 0 (0x5F ∷ 0x3A ∷ rest) rest
unfolding token_of munched step begun is_white_lem kind_of
marked rest = refl

-- BLANK_NODE_LABEL
pub label-found : {source label : List ℕ} → grammar.BLANK source label → (rest : List ℕ) → Stops Label rest → token_of (source ++ rest) ≡ token_is a_label rest
label-found (grammar.BLANK.blank (grammar.Label.one {c = c} e)) rest stop =
    marked (c ∷ rest) ∙ munched-end Colon Label 0 (0x5F ∷ 0x3A ∷ c ∷ rest) c rest a_label (label-begins c e) kind-label refl ∙ stop a_label rest
label-found (grammar.BLANK.blank (grammar.Label.longer {c = c} {cs = cs} e d)) rest stop =
    marked (c ∷ (cs ++ rest))
    ∙ munched-end Colon Label 0 (0x5F ∷ 0x3A ∷ c ∷ (cs ++ rest)) c (cs ++ rest) a_label (label-begins c e) kind-label refl
    ∙ (label_inside d rest stop a_label (cs ++ rest)).0

-- ---- tags

pub letters_goes : (c : ℕ) → is_alpha_lem c ≡ true → step Letters c ≡ Letters
unfolding step
letters_goes c e = rw e refl

pub letters_begin : (c : ℕ) → is_alpha_lem c ≡ true → step At c ≡ Letters
unfolding step
letters_begin c e = rw e refl

pub letters_minus : step Letters 0x2D ≡ Minus
unfolding step is_alpha_lem
letters_minus = refl

pub alnums_goes : (c : ℕ) → is_alnum_lem c ≡ true → step Alnums c ≡ Alnums
unfolding step
alnums_goes c e = rw e refl

pub alnums_minus : step Alnums 0x2D ≡ Minus
unfolding step is_alnum_lem is_alpha_lem is_digit_lem
alnums_minus = refl

pub minus-goes : (c : ℕ) → is_alnum_lem c ≡ true → step Minus c ≡ Alnums
unfolding step
minus-goes c e = rw e refl

pub kind-letters : kind_of Letters ≡ a_tag
unfolding kind_of
kind-letters = refl

kind-alnums : kind_of Alnums ≡ a_tag
unfolding kind_of
kind-alnums = refl

kind-minus : kind_of Minus ≡ 0
unfolding kind_of
kind-minus = refl

subtags_inside : {cs : List ℕ} → grammar.Subtags cs → (rest : List ℕ) → Stops Alnums rest → munched Alnums a_tag (cs ++ rest) (cs ++ rest) ≡ token_is a_tag rest
subtags_inside grammar.Subtags.none rest stop = stop a_tag rest
subtags_inside (grammar.Subtags.char {c = c} {cs = cs} e d) rest stop =
    munched-end Alnums Alnums a_tag (c ∷ (cs ++ rest)) c (cs ++ rest) a_tag (alnums_goes c e) kind-alnums refl
    ∙ subtags_inside d rest stop
subtags_inside (grammar.Subtags.minus {c = c} {cs = cs} e d) rest stop =
    munched-on Alnums Minus a_tag (0x2D ∷ c ∷ (cs ++ rest)) 0x2D (c ∷ (cs ++ rest)) alnums_minus kind-minus
    ∙ munched-end Minus Alnums a_tag (0x2D ∷ c ∷ (cs ++ rest)) c (cs ++ rest) a_tag (minus-goes c e) kind-alnums refl
    ∙ subtags_inside d rest stop

tag_inside : {cs : List ℕ} → grammar.Tag cs → (rest : List ℕ) → Stops Letters rest → Stops Alnums rest →
    munched Letters a_tag (cs ++ rest) (cs ++ rest) ≡ token_is a_tag rest
tag_inside grammar.Tag.none rest stop stop' = stop a_tag rest
tag_inside (grammar.Tag.letter {c = c} {cs = cs} e d) rest stop stop' =
    munched-end Letters Letters a_tag (c ∷ (cs ++ rest)) c (cs ++ rest) a_tag (letters_goes c e) kind-letters refl
    ∙ tag_inside d rest stop stop'
tag_inside (grammar.Tag.minus {c = c} {cs = cs} e d) rest stop stop' =
    munched-on Letters Minus a_tag (0x2D ∷ c ∷ (cs ++ rest)) 0x2D (c ∷ (cs ++ rest)) letters_minus kind-minus
    ∙ munched-end Minus Alnums a_tag (0x2D ∷ c ∷ (cs ++ rest)) c (cs ++ rest) a_tag (minus-goes c e) kind-alnums refl
    ∙ subtags_inside d rest stop'

at_sign : (rest : List ℕ) → token_of (0x40 ∷ rest) ≡ munched At 0 (0x40 ∷ rest) rest
unfolding token_of munched step begun is_white_lem kind_of
at_sign rest = refl

-- LANGTAG
pub tag_found : {source tag : List ℕ} → grammar.LANGTAG source tag → (rest : List ℕ) → Stops Letters rest → Stops Alnums rest →
    token_of (source ++ rest) ≡ token_is a_tag rest
tag_found (grammar.LANGTAG.langtag {c = c} {cs = cs} e d) rest stop stop' =
    at_sign (c ∷ (cs ++ rest))
    ∙ munched-end At Letters 0 (0x40 ∷ c ∷ (cs ++ rest)) c (cs ++ rest) a_tag (letters_begin c e) kind-letters refl
    ∙ tag_inside d rest stop stop'

-- ---- comments and marks

pub remark_goes : (c : ℕ) → is_character_lem c ≡ true → step Remark c ≡ Remark
unfolding step
remark_goes c e = rw e refl

pub kind-remark : kind_of Remark ≡ a_remark
unfolding kind_of
kind-remark = refl

remark_inside : {cs : List ℕ} → grammar.Characters cs → munched Remark a_remark cs cs ≡ token_is a_remark []
unfolding munched
remark_inside grammar.Characters.none = refl
remark_inside (grammar.Characters.more {c = c} {cs = cs} e d) =
    munched-end Remark Remark a_remark (c ∷ cs) c cs a_remark (remark_goes c e) kind-remark refl ∙ remark_inside d

-- "# .. to the end of line"
pub remark_found : {cs : List ℕ} → grammar.Characters cs → token_of (0x23 ∷ cs) ≡ token_is a_remark []
unfolding token_of munched step begun is_white_lem kind_of
remark_found d = remark_inside d

pub dot-found : (rest : List ℕ) → token_of (0x2E ∷ rest) ≡ token_is a_dot rest
unfolding token_of munched step begun is_white_lem kind_of
dot-found rest = over-dot a_dot rest rest

pub hats_found : (rest : List ℕ) → token_of (0x5E ∷ 0x5E ∷ rest) ≡ token_is a_hats rest
unfolding token_of munched step begun is_white_lem kind_of
hats_found rest = over-hats a_hats rest rest

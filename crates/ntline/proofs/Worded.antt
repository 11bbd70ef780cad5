-- What the longest match finds is a terminal of the grammar. Assumes nothing.
use mathlib.Core.Path.{◌≡◌, refl, sym, ap, subst, ◌∙◌}
use mathlib.Core.Bool.{Bool, true, false}
use mathlib.Core.List.{List, [], ◌∷◌, ◌++◌}
use Prim.Native.Nat.{ℕ}
use native.Mathlib.Omega.{arith}
use lib.Dec.{eqb}
use borrow.Author.Tests.{eqb-true}
use Rattle.utf8.specs.Characters.{is_character_lem}
use Rattle.ntline.specs.declared.lexing.State.{State}
use Rattle.ntline.specs.declared.lexing.State.TheVariants.{Start, Dead, White, Dot, Hat, Hats, Remark, Under, Colon, Label, Dots, At, Letters, Minus, Alnums, Iri, Quoted}
use Rattle.ntline.specs.Classes.{is_white_lem, is_alpha_lem, is_alnum_lem, is_name_char_lem, is_label_start_lem}
use Rattle.ntline.specs.Grammar as grammar
use Rattle.ntline.specs.Lexing.{begun, in_label, step, kind_of, token_of}
use Rattle.ntline.proofs.Ending.{token_found}
use Rattle.ntline.proofs.Running.{run, Closing, ends-closing, closing_dead, closing_nil, closing_on}
use Rattle.ntline.proofs.Marked.{iri-sound}
use Rattle.ntline.proofs.Strung.{string-sound}
use Rattle.ntline.proofs.Words.{white_goes, white_begins, label-from, dots_from, label-dot, dots_dot, label-begins, letters_goes, letters_begin, letters_minus, alnums_goes, alnums_minus, minus-goes, remark_goes}

-- the kind at the end of a way of no characters
ended : {s : State} {kind : ℕ} → Closing s [] kind → (n : ℕ) → kind_of s ≡ n → kind ≡ n
unfolding run
ended w n e = sym w.ended ∙ e

-- ---- white space and comments

pub white_stop : (c : ℕ) → is_white_lem c ≡ false → step White c ≡ Dead
unfolding step
white_stop c e = rw e refl

kind_of-white : kind_of White ≡ 1
unfolding kind_of
kind_of-white = refl

white_sound : (cs : List ℕ) (kind : ℕ) → Closing White cs kind → (kind ≡ 1) × grammar.White cs
white_sound [] kind w = (ended w 1 kind_of-white, grammar.White.none)
white_sound (c ∷ cs) kind w = which (is_white_lem c) refl (λ v. white_sound cs kind v)
  where
    which : (x : Bool) → is_white_lem c ≡ x → (Closing White cs kind → (kind ≡ 1) × grammar.White cs) → (kind ≡ 1) × grammar.White (c ∷ cs)
    which true e later = let r = later (closing_on w (white_goes c e)) in (r.0, grammar.White.more e r.1)
    which false e later = absurd (closing_dead (closing_on w (white_stop c e)) refl)

pub remark_stop : (c : ℕ) → is_character_lem c ≡ false → step Remark c ≡ Dead
unfolding step
remark_stop c e = rw e refl

kind_of-remark : kind_of Remark ≡ 4
unfolding kind_of
kind_of-remark = refl

remark_sound : (cs : List ℕ) (kind : ℕ) → Closing Remark cs kind → (kind ≡ 4) × grammar.Characters cs
remark_sound [] kind w = (ended w 4 kind_of-remark, grammar.Characters.none)
remark_sound (c ∷ cs) kind w = which (is_character_lem c) refl (λ v. remark_sound cs kind v)
  where
    which : (x : Bool) → is_character_lem c ≡ x → (Closing Remark cs kind → (kind ≡ 4) × grammar.Characters cs) → (kind ≡ 4) × grammar.Characters (c ∷ cs)
    which true e later = let r = later (closing_on w (remark_goes c e)) in (r.0, grammar.Characters.more e r.1)
    which false e later = absurd (closing_dead (closing_on w (remark_stop c e)) refl)

-- ---- marks

dot-stop : (c : ℕ) → step Dot c ≡ Dead
unfolding step
dot-stop c = refl

kind_of-dot : kind_of Dot ≡ 2
unfolding kind_of
kind_of-dot = refl

dot-sound : (cs : List ℕ) (kind : ℕ) → Closing Dot cs kind → (kind ≡ 2) × (cs ≡ [])
dot-sound [] kind w = (ended w 2 kind_of-dot, refl)
dot-sound (c ∷ cs) kind w = absurd (closing_dead (closing_on w (dot-stop c)) refl)

hats_stop : (c : ℕ) → step Hats c ≡ Dead
unfolding step
hats_stop c = refl

kind_of-hats : kind_of Hats ≡ 3
unfolding kind_of
kind_of-hats = refl

kind_of-hat : kind_of Hat ≡ 0
unfolding kind_of
kind_of-hat = refl

hats_sound : (cs : List ℕ) (kind : ℕ) → Closing Hats cs kind → (kind ≡ 3) × (cs ≡ [])
hats_sound [] kind w = (ended w 3 kind_of-hats, refl)
hats_sound (c ∷ cs) kind w = absurd (closing_dead (closing_on w (hats_stop c)) refl)

hat_goes : step Hat 0x5E ≡ Hats
unfolding step
hat_goes = refl

hat_stop : (c : ℕ) → eqb c 0x5E ≡ false → step Hat c ≡ Dead
unfolding step
hat_stop c e = rw e refl

hat_sound : (cs : List ℕ) (kind : ℕ) → Closing Hat cs kind → (kind ≡ 3) × (cs ≡ 0x5E ∷ [])
hat_sound [] kind w = absurd (closing_nil w kind_of-hat)
hat_sound (c ∷ cs) kind w = which (eqb c 0x5E) refl
  where
    which : (x : Bool) → eqb c 0x5E ≡ x → (kind ≡ 3) × (c ∷ cs ≡ 0x5E ∷ [])
    which true e =
        let is = eqb-true c 0x5E e in
        let r = hats_sound cs kind (closing_on w (ap (step Hat) is ∙ hat_goes)) in
        (r.0, ap (λ (n : ℕ). n ∷ cs) is ∙ ap (λ (l : List ℕ). 0x5E ∷ l) r.1)
    which false e = absurd (closing_dead (closing_on w (hat_stop c e)) refl)

-- ---- labels

data LabelTail : List ℕ → Type 0 where
  over : LabelTail []
  more : {cs : List ℕ} → grammar.LabelEnd cs → LabelTail cs

longer : {c : ℕ} {cs : List ℕ} → is_name_char_lem c ≡ true → LabelTail cs → grammar.LabelEnd (c ∷ cs)
longer e over = grammar.LabelEnd.last e
longer e (more d) = grammar.LabelEnd.char e d

label-stop : (c : ℕ) → is_name_char_lem c ≡ false → eqb c 0x2E ≡ false → step Label c ≡ Dead
unfolding step in_label
label-stop c x y = rw (x, y) refl

dots_stop : (c : ℕ) → is_name_char_lem c ≡ false → eqb c 0x2E ≡ false → step Dots c ≡ Dead
unfolding step in_label
dots_stop c x y = rw (x, y) refl

kind_of-label : kind_of Label ≡ 5
unfolding kind_of
kind_of-label = refl

kind_of-dots : kind_of Dots ≡ 0
unfolding kind_of
kind_of-dots = refl

abbrev Labels : List ℕ → ℕ → Type 0
Labels cs kind = (Closing Label cs kind → (kind ≡ 5) × LabelTail cs) × (Closing Dots cs kind → (kind ≡ 5) × grammar.LabelEnd cs)

labels_on : (c : ℕ) (cs : List ℕ) (kind : ℕ) → Labels cs kind → (x : Bool) → is_name_char_lem c ≡ x → (y : Bool) → eqb c 0x2E ≡ y → Labels (c ∷ cs) kind
labels_on c cs kind ih true e y f = (
  λ w. let r = ih.0 (closing_on w (label-from c e)) in (r.0, more (longer e r.1)),
  λ w. let r = ih.0 (closing_on w (dots_from c e)) in (r.0, longer e r.1),
)
labels_on c cs kind ih false e true f =
    let is = eqb-true c 0x2E f in (
      λ w. let r = ih.1 (closing_on w (ap (step Label) is ∙ label-dot)) in (r.0, more (subst (λ (n : ℕ). grammar.LabelEnd (n ∷ cs)) (sym is) (grammar.LabelEnd.dot r.1))),
      λ w. let r = ih.1 (closing_on w (ap (step Dots) is ∙ dots_dot)) in (r.0, subst (λ (n : ℕ). grammar.LabelEnd (n ∷ cs)) (sym is) (grammar.LabelEnd.dot r.1)),
    )
labels_on c cs kind ih false e false f =
    (λ w. absurd (closing_dead (closing_on w (label-stop c e f)) refl), λ w. absurd (closing_dead (closing_on w (dots_stop c e f)) refl))

labels_sound : (cs : List ℕ) (kind : ℕ) → Labels cs kind
labels_sound [] kind = (λ w. (ended w 5 kind_of-label, over), λ w. absurd (closing_nil w kind_of-dots))
labels_sound (c ∷ cs) kind = labels_on c cs kind (labels_sound cs kind) (is_name_char_lem c) refl (eqb c 0x2E) refl

whole-label : {c : ℕ} {cs : List ℕ} → is_label_start_lem c ≡ true → LabelTail cs → grammar.Label (c ∷ cs)
whole-label e over = grammar.Label.one e
whole-label e (more d) = grammar.Label.longer e d

colon-stop : (c : ℕ) → is_label_start_lem c ≡ false → step Colon c ≡ Dead
unfolding step
colon-stop c e = rw e refl

kind_of-colon : kind_of Colon ≡ 0
unfolding kind_of
kind_of-colon = refl

kind_of-under : kind_of Under ≡ 0
unfolding kind_of
kind_of-under = refl

pub colon-sound : (cs : List ℕ) (kind : ℕ) → Closing Colon cs kind → (kind ≡ 5) × grammar.Label cs
colon-sound [] kind w = absurd (closing_nil w kind_of-colon)
colon-sound (c ∷ cs) kind w = which (is_label_start_lem c) refl
  where
    which : (x : Bool) → is_label_start_lem c ≡ x → (kind ≡ 5) × grammar.Label (c ∷ cs)
    which true e = let r = (labels_sound cs kind).0 (closing_on w (label-begins c e)) in (r.0, whole-label e r.1)
    which false e = absurd (closing_dead (closing_on w (colon-stop c e)) refl)

under_goes : step Under 0x3A ≡ Colon
unfolding step
under_goes = refl

under_stop : (c : ℕ) → eqb c 0x3A ≡ false → step Under c ≡ Dead
unfolding step
under_stop c e = rw e refl

under_sound : (cs : List ℕ) (kind : ℕ) → Closing Under cs kind → (kind ≡ 5) × (label : List ℕ) × (grammar.BLANK (0x5F ∷ cs) label)
under_sound [] kind w = absurd (closing_nil w kind_of-under)
under_sound (c ∷ cs) kind w = which (eqb c 0x3A) refl
  where
    which : (x : Bool) → eqb c 0x3A ≡ x → (kind ≡ 5) × (label : List ℕ) × (grammar.BLANK (0x5F ∷ c ∷ cs) label)
    which true e =
        let is = eqb-true c 0x3A e in
        let r = colon-sound cs kind (closing_on w (ap (step Under) is ∙ under_goes)) in
        (r.0, cs, subst (λ (n : ℕ). grammar.BLANK (0x5F ∷ n ∷ cs) cs) (sym is) (grammar.BLANK.blank r.1))
    which false e = absurd (closing_dead (closing_on w (under_stop c e)) refl)

-- ---- tags

data MinusRest : List ℕ → Type 0 where
  rest : {c : ℕ} {cs : List ℕ} → is_alnum_lem c ≡ true → grammar.Subtags cs → MinusRest (c ∷ cs)

sub_minus : {cs : List ℕ} → MinusRest cs → grammar.Subtags (0x2D ∷ cs)
sub_minus (rest e d) = grammar.Subtags.minus e d

tag_minus : {cs : List ℕ} → MinusRest cs → grammar.Tag (0x2D ∷ cs)
tag_minus (rest e d) = grammar.Tag.minus e d

alnums_stop : (c : ℕ) → is_alnum_lem c ≡ false → eqb c 0x2D ≡ false → step Alnums c ≡ Dead
unfolding step
alnums_stop c x y = rw (x, y) refl

letters_stop : (c : ℕ) → is_alpha_lem c ≡ false → eqb c 0x2D ≡ false → step Letters c ≡ Dead
unfolding step
letters_stop c x y = rw (x, y) refl

minus-stop : (c : ℕ) → is_alnum_lem c ≡ false → step Minus c ≡ Dead
unfolding step
minus-stop c x = rw x refl

kind_of-alnums : kind_of Alnums ≡ 6
unfolding kind_of
kind_of-alnums = refl

kind_of-letters : kind_of Letters ≡ 6
unfolding kind_of
kind_of-letters = refl

kind_of-minus : kind_of Minus ≡ 0
unfolding kind_of
kind_of-minus = refl

abbrev Alnumses : List ℕ → ℕ → Type 0
Alnumses cs kind = (Closing Alnums cs kind → (kind ≡ 6) × grammar.Subtags cs) × (Closing Minus cs kind → (kind ≡ 6) × MinusRest cs)

alnums_on : (c : ℕ) (cs : List ℕ) (kind : ℕ) → Alnumses cs kind → (x : Bool) → is_alnum_lem c ≡ x → (y : Bool) → eqb c 0x2D ≡ y → Alnumses (c ∷ cs) kind
alnums_on c cs kind ih true e y f = (
  λ w. let r = ih.0 (closing_on w (alnums_goes c e)) in (r.0, grammar.Subtags.char e r.1),
  λ w. let r = ih.0 (closing_on w (minus-goes c e)) in (r.0, rest e r.1),
)
alnums_on c cs kind ih false e true f =
    let is = eqb-true c 0x2D f in (
      λ w. let r = ih.1 (closing_on w (ap (step Alnums) is ∙ alnums_minus)) in (r.0, subst (λ (n : ℕ). grammar.Subtags (n ∷ cs)) (sym is) (sub_minus r.1)),
      λ w. absurd (closing_dead (closing_on w (minus-stop c e)) refl),
    )
alnums_on c cs kind ih false e false f =
    (λ w. absurd (closing_dead (closing_on w (alnums_stop c e f)) refl), λ w. absurd (closing_dead (closing_on w (minus-stop c e)) refl))

alnums_sound : (cs : List ℕ) (kind : ℕ) → Alnumses cs kind
alnums_sound [] kind = (λ w. (ended w 6 kind_of-alnums, grammar.Subtags.none), λ w. absurd (closing_nil w kind_of-minus))
alnums_sound (c ∷ cs) kind = alnums_on c cs kind (alnums_sound cs kind) (is_alnum_lem c) refl (eqb c 0x2D) refl

letters_on : (c : ℕ) (cs : List ℕ) (kind : ℕ) → (Closing Letters cs kind → (kind ≡ 6) × grammar.Tag cs) → Closing Letters (c ∷ cs) kind →
    (x : Bool) → is_alpha_lem c ≡ x → (y : Bool) → eqb c 0x2D ≡ y → (kind ≡ 6) × grammar.Tag (c ∷ cs)
letters_on c cs kind ih w true e y f = let r = ih (closing_on w (letters_goes c e)) in (r.0, grammar.Tag.letter e r.1)
letters_on c cs kind ih w false e true f =
    let is = eqb-true c 0x2D f in
    let r = (alnums_sound cs kind).1 (closing_on w (ap (step Letters) is ∙ letters_minus)) in
    (r.0, subst (λ (n : ℕ). grammar.Tag (n ∷ cs)) (sym is) (tag_minus r.1))
letters_on c cs kind ih w false e false f = absurd (closing_dead (closing_on w (letters_stop c e f)) refl)

letters_sound : (cs : List ℕ) (kind : ℕ) → Closing Letters cs kind → (kind ≡ 6) × grammar.Tag cs
letters_sound [] kind w = (ended w 6 kind_of-letters, grammar.Tag.none)
letters_sound (c ∷ cs) kind w = letters_on c cs kind (λ v. letters_sound cs kind v) w (is_alpha_lem c) refl (eqb c 0x2D) refl

at_stop : (c : ℕ) → is_alpha_lem c ≡ false → step At c ≡ Dead
unfolding step
at_stop c e = rw e refl

kind_of-at : kind_of At ≡ 0
unfolding kind_of
kind_of-at = refl

at_sound : (cs : List ℕ) (kind : ℕ) → Closing At cs kind → (kind ≡ 6) × (tag : List ℕ) × (grammar.LANGTAG (0x40 ∷ cs) tag)
at_sound [] kind w = absurd (closing_nil w kind_of-at)
at_sound (c ∷ cs) kind w = which (is_alpha_lem c) refl
  where
    which : (x : Bool) → is_alpha_lem c ≡ x → (kind ≡ 6) × (tag : List ℕ) × (grammar.LANGTAG (0x40 ∷ c ∷ cs) tag)
    which true e = let r = letters_sound cs kind (closing_on w (letters_begin c e)) in (r.0, c ∷ cs, grammar.LANGTAG.langtag e r.1)
    which false e = absurd (closing_dead (closing_on w (at_stop c e)) refl)

-- ---- the terminal that a way from the start ends

pub data Terminal : List ℕ → ℕ → Type 0 where
  space : {c : ℕ} {cs : List ℕ} → is_white_lem c ≡ true → grammar.White cs → Terminal (c ∷ cs) 1
  dot : Terminal (0x2E ∷ []) 2
  hats : Terminal (0x5E ∷ 0x5E ∷ []) 3
  remark : {cs : List ℕ} → grammar.Characters cs → Terminal (0x23 ∷ cs) 4
  label : {s l : List ℕ} → grammar.BLANK s l → Terminal s 5
  tag : {s l : List ℕ} → grammar.LANGTAG s l → Terminal s 6
  iri : {s l : List ℕ} → grammar.IRIREF s l → Terminal s 7
  string : {s l : List ℕ} → grammar.STRING s l → Terminal s 8

begins : (c : ℕ) (s : State) (n : ℕ) → eqb c n ≡ true → step Start n ≡ s → step Start c ≡ s
begins c s n e q = ap (step Start) (eqb-true c n e) ∙ q

pub begins-iri : step Start 0x3C ≡ Iri 0 0 0
unfolding step begun is_white_lem
begins-iri = refl

pub begins-under : step Start 0x5F ≡ Under
unfolding step begun is_white_lem
begins-under = refl

pub begins-quoted : step Start 0x22 ≡ Quoted 0 0
unfolding step begun is_white_lem
begins-quoted = refl

pub begins-at : step Start 0x40 ≡ At
unfolding step begun is_white_lem
begins-at = refl

pub begins-hat : step Start 0x5E ≡ Hat
unfolding step begun is_white_lem
begins-hat = refl

pub begins-dot : step Start 0x2E ≡ Dot
unfolding step begun is_white_lem
begins-dot = refl

pub begins-remark : step Start 0x23 ≡ Remark
unfolding step begun is_white_lem
begins-remark = refl

begins-none : (c : ℕ) → is_white_lem c ≡ false → eqb c 0x3C ≡ false → eqb c 0x5F ≡ false → eqb c 0x22 ≡ false → eqb c 0x40 ≡ false → eqb c 0x5E ≡ false → eqb c 0x2E ≡ false → eqb c 0x23 ≡ false →
    step Start c ≡ Dead
unfolding step begun
begins-none c a b d e f g h i = rw (a, b, d, e, f, g, h, i) refl

-- of this character, and of this kind
as_terminal : {c n kind k : ℕ} {cs : List ℕ} → c ≡ n → kind ≡ k → Terminal (n ∷ cs) k → Terminal (c ∷ cs) kind
as_terminal {n = n} {kind = kind} {cs = cs} is of t = subst (λ (x : ℕ). Terminal (x ∷ cs) kind) (sym is) (subst (λ (x : ℕ). Terminal (n ∷ cs) x) (sym of) t)

terminal_at : (c : ℕ) (cs : List ℕ) (kind : ℕ) → Closing Start (c ∷ cs) kind →
    (a : Bool) → is_white_lem c ≡ a → (b : Bool) → eqb c 0x3C ≡ b → (d : Bool) → eqb c 0x5F ≡ d → (e : Bool) → eqb c 0x22 ≡ e →
    (f : Bool) → eqb c 0x40 ≡ f → (g : Bool) → eqb c 0x5E ≡ g → (h : Bool) → eqb c 0x2E ≡ h → (i : Bool) → eqb c 0x23 ≡ i → Terminal (c ∷ cs) kind
terminal_at c cs kind w true p b q d r e s f t g u h v i x =
    let k = white_sound cs kind (closing_on w (white_begins c p)) in as_terminal refl k.0 (space p k.1)
terminal_at c cs kind w false p true q d r e s f t g u h v i x =
    let k = iri-sound cs kind (closing_on w (begins c (Iri 0 0 0) 0x3C q begins-iri)) in
    as_terminal (eqb-true c 0x3C q) k.kind_is (iri (grammar.IRIREF.iriref k.chars k.absolute (ap (λ (l : List ℕ). 0x3C ∷ l) k.parts)))
terminal_at c cs kind w false p false q true r e s f t g u h v i x =
    let k = under_sound cs kind (closing_on w (begins c Under 0x5F r begins-under)) in as_terminal (eqb-true c 0x5F r) k.0 (label k.2)
terminal_at c cs kind w false p false q false r true s f t g u h v i x =
    let k = string-sound cs kind (closing_on w (begins c (Quoted 0 0) 0x22 s begins-quoted)) in
    as_terminal (eqb-true c 0x22 s) k.kind_is (string (grammar.STRING.string k.chars (ap (λ (l : List ℕ). 0x22 ∷ l) k.parts)))
terminal_at c cs kind w false p false q false r false s true t g u h v i x =
    let k = at_sound cs kind (closing_on w (begins c At 0x40 t begins-at)) in as_terminal (eqb-true c 0x40 t) k.0 (tag k.2)
terminal_at c cs kind w false p false q false r false s false t true u h v i x =
    let k = hat_sound cs kind (closing_on w (begins c Hat 0x5E u begins-hat)) in
    as_terminal (eqb-true c 0x5E u) k.0 (subst (λ (l : List ℕ). Terminal (0x5E ∷ l) 3) (sym k.1) hats)
terminal_at c cs kind w false p false q false r false s false t false u true v i x =
    let k = dot-sound cs kind (closing_on w (begins c Dot 0x2E v begins-dot)) in
    as_terminal (eqb-true c 0x2E v) k.0 (subst (λ (l : List ℕ). Terminal (0x2E ∷ l) 2) (sym k.1) dot)
terminal_at c cs kind w false p false q false r false s false t false u false v true x =
    let k = remark_sound cs kind (closing_on w (begins c Remark 0x23 x begins-remark)) in as_terminal (eqb-true c 0x23 x) k.0 (remark k.1)
terminal_at c cs kind w false p false q false r false s false t false u false v false x =
    absurd (closing_dead (closing_on w (begins-none c p q r s t u v x)) refl)

kind_of-start : kind_of Start ≡ 0
unfolding kind_of
kind_of-start = refl

terminal_sound : (cs : List ℕ) (kind : ℕ) → Closing Start cs kind → Terminal cs kind
terminal_sound [] kind w = absurd (closing_nil w kind_of-start)
terminal_sound (c ∷ cs) kind w =
    terminal_at c cs kind w (is_white_lem c) refl (eqb c 0x3C) refl (eqb c 0x5F) refl (eqb c 0x22) refl (eqb c 0x40) refl (eqb c 0x5E) refl (eqb c 0x2E) refl (eqb c 0x23) refl

-- the terminal at the front of a line
pub record Standing (xs : List ℕ) (kind : ℕ) : Type 0 where
  pub front : List ℕ
  pub parts : xs ≡ front ++ (token_of xs).rest
  pub terminal : Terminal front kind

pub token_sound : (xs : List ℕ) (kind : ℕ) → (token_of xs).kind ≡ kind → (kind ≡ 0 → ⊥) → Standing xs kind
token_sound xs kind e some =
    let f = token_found xs (λ z. some (sym e ∙ z)) in
    record {
      front = f.front;
      parts = f.parts;
      terminal = subst (λ (k : ℕ). Terminal f.front k) e (terminal_sound f.front (token_of xs).kind (ends-closing f.ends));
    }

-- ---- which it is, by its kind

pub is-space : {s : List ℕ} {k : ℕ} → Terminal s k → k ≡ 1 → grammar.White s
is-space (space e d) z = grammar.White.more e d
is-space dot z = absurd (omega arith)
is-space hats z = absurd (omega arith)
is-space (remark d) z = absurd (omega arith)
is-space (label d) z = absurd (omega arith)
is-space (tag d) z = absurd (omega arith)
is-space (iri d) z = absurd (omega arith)
is-space (string d) z = absurd (omega arith)

pub is-dot : {s : List ℕ} {k : ℕ} → Terminal s k → k ≡ 2 → s ≡ 0x2E ∷ []
is-dot (space e d) z = absurd (omega arith)
is-dot dot z = refl
is-dot hats z = absurd (omega arith)
is-dot (remark d) z = absurd (omega arith)
is-dot (label d) z = absurd (omega arith)
is-dot (tag d) z = absurd (omega arith)
is-dot (iri d) z = absurd (omega arith)
is-dot (string d) z = absurd (omega arith)

pub is-hats : {s : List ℕ} {k : ℕ} → Terminal s k → k ≡ 3 → s ≡ 0x5E ∷ 0x5E ∷ []
is-hats (space e d) z = absurd (omega arith)
is-hats dot z = absurd (omega arith)
is-hats hats z = refl
is-hats (remark d) z = absurd (omega arith)
is-hats (label d) z = absurd (omega arith)
is-hats (tag d) z = absurd (omega arith)
is-hats (iri d) z = absurd (omega arith)
is-hats (string d) z = absurd (omega arith)

pub is-remark : {s : List ℕ} {k : ℕ} → Terminal s k → k ≡ 4 → (cs : List ℕ) × (s ≡ 0x23 ∷ cs) × grammar.Characters cs
is-remark (space e d) z = absurd (omega arith)
is-remark dot z = absurd (omega arith)
is-remark hats z = absurd (omega arith)
is-remark (remark {cs = cs} d) z = (cs, refl, d)
is-remark (label d) z = absurd (omega arith)
is-remark (tag d) z = absurd (omega arith)
is-remark (iri d) z = absurd (omega arith)
is-remark (string d) z = absurd (omega arith)

pub is-label : {s : List ℕ} {k : ℕ} → Terminal s k → k ≡ 5 → (l : List ℕ) × grammar.BLANK s l
is-label (space e d) z = absurd (omega arith)
is-label dot z = absurd (omega arith)
is-label hats z = absurd (omega arith)
is-label (remark d) z = absurd (omega arith)
is-label (label {l = l} d) z = (l, d)
is-label (tag d) z = absurd (omega arith)
is-label (iri d) z = absurd (omega arith)
is-label (string d) z = absurd (omega arith)

pub is-tag : {s : List ℕ} {k : ℕ} → Terminal s k → k ≡ 6 → (l : List ℕ) × grammar.LANGTAG s l
is-tag (space e d) z = absurd (omega arith)
is-tag dot z = absurd (omega arith)
is-tag hats z = absurd (omega arith)
is-tag (remark d) z = absurd (omega arith)
is-tag (label d) z = absurd (omega arith)
is-tag (tag {l = l} d) z = (l, d)
is-tag (iri d) z = absurd (omega arith)
is-tag (string d) z = absurd (omega arith)

pub is-iri : {s : List ℕ} {k : ℕ} → Terminal s k → k ≡ 7 → (l : List ℕ) × grammar.IRIREF s l
is-iri (space e d) z = absurd (omega arith)
is-iri dot z = absurd (omega arith)
is-iri hats z = absurd (omega arith)
is-iri (remark d) z = absurd (omega arith)
is-iri (label d) z = absurd (omega arith)
is-iri (tag d) z = absurd (omega arith)
is-iri (iri {l = l} d) z = (l, d)
is-iri (string d) z = absurd (omega arith)

pub is-string : {s : List ℕ} {k : ℕ} → Terminal s k → k ≡ 8 → (l : List ℕ) × grammar.STRING s l
is-string (space e d) z = absurd (omega arith)
is-string dot z = absurd (omega arith)
is-string hats z = absurd (omega arith)
is-string (remark d) z = absurd (omega arith)
is-string (label d) z = absurd (omega arith)
is-string (tag d) z = absurd (omega arith)
is-string (iri d) z = absurd (omega arith)
is-string (string {l = l} d) z = (l, d)

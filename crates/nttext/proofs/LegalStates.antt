-- A name and a label are legal where the lexer's states let their characters through, with no escape. Assumes nothing.
use mathlib.Core.Path.{◌≡◌, refl, sym, ap, subst, ◌∙◌}
use mathlib.Core.Bool.{Bool, true, false, cond, true≢false}
use mathlib.Core.List.{List, [], ◌∷◌, ◌++◌, append-nil}
use Prim.Native.Nat.{ℕ, ◌<◌}
use native.Mathlib.Omega.{arith}
use lib.Dec.{eqb}
use borrow.Author.Tests.{eqb-true, eq-eqb}
use denote.Enum.Bare.{sameb}
use Rattle.ntline.specs.contracts.lexing.Kind.{the_type}
use Rattle.ntline.specs.declared.lexing.Kind.{Kind}
use Rattle.ntline.specs.Kinds.{number_of}
use Rattle.ground.specs.Lists.{All}
use Rattle.ground.proofs.Bools.{same_test}
use Rattle.utf8.specs.Characters.{text_bytes}
use Rattle.utf8.specs.Texts.{chars_of, AllCharacters}
use Rattle.utf8.proofs.Texts.{chars-of_text, text_of-chars}
use Rattle.ntline.specs.declared.lexing.State.{State}
use Rattle.ntline.specs.declared.lexing.State.TheVariants.{Start, Dead, Colon, Label, Iri}
use Rattle.ntline.specs.Classes.{is_white_lem}
use Rattle.ntline.specs.Grammar as grammar
use Rattle.ntline.specs.Lexing.{begun, step, kind_of, Token, token_is, token_of}
use Rattle.ntline.proofs.Words.{stops_end, label-found}
use Rattle.ntline.proofs.Munching.{iri-found}
use Rattle.ntline.proofs.Ending.{token_found}
use Rattle.ntline.proofs.Running.{run, Closing, ends-closing}
use Rattle.ntline.proofs.Marked.{iri-sound}
use Rattle.ntline.proofs.Worded.{colon-sound}
use Rattle.ntline.proofs.Encoded.{label-all}
use Rattle.nttext.specs.Texts.{text_of_term, sort_of_term, is_legal_text}
use Rattle.nttext.specs.Inner.{bare_run}
use Rattle.nttext.proofs.Given.{iri-chars, iri-no_slash}
use Rattle.nttext.proofs.Plain.{Bare, all_bare, label-plain}
use Rattle.nttext.proofs.Laid.{unmarked}
use Rattle.nttext.proofs.Canonical.{raw-iriref}
use Rattle.nttext.proofs.LegalTexts.{legal-text, text-legal, legal-read}

-- ---- states behind characters without a backslash

abbrev NoSlash : List ℕ → Type 0
NoSlash cs = All (λ c. eqb c 0x5C ≡ false) cs

bare-run : (s : State) (cs : List ℕ) → NoSlash cs → bare_run s cs ≡ run s cs
unfolding bare_run run
bare-run s [] h = refl
bare-run s (c ∷ cs) h = rw h.0 (bare-run (step s c) cs h.1)

-- a way that is not dead has no backslash
alive : (s : State) (cs : List ℕ) → (bare_run s cs ≡ Dead → ⊥) → NoSlash cs
unfolding bare_run
alive s [] h = tt
alive s (c ∷ cs) h = which (eqb c 0x5C) refl h (λ k. alive (step s c) cs k)
  where
    which : (x : Bool) → eqb c 0x5C ≡ x → (cond x Dead (bare_run (step s c) cs) ≡ Dead → ⊥) → ((bare_run (step s c) cs ≡ Dead → ⊥) → NoSlash cs) → (eqb c 0x5C ≡ false) × NoSlash cs
    which true e k again = absurd (k refl)
    which false e k again = (e, again k)

run_append : (s : State) (cs ds : List ℕ) → run s (cs ++ ds) ≡ run (run s cs) ds
unfolding run
run_append s [] ds = refl
run_append s (c ∷ cs) ds = run_append (step s c) cs ds

run_last : (s : State) (cs : List ℕ) (c : ℕ) → run s (cs ++ (c ∷ [])) ≡ step (run s cs) c
unfolding run
run_last s cs c = run_append s cs (c ∷ [])

-- where all of a list is one terminal, the states end it
whole_run : (xs : List ℕ) (kind : ℕ) → token_of xs ≡ token_is kind [] → (kind ≡ 0 → ⊥) → kind_of (run Start xs) ≡ kind
whole_run xs kind e some =
    let k : (token_of xs).kind ≡ kind = ap (λ (t : Token). t.kind) e in
    let f = token_found xs (λ z. some (sym k ∙ z)) in
    let all : xs ≡ f.front = f.parts ∙ ap (λ (t : Token). f.front ++ t.rest) e ∙ append-nil f.front in
    ap (λ (l : List ℕ). kind_of (run Start l)) all ∙ (ends-closing f.ends).ended ∙ k

dead-kind : kind_of Dead ≡ 0
unfolding kind_of
dead-kind = refl

dead-step : (c : ℕ) → kind_of (step Dead c) ≡ 0
unfolding step kind_of
dead-step c = refl

begins-iri : (cs : List ℕ) → run Start (0x3C ∷ cs) ≡ run (Iri 0 0 0) cs
unfolding run step begun is_white_lem
begins-iri cs = refl

begins-label : (cs : List ℕ) → run Start (0x5F ∷ 0x3A ∷ cs) ≡ run Colon cs
unfolding run step begun is_white_lem
begins-label cs = refl

-- ---- names

raw-no_slash : {source iri : List ℕ} → grammar.IriChars source iri → NoSlash iri
raw-no_slash grammar.IriChars.none = tt
raw-no_slash (grammar.IriChars.raw {c = c} ok d) = (iri-no_slash c ok, raw-no_slash d)
raw-no_slash (grammar.IriChars.uchar {c = c} u ok d is) = (iri-no_slash c ok, raw-no_slash d)

-- without a backslash an IRI is its source
slash_first : {escape : List ℕ} {c : ℕ} → grammar.UCHAR escape c → (rest : List ℕ) → NoSlash (escape ++ rest) → ⊥
slash_first (grammar.UCHAR.short d ok) rest h = true≢false h.0
slash_first (grammar.UCHAR.long d ok) rest h = true≢false h.0

own_source : {source iri : List ℕ} → grammar.IriChars source iri → NoSlash source → source ≡ iri
own_source grammar.IriChars.none h = refl
own_source (grammar.IriChars.raw {c = c} ok d) h = ap (λ (l : List ℕ). c ∷ l) (own_source d h.1)
own_source (grammar.IriChars.uchar {source = s} u ok d is) h = absurd (slash_first u s (subst NoSlash is h))

abbrev name_kind : List ℕ → ℕ
name_kind text = kind_of (step (bare_run (Iri 0 0 0) (chars_of text)) 0x3E)

raw-angled : {source iri : List ℕ} → grammar.IRIREF source iri → name_kind (text_bytes iri) ≡ 7
raw-angled {iri = iri} (grammar.IRIREF.iriref d abs is) =
    let own = raw-iriref (grammar.IRIREF.iriref d abs is) in
    let angled : List ℕ = 0x3C ∷ (iri ++ (0x3E ∷ [])) in
    let found : token_of angled ≡ token_is 7 [] = ap token_of (sym (append-nil angled)) ∙ iri-found own [] in
    ap (λ (l : List ℕ). kind_of (step (bare_run (Iri 0 0 0) l) 0x3E)) (chars-of_text iri (iri-chars d))
    ∙ ap (λ (s : State). kind_of (step s 0x3E)) (bare-run (Iri 0 0 0) iri (raw-no_slash d))
    ∙ ap kind_of (sym (run_last (Iri 0 0 0) iri 0x3E))
    ∙ ap kind_of (sym (begins-iri (iri ++ (0x3E ∷ []))))
    ∙ whole_run angled 7 found (λ (z : 7 ≡ 0). omega arith)

name_has : {source : List ℕ} {t : grammar.Term} → grammar.Object source t → sort_of_term t ≡ 0 → name_kind (text_of_term t) ≡ 7
unfolding sort_of_term text_of_term
name_has (grammar.Object.iri d) e = raw-angled d
name_has (grammar.Object.label d) e = absurd (omega (arith, e))
name_has (grammar.Object.lit (grammar.Literal.bare d)) e = absurd (omega (arith, e))
name_has (grammar.Object.lit (grammar.Literal.with_tag d w g whole)) e = absurd (omega (arith, e))
name_has (grammar.Object.lit (grammar.Literal.with_type d w u g whole)) e = absurd (omega (arith, e))

name_sound : (text : List ℕ) → name_kind text ≡ 7 → is_legal_text 0 text ≡ true
unfolding sort_of_term text_of_term
name_sound text e =
    let cs : List ℕ = chars_of text in
    let plain = alive (Iri 0 0 0) cs (λ z. absurd (let k : kind_of (step Dead 0x3E) ≡ 7 = ap (λ (s : State). kind_of (step s 0x3E)) (sym z) ∙ e in omega (arith, k, dead-step 0x3E))) in
    let closing : Closing (Iri 0 0 0) (cs ++ (0x3E ∷ [])) 7
    = record {
      ended = ap kind_of (run_last (Iri 0 0 0) cs 0x3E) ∙ ap (λ (s : State). kind_of (step s 0x3E)) (sym (bare-run (Iri 0 0 0) cs plain)) ∙ e;
      some = λ (z : ◌≡◌ {A = ℕ} 7 0). omega arith;
    } in
    let r = iri-sound (cs ++ (0x3E ∷ [])) 7 closing in
    let inside : cs ≡ r.inside = unmarked cs r.inside r.parts in
    let own : cs ≡ r.iri = inside ∙ own_source r.chars (subst NoSlash inside plain) in
    let bytes : text_bytes r.iri ≡ text
    = ap text_bytes (sym own) ∙ text_of-chars text (subst AllCharacters (sym own) (iri-chars r.chars)) in
    subst (λ (l : List ℕ). is_legal_text 0 l ≡ true) bytes (text-legal (grammar.Object.iri (grammar.IRIREF.iriref r.chars r.absolute refl)))

pub legal-name : (text : List ℕ) → is_legal_text 0 text ≡ eqb (name_kind text) 7
legal-name text =
    same_test (is_legal_text 0 text) (eqb (name_kind text) 7)
    (λ h. let t = legal-text 0 text h in eq-eqb (name_kind text) 7 (subst (λ (l : List ℕ). name_kind l ≡ 7) t.text_is (name_has t.has.1 t.sort_is)))
    (λ h. name_sound text (eqb-true (name_kind text) 7 h))

-- ---- labels

abbrev label_kind : List ℕ → ℕ
label_kind text = kind_of (bare_run Colon (chars_of text))

bare-no_slash : (cs : List ℕ) → All Bare cs → NoSlash cs
bare-no_slash [] h = tt
bare-no_slash (c ∷ cs) h = (h.0.no_slash, bare-no_slash cs h.1)

raw-label : {source label : List ℕ} → grammar.BLANK source label → label_kind (text_bytes label) ≡ 5
raw-label (grammar.BLANK.blank {label = label} d) =
    let whole : List ℕ = 0x5F ∷ 0x3A ∷ label in
    let found : token_of whole ≡ token_is 5 []
    = ap token_of (sym (append-nil whole)) ∙ label-found (grammar.BLANK.blank d) [] (stops_end Label) in
    ap (λ (l : List ℕ). kind_of (bare_run Colon l)) (chars-of_text label (label-all d))
    ∙ ap kind_of (bare-run Colon label (bare-no_slash label (all_bare label (label-plain d))))
    ∙ ap kind_of (sym (begins-label label))
    ∙ whole_run whole 5 found (λ (z : 5 ≡ 0). omega arith)

label-has : {source : List ℕ} {t : grammar.Term} → grammar.Object source t → sort_of_term t ≡ 1 → label_kind (text_of_term t) ≡ 5
unfolding sort_of_term text_of_term
label-has (grammar.Object.iri d) e = absurd (omega (arith, e))
label-has (grammar.Object.label d) e = raw-label d
label-has (grammar.Object.lit (grammar.Literal.bare d)) e = absurd (omega (arith, e))
label-has (grammar.Object.lit (grammar.Literal.with_tag d w g whole)) e = absurd (omega (arith, e))
label-has (grammar.Object.lit (grammar.Literal.with_type d w u g whole)) e = absurd (omega (arith, e))

label-sound : (text : List ℕ) → label_kind text ≡ 5 → is_legal_text 1 text ≡ true
unfolding sort_of_term text_of_term
label-sound text e =
    let cs : List ℕ = chars_of text in
    let plain = alive Colon cs (λ z. absurd (let k : kind_of Dead ≡ 5 = ap kind_of (sym z) ∙ e in omega (arith, k, dead-kind))) in
    let d = (colon-sound cs 5 (record { ended = ap kind_of (sym (bare-run Colon cs plain)) ∙ e; some = λ (z : ◌≡◌ {A = ℕ} 5 0). omega arith })).1 in
    subst (λ (l : List ℕ). is_legal_text 1 l ≡ true) (text_of-chars text (label-all d)) (text-legal (grammar.Object.label (grammar.BLANK.blank d)))

pub legal-blank : (text : List ℕ) → is_legal_text 1 text ≡ eqb (label_kind text) 5
legal-blank text =
    same_test (is_legal_text 1 text) (eqb (label_kind text) 5)
    (λ h. let t = legal-text 1 text h in eq-eqb (label_kind text) 5 (subst (λ (l : List ℕ). label_kind l ≡ 5) t.text_is (label-has t.has.1 t.sort_is)))
    (λ h. label-sound text (eqb-true (label_kind text) 5 h))

-- ---- no other sorts

pub legal-none : (sort : ℕ) (text : List ℕ) → 2 < sort → is_legal_text sort text ≡ false
legal-none sort text large = which (is_legal_text sort text) refl
  where
    which : (x : Bool) → is_legal_text sort text ≡ x → is_legal_text sort text ≡ false
    which true e = absurd (let r = legal-read sort text e in omega (arith, r.is_term, r.sort_is))
    which false e = e

-- a terminal as it is tested
pub is_iri : (k : Kind) → sameb the_type k Kind.Iri ≡ eqb (number_of k) 7
is_iri Kind.Nothing = refl
is_iri Kind.Space = refl
is_iri Kind.Dot = refl
is_iri Kind.Hats = refl
is_iri Kind.Remark = refl
is_iri Kind.Label = refl
is_iri Kind.Tag = refl
is_iri Kind.Iri = refl
is_iri Kind.String = refl

pub is_label : (k : Kind) → sameb the_type k Kind.Label ≡ eqb (number_of k) 5
is_label Kind.Nothing = refl
is_label Kind.Space = refl
is_label Kind.Dot = refl
is_label Kind.Hats = refl
is_label Kind.Remark = refl
is_label Kind.Label = refl
is_label Kind.Tag = refl
is_label Kind.Iri = refl
is_label Kind.String = refl

-- What stands where a term is read: a name in '<' and '>', a label behind '_:', a string in quotes, with a mark behind it or not.
-- Assumes nothing.
use mathlib.Core.Path.{◌≡◌, refl, sym, ap, ◌∙◌}
use mathlib.Core.Bool.{Bool, true, false}
use mathlib.Core.List.{List, ◌∷◌, ◌++◌}
use Prim.Native.Nat.{ℕ, ◌≤◌}
use native.Mathlib.Omega.{arith}
use lib.Dec.{eqb}
use borrow.Author.Tests.{eqb-true, eqb-false}
use Rattle.ntline.specs.Grammar as grammar
use Rattle.ntline.specs.Lexing.{token_of}
use Rattle.ntline.specs.Lines.{Source, source, spaced, literal_of, source_of, meant_by}
use Rattle.ntline.proofs.Worded.{is-hats, is-label, is-tag, is-iri, is-string}
use Rattle.ntline.proofs.Spans.{source-iri, source-label, source-string, source-none, literal-tag, literal-hats, literal-bare, typed_iri, typed_none}
use Rattle.ntline.proofs.Hearing.{meant_name, meant_blank, meant_literal, plain-mark, tag_mark, type-mark}
use Rattle.ntline.proofs.Sound.{behind-sound}
use Rattle.nttext.specs.Texts.{sort_of_term}

-- what stands behind a string's '^^' up to the end of its datatype, and what is left
abbrev pub hatted : List ℕ → List ℕ → List ℕ
hatted more behind = 0x5E ∷ 0x5E ∷ (more ++ behind)

pub data Shape (s : Source) : Type 0 where
  a-name : {front iri : List ℕ} (rest : List ℕ) → grammar.IRIREF front iri → s ≡ source 0 (front ++ rest) rest rest → Shape s
  a-blank : {front label : List ℕ} (rest : List ℕ) → grammar.BLANK front label → s ≡ source 1 (front ++ rest) rest rest → Shape s
  bare : {front chars : List ℕ} (rest : List ℕ) → grammar.STRING front chars → s ≡ source 2 (front ++ rest) rest rest → Shape s
  tagged : {front chars space tag language : List ℕ} (rest : List ℕ) → grammar.STRING front chars → grammar.White space → grammar.LANGTAG tag language →
      s ≡ source 2 (front ++ (space ++ (tag ++ rest))) (space ++ (tag ++ rest)) rest → Shape s
  typed : {front chars space more datatype iri : List ℕ} (rest : List ℕ) →
      grammar.STRING front chars → grammar.White space → grammar.White more → grammar.IRIREF datatype iri →
      s ≡ source 2 (front ++ (space ++ hatted more (datatype ++ rest))) (space ++ hatted more (datatype ++ rest)) rest → Shape s

-- ---- every source of a term has one of these shapes

name_shape : (cs : List ℕ) → (token_of (spaced cs)).kind ≡ 7 → Shape (source_of cs)
name_shape cs e =
    let b = behind-sound cs 7 e (λ (z : 7 ≡ 0). omega arith) in
    let rest : List ℕ = (token_of (spaced cs)).rest in
    a-name rest (is-iri b.terminal refl).1 (source-iri cs e ∙ ap (λ (l : List ℕ). source 0 l rest rest) b.there)

blank-shape : (cs : List ℕ) → (token_of (spaced cs)).kind ≡ 5 → Shape (source_of cs)
blank-shape cs e =
    let b = behind-sound cs 5 e (λ (z : 5 ≡ 0). omega arith) in
    let rest : List ℕ = (token_of (spaced cs)).rest in
    a-blank rest (is-label b.terminal refl).1 (source-label cs e ∙ ap (λ (l : List ℕ). source 1 l rest rest) b.there)

module _ (cs : List ℕ) (e : (token_of (spaced cs)).kind ≡ 8) where
  abbrev string : Rattle.ntline.proofs.Sound.Behind cs 8
  string = behind-sound cs 8 e (λ (z : 8 ≡ 0). omega arith)

  abbrev rest : List ℕ
  rest = (token_of (spaced cs)).rest

  string-is : source_of cs ≡ literal_of (string.front ++ rest) rest
  string-is = source-string cs e ∙ ap (λ (l : List ℕ). literal_of l rest) string.there

  tag_shape : (token_of (spaced rest)).kind ≡ 6 → Shape (source_of cs)
  tag_shape f =
      let d = is-string string.terminal refl in
      let b = behind-sound rest 6 f (λ (z : 6 ≡ 0). omega arith) in
      let tail : List ℕ = (token_of (spaced rest)).rest in
      tagged tail d.1 b.white (is-tag b.terminal refl).1
      (string-is ∙ literal-tag (string.front ++ rest) rest f ∙ ap (λ (l : List ℕ). source 2 (string.front ++ l) l tail) b.parts)

  type-shape : (token_of (spaced rest)).kind ≡ 3 → (token_of (spaced (token_of (spaced rest)).rest)).kind ≡ 7 → Shape (source_of cs)
  type-shape f h =
      let d = is-string string.terminal refl in
      let b = behind-sound rest 3 f (λ (z : 3 ≡ 0). omega arith) in
      let mid : List ℕ = (token_of (spaced rest)).rest in
      let a = behind-sound mid 7 h (λ (z : 7 ≡ 0). omega arith) in
      let tail : List ℕ = (token_of (spaced mid)).rest in
      let whole : rest ≡ b.space ++ hatted a.space (a.front ++ tail)
      = b.parts ∙ ap (λ (l : List ℕ). b.space ++ (l ++ mid)) (is-hats b.terminal refl) ∙ ap (λ (l : List ℕ). b.space ++ (0x5E ∷ 0x5E ∷ l)) a.parts in
      typed tail d.1 b.white a.white (is-iri a.terminal refl).1
      (string-is ∙ literal-hats (string.front ++ rest) rest f ∙ typed_iri (string.front ++ rest) rest mid h
      ∙ ap (λ (l : List ℕ). source 2 (string.front ++ l) l tail) whole)

  bare-shape : ((token_of (spaced rest)).kind ≡ 6 → ⊥) → ((token_of (spaced rest)).kind ≡ 3 → ⊥) → Shape (source_of cs)
  bare-shape x y = bare rest (is-string string.terminal refl).1 (string-is ∙ literal-bare (string.front ++ rest) rest x y)

  type-missing : (token_of (spaced rest)).kind ≡ 3 → ((token_of (spaced (token_of (spaced rest)).rest)).kind ≡ 7 → ⊥) → (source_of cs).sort ≡ 3
  type-missing f x =
      ap (λ (s : Source). s.sort)
      (string-is ∙ literal-hats (string.front ++ rest) rest f ∙ typed_none (string.front ++ rest) rest (token_of (spaced rest)).rest x)

  string-shape : (source_of cs).sort ≤ 2 → Shape (source_of cs)
  string-shape small = which (eqb (token_of (spaced rest)).kind 6) refl (eqb (token_of (spaced rest)).kind 3) refl (eqb (token_of (spaced (token_of (spaced rest)).rest)).kind 7) refl
    where
      which : (x : Bool) → eqb (token_of (spaced rest)).kind 6 ≡ x → (y : Bool) → eqb (token_of (spaced rest)).kind 3 ≡ y →
          (z : Bool) → eqb (token_of (spaced (token_of (spaced rest)).rest)).kind 7 ≡ z → Shape (source_of cs)
      which true p y q z r = tag_shape (eqb-true (token_of (spaced rest)).kind 6 p)
      which false p true q true r = type-shape (eqb-true (token_of (spaced rest)).kind 3 q) (eqb-true (token_of (spaced (token_of (spaced rest)).rest)).kind 7 r)
      which false p true q false r =
          absurd (omega (arith, small, type-missing (eqb-true (token_of (spaced rest)).kind 3 q) (eqb-false (token_of (spaced (token_of (spaced rest)).rest)).kind 7 r)))
      which false p false q z r = bare-shape (eqb-false (token_of (spaced rest)).kind 6 p) (eqb-false (token_of (spaced rest)).kind 3 q)

pub shape_of : (cs : List ℕ) → (source_of cs).sort ≤ 2 → Shape (source_of cs)
shape_of cs small = which (eqb (token_of (spaced cs)).kind 7) refl (eqb (token_of (spaced cs)).kind 5) refl (eqb (token_of (spaced cs)).kind 8) refl
  where
    which : (x : Bool) → eqb (token_of (spaced cs)).kind 7 ≡ x → (y : Bool) → eqb (token_of (spaced cs)).kind 5 ≡ y →
        (z : Bool) → eqb (token_of (spaced cs)).kind 8 ≡ z → Shape (source_of cs)
    which true p y q z r = name_shape cs (eqb-true (token_of (spaced cs)).kind 7 p)
    which false p true q z r = blank-shape cs (eqb-true (token_of (spaced cs)).kind 5 q)
    which false p false q true r = string-shape cs (eqb-true (token_of (spaced cs)).kind 8 r) small
    which false p false q false r =
        let three : (source_of cs).sort ≡ 3
        = ap (λ (s : Source). s.sort) (source-none cs (eqb-false (token_of (spaced cs)).kind 7 p) (eqb-false (token_of (spaced cs)).kind 5 q) (eqb-false (token_of (spaced cs)).kind 8 r)) in
        absurd (omega (arith, three, small))

-- ---- and what it means

abbrev pub term_of : {s : Source} → Shape s → grammar.Term
term_of (a-name {iri = iri} rest d is) = grammar.Term.name iri
term_of (a-blank {label = label} rest d is) = grammar.Term.blank label
term_of (bare {chars = chars} rest d is) = grammar.Term.literal chars grammar.Sort.plain
term_of (tagged {chars = chars} {language = language} rest d w g is) = grammar.Term.literal chars (grammar.Sort.tagged language)
term_of (typed {chars = chars} {iri = iri} rest d w u g is) = grammar.Term.literal chars (grammar.Sort.typed iri)

pub shape_meant : {s : Source} (h : Shape s) → meant_by s ≡ term_of h
shape_meant (a-name rest d is) = ap meant_by is ∙ meant_name d rest
shape_meant (a-blank rest d is) = ap meant_by is ∙ meant_blank d rest
shape_meant (bare rest d is) = ap meant_by is ∙ meant_literal d rest rest grammar.Sort.plain (plain-mark rest)
shape_meant (tagged {space = space} {tag = tag} {language = language} rest d w g is) =
    ap meant_by is ∙ meant_literal d (space ++ (tag ++ rest)) rest (grammar.Sort.tagged language) (tag_mark w g rest)
shape_meant (typed {space = space} {more = more} {datatype = datatype} {iri = iri} rest d w u g is) =
    ap meant_by is ∙ meant_literal d (space ++ hatted more (datatype ++ rest)) rest (grammar.Sort.typed iri) (type-mark w u g rest)

pub shape_sort : {s : Source} (h : Shape s) → sort_of_term (term_of h) ≡ s.sort
unfolding sort_of_term
shape_sort (a-name rest d is) = ap (λ (x : Source). x.sort) (sym is)
shape_sort (a-blank rest d is) = ap (λ (x : Source). x.sort) (sym is)
shape_sort (bare rest d is) = ap (λ (x : Source). x.sort) (sym is)
shape_sort (tagged rest d w g is) = ap (λ (x : Source). x.sort) (sym is)
shape_sort (typed rest d w u g is) = ap (λ (x : Source). x.sort) (sym is)

-- the grammar has it
pub shape_has : {s : Source} (h : Shape s) → (object : List ℕ) × grammar.Object object (term_of h)
shape_has (a-name {front = front} rest d is) = (front, grammar.Object.iri d)
shape_has (a-blank {front = front} rest d is) = (front, grammar.Object.label d)
shape_has (bare {front = front} rest d is) = (front, grammar.Object.lit (grammar.Literal.bare d))
shape_has (tagged {front = front} {space = space} {tag = tag} rest d w g is) = (front ++ (space ++ tag), grammar.Object.lit (grammar.Literal.with_tag d w g refl))
shape_has (typed {front = front} {space = space} {more = more} {datatype = datatype} rest d w u g is) =
    (front ++ (space ++ hatted more datatype), grammar.Object.lit (grammar.Literal.with_type d w u g refl))

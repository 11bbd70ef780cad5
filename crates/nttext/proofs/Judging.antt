-- Which bytes are a legal literal, as the code judges them. Assumes nothing.
use mathlib.Core.Path.{◌≡◌, refl, sym, ap, subst, ◌∙◌}
use mathlib.Core.Bool.{Bool, false, ◌&&◌}
use mathlib.Core.List.{List, [], ◌++◌, append-nil}
use Prim.Native.Nat.{ℕ, ◌≤◌}
use native.Mathlib.Omega.{arith}
use lib.Dec.{eqb}
use lib.ListN.{length}
use lib.Seq.{slice}
use borrow.Author.Tests.{eq-eqb, ne_eqb}
use Rattle.utf8.specs.Texts.{seen, AllCharacters}
use Rattle.names.specs.Entering.{same_text_lem}
use Rattle.ntwrite.specs.Written.{marked}
use Rattle.ntline.specs.declared.lines.Span.{Span}
use Rattle.ntline.specs.declared.lines.Sort.{Sort}
use Rattle.ntline.specs.Kinds.{sort_number}
use Rattle.ntline.specs.Lines.{is_nil, Source, source_of, meant_by, SpanOf}
use Rattle.ntline.proofs.Spans.{nil_is_end, seen_none}
use Rattle.ntline.proofs.Encoded.{all_append}
use Rattle.nttext.specs.Texts.{text_of_term, is_legal_text}
use Rattle.nttext.specs.Standing.{Stands, StandsThere, TermCompared}
use Rattle.nttext.proofs.Apart.{Apart, apart}

literal-bare : (text : List ℕ) → marked 2 text ≡ text
unfolding marked
literal-bare text = refl

literal-two : (t : Sort) → sort_number t ≡ 2 → t ≡ Sort.Literal
literal-two Sort.Name e = absurd (omega arith)
literal-two Sort.Blank e = absurd (omega arith)
literal-two Sort.Literal e = refl

pub no-term : (text : List ℕ) (from to : ℕ) → (source_of (seen text from to)).sort ≡ 3 → false ≡ is_legal_text 2 (slice from to text)
unfolding is_legal_text
no-term text from to e = sym (rw (literal-bare (slice from to text), e) refl)

module _ (text : List ℕ) (from to : ℕ) (low : from ≤ to) (high : to ≤ length text) (t : Span) (sp : SpanOf text to t (source_of (seen text from to))) where
  abbrev s : Source
  s = source_of (seen text from to)

  judged : is_legal_text 2 (slice from to text) ≡ eqb s.sort 2 && (is_nil s.tail && same_text_lem (text_of_term (meant_by s)) (slice from to text))
  unfolding is_legal_text
  judged = rw (literal-bare (slice from to text)) refl

  tail-nil : is_nil s.tail ≡ eqb t.tail to
  tail-nil = ap is_nil (sym sp.tail_is) ∙ nil_is_end text t.tail to sp.within high

  pub other-sort : (t.sort ≡ Sort.Literal → ⊥) → false ≡ is_legal_text 2 (slice from to text)
  other-sort e = sym (judged ∙ rw (ne_eqb s.sort 2 (λ (x : s.sort ≡ 2). e (literal-two t.sort (sp.sort_is ∙ x)))) refl)

  module _ (literal : t.sort ≡ Sort.Literal) where
    sort-two : s.sort ≡ 2
    sort-two = sym sp.sort_is ∙ ap sort_number literal

    pub more-behind : (t.tail ≡ to → ⊥) → false ≡ is_legal_text 2 (slice from to text)
    more-behind e = sym (judged ∙ rw (eq-eqb s.sort 2 sort-two, tail-nil, ne_eqb t.tail to e) refl)

    module _ (whole : t.tail ≡ to) where
      nothing-behind : s.tail ≡ []
      nothing-behind = sym sp.tail_is ∙ ap (λ (n : ℕ). seen text n to) whole ∙ seen_none text to

      all_there : AllCharacters (seen text from to)
      all_there =
          let a : Apart (seen text from to) = apart (seen text from to) (omega (arith, sort-two)) in
          let tail : s.to ≡ a.mark = a.to_is ∙ ap (λ (l : List ℕ). a.mark ++ l) nothing-behind ∙ append-nil a.mark in
          let parts : seen text from to ≡ a.space ++ (a.front ++ a.mark)
          = a.line-is ∙ ap (λ (l : List ℕ). a.space ++ l) (a.from_is ∙ ap (λ (l : List ℕ). a.front ++ l) tail) in
          subst AllCharacters (sym parts) (all_append a.space (a.front ++ a.mark) a.all_space (all_append a.front a.mark a.all_front a.all_mark))

      literal-stands : Stands text to t (meant_by s)
      literal-stands = record { line = seen text from to; all_characters = all_there; span_is = sp; is_term = omega (arith, sort-two); means = refl }

      pub literal-there : StandsThere text to t
      literal-there = record { term = meant_by s; stands = literal-stands }

      pub literal-judged : (r : Bool) → TermCompared text to t text from to r → r ≡ is_legal_text 2 (slice from to text)
      literal-judged r c = c (meant_by s) literal-stands ∙ sym (judged ∙ rw (eq-eqb s.sort 2 sort-two, nothing-behind) refl)

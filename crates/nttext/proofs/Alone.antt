-- A term that stands alone is read whole, and as itself. Assumes nothing.
use mathlib.Core.Path.{◌≡◌, sym, ap, ◌∙◌}
use mathlib.Core.List.{List, [], ◌∷◌, ◌++◌, append-nil}
use Prim.Native.Nat.{ℕ}
use native.Mathlib.Omega.{arith}
use Rattle.ntline.specs.declared.lexing.State.TheVariants.{Label, Letters, Alnums}
use Rattle.ntline.specs.Grammar as grammar
use Rattle.ntline.specs.Lexing.{munched, token_of}
use Rattle.ntline.specs.Lines.{Source, source, spaced, literal_of, source_of, meant_by}
use Rattle.ntline.proofs.Words.{stops_end}
use Rattle.ntline.proofs.Spans.{literal-bare}
use Rattle.ntline.proofs.Hearing.{name_source, blank-source, string-source, tagged_literal, typed_literal, meant_name, meant_blank, meant_literal, spaced-nil, plain-mark, tag_mark, type-mark}
use Rattle.nttext.specs.Texts.{sort_of_term}

pub record Alone (s : List ℕ) (t : grammar.Term) : Type 0 where
  pub sort_is : (source_of s).sort ≡ sort_of_term t
  pub tail_is : (source_of s).tail ≡ []
  pub meant : meant_by (source_of s) ≡ t

none_left : (token_of (spaced [])).kind ≡ 0
unfolding token_of munched
none_left = ap (λ (l : List ℕ). (token_of l).kind) spaced-nil

nothing-behind : (from : List ℕ) → literal_of from [] ≡ source 2 from [] []
nothing-behind from =
    literal-bare from []
    (λ (x : (token_of (spaced [])).kind ≡ 6). omega (arith, none_left, x))
    (λ (x : (token_of (spaced [])).kind ≡ 3). omega (arith, none_left, x))

literal-alone : {s : List ℕ} {t : grammar.Term} → grammar.Literal s t → Alone s t
unfolding sort_of_term
literal-alone {s = s} (grammar.Literal.bare d) =
    let is : source_of s ≡ source 2 (s ++ []) [] []
    = ap source_of (sym (append-nil s)) ∙ string-source grammar.White.none d [] ∙ nothing-behind (s ++ []) in
    record {
      sort_is = ap (λ (x : Source). x.sort) is;
      tail_is = ap (λ (x : Source). x.tail) is;
      meant = ap meant_by is ∙ meant_literal d [] [] grammar.Sort.plain (plain-mark []);
    }
literal-alone {s = s} (grammar.Literal.with_tag {string = string} {space = space} {tag = tag} {language = language} d w g whole) =
    let rest : List ℕ = space ++ (tag ++ []) in
    let is : source_of s ≡ source 2 (string ++ rest) rest []
    = ap source_of (whole ∙ ap (λ (l : List ℕ). string ++ (space ++ l)) (sym (append-nil tag)))
    ∙ string-source grammar.White.none d rest
    ∙ tagged_literal w g (string ++ rest) [] (stops_end Letters) (stops_end Alnums) in
    record {
      sort_is = ap (λ (x : Source). x.sort) is;
      tail_is = ap (λ (x : Source). x.tail) is;
      meant = ap meant_by is ∙ meant_literal d rest [] (grammar.Sort.tagged language) (tag_mark w g []);
    }
literal-alone {s = s} (grammar.Literal.with_type {string = string} {space = space} {more = more} {datatype = datatype} {iri = iri} d w u g whole) =
    let rest : List ℕ = space ++ (0x5E ∷ 0x5E ∷ (more ++ (datatype ++ []))) in
    let is : source_of s ≡ source 2 (string ++ rest) rest []
    = ap source_of (whole ∙ ap (λ (l : List ℕ). string ++ (space ++ (0x5E ∷ 0x5E ∷ (more ++ l)))) (sym (append-nil datatype)))
    ∙ string-source grammar.White.none d rest
    ∙ typed_literal w u g (string ++ rest) [] in
    record {
      sort_is = ap (λ (x : Source). x.sort) is;
      tail_is = ap (λ (x : Source). x.tail) is;
      meant = ap meant_by is ∙ meant_literal d rest [] (grammar.Sort.typed iri) (type-mark w u g []);
    }

pub read-alone : {s : List ℕ} {t : grammar.Term} → grammar.Object s t → Alone s t
unfolding sort_of_term
read-alone {s = s} (grammar.Object.iri d) =
    let is : source_of s ≡ source 0 (s ++ []) [] [] = ap source_of (sym (append-nil s)) ∙ name_source grammar.White.none d [] in
    record { sort_is = ap (λ (x : Source). x.sort) is; tail_is = ap (λ (x : Source). x.tail) is; meant = ap meant_by is ∙ meant_name d [] }
read-alone {s = s} (grammar.Object.label d) =
    let is : source_of s ≡ source 1 (s ++ []) [] [] = ap source_of (sym (append-nil s)) ∙ blank-source grammar.White.none d [] (stops_end Label) in
    record { sort_is = ap (λ (x : Source). x.sort) is; tail_is = ap (λ (x : Source). x.tail) is; meant = ap meant_by is ∙ meant_blank d [] }
read-alone (grammar.Object.lit d) = literal-alone d

-- The text of a term from its parts: laid whole, or compared whole. Assumes nothing.
use mathlib.Core.Path.{◌≡◌, refl, ap, subst, ◌∙◌}
use mathlib.Core.Bool.{true, false}
use mathlib.Core.List.{List, ◌++◌}
use Prim.Native.Nat.{ℕ, ◌+◌, ◌-◌, ◌≤◌}
use native.Mathlib.Omega.{arith}
use lib.Dec.{eqb}
use lib.ListN.{length}
use lib.Seq.{slice, take-length}
use Rattle.std.specs.Prelude.{Option, Some, None}
use Rattle.std.specs.Option.{option_eq}
use Rattle.names.specs.Entering.{same_text_lem}
use Rattle.ntline.specs.declared.lines.Span.{Span}
use Rattle.ntline.specs.Grammar.{Term}
use denote.Enum.Bare.{sameb}
use Rattle.ntline.specs.contracts.lines.Sort.{the_type}
use Rattle.ntline.specs.declared.lines.Sort.{Sort}
use Rattle.ntline.specs.Kinds.{sort_number}
use Rattle.ntline.specs.Lines.{source_of, meant_by, SpanOf}
use Rattle.nttext.specs.declared.texts.Bounds.{Bounds}
use Rattle.nttext.specs.Texts.{text_of_term}
use Rattle.nttext.specs.Laying.{xsd_mark, laid_text}
use Rattle.nttext.specs.Standing.{Stands, StandsThere, LaidIn, LaidTo, TermLaidTo, TermCompared}
use Rattle.nttext.specs.Inner.{Lies, span_text, MatchedIn, MatchedTo, PartsOf}
use Rattle.nttext.proofs.Apart.{Apart, apart}
use Rattle.nttext.proofs.Laid.{laid-text}
use Rattle.nttext.proofs.Places.{bounds, mark_lies, name_long, name_lies, name_text, blank-lies, blank-text, string-lies, plain-text, marked-text, nothing-lies}
use Rattle.nttext.proofs.Filling.{lays-both, misfits}
use Rattle.nttext.proofs.Matching.{matches_both, matched-whole}

module _ (b : List ℕ) (end : ℕ) (high : end ≤ length b) (t : Span) where
  abbrev taken : (m : Term) (st : Stands b end t m) → Apart st.line
  taken m st = apart st.line st.is_term

  abbrev meant : (m : Term) (st : Stands b end t m) → laid_text (source_of st.line) ≡ text_of_term (meant_by (source_of st.line))
  meant m st = laid-text st.line st.is_term

  module _ (there : StandsThere b end t) where
    abbrev m₀ : Term
    m₀ = there.term

    abbrev st₀ : Stands b end t m₀
    st₀ = there.stands

    ends : (t.to ≤ end) × (t.tail ≤ end)
    ends = let sp : SpanOf b end t (source_of st₀.line) = st₀.span_is in (omega (arith, sp.rising_tail, sp.within), sp.within)

    pub name_has : sort_number t.sort ≡ 0 → t.from + 2 ≤ t.to
    name_has e = name_long b end high t m₀ st₀ (taken m₀ st₀) (meant m₀ st₀) e

    pub parts-name : sort_number t.sort ≡ 0 → PartsOf b end t (bounds (t.from + 1) (t.to - 1) (t.to - 1))
    parts-name e =
        record {
          front = name_lies b end high t m₀ st₀ (taken m₀ st₀) (meant m₀ st₀) e;
          behind = nothing-lies b (t.to - 1);
          within = omega (arith, ends.0);
          text_is = λ m st. name_text b end high t m st (taken m st) (meant m st) e;
        }

    pub parts-blank : sort_number t.sort ≡ 1 → PartsOf b end t (bounds (t.from + 2) t.to t.to)
    parts-blank e =
        record {
          front = blank-lies b end high t m₀ st₀ (taken m₀ st₀) (meant m₀ st₀) e;
          behind = nothing-lies b t.to;
          within = ends.0;
          text_is = λ m st. blank-text b end high t m st (taken m st) (meant m st) e;
        }

    pub mark_there : Lies b t.to t.tail
    mark_there = mark_lies b end high t m₀ st₀ (taken m₀ st₀) (meant m₀ st₀)

    pub tail-inside : t.tail ≤ length b
    tail-inside = omega (arith, ends.1)

    module _ (no_name : sort_number t.sort ≡ 0 → ⊥) (no-blank : sort_number t.sort ≡ 1 → ⊥) where
      pub parts-plain : true ≡ same_text_lem (span_text b t.to t.tail false) xsd_mark → PartsOf b end t (bounds t.from t.to t.to)
      parts-plain e =
          record {
            front = string-lies b end high t m₀ st₀ (taken m₀ st₀) (meant m₀ st₀) no_name no-blank;
            behind = nothing-lies b t.to;
            within = ends.0;
            text_is = λ m st. plain-text b end high t m st (taken m st) (meant m st) no_name no-blank e;
          }

      pub parts-marked : false ≡ same_text_lem (span_text b t.to t.tail false) xsd_mark → PartsOf b end t (bounds t.from t.to t.tail)
      parts-marked e =
          record {
            front = string-lies b end high t m₀ st₀ (taken m₀ st₀) (meant m₀ st₀) no_name no-blank;
            behind = mark_there;
            within = ends.1;
            text_is = λ m st. marked-text b end high t m st (taken m st) (meant m st) no_name no-blank e;
          }

-- ---- laid whole, compared whole

module _ (b : List ℕ) (end : ℕ) (t : Span) (p : Bounds) (parts : PartsOf b end t p) where
  abbrev u : List ℕ
  u = span_text b p.from p.to (eqb (sort_number t.sort) 2)

  abbrev v : List ℕ
  v = span_text b p.to p.tail false

  pub term-laid : (out mid after : List ℕ) (at first : ℕ) (r : Option ℕ) → LaidIn u out mid at true first → LaidTo v mid after first r → TermLaidTo b end t out after at r
  term-laid out mid after at first (Some to) x y =
      λ m st.
      subst (λ (text : List ℕ). LaidIn text out after at true to) (parts.text_is m st) (lays-both out u v mid after at first to true x y)
  term-laid out mid after at first None x y =
      λ m st.
      subst (λ (text : List ℕ). LaidIn text out after at false at) (parts.text_is m st) (misfits (lays-both out u v mid after at first first false x y))

  module _ (text : List ℕ) (from to : ℕ) (high : to ≤ length text) where
    pub term-compared : (first : ℕ) (r : Option ℕ) → MatchedIn u text from to true first → MatchedTo v text first to r → TermCompared b end t text from to (option_eq eqb r (Some to))
    term-compared first (Some last) x y =
        λ m st.
        subst (λ (l : List ℕ). eqb last to ≡ same_text_lem l (slice from to text)) (parts.text_is m st)
        (matched-whole text from to (u ++ v) true last high (matches_both text from to u v first last true x y))
    term-compared first None x y =
        λ m st.
        subst (λ (l : List ℕ). false ≡ same_text_lem l (slice from to text)) (parts.text_is m st)
        (matched-whole text from to (u ++ v) false first high (matches_both text from to u v first first false x y))

-- all of the bytes
pub mark_compared : (text mark : List ℕ) (r : Option ℕ) → MatchedTo text mark 0 (length mark) r → option_eq eqb r (Some (length mark)) ≡ same_text_lem text mark
mark_compared text mark (Some to) m =
    matched-whole mark 0 (length mark) text true to (omega arith) m ∙ ap (same_text_lem text) (take-length mark)
mark_compared text mark None m = matched-whole mark 0 (length mark) text false 0 (omega arith) m ∙ ap (same_text_lem text) (take-length mark)

-- the sort as it is tested
pub is_literal : (t : Sort) → sameb the_type t Sort.Literal ≡ eqb (sort_number t) 2
is_literal Sort.Name = refl
is_literal Sort.Blank = refl
is_literal Sort.Literal = refl

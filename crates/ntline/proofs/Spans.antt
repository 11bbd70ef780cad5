-- Terms and lines by their terminals: positions of the bytes for what is left of the line. Assumes nothing.
use mathlib.Core.Path.{◌≡◌, refl, sym, ap, ◌∙◌}
use mathlib.Core.Bool.{Bool, true, false, cond}
use mathlib.Core.List.{List, []}
use Prim.Native.Nat.{ℕ, ◌≤◌}
use native.Mathlib.Omega.{arith}
use lib.ListN.{length}
use lib.Seq.{slice, slice_empty, length-slice}
use lib.Dec.{eqb}
use borrow.Author.Tests.{eq-eqb, ne_eqb, eqb-true, eqb-false}
use Rattle.utf8.specs.declared.Character.{Character}
use Rattle.std.specs.Prelude.{Option, Some, None, Result}
use Rattle.utf8.specs.Octets.{character_in}
use Rattle.utf8.specs.Texts.{chars_of, seen}
use Rattle.utf8.proofs.Texts.{chars-nil, chars-whole, chars-bad}
use Rattle.ntline.specs.declared.lines.Span.{Span}
use Rattle.ntline.specs.declared.lines.Missing.{Missing}
use Rattle.ntline.specs.declared.lines.Sort.TheVariants.{Name, Blank, Literal}
use Rattle.ntline.specs.declared.lexing.Kind.{Kind}
use Rattle.ntline.specs.Kinds.{span, missing, number_of}
use Rattle.ntline.specs.Lexing.{token_of}
use Rattle.ntline.specs.Lines.{is_nil, spaced, is_over, Source, source, typed_of, literal_of, source_of, is_dotted, SpanOf, MissingOf, SpanFound}
use Rattle.ntline.specs.Inner.{TokenAt, SpacedAt}

-- a terminal by its number
kind_back : ℕ → Kind
kind_back n =
    cond (eqb n 1) Kind.Space
    (cond (eqb n 2) Kind.Dot
    (cond (eqb n 3) Kind.Hats
    (cond (eqb n 4) Kind.Remark
    (cond (eqb n 5) Kind.Label
    (cond (eqb n 6) Kind.Tag
    (cond (eqb n 7) Kind.Iri
    (cond (eqb n 8) Kind.String Kind.Nothing)))))))

kind-back : (k : Kind) → kind_back (number_of k) ≡ k
unfolding kind_back
kind-back Kind.Nothing = refl
kind-back Kind.Space = refl
kind-back Kind.Dot = refl
kind-back Kind.Hats = refl
kind-back Kind.Remark = refl
kind-back Kind.Label = refl
kind-back Kind.Tag = refl
kind-back Kind.Iri = refl
kind-back Kind.String = refl

pub other_kind : (k j : Kind) → (k ≡ j → ⊥) → number_of k ≡ number_of j → ⊥
other_kind k j h e = h (sym (kind-back k) ∙ ap kind_back e ∙ kind-back j)

pub spaced-space : (cs : List ℕ) → (token_of cs).kind ≡ 1 → spaced cs ≡ (token_of cs).rest
unfolding spaced
spaced-space cs e = rw (eq-eqb (token_of cs).kind 1 e) refl

pub spaced-none : (cs : List ℕ) → ((token_of cs).kind ≡ 1 → ⊥) → spaced cs ≡ cs
unfolding spaced
spaced-none cs e = rw (ne_eqb (token_of cs).kind 1 e) refl

some-chars : (s : List ℕ) → 1 ≤ length s → (k : Option Character) → character_in s ≡ k → is_nil (chars_of s) ≡ false
some-chars s some (Some c) e = rw (chars-whole s c.number c.size e) refl
some-chars s some None e = rw (chars-bad s some e) refl

-- what stands at the front, by its first terminal
pub source-iri : (cs : List ℕ) → (token_of (spaced cs)).kind ≡ 7 → source_of cs ≡ source 0 (spaced cs) (token_of (spaced cs)).rest (token_of (spaced cs)).rest
unfolding source_of
source-iri cs e = rw (eq-eqb (token_of (spaced cs)).kind 7 e) refl

pub source-label : (cs : List ℕ) → (token_of (spaced cs)).kind ≡ 5 → source_of cs ≡ source 1 (spaced cs) (token_of (spaced cs)).rest (token_of (spaced cs)).rest
unfolding source_of
source-label cs e =
    rw (ne_eqb (token_of (spaced cs)).kind 7 (λ (x : (token_of (spaced cs)).kind ≡ 7). omega arith), eq-eqb (token_of (spaced cs)).kind 5 e) refl

pub source-string : (cs : List ℕ) → (token_of (spaced cs)).kind ≡ 8 → source_of cs ≡ literal_of (spaced cs) (token_of (spaced cs)).rest
unfolding source_of
source-string cs e =
    rw (
      ne_eqb (token_of (spaced cs)).kind 7 (λ (x : (token_of (spaced cs)).kind ≡ 7). omega arith),
      ne_eqb (token_of (spaced cs)).kind 5 (λ (x : (token_of (spaced cs)).kind ≡ 5). omega arith),
      eq-eqb (token_of (spaced cs)).kind 8 e,
    ) refl

pub source-none : (cs : List ℕ) → ((token_of (spaced cs)).kind ≡ 7 → ⊥) → ((token_of (spaced cs)).kind ≡ 5 → ⊥) → ((token_of (spaced cs)).kind ≡ 8 → ⊥) →
    source_of cs ≡ source 3 (spaced cs) (spaced cs) (spaced cs)
unfolding source_of
source-none cs x y z = rw (ne_eqb (token_of (spaced cs)).kind 7 x, ne_eqb (token_of (spaced cs)).kind 5 y, ne_eqb (token_of (spaced cs)).kind 8 z) refl

-- behind a string
pub literal-tag : (from to : List ℕ) → (token_of (spaced to)).kind ≡ 6 → literal_of from to ≡ source 2 from to (token_of (spaced to)).rest
unfolding literal_of
literal-tag from to e = rw (eq-eqb (token_of (spaced to)).kind 6 e) refl

pub literal-hats : (from to : List ℕ) → (token_of (spaced to)).kind ≡ 3 → literal_of from to ≡ typed_of from to (token_of (spaced to)).rest
unfolding literal_of
literal-hats from to e =
    rw (ne_eqb (token_of (spaced to)).kind 6 (λ (x : (token_of (spaced to)).kind ≡ 6). omega arith), eq-eqb (token_of (spaced to)).kind 3 e) refl

pub literal-bare : (from to : List ℕ) → ((token_of (spaced to)).kind ≡ 6 → ⊥) → ((token_of (spaced to)).kind ≡ 3 → ⊥) → literal_of from to ≡ source 2 from to to
unfolding literal_of
literal-bare from to x y = rw (ne_eqb (token_of (spaced to)).kind 6 x, ne_eqb (token_of (spaced to)).kind 3 y) refl

pub typed_iri : (from to cs : List ℕ) → (token_of (spaced cs)).kind ≡ 7 → typed_of from to cs ≡ source 2 from to (token_of (spaced cs)).rest
unfolding typed_of
typed_iri from to cs e = rw (eq-eqb (token_of (spaced cs)).kind 7 e) refl

pub typed_none : (from to cs : List ℕ) → ((token_of (spaced cs)).kind ≡ 7 → ⊥) → typed_of from to cs ≡ source 3 from to (token_of (spaced cs)).rest
unfolding typed_of
typed_none from to cs e = rw (ne_eqb (token_of (spaced cs)).kind 7 e) refl

module _ (b : List ℕ) where
  pub seen_none : (end : ℕ) → seen b end end ≡ []
  seen_none end = ap chars_of (slice_empty end b) ∙ chars-nil

  -- characters are left exactly where bytes are
  pub nil_is_end : (at end : ℕ) → at ≤ end → end ≤ length b → is_nil (seen b at end) ≡ eqb at end
  nil_is_end at end h k = which (eqb at end) refl
    where
      which : (x : Bool) → eqb at end ≡ x → is_nil (seen b at end) ≡ x
      which true e = ap (λ (n : ℕ). is_nil (chars_of (slice n end b))) (eqb-true at end e) ∙ ap is_nil (seen_none end)
      which false e =
          let ne : at ≡ end → ⊥ = eqb-false at end e in
          let long = length-slice at end b k in
          some-chars (slice at end b) (omega (arith, long, ne)) (character_in (slice at end b)) refl

  pub over-end : (at end from : ℕ) → SpacedAt b at end from → from ≡ end → true ≡ is_over (seen b at end)
  unfolding is_over
  over-end at end from s e =
      let nil : spaced (seen b at end) ≡ [] = sym s.rest_is ∙ ap (λ (n : ℕ). chars_of (slice n end b)) e ∙ seen_none end in
      rw nil refl

  -- a terminal behind white space
  module _ (at end from kind to : ℕ) (s : SpacedAt b at end from) (t : TokenAt b from end kind to) where
    kind-there : kind ≡ (token_of (spaced (seen b at end))).kind
    kind-there = t.kind_is ∙ ap (λ (l : List ℕ). (token_of l).kind) s.rest_is

    rest-there : seen b to end ≡ (token_of (spaced (seen b at end))).rest
    rest-there = t.rest_is ∙ ap (λ (l : List ℕ). (token_of l).rest) s.rest_is

    there : (n : ℕ) → kind ≡ n → (token_of (spaced (seen b at end))).kind ≡ n
    there n e = sym kind-there ∙ e

    not_there : (n : ℕ) → (kind ≡ n → ⊥) → (token_of (spaced (seen b at end))).kind ≡ n → ⊥
    not_there n e x = e (kind-there ∙ x)

    pub term-iri : kind ≡ 7 → SpanOf b end (span Name from to to) (source_of (seen b at end))
    term-iri e =
        let is = source-iri (seen b at end) (there 7 e) in
        record {
          sort_is = ap (λ (x : Source). x.sort) (sym is);
          rising = t.later;
          rising_tail = omega arith;
          within = t.within;
          from_is = s.rest_is ∙ ap (λ (x : Source). x.from) (sym is);
          to_is = rest-there ∙ ap (λ (x : Source). x.to) (sym is);
          tail_is = rest-there ∙ ap (λ (x : Source). x.tail) (sym is);
        }

    pub term-label : kind ≡ 5 → SpanOf b end (span Blank from to to) (source_of (seen b at end))
    term-label e =
        let is = source-label (seen b at end) (there 5 e) in
        record {
          sort_is = ap (λ (x : Source). x.sort) (sym is);
          rising = t.later;
          rising_tail = omega arith;
          within = t.within;
          from_is = s.rest_is ∙ ap (λ (x : Source). x.from) (sym is);
          to_is = rest-there ∙ ap (λ (x : Source). x.to) (sym is);
          tail_is = rest-there ∙ ap (λ (x : Source). x.tail) (sym is);
        }

    pub term-none : (kind ≡ 7 → ⊥) → (kind ≡ 5 → ⊥) → (kind ≡ 8 → ⊥) → MissingOf b end (missing from from from) (source_of (seen b at end))
    term-none x y z =
        let is = source-none (seen b at end) (not_there 7 x) (not_there 5 y) (not_there 8 z) in
        record {
          no_sort = ap (λ (q : Source). q.sort) is;
          rising = omega arith;
          rising_tail = omega arith;
          within = s.within;
          from_is = s.rest_is ∙ ap (λ (q : Source). q.from) (sym is);
          to_is = s.rest_is ∙ ap (λ (q : Source). q.to) (sym is);
          tail_is = s.rest_is ∙ ap (λ (q : Source). q.tail) (sym is);
        }

    -- a string, and what its literal is
    pub literal-there : kind ≡ 8 → source_of (seen b at end) ≡ literal_of (seen b from end) (seen b to end)
    literal-there e = rw (source-string (seen b at end) (there 8 e), ← s.rest_is, ← t.rest_is) refl

    pub term-string : (r : Result Span Missing) → kind ≡ 8 → SpanFound b end r (literal_of (seen b from end) (seen b to end)) → SpanFound b end r (source_of (seen b at end))
    term-string r e x = rw (literal-there e) x

  -- behind a string that lies from one position to another: white space, and a terminal
  module _ (first to end from kind behind : ℕ) (low : first ≤ to) (s : SpacedAt b to end from) (t : TokenAt b from end kind behind) where
    pub literal-tagged : kind ≡ 6 → SpanOf b end (span Literal first to behind) (literal_of (seen b first end) (seen b to end))
    literal-tagged e =
        let is = literal-tag (seen b first end) (seen b to end) (there to end from kind behind s t 6 e) in
        record {
          sort_is = ap (λ (x : Source). x.sort) (sym is);
          rising = low;
          rising_tail = omega (arith, s.later, t.later);
          within = t.within;
          from_is = ap (λ (x : Source). x.from) (sym is);
          to_is = ap (λ (x : Source). x.to) (sym is);
          tail_is = rest-there to end from kind behind s t ∙ ap (λ (x : Source). x.tail) (sym is);
        }

    pub typed-there : kind ≡ 3 → literal_of (seen b first end) (seen b to end) ≡ typed_of (seen b first end) (seen b to end) (seen b behind end)
    typed-there e =
        rw (literal-hats (seen b first end) (seen b to end) (there to end from kind behind s t 3 e), ← rest-there to end from kind behind s t) refl

    pub literal-typed : (r : Result Span Missing) → kind ≡ 3 → SpanFound b end r (typed_of (seen b first end) (seen b to end) (seen b behind end)) →
        SpanFound b end r (literal_of (seen b first end) (seen b to end))
    literal-typed r e x = rw (typed-there e) x

    pub literal-plain : to ≤ end → (kind ≡ 6 → ⊥) → (kind ≡ 3 → ⊥) → SpanOf b end (span Literal first to to) (literal_of (seen b first end) (seen b to end))
    literal-plain high x y =
        let is = literal-bare (seen b first end) (seen b to end) (not_there to end from kind behind s t 6 x) (not_there to end from kind behind s t 3 y) in
        record {
          sort_is = ap (λ (q : Source). q.sort) (sym is);
          rising = low;
          rising_tail = omega arith;
          within = high;
          from_is = ap (λ (q : Source). q.from) (sym is);
          to_is = ap (λ (q : Source). q.to) (sym is);
          tail_is = ap (λ (q : Source). q.tail) (sym is);
        }

  -- behind '^^'
  module _ (first to at end from kind behind : ℕ) (low : first ≤ to) (mid : to ≤ at) (s : SpacedAt b at end from) (t : TokenAt b from end kind behind) where
    pub typed_found : kind ≡ 7 → SpanOf b end (span Literal first to behind) (typed_of (seen b first end) (seen b to end) (seen b at end))
    typed_found e =
        let is = typed_iri (seen b first end) (seen b to end) (seen b at end) (there at end from kind behind s t 7 e) in
        record {
          sort_is = ap (λ (x : Source). x.sort) (sym is);
          rising = low;
          rising_tail = omega (arith, s.later, t.later);
          within = t.within;
          from_is = ap (λ (x : Source). x.from) (sym is);
          to_is = ap (λ (x : Source). x.to) (sym is);
          tail_is = rest-there at end from kind behind s t ∙ ap (λ (x : Source). x.tail) (sym is);
        }

    pub typed_missing : (kind ≡ 7 → ⊥) → MissingOf b end (missing first to behind) (typed_of (seen b first end) (seen b to end) (seen b at end))
    typed_missing e =
        let is = typed_none (seen b first end) (seen b to end) (seen b at end) (not_there at end from kind behind s t 7 e) in
        record {
          no_sort = ap (λ (x : Source). x.sort) is;
          rising = low;
          rising_tail = omega (arith, s.later, t.later);
          within = t.within;
          from_is = ap (λ (x : Source). x.from) (sym is);
          to_is = ap (λ (x : Source). x.to) (sym is);
          tail_is = rest-there at end from kind behind s t ∙ ap (λ (x : Source). x.tail) (sym is);
        }

  pub dotted_over : (at end from kind to : ℕ) → SpacedAt b at end from → TokenAt b from end kind to → kind ≡ 2 → (r : Bool) → r ≡ is_over (seen b to end) →
      r ≡ is_dotted (seen b at end)
  unfolding is_dotted
  dotted_over at end from kind to s t e r x =
      rw (eq-eqb (token_of (spaced (seen b at end))).kind 2 (there at end from kind to s t 2 e), ← rest-there at end from kind to s t) x

  pub not-dotted : (at end from kind to : ℕ) → SpacedAt b at end from → TokenAt b from end kind to → (kind ≡ 2 → ⊥) → false ≡ is_dotted (seen b at end)
  unfolding is_dotted
  not-dotted at end from kind to s t e =
      rw (ne_eqb (token_of (spaced (seen b at end))).kind 2 (not_there at end from kind to s t 2 e)) refl

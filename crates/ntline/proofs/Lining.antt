-- A line by its three terms. Assumes nothing.
use mathlib.Core.Path.{◌≡◌, refl, sym, ap, ◌∙◌}
use native.Mathlib.Omega.{arith}
use mathlib.Core.Bool.{true, false}
use mathlib.Core.List.{List}
use Prim.Native.Nat.{ℕ, ◌≤◌}
use lib.Dec.{leb}
use borrow.Author.Tests.{eq-eqb, ne_eqb, le-leb}
use Rattle.utf8.specs.Texts.{seen}
use Rattle.ntline.specs.declared.lines.Span.{Span}
use Rattle.ntline.specs.declared.lines.Sort.{Sort}
use Rattle.ntline.specs.declared.lines.Sort.TheVariants.{Name, Blank, Literal}
use Rattle.ntline.specs.declared.lines.Line.{Line}
use Rattle.ntline.specs.Kinds.{sort_number}
use Rattle.ntline.specs.declared.lines.Line.TheVariants.{Bad, Empty, Triple}
use Rattle.ntline.specs.Lines.{Source, source_of, is_dotted, is_over, object_of, predicate_of, subject_of, line_of, SpanOf, LineOf}

-- a source behind a span, where another stands for what is left
behind : (b : List ℕ) (end : ℕ) (y : Span) (p : Source) (z : Span) → SpanOf b end y p → SpanOf b end z (source_of (seen b y.tail end)) → SpanOf b end z (source_of p.tail)
behind b end y p z q o = rw q.tail_is at o

none_behind : (b : List ℕ) (end : ℕ) (y : Span) (p : Source) → SpanOf b end y p → (source_of (seen b y.tail end)).sort ≡ 3 → (source_of p.tail).sort ≡ 3
none_behind b end y p q o = rw q.tail_is at o

sort_small : (t : Sort) → sort_number t ≤ 2
sort_small Name = omega arith
sort_small Blank = omega arith
sort_small Literal = omega arith

name-zero : (t : Sort) → (t ≡ Name → ⊥) → sort_number t ≡ 0 → ⊥
name-zero Name e = λ h. e refl
name-zero Blank e = λ h. omega arith
name-zero Literal e = λ h. omega arith

no_literal : (t : Sort) → (t ≡ Literal → ⊥) → sort_number t ≤ 1
no_literal Name e = omega arith
no_literal Blank e = omega arith
no_literal Literal e = absurd (e refl)

module _ (b : List ℕ) (end : ℕ) (x y : Span) (s p : Source) where
  pub object-missing : SpanOf b end y p → (source_of (seen b y.tail end)).sort ≡ 3 → LineOf b end Bad (object_of s p)
  unfolding object_of
  object-missing q o = rw (none_behind b end y p q o) tt

  module _ (z : Span) where
    pub object-dotted : SpanOf b end x s → SpanOf b end y p → SpanOf b end z (source_of (seen b y.tail end)) →
        true ≡ is_dotted (seen b z.tail end) → LineOf b end (Triple x y z) (object_of s p)
    unfolding object_of
    object-dotted r q o d =
        let there = behind b end y p z q o in
        let small : leb (source_of p.tail).sort 2 ≡ true = ap (λ (n : ℕ). leb n 2) (sym there.sort_is) ∙ le-leb (sort_number z.sort) 2 (sort_small z.sort) in
        let dots : is_dotted (source_of p.tail).tail ≡ true = ap is_dotted (sym there.tail_is) ∙ sym d in
        rw (small, dots) (r, q, there)

    pub object-undotted : SpanOf b end y p → SpanOf b end z (source_of (seen b y.tail end)) →
        false ≡ is_dotted (seen b z.tail end) → LineOf b end Bad (object_of s p)
    unfolding object_of
    object-undotted q o d =
        let there = behind b end y p z q o in
        let small : leb (source_of p.tail).sort 2 ≡ true = ap (λ (n : ℕ). leb n 2) (sym there.sort_is) ∙ le-leb (sort_number z.sort) 2 (sort_small z.sort) in
        let dots : is_dotted (source_of p.tail).tail ≡ false = ap is_dotted (sym there.tail_is) ∙ sym d in
        rw (small, dots) tt

module _ (b : List ℕ) (end : ℕ) (x : Span) (s : Source) where
  pub predicate-none : SpanOf b end x s → (source_of (seen b x.tail end)).sort ≡ 3 → LineOf b end Bad (predicate_of s)
  unfolding predicate_of
  predicate-none q o = rw (none_behind b end x s q o) tt

  module _ (y : Span) where
    pub predicate-name : (r : Line) → SpanOf b end x s → SpanOf b end y (source_of (seen b x.tail end)) → y.sort ≡ Name →
        ((u v : Source) → SpanOf b end x u → SpanOf b end y v → LineOf b end r (object_of u v)) → LineOf b end r (predicate_of s)
    unfolding predicate_of
    predicate-name r q o e next =
        let there = behind b end x s y q o in
        rw (eq-eqb (source_of s.tail).sort 0 (sym there.sort_is ∙ ap sort_number e)) (next s (source_of s.tail) q there)

    pub predicate-other : SpanOf b end x s → SpanOf b end y (source_of (seen b x.tail end)) → (y.sort ≡ Name → ⊥) → LineOf b end Bad (predicate_of s)
    unfolding predicate_of
    predicate-other q o e =
        let there = behind b end x s y q o in
        rw (ne_eqb (source_of s.tail).sort 0 (λ (w : (source_of s.tail).sort ≡ 0). name-zero y.sort e (there.sort_is ∙ w))) tt

module _ (b : List ℕ) (at end : ℕ) where
  pub subject-none : (source_of (seen b at end)).sort ≡ 3 → LineOf b end Bad (subject_of (seen b at end))
  unfolding subject_of
  subject-none o = rw o tt

  module _ (x : Span) (o : SpanOf b end x (source_of (seen b at end))) where
    pub subject-there : (r : Line) → (x.sort ≡ Literal → ⊥) → ((u : Source) → SpanOf b end x u → LineOf b end r (predicate_of u)) → LineOf b end r (subject_of (seen b at end))
    unfolding subject_of
    subject-there r h next =
        let small : leb (source_of (seen b at end)).sort 1 ≡ true = ap (λ (n : ℕ). leb n 1) (sym o.sort_is) ∙ le-leb (sort_number x.sort) 1 (no_literal x.sort h) in
        rw small (next (source_of (seen b at end)) o)

    pub subject-literal : x.sort ≡ Literal → LineOf b end Bad (subject_of (seen b at end))
    unfolding subject_of
    subject-literal h =
        let large : leb (source_of (seen b at end)).sort 1 ≡ false = ap (λ (n : ℕ). leb n 1) (sym o.sort_is ∙ ap sort_number h) in
        rw large tt

module _ (b : List ℕ) (at end : ℕ) where
  pub line-empty : true ≡ is_over (seen b at end) → LineOf b end Empty (line_of (seen b at end))
  unfolding line_of
  line-empty e = rw (← e) tt

  pub line-full : (r : Line) → false ≡ is_over (seen b at end) → LineOf b end r (subject_of (seen b at end)) → LineOf b end r (line_of (seen b at end))
  unfolding line_of
  line-full r e x = rw (← e) x

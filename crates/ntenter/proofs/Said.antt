-- A line as the code takes it apart, and what it says. Assumes nothing.
use mathlib.Core.Path.{◌≡◌, refl, sym, ap, ◌∙◌}
use mathlib.Core.Bool.{Bool, true, false, cond, ◌&&◌}
use mathlib.Core.List.{List}
use Prim.Native.Nat.{ℕ, ◌≤◌}
use native.Mathlib.Omega.{arith}
use lib.Dec.{eqb, leb}
use lib.ListN.{length}
use borrow.Author.Tests.{eqb-true, leb-true}
use Rattle.names.proofs.Same.{both_true}
use Rattle.table.specs.Rows.{Lanes}
use Rattle.table.proofs.Laid.{as_long-self}
use Rattle.names.specs.Names.{NameLanes}
use Rattle.utf8.specs.Texts.{AllCharacters}
use Rattle.ntline.specs.declared.lines.Span.{Span}
use Rattle.ntline.specs.declared.lines.Line.TheVariants.{Bad, Empty, Triple}
use Rattle.ntline.specs.Kinds.{sort_number}
use Rattle.ntline.specs.Grammar.{Said, Term}
use Rattle.ntline.specs.Lines.{Source, Parsed, Heard, is_over, is_dotted, source_of, subject_of, predicate_of, object_of, line_of, meant_by, said_by, SpanOf, LineOf}
use Rattle.nttext.proofs.Standing.{heard-characters, tail-characters}
use Rattle.nttext.specs.Standing.{Stands}
use Rattle.ntenter.specs.Inner.{LineInto, LineTold, LineRead, TripleInto, TripleRead}
use Rattle.ntenter.proofs.Threes.{list_long-self}

-- a triple's three terms follow one another
record Parts (cs : List ℕ) (s p o : Source) : Type 0 where
  subject : s ≡ source_of cs
  predicate : p ≡ source_of s.tail
  object : o ≡ source_of p.tail
  few : s.sort ≤ 1
  is_name : p.sort ≡ 0
  a-term : o.sort ≤ 2

module _ (cs : List ℕ) where
  abbrev x : Source
  x = source_of cs

  abbrev y : Source
  y = source_of x.tail

  abbrev z : Source
  z = source_of y.tail

  parts-by : (s p o : Source) (t u v w : Bool) → leb x.sort 1 ≡ u → eqb y.sort 0 ≡ v → leb z.sort 2 && is_dotted z.tail ≡ w
      → cond t Parsed.empty (cond u (cond v (cond w (Parsed.parsed x y z) Parsed.bad) Parsed.bad) Parsed.bad) ≡ Parsed.parsed s p o → Parts cs s p o
  parts-by s p o true u v w a b c e = absurd (let f : ◌≡◌ {A = ℕ} 0 1 = cc in omega arith)
  parts-by s p o false false v w a b c e = absurd (let f : ◌≡◌ {A = ℕ} 0 1 = cc in omega arith)
  parts-by s p o false true false w a b c e = absurd (let f : ◌≡◌ {A = ℕ} 0 1 = cc in omega arith)
  parts-by s p o false true true false a b c e = absurd (let f : ◌≡◌ {A = ℕ} 0 1 = cc in omega arith)
  parts-by s p o false true true true a b c e =
      let es : x ≡ s = cc in
      let ep : y ≡ p = cc in
      let eo : z ≡ o = cc in
      record {
        subject = sym es;
        predicate = sym ep ∙ ap (λ (q : Source). source_of q.tail) es;
        object = sym eo ∙ ap (λ (q : Source). source_of q.tail) ep;
        few = rw es at (leb-true x.sort 1 a);
        is_name = ap (λ (q : Source). q.sort) (sym ep) ∙ eqb-true y.sort 0 b;
        a-term = rw eo at (leb-true z.sort 2 (both_true (leb z.sort 2) (is_dotted z.tail) c).0);
      }

  parts-of : (s p o : Source) → line_of cs ≡ Parsed.parsed s p o → Parts cs s p o
  unfolding line_of subject_of predicate_of object_of
  parts-of s p o h = parts-by s p o (is_over cs) (leb x.sort 1) (eqb y.sort 0) (leb z.sort 2 && is_dotted z.tail) refl refl refl h

pub record Three (b : List ℕ) (end : ℕ) (x y z : Span) (heard : Heard) : Type 0 where
  pub s : Term
  pub p : Term
  pub o : Term
  pub says : heard ≡ Heard.heard (Said.says s p o)
  pub subject : Stands b end x s
  pub predicate : Stands b end y p
  pub object : Stands b end z o
  pub is_name : sort_number y.sort ≡ 0

module _ (b : List ℕ) (end : ℕ) (cs : List ℕ) where
  pub says-wrong : LineOf b end Bad (line_of cs) → said_by (line_of cs) ≡ Heard.wrong
  unfolding said_by
  says-wrong h = go (line_of cs) h
    where
      go : (p : Parsed) → LineOf b end Bad p → said_by p ≡ Heard.wrong
      go Parsed.bad h = refl
      go Parsed.empty h = absurd h
      go (Parsed.parsed s p o) h = absurd h

  pub says_nothing : LineOf b end Empty (line_of cs) → said_by (line_of cs) ≡ Heard.heard Said.nothing
  unfolding said_by
  says_nothing h = go (line_of cs) h
    where
      go : (p : Parsed) → LineOf b end Empty p → said_by p ≡ Heard.heard Said.nothing
      go Parsed.bad h = absurd h
      go Parsed.empty h = refl
      go (Parsed.parsed s p o) h = absurd h

  stand : (t : Span) (line : List ℕ) (s : Source) → AllCharacters line → s ≡ source_of line → s.sort ≤ 2 → SpanOf b end t s → Stands b end t (meant_by s)
  stand t line s all e f g = record {
    line = line;
    all_characters = all;
    span_is = rw e at g;
    is_term = rw e at f;
    means = ap meant_by (sym e);
  }

  pub says_three : (x y z : Span) → LineOf b end (Triple x y z) (line_of cs) → Three b end x y z (said_by (line_of cs))
  unfolding said_by
  says_three x y z h = go (line_of cs) refl h
    where
      go : (q : Parsed) → line_of cs ≡ q → LineOf b end (Triple x y z) q → Three b end x y z (said_by (line_of cs))
      go Parsed.bad e h = absurd h
      go Parsed.empty e h = absurd h
      go (Parsed.parsed s p o) e h =
          let w = parts-of cs s p o e in
          let all = heard-characters cs _ (ap said_by e) in
          let all-subject : AllCharacters s.tail = rw w.subject (tail-characters cs (rw (← w.subject) (let f = w.few in omega arith)) all) in
          let all-predicate : AllCharacters p.tail = rw w.predicate (tail-characters s.tail (rw (← w.predicate) (let f = w.is_name in omega arith)) all-subject) in
          rw e (record {
            s = meant_by s;
            p = meant_by p;
            o = meant_by o;
            says = refl;
            subject = stand x cs s all w.subject (let f = w.few in omega arith) h.0;
            predicate = stand y s.tail p all-subject w.predicate (let f = w.is_name in omega arith) h.1;
            object = stand z p.tail o all-predicate w.object w.a-term h.2;
            is_name = h.1.sort_is ∙ w.is_name;
          })

-- ---- a line's reading, by what it says

module _ (kind a : ℕ) (b : List ℕ) (end : ℕ) (cs : List ℕ) (l : Lanes) (count : ℕ) (n : NameLanes) (names : ℕ) (into : LineInto kind a l count n names) where
  pub line-wrong : LineOf b end Bad (line_of cs) → LineRead kind a (said_by (line_of cs)) l l count n n names (record { number = 26; count = count; names = names })
  line-wrong h = rw (says-wrong b end cs h) (record {
    as_long = as_long-self l;
    list_long = list_long-self n;
    sound = λ z. absurd (omega arith);
    more = λ z. absurd (omega arith);
    rest = λ z. absurd (omega arith);
    listing = λ z. absurd (omega arith);
    meaning = λ place next. refl;
  })

  pub line-nothing : LineOf b end Empty (line_of cs) → LineRead kind a (said_by (line_of cs)) l l count n n names (record { number = 0; count = count; names = names })
  line-nothing h = rw (says_nothing b end cs h) (record {
    as_long = as_long-self l;
    list_long = list_long-self n;
    sound = λ z. into.sound;
    more = λ z. omega arith;
    rest = λ z i q. refl;
    listing = λ z. into.listing;
    meaning = λ place next. refl;
  })

  module _ (within : end ≤ length b) (x y z : Span) (h : LineOf b end (Triple x y z) (line_of cs)) where
    pub triple-into : TripleInto kind a b end x y z l count n names
    triple-into =
        let w = says_three b end cs x y z h in
        record {
          into = into;
          within = within;
          subject = record { term = w.s; stands = w.subject };
          predicate = record { term = w.p; stands = w.predicate };
          object = record { term = w.o; stands = w.object };
          is_name = w.is_name;
        }

    pub line-triple : (m : Lanes) (k : NameLanes) (d : LineTold) → TripleRead kind a b end x y z l m count n k names d → LineRead kind a (said_by (line_of cs)) l m count n k names d
    line-triple m k d r =
        let w = says_three b end cs x y z h in
        rw w.says (r w.s w.p w.o w.subject w.predicate w.object)

-- A line taken apart by its terminals, and what it says.
use Rattle.std.specs.Prelude.{◌≡◌, Result, Ok, Err, Bool, true, false, cond, ◌&&◌, ◌||◌, List, [], ◌∷◌, ℕ, ◌-◌, ◌≤◌, length, take, drop, eqb, leb}
use Rattle.utf8.specs.Texts.{seen}
use Rattle.ntline.specs.declared.lines.Sort.{Sort as SpanSort}
use Rattle.ntline.specs.declared.lines.Sort.TheVariants.{Name, Blank, Literal}
use Rattle.ntline.specs.declared.lines.Span.{Span}
use Rattle.ntline.specs.declared.lines.Missing.{Missing}
use Rattle.ntline.specs.declared.lines.Line.{Line}
use Rattle.ntline.specs.declared.lines.Line.TheVariants.{Bad, Empty, Triple}
use Rattle.ntline.specs.Grammar.{Said, Sort, Term}
use Rattle.ntline.specs.Escapes.{resolved}
use Rattle.ntline.specs.Lexing.{token_of, a_space, a_dot, a_hats, a_remark, a_label, a_tag, an_iri, a_string}

abbrev pub is_nil : List ℕ → Bool
is_nil [] = true
is_nil (c ∷ cs) = false

-- behind white space, if there is any
unfoldable pub spaced : List ℕ → List ℕ
spaced cs = cond (eqb (token_of cs).kind a_space) (token_of cs).rest cs

-- nothing is left but white space and perhaps a comment, to the end of the line
unfoldable pub is_over : List ℕ → Bool
is_over cs = let left = spaced cs in is_nil left || (eqb (token_of left).kind a_remark && is_nil (token_of left).rest)

-- a term of a line: its sort (3: none), the line from its first terminal on, what is left behind that, and behind all of the term
pub record Source : Type 0 where
  pub sort : ℕ
  pub from : List ℕ
  pub to : List ℕ
  pub tail : List ℕ

abbrev pub source : ℕ → List ℕ → List ℕ → List ℕ → Source
source sort from to tail = record { sort = sort; from = from; to = to; tail = tail }

-- behind '^^': the IRI
unfoldable pub typed_of : List ℕ → List ℕ → List ℕ → Source
typed_of from to cs = let t = token_of (spaced cs) in source (cond (eqb t.kind an_iri) 2 3) from to t.rest

-- behind a string: ('^^' IRIREF | LANGTAG)?
unfoldable pub literal_of : List ℕ → List ℕ → Source
literal_of from to =
    let t = token_of (spaced to) in
    cond (eqb t.kind a_tag) (source 2 from to t.rest)
    (cond (eqb t.kind a_hats) (typed_of from to t.rest) (source 2 from to to))

-- IRIREF | BLANK_NODE_LABEL | literal
unfoldable pub source_of : List ℕ → Source
source_of cs =
    let from = spaced cs in
    let t = token_of from in
    cond (eqb t.kind an_iri) (source 0 from t.rest t.rest)
    (cond (eqb t.kind a_label) (source 1 from t.rest t.rest)
    (cond (eqb t.kind a_string) (literal_of from t.rest) (source 3 from from from)))

-- a line: not N-Triples, empty, or a triple's three terms
pub data Parsed : Type 0 where
  bad empty : Parsed
  parsed : Source → Source → Source → Parsed

-- '.', and then nothing
unfoldable pub is_dotted : List ℕ → Bool
is_dotted cs = let t = token_of (spaced cs) in eqb t.kind a_dot && is_over t.rest

unfoldable pub object_of : Source → Source → Parsed
object_of s p = let o = source_of p.tail in cond (leb o.sort 2 && is_dotted o.tail) (parsed s p o) bad

unfoldable pub predicate_of : Source → Parsed
predicate_of s = let p = source_of s.tail in cond (eqb p.sort 0) (object_of s p) bad

unfoldable pub subject_of : List ℕ → Parsed
subject_of cs = let s = source_of cs in cond (leb s.sort 1) (predicate_of s) bad

unfoldable pub line_of : List ℕ → Parsed
line_of cs = cond (is_over cs) empty (subject_of cs)

-- the characters of `cs` before what is left
unfoldable pub up_to : List ℕ → List ℕ → List ℕ
up_to cs left = take (length cs - length left) cs

-- without the first and the last
unfoldable pub inner : List ℕ → List ℕ
inner cs = take (length cs - 2) (drop 1 cs)

-- what stands behind a literal's string: '@' and a tag, or '^^' and an IRI
unfoldable pub mark_of : List ℕ → Sort
mark_of [] = Sort.plain
mark_of (c ∷ cs) =
    cond (eqb c 0x40) (Sort.tagged cs) (Sort.typed (resolved 0 0 (inner (spaced (drop 1 cs)))))

-- the term that a source means
unfoldable pub meant_by : Source → Term
meant_by s =
    let front = up_to s.from s.to in
    cond (eqb s.sort 0) (Term.name (resolved 0 0 (inner front)))
    (cond (eqb s.sort 1) (Term.blank (drop 2 front))
    (Term.literal (resolved 0 0 (inner front)) (mark_of (spaced (up_to s.to s.tail)))))

-- what a line says, where it says anything
pub data Heard : Type 0 where
  wrong : Heard
  heard : Said → Heard

unfoldable pub said_by : Parsed → Heard
said_by bad = wrong
said_by empty = heard Said.nothing
said_by (parsed s p o) = heard (Said.says (meant_by s) (meant_by p) (meant_by o))

-- a span's sort, by its number
abbrev pub sort_number : SpanSort → ℕ
sort_number Name = 0
sort_number Blank = 1
sort_number Literal = 2

-- a span of bytes and the source that it stands for
pub record SpanOf (b : List ℕ) (end : ℕ) (span : Span) (s : Source) : Type 0 where
  pub sort_is : sort_number span.sort ≡ s.sort
  pub rising : span.from ≤ span.to
  pub rising_tail : span.to ≤ span.tail
  pub within : span.tail ≤ end
  pub from_is : seen b span.from end ≡ s.from
  pub to_is : seen b span.to end ≡ s.to
  pub tail_is : seen b span.tail end ≡ s.tail

-- places of bytes and a source of no sort, which is no term, that they stand for
pub record MissingOf (b : List ℕ) (end : ℕ) (places : Missing) (s : Source) : Type 0 where
  pub no_sort : s.sort ≡ 3
  pub rising : places.from ≤ places.to
  pub rising_tail : places.to ≤ places.tail
  pub within : places.tail ≤ end
  pub from_is : seen b places.from end ≡ s.from
  pub to_is : seen b places.to end ≡ s.to
  pub tail_is : seen b places.tail end ≡ s.tail

-- a term's span, or the places of a source of no sort
abbrev pub SpanFound : List ℕ → ℕ → Result Span Missing → Source → Type 0
SpanFound b end (Ok r) s = SpanOf b end r s
SpanFound b end (Err r) s = MissingOf b end r s

-- a line as the code gives it, and as it is
abbrev pub LineOf : List ℕ → ℕ → Line → Parsed → Type 0
LineOf b end Bad bad = Unit {0}
LineOf b end Bad empty = ⊥
LineOf b end Bad (parsed s p o) = ⊥
LineOf b end Empty bad = ⊥
LineOf b end Empty empty = Unit {0}
LineOf b end Empty (parsed s p o) = ⊥
LineOf b end (Triple x y z) bad = ⊥
LineOf b end (Triple x y z) empty = ⊥
LineOf b end (Triple x y z) (parsed s p o) = SpanOf b end x s × SpanOf b end y p × SpanOf b end z o

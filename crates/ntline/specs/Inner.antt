-- What the parts of reading a line promise each other: positions of the bytes for what is left of the line.
use Rattle.std.specs.Prelude.{◌≡◌, Result, List, ℕ, ◌≤◌}
use Rattle.utf8.specs.Texts.{seen}
use Rattle.ntline.specs.declared.lexing.State.{State}
use Rattle.ntline.specs.declared.lexing.Terminal.{Terminal}
use Rattle.ntline.specs.declared.lines.Span.{Span}
use Rattle.ntline.specs.declared.lines.Missing.{Missing}
use Rattle.ntline.specs.declared.lines.Line.{Line}
use Rattle.ntline.specs.Lexing.{token_is, munched, token_of}
use Rattle.ntline.specs.Kinds.{number_of, found_to}
use Rattle.ntline.specs.Lines.{Source, spaced, typed_of, literal_of, source_of, object_of, predicate_of, subject_of, SpanOf, SpanFound, LineOf}

-- the terminal at a position
pub record TokenAt (b : List ℕ) (at end kind to : ℕ) : Type 0 where
  pub later : at ≤ to
  pub within : to ≤ end
  pub kind_is : kind ≡ (token_of (seen b at end)).kind
  pub rest_is : seen b to end ≡ (token_of (seen b at end)).rest

-- what is found at a position is the terminal there; its place is that position where there is none
abbrev pub FoundAt : List ℕ → ℕ → ℕ → Terminal → Type 0
FoundAt b at end t = TokenAt b at end (number_of t.kind) t.to × (t.to ≡ found_to at t)

-- behind some characters of the terminal at a position: the state there, the terminal that ended last, and where
pub record Reached (b : List ℕ) (at end : ℕ) (state : State) (kind to i : ℕ) : Type 0 where
  pub later : at ≤ to
  pub within : to ≤ end
  pub gone : at ≤ i
  pub inside : i ≤ end
  pub same : token_of (seen b at end) ≡ munched state kind (seen b to end) (seen b i end)

-- no terminal goes on in this state
pub record StopsAt (s : State) (b : List ℕ) (at end : ℕ) : Type 0 where
  pub stops : (kind : ℕ) (rest : List ℕ) → munched s kind rest (seen b at end) ≡ token_is kind rest

pub record SpacedAt (b : List ℕ) (at end to : ℕ) : Type 0 where
  pub later : at ≤ to
  pub within : to ≤ end
  pub rest_is : seen b to end ≡ spaced (seen b at end)

-- a term whose first terminal lies from one position to another
abbrev pub TypedAt : List ℕ → ℕ → ℕ → ℕ → ℕ → Result Span Missing → Type 0
TypedAt b from to at end r = SpanFound b end r (typed_of (seen b from end) (seen b to end) (seen b at end))

abbrev pub LiteralAt : List ℕ → ℕ → ℕ → ℕ → Result Span Missing → Type 0
LiteralAt b from to end r = SpanFound b end r (literal_of (seen b from end) (seen b to end))

abbrev pub TermAt : List ℕ → ℕ → ℕ → Result Span Missing → Type 0
TermAt b at end r = SpanFound b end r (source_of (seen b at end))

-- for whatever sources the spans before stand
abbrev pub ObjectAt : List ℕ → Span → Span → ℕ → Line → Type 0
ObjectAt b x y end r = (s p : Source) → SpanOf b end x s → SpanOf b end y p → LineOf b end r (object_of s p)

abbrev pub PredicateAt : List ℕ → Span → ℕ → Line → Type 0
PredicateAt b x end r = (s : Source) → SpanOf b end x s → LineOf b end r (predicate_of s)

abbrev pub SubjectAt : List ℕ → ℕ → ℕ → Line → Type 0
SubjectAt b at end r = LineOf b end r (subject_of (seen b at end))

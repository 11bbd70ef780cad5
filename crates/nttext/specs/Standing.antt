-- What the parts of the code promise of a term that stands in a line: its text laid, or compared.
use Rattle.std.specs.Prelude.{◌≡◌, Option, Some, None, Bool, true, false, List, ℕ, ◌+◌, ◌≤◌, leb, length, take}
use Rattle.std.proofs.Math.Seq.{slice}
use Rattle.utf8.specs.Texts.{AllCharacters}
use Rattle.field.specs.Numbers.{written}
use Rattle.names.specs.Entering.{same_text_lem}
use Rattle.ntline.specs.declared.lines.Span.{Span}
use Rattle.ntline.specs.Grammar.{Term}
use Rattle.ntline.specs.Lines.{source_of, meant_by, SpanOf}
use Rattle.nttext.specs.Texts.{text_of_term}

-- a span is a term's in a line of UTF-8, and the term is this one
pub record Stands (b : List ℕ) (end : ℕ) (t : Span) (m : Term) : Type 0 where
  pub line : List ℕ
  pub all_characters : AllCharacters line
  pub span_is : SpanOf b end t (source_of line)
  pub is_term : (source_of line).sort ≤ 2
  pub means : meant_by (source_of line) ≡ m

-- a span is some term's
pub record StandsThere (b : List ℕ) (end : ℕ) (t : Span) : Type 0 where
  pub term : Term
  pub stands : Stands b end t term

-- a text laid into `out` from a position on, where it fits; what lies before is left
pub record LaidIn (text out after : List ℕ) (at : ℕ) (fits : Bool) (to : ℕ) : Type 0 where
  pub fits_is : fits ≡ leb (at + length text) (length out)
  pub to_is : fits ≡ true → to ≡ at + length text
  pub bytes_are : fits ≡ true → after ≡ written out at text
  pub as_long : length after ≡ length out
  pub before_is : take at after ≡ take at out

-- where a text ends that is laid, if it fits
abbrev pub LaidTo : List ℕ → List ℕ → List ℕ → ℕ → Option ℕ → Type 0
LaidTo text out after at (Some to) = LaidIn text out after at true to
LaidTo text out after at None = LaidIn text out after at false at

abbrev pub TermLaid : List ℕ → ℕ → Span → List ℕ → List ℕ → ℕ → Bool → ℕ → Type 0
TermLaid b end t out after at fits to = (m : Term) → Stands b end t m → LaidIn (text_of_term m) out after at fits to

abbrev pub TermLaidTo : List ℕ → ℕ → Span → List ℕ → List ℕ → ℕ → Option ℕ → Type 0
TermLaidTo b end t out after at (Some to) = TermLaid b end t out after at true to
TermLaidTo b end t out after at None = TermLaid b end t out after at false at

abbrev pub TermCompared : List ℕ → ℕ → Span → List ℕ → ℕ → ℕ → Bool → Type 0
TermCompared b end t text from to r = (m : Term) → Stands b end t m → r ≡ same_text_lem (text_of_term m) (slice from to text)

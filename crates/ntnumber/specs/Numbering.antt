-- What numbering a term promises, and what its parts promise one another.
use Rattle.std.specs.Prelude.{◌≡◌, Bool, true, false, Option, Some, None, List, ℕ, ◌+◌, ◌≤◌, ◌<◌, length, get_or, set}
use Rattle.term.specs.Term.{sort_of}
use Rattle.names.specs.Five.{five_text}
use Rattle.names.specs.Names.{NameLanes, start_of, entries_of}
use Rattle.names.specs.Entering.{Entered, Listed, New, Full, Listing, Lookup, same_text_lem, lookup, known, entered_by, entries_after, count_after}
use Rattle.names.specs.Finding.{Lying, five_of}
use Rattle.names.specs.Hashed.{buckets, lookup_is}
use Rattle.ntline.specs.declared.lines.Span.{Span}
use Rattle.ntline.specs.Grammar.{Term}
use Rattle.nttext.specs.Texts.{text_of_term, sort_of_term}
use Rattle.nttext.specs.Standing.{Stands, StandsThere}

-- a term's number, or that it does not fit; and how many names there are
pub record Told : Type 0 where
  pub full : Bool
  pub number : ℕ
  pub names : ℕ

abbrev pub numbered : Bool → ℕ → ℕ → Told
numbered full number names = record { full = full; number = number; names = names }

-- what the code answers, where there are so many names then
abbrev pub told : ℕ → Option ℕ → Told
told names (Some n) = numbered false n names
told names None = numbered true 0 names

-- a term's number where it has one
abbrev pub found_number : Lookup → ℕ → Told
found_number (Lookup.number n) names = numbered false n names
found_number Lookup.none names = numbered true 0 names

-- what entering answers, as a number
abbrev pub numbered_of : Entered → ℕ → Told
numbered_of (Listed n) names = numbered false n names
numbered_of (New n) names = numbered false n (names + 1)
numbered_of Full names = numbered true 0 names

abbrev pub IsFive : List ℕ → ℕ → Span → ℕ → Bool → Type 0
IsFive b end t n r = (m : Term) → Stands b end t m → r ≡ same_text_lem (five_text n) (text_of_term m)

abbrev pub FiveThere : List ℕ → ℕ → Span → Option ℕ → Type 0
FiveThere b end t r = (m : Term) → Stands b end t m → r ≡ five_of (text_of_term m)

pub record NumberInto (b : List ℕ) (end : ℕ) (t : Span) (l : NameLanes) (names : ℕ) : Type 0 where
  pub within : end ≤ length b
  pub stands : StandsThere b end t
  pub listing : Listing l names

abbrev pub ListedThere : List ℕ → ℕ → Span → NameLanes → ℕ → Option ℕ → Type 0
ListedThere b end t l names r = (m : Term) → Stands b end t m → lookup_is r ≡ lookup (entries_of l names) (sort_of_term m) (text_of_term m)

abbrev pub KnownThere : List ℕ → ℕ → Span → NameLanes → ℕ → Option ℕ → Type 0
KnownThere b end t l names r = (m : Term) → Stands b end t m → lookup_is r ≡ known (entries_of l names) (sort_of_term m) (text_of_term m)

-- a text that lies behind the last is entered
pub record LyingAs (l m : NameLanes) (names n size : ℕ) (r : Told) : Type 0 where
  pub answer : Entered
  pub lying : Lying l m names n size answer
  pub answer_is : r ≡ numbered_of answer names

-- with a new entry its hash is entered, else nothing is
pub record HashEntered (heads next heads' next' : List ℕ) (names h : ℕ) (r : Told) : Type 0 where
  pub entered : r.names ≡ names + 1 → (heads' ≡ set heads h (names + 1)) × (next' ≡ set next names (get_or heads h 0))
  pub left : r.names ≡ names → (heads' ≡ heads) × (next' ≡ next)

-- each lane as long as before
pub record ListAsLong (l m : NameLanes) : Type 0 where
  pub same_terms : length m.terms ≡ length l.terms
  pub same_ends : length m.ends ≡ length l.ends
  pub same_text : length m.text ≡ length l.text

-- a text that lies behind the last may be entered, with its hash
abbrev pub LyingInto : NameLanes → ℕ → List ℕ → List ℕ → ℕ → ℕ → Type 0
LyingInto l names heads next size h =
    Listing l names × (start_of l.ends names + size ≤ length l.text) × (length heads ≡ buckets) × (length next ≡ 512) × (h < buckets)

-- a term is entered as the names list says, and what it answers is its number
pub record Numbering (l : NameLanes) (names : ℕ) (m : NameLanes) (t : Term) (r : Told) : Type 0 where
  pub answer : Entered
  pub answer_is : answer ≡ entered_by (length l.terms) (length l.text) (entries_of l names) (sort_of_term t) (text_of_term t)
  pub number_is : r ≡ numbered_of answer names
  pub entries_are : entries_of m (count_after answer names) ≡ entries_after answer (entries_of l names) (text_of_term t)
  pub listing : Listing m r.names
  pub as_long : ListAsLong l m
  pub sort_is : r.full ≡ false → sort_of r.number ≡ sort_of_term t

abbrev pub NumberedAs : List ℕ → ℕ → Span → NameLanes → ℕ → NameLanes → Told → Type 0
NumberedAs b end t l names m r = (x : Term) → Stands b end t x → Numbering l names m x r

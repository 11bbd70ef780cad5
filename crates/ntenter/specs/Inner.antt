-- What the parts of reading a line promise one another.
use Rattle.std.specs.Prelude.{◌≡◌, Bool, true, false, cond, Option, Some, None, Result, Ok, Err, List, ℕ, ◌≤◌, length, eqb}
use Rattle.term.specs.Term.{sort_of}
use Rattle.term.specs.declared.refusal.Refusal.{Refusal}
use Rattle.term.specs.Refused.{refusal_number}
use Rattle.annotation.specs.Kinds.{is_legal}
use Rattle.table.specs.Rows.{Row, Lanes, AsLong, row_at, rows_of}
use Rattle.table.specs.Sound.{Sound}
use Rattle.ntline.specs.declared.lines.Span.{Span}
use Rattle.ntline.specs.Kinds.{sort_number}
use Rattle.ntline.specs.Grammar.{Said, Term}
use Rattle.ntline.specs.Lines.{Heard}
use Rattle.names.specs.Names.{Entry, NameLanes, entries_of}
use Rattle.names.specs.Entering.{Listing}
use Rattle.nttext.specs.Texts.{sort_of_term}
use Rattle.nttext.specs.Standing.{Stands, StandsThere}
use Rattle.ntnumber.specs.Numbering.{ListAsLong}
use Rattle.ntenter.specs.declared.Numbers.{Numbers}
use Rattle.ntenter.specs.Line.{Read, Room, enter_term, read_line, refused, room_of}

-- ---- a triple's three terms

abbrev pub room_in : ℕ → NameLanes → Room
room_in rows l = record { rows = rows; entries = length l.terms; bytes = length l.text }

pub record ThreeInto (b : List ℕ) (end : ℕ) (s p o : Span) (l : NameLanes) (names : ℕ) : Type 0 where
  pub within : end ≤ length b
  pub subject : StandsThere b end s
  pub predicate : StandsThere b end p
  pub object : StandsThere b end o
  pub listing : Listing l names

-- a triple's three numbers, or that one of its terms does not fit; and how many names there are
pub record ThreeTold : Type 0 where
  pub full : Bool
  pub s : ℕ
  pub p : ℕ
  pub o : ℕ
  pub names : ℕ

abbrev pub no_three : ℕ → ThreeTold
no_three names = record { full = true; s = 0; p = 0; o = 0; names = names }

-- what the code answers, where there are so many names then
abbrev pub three_told : ℕ → Option Numbers → ThreeTold
three_told names (Some t) = record { full = false; s = t.s; p = t.p; o = t.o; names = names }
three_told names None = no_three names

abbrev pub enter_three : Room → ℕ → List Entry → Term → Term → Term → (ℕ → ℕ → ℕ → List Entry → Read) → Read
enter_three room place es s p o next =
    enter_term room place es s (λ x es₁. enter_term room place es₁ p (λ y es₂. enter_term room place es₂ o (λ z es₃. next x y z es₃)))

pub record ThreeNumbered (l : NameLanes) (names : ℕ) (m : NameLanes) (s p o : Term) (r : ThreeTold) : Type 0 where
  pub as_long : ListAsLong l m
  pub listing : r.full ≡ false → Listing m r.names
  pub subject : r.full ≡ false → sort_of r.s ≡ sort_of_term s
  pub predicate : r.full ≡ false → sort_of r.p ≡ sort_of_term p
  pub object : r.full ≡ false → sort_of r.o ≡ sort_of_term o
  pub meaning : (rows place : ℕ) (next : ℕ → ℕ → ℕ → List Entry → Read)
      → enter_three (room_in rows l) place (entries_of l names) s p o next ≡ cond r.full (refused 27 place) (next r.s r.p r.o (entries_of m r.names))

abbrev pub ThreeAs : List ℕ → ℕ → Span → Span → Span → NameLanes → ℕ → NameLanes → ThreeTold → Type 0
ThreeAs b end s p o l names m r = (x y z : Term) → Stands b end s x → Stands b end p y → Stands b end o z → ThreeNumbered l names m x y z r

-- ---- a line

pub record LineInto (kind a : ℕ) (l : Lanes) (count : ℕ) (n : NameLanes) (names : ℕ) : Type 0 where
  pub sound : Sound kind l count
  pub legal : is_legal kind a ≡ true
  pub listing : Listing n names

pub record TripleInto (kind a : ℕ) (b : List ℕ) (end : ℕ) (s p o : Span) (l : Lanes) (count : ℕ) (n : NameLanes) (names : ℕ) : Type 0 where
  pub into : LineInto kind a l count n names
  pub within : end ≤ length b
  pub subject : StandsThere b end s
  pub predicate : StandsThere b end p
  pub object : StandsThere b end o
  pub is_name : sort_number p.sort ≡ 0

-- what a line's reading says: a number, and the counts behind it
pub record LineTold : Type 0 where
  pub number : ℕ
  pub count : ℕ
  pub names : ℕ

-- what the code answers, where table and list then have so many rows and names
abbrev pub line_told : ℕ → ℕ → Result (Unit {0}) Refusal → LineTold
line_told count names (Ok u) = record { number = 0; count = count; names = names }
line_told count names (Err e) = record { number = refusal_number e; count = count; names = names }

-- table and list with the line in them, whatever is to come next; a refused line leaves the lanes as long as they were
pub record LineRead (kind a : ℕ) (heard : Heard) (l m : Lanes) (count : ℕ) (n k : NameLanes) (names : ℕ) (d : LineTold) : Type 0 where
  pub as_long : AsLong l m
  pub list_long : ListAsLong n k
  pub sound : d.number ≡ 0 → Sound kind m d.count
  pub more : d.number ≡ 0 → count ≤ d.count
  pub rest : d.number ≡ 0 → (i : ℕ) → d.count ≤ i → row_at m i ≡ row_at l i
  pub listing : d.number ≡ 0 → Listing k d.names
  pub meaning : (place : ℕ) (next : List Entry → List Row → Read)
      → read_line kind a (room_of l n) place heard (entries_of n names) (rows_of l count) next
      ≡ cond (eqb d.number 0) (next (entries_of k d.names) (rows_of m d.count)) (refused d.number place)

abbrev pub TripleRead : ℕ → ℕ → List ℕ → ℕ → Span → Span → Span → Lanes → Lanes → ℕ → NameLanes → NameLanes → ℕ → LineTold → Type 0
TripleRead kind a b end s p o l m count n k names d =
    (x y z : Term) → Stands b end s x → Stands b end p y → Stands b end o z → LineRead kind a (Heard.heard (Said.says x y z)) l m count n k names d

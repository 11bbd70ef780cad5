-- What the parts of reading promise one another.
use Rattle.std.specs.Prelude.{◌≡◌, Bool, true, false, cond, ◌||◌, Result, Ok, Err, List, [], ℕ, ◌≤◌, ◌<◌, length, get_or, replicate, eqb}
use Rattle.term.specs.Refusal.{verdict}
use Rattle.term.specs.Refused.{refusal_number}
use Rattle.term.specs.declared.refusal.Refused.{Refused}
use Rattle.annotation.specs.Kinds.{is_legal}
use Rattle.table.specs.Rows.{Lanes, AsLong, row, row_at, rows_of, filled}
use Rattle.table.specs.Sound.{Sound}
use Rattle.names.specs.Names.{NameLanes, lanes_of, entries_of}
use Rattle.names.specs.Entering.{Listing}
use Rattle.ntnumber.specs.Numbering.{ListAsLong}
use Rattle.ntread.specs.declared.TriplesRead.{TriplesRead}
use Rattle.ntenter.specs.Line.{Read, refused, read_as, room_of}
use Rattle.ntread.specs.Reading.{is_eol, read_lines, lines_from, filled_names}

-- ---- all lines

-- no CR and no LF from `at` up to `to`
pub record Inside (b : List ℕ) (at to : ℕ) : Type 0 where
  pub from : at ≤ to
  pub within : to ≤ length b
  pub each : (i : ℕ) → at ≤ i → i < to → is_eol (get_or b i 0) ≡ false

-- no CR and no LF from `at` up to `end`, and one of them, or nothing, at `end`
pub record LineEnd (b : List ℕ) (at end : ℕ) : Type 0 where
  pub from : at ≤ end
  pub within : end ≤ length b
  pub inside : (i : ℕ) → at ≤ i → i < end → is_eol (get_or b i 0) ≡ false
  pub over : end < length b → is_eol (get_or b end 0) ≡ true

-- lanes of zeros: no row yet, no name yet
pub record Fresh (kind a : ℕ) (l : Lanes) (n : NameLanes) : Type 0 where
  pub sound : Sound kind l 0
  pub zero : (i : ℕ) → row_at l i ≡ row 0 0 0 0
  pub legal : is_legal kind a ≡ true
  pub listing : Listing n 0

abbrev pub refused_done : ℕ → ℕ → TriplesRead
refused_done number place = record { number = number; place = place; count = 0; names = 0 }

abbrev pub all_lines_lem : ℕ → ℕ → List ℕ → Lanes → NameLanes → Read
all_lines_lem kind a b l n = read_lines kind a (room_of l n) (lines_from 0 b) [] []

-- what the code answers of all lines, where table and list then have so many rows and names
abbrev pub lines_told : ℕ → ℕ → Result (Unit {0}) Refused → TriplesRead
lines_told count names (Ok u) = record { number = 0; place = 0; count = count; names = names }
lines_told count names (Err e) = refused_done (refusal_number e.why) e.place

-- all lines are read, or one is refused
pub record LinesRead (kind a : ℕ) (b : List ℕ) (l m : Lanes) (n k : NameLanes) (d : TriplesRead) : Type 0 where
  pub as_long : AsLong l m
  pub list_long : ListAsLong n k
  pub meaning : all_lines_lem kind a b l n ≡ cond (eqb d.number 0) (read_as (entries_of k d.names) (rows_of m d.count)) (refused d.number d.place)
  pub refused_is : 0 < d.number → d ≡ refused_done d.number d.place
  pub place_is : d.number ≡ 0 → d.place ≡ 0
  pub filled_is : d.number ≡ 0 → m ≡ filled (rows_of m d.count) l
  pub listing : d.number ≡ 0 → Listing k d.names

-- what is read is said and left in the lanes; a refusal leaves zeros
pub record ReadInto (what : Read) (l m : Lanes) (n k : NameLanes) (d : TriplesRead) : Type 0 where
  pub verdict_is : verdict d.number d.place ≡ what.verdict_of
  pub count_is : d.count ≡ length what.rows
  pub names_is : d.names ≡ length what.entries
  pub lanes_are : m ≡ filled what.rows l
  pub list_is : k ≡ filled_names what.entries n

abbrev pub ReadNew : ℕ → ℕ → List ℕ → Lanes → Lanes → NameLanes → NameLanes → TriplesRead → Type 0
ReadNew kind a b l m n k d = ReadInto (all_lines_lem kind a b l n) l m n k d

abbrev pub zeroed_names : NameLanes → NameLanes
zeroed_names n = lanes_of (replicate (length n.terms) 0) (replicate (length n.ends) 0) (replicate (length n.text) 0)

-- "11 and 13 change nothing": of a refusal's number
abbrev pub keeps_lem : ℕ → Bool
keeps_lem number = eqb number 11 || eqb number 13

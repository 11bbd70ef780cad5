-- Reading a line of N-Triples: its terms entered, its triple added, and what a reading comes to.
use Rattle.std.specs.Prelude.{Bool, true, false, List, [], ◌∷◌, ◌++◌, ℕ, length, ltb}
use Rattle.term.specs.Refusal.{verdict, done}
use Rattle.term.specs.declared.refusal.Verdict.{Verdict}
use Rattle.annotation.specs.Kinds.{algebra}
use Rattle.table.specs.Rows.{Row, row, Lanes, add_row}
use Rattle.ntline.specs.Grammar.{Said, Term}
use Rattle.ntline.specs.Lines.{Heard}
use Rattle.names.specs.Names.{Entry, entry, NameLanes}
use Rattle.names.specs.Entering.{Entered, Listed, New, Full, entered_by}
use Rattle.nttext.specs.Texts.{text_of_term, sort_of_term}

-- what a file reads to
pub record Read : Type 0 where
  pub verdict_of : Verdict
  pub entries : List Entry
  pub rows : List Row

abbrev pub refused : ℕ → ℕ → Read
refused number place = record { verdict_of = verdict number place; entries = []; rows = [] }

abbrev pub read_as : List Entry → List Row → Read
read_as entries rows = record { verdict_of = done; entries = entries; rows = rows }

-- the rooms lent: rows, entries, bytes of text
pub record Room : Type 0 where
  pub rows : ℕ
  pub entries : ℕ
  pub bytes : ℕ

-- "one of the five is 0 to 4; a text of the same sort already listed has its number; else it is entered behind the last entry";
-- "27 when an entry or its bytes don't fit"
abbrev pub when_entered : ℕ → List Entry → List ℕ → Entered → (ℕ → List Entry → Read) → Read
when_entered place es text (Listed n) next = next n es
when_entered place es text (New n) next = next n (es ++ (entry n text ∷ []))
when_entered place es text Full next = refused 27 place

abbrev pub enter_term : Room → ℕ → List Entry → Term → (ℕ → List Entry → Read) → Read
enter_term room place es t next =
    let text = text_of_term t in
    when_entered place es text (entered_by room.entries room.bytes es (sort_of_term t) text) next

abbrev pub when_room : Bool → ℕ → (Unit {0} → Read) → Read
when_room true place next = refused 12 place
when_room false place next = next tt

-- "An equal triple joins with the same annotation ..; else, with all rows taken, 12"
abbrev pub add_triple : ℕ → ℕ → Room → ℕ → ℕ → ℕ → ℕ → List Row → (List Row → Read) → Read
add_triple kind a room place s p o rows next =
    let more = add_row (algebra kind) (row s p o a) rows in
    when_room (ltb room.rows (length more)) place (λ _. next more)

-- "Of a triple's line, subject, predicate, object in this order"
abbrev pub read_triple : ℕ → ℕ → Room → ℕ → Term → Term → Term → List Entry → List Row → (List Entry → List Row → Read) → Read
read_triple kind a room place s p o es rows next =
    enter_term room place es s (λ x es₁.
    enter_term room place es₁ p (λ y es₂.
    enter_term room place es₂ o (λ z es₃.
    add_triple kind a room place x y z rows (λ more. next es₃ more))))

-- "in each line 26, 27, 12"
abbrev pub read_line : ℕ → ℕ → Room → ℕ → Heard → List Entry → List Row → (List Entry → List Row → Read) → Read
read_line kind a room place Heard.wrong es rows next = refused 26 place
read_line kind a room place (Heard.heard Said.nothing) es rows next = next es rows
read_line kind a room place (Heard.heard (Said.says s p o)) es rows next = read_triple kind a room place s p o es rows next

abbrev pub room_of : Lanes → NameLanes → Room
room_of l n = record { rows = length l.subj; entries = length n.terms; bytes = length n.text }

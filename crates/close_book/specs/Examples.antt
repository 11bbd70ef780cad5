-- "One listing in full", from its 41 bytes to the bytes of its four lines; the same book in less room, under rule set 2, and cut; no book,
-- and one that is too long.
use Rattle.std.specs.Prelude.{◌≡◌, List, [], ◌∷◌, ℕ, ◌<◌, length, take, drop, replicate}
use Prim.Native.String.{String}
use Rattle.table.specs.Rows.{Lanes, lanes}
use Rattle.printing.specs.Text.{bytes_of}
use Rattle.printing.specs.Examples.{p1_book}
use Rattle.close_book.specs.Listed.{Listed}

-- "buffers of .. entries, all zero at the start"
abbrev pub buffers_of : ℕ → Lanes
buffers_of n = lanes (replicate n 0) (replicate n 0) (replicate n 0) (replicate n 0)

-- with buffers of so many entries, the bytes b print as this, and as nothing else
abbrev pub PrintsIn : ℕ → List ℕ → String → Type 0
PrintsIn n b s = Listed (buffers_of n) b (bytes_of s) × ((text : List ℕ) → Listed (buffers_of n) b text → text ≡ bytes_of s)

-- "The closing program keeps its rows in buffers of 1,024 entries"
abbrev pub Prints : List ℕ → String → Type 0
Prints b s = PrintsIn 1024 b s

-- "P1 the listing"
abbrev pub P1Listed : Type 0
P1Listed = Prints p1_book "closed 1 2000 3\n10 2 11 120\n10 2 12 96\n11 1 12 2016\n"

-- "room 2 for P1 is 12"
abbrev pub P1InRoomTwo : Type 0
P1InRoomTwo = PrintsIn 2 p1_book "refused 12 0\n"

-- C-23: P1 in edition 2, "P1 in rule set 2, 8 rows"
abbrev pub p1_reflexive_book : List ℕ
p1_reflexive_book = 0x01 ∷ 0x00 ∷ 0x05 ∷ 0x02 ∷ 0x01 ∷ 0x07 ∷ 0xD0 ∷ 0x02 ∷ drop 7 p1_book

abbrev pub P1ReflexiveListed : Type 0
P1ReflexiveListed =
    Prints p1_reflexive_book
    "closed 1 2000 8\n0 0 0 2040\n1 0 1 2040\n2 0 2 120\n10 2 11 120\n10 2 12 96\n11 1 11 2040\n11 1 12 2016\n12 1 12 2016\n"

-- "40 bytes of P1 is 1 at 24"
abbrev pub P1Cut : Type 0
P1Cut = Prints (take 40 p1_book) "refused 1 24\n"

-- no input at all
abbrev pub NoBook : Type 0
NoBook = Prints [] "refused 2 0\n"

-- "book over 65,535 bytes"
abbrev pub LongBook : Type 0
LongBook = (b : List ℕ) → 65535 < length b → Prints b "refused 13 0\n"

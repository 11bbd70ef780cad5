-- What the closing program prints for a book: the listing of what follows from it, or a refusal.
use Rattle.std.specs.Prelude.{◌≡◌, List, ℕ, ◌≤◌, ◌<◌, length}
use Rattle.table.specs.Rows.{Row, Lanes}
use Rattle.rhodf.specs.Rules.{rules_of}
use Rattle.rhodf.specs.Closure.{ClosureOf}
use Rattle.book.specs.Reading.{reading}
use Rattle.printing.specs.Text.{closed_listing, refused_line}

-- the text for the book b, read into the lanes l and closed there under its rule set
pub record Listed (l : Lanes) (b text : List ℕ) : Type 0 where
  -- "A refusal prints `refused NUMBER PLACE`": no book, one that is cut or over 65,535 bytes, and every other refusal of reading
  pub unread : 0 < (reading b l).verdict_of.number → text ≡ refused_line (reading b l).verdict_of.number (reading b l).verdict_of.place
  -- what follows from it has more rows than there is room for: 12
  pub no_room : (reading b l).verdict_of.number ≡ 0 → (closed : List Row) → ClosureOf (reading b l).kind (rules_of (reading b l).rules) (reading b l).rows closed
      → length l.subj < length closed → text ≡ refused_line 12 0
  -- "header (kind, base year, rows), then subject, predicate, object, annotation" of what follows from it
  pub closed : (reading b l).verdict_of.number ≡ 0 → (closed : List Row) → ClosureOf (reading b l).kind (rules_of (reading b l).rules) (reading b l).rows closed
      → length closed ≤ length l.subj → text ≡ closed_listing (reading b l).kind (reading b l).base closed

-- the longest header, and 1,024 of the longest rows, have room in it
abbrev pub listing_room : ℕ
listing_room = 40960

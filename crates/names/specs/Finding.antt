-- What the parts of the code find and do.
use Rattle.std.specs.Prelude.{◌≡◌, cond, Option, Some, None, Result, Ok, Err, List, ℕ, ◌+◌, ◌≤◌, ◌<◌, ltb, length, get_or, set}
use Rattle.std.proofs.Math.Seq.{slice, paste}
use Rattle.names.specs.Names.{Entry, NameLanes, lanes_of, start_of, entries_of}
use Rattle.names.specs.Entering.{Entered, New, Full, five_number, Lookup, none, number, known, next_of, Listing, entries_after, count_after}

-- so many bytes from two positions on are the same
abbrev pub SameIn : List ℕ → ℕ → List ℕ → ℕ → ℕ → Type 0
SameIn text from word at size = (k : ℕ) → k < size → get_or text (from + k) 0 ≡ get_or word (at + k) 0

-- of two texts the bytes from one position on
pub record SameBehind (text word : List ℕ) (i : ℕ) : Type 0 where
  pub within : i ≤ length word
  pub same : (k : ℕ) → i ≤ k → k < length word → get_or text k 0 ≡ get_or word k 0

abbrev pub found_of : Lookup → ℕ → Result ℕ ℕ
found_of (number n) k = Ok n
found_of none k = Err k

-- the number of a text that has one, else the next of its sort
abbrev pub number_for : List Entry → ℕ → List ℕ → Result ℕ ℕ
number_for es sort word = found_of (known es sort word) (next_of es sort)

-- which of the five a text is
abbrev pub five_of : List ℕ → Option ℕ
five_of word = cond (ltb (five_number word) 5) (Some (five_number word)) None

-- no entry before one of them has a number
abbrev pub NotBefore : List ℕ → ℕ → ℕ → ℕ → Type 0
NotBefore terms names from n = (k : ℕ) → k < names → k < from → get_or terms k 0 ≡ n → ⊥

-- the first entry that has a number; how many there are where none has it
pub record FirstWith (terms : List ℕ) (names n i : ℕ) : Type 0 where
  pub within : i ≤ names
  pub passed : NotBefore terms names i n
  pub has : i < names → get_or terms i 0 ≡ n

-- it is found, or none has the number
abbrev pub FoundWith : List ℕ → ℕ → ℕ → Option ℕ → Type 0
FoundWith terms names n (Some i) = (i < names) × FirstWith terms names n i
FoundWith terms names n None = FirstWith terms names n names

-- an entry put behind the last
abbrev pub appended : NameLanes → ℕ → ℕ → List ℕ → ℕ → NameLanes
appended l names n word size =
    lanes_of (set l.terms names n) (set l.ends names (start_of l.ends names + size)) (paste l.text (start_of l.ends names) word size)

-- the number of an entry that was put behind the last
abbrev pub entered_is : Option ℕ → Entered
entered_is (Some n) = New n
entered_is None = Full

-- an entry put behind the last whose bytes lie there already
pub record Lying (l m : NameLanes) (names n size : ℕ) (r : Entered) : Type 0 where
  pub answer : r ≡ cond (ltb names (length l.terms)) (New n) Full
  pub entries : entries_of m (count_after r names) ≡ entries_after r (entries_of l names) (slice (start_of l.ends names) (start_of l.ends names + size) l.text)
  pub listing : Listing m (count_after r names)

-- R4, R5: a text looked for, and entered behind the last entry where it is not listed.
use Rattle.std.specs.Prelude.{◌≡◌, Bool, true, false, cond, ◌&&◌, List, [], ◌∷◌, ◌++◌, ℕ, zero, suc, ◌+◌, ◌-◌, ◌≤◌, ◌<◌, eqb, leb, ltb, length, get_or, drop, replicate}
use Rattle.term.specs.Term.{sort_of}
use Rattle.names.specs.Five.{five_text}
use Rattle.names.specs.Names.{Entry, entry, NameLanes, start_of}

-- N17: "Texts are compared byte by byte"
unfoldable pub same_text_lem : List ℕ → List ℕ → Bool
same_text_lem [] [] = true
same_text_lem [] (y ∷ ys) = false
same_text_lem (x ∷ xs) [] = false
same_text_lem (x ∷ xs) (y ∷ ys) = eqb x y && same_text_lem xs ys

abbrev pub is_of : ℕ → Entry → Bool
is_of sort e = eqb (sort_of e.number) sort

abbrev pub is_text_of_lem : ℕ → List ℕ → Entry → Bool
is_text_of_lem sort word e = is_of sort e && same_text_lem e.text word

-- "a text of the same sort already listed has its number"
pub data Lookup : Type 0 where
  none : Lookup
  number : ℕ → Lookup

unfoldable pub lookup : List Entry → ℕ → List ℕ → Lookup
lookup [] sort word = none
lookup (e ∷ es) sort word = cond (is_text_of_lem sort word e) (number e.number) (lookup es sort word)

-- how many entries are of a sort
unfoldable pub count_of : ℕ → List Entry → ℕ
count_of sort [] = 0
count_of sort (e ∷ es) = cond (is_of sort e) 1 0 + count_of sort es

-- "names from 5, blanks from 16384, literals from 32768"
unfoldable pub first_of : ℕ → ℕ
first_of zero = 5
first_of (suc zero) = 16384
first_of (suc (suc sort)) = 32768

-- "New numbers per sort, as first met"
abbrev pub next_of : List Entry → ℕ → ℕ
next_of es sort = first_of sort + count_of sort es

-- the bytes of all texts
unfoldable pub bytes_of : List Entry → ℕ
bytes_of [] = 0
bytes_of (e ∷ es) = length e.text + bytes_of es

-- the number of a text among the five, 5 where it is none of them
unfoldable pub five_number : List ℕ → ℕ
five_number word =
    cond (same_text_lem (five_text 0) word) 0
    (cond (same_text_lem (five_text 1) word) 1
    (cond (same_text_lem (five_text 2) word) 2 (cond (same_text_lem (five_text 3) word) 3 (cond (same_text_lem (five_text 4) word) 4 5))))

-- "one of the five is 0 to 4": names, and not blanks of the same bytes
unfoldable pub lookup_five : ℕ → List ℕ → Lookup
lookup_five sort word = cond (eqb sort 0 && ltb (five_number word) 5) (number (five_number word)) none

-- the first that has it
abbrev pub or_else : Lookup → Lookup → Lookup
or_else (number n) other = number n
or_else none other = other

abbrev pub known : List Entry → ℕ → List ℕ → Lookup
known es sort word = or_else (lookup_five sort word) (lookup es sort word)

-- "27 when an entry or its bytes don't fit the lanes lent"
abbrev pub has_room_lem : ℕ → ℕ → List Entry → List ℕ → Bool
has_room_lem entries bytes es word = ltb (length es) entries && leb (bytes_of es + length word) bytes

-- what entering a text answers: it has this number already; it is entered with this number, behind the last;
-- or it is not listed and does not fit
pub data Entered : Type 0 where
  Listed : ℕ → Entered
  New : ℕ → Entered
  Full : Entered

abbrev pub answer_of : Lookup → Bool → ℕ → Entered
answer_of (number n) room next = Listed n
answer_of none true next = New next
answer_of none false next = Full

-- "one of the five is 0 to 4; a text of the same sort already listed has its number; else it is entered behind the last entry"
unfoldable pub entered_by : ℕ → ℕ → List Entry → ℕ → List ℕ → Entered
entered_by entries bytes es sort word = answer_of (known es sort word) (has_room_lem entries bytes es word) (next_of es sort)

abbrev pub entries_after : Entered → List Entry → List ℕ → List Entry
entries_after (Listed n) es word = es
entries_after (New n) es word = es ++ (entry n word ∷ [])
entries_after Full es word = es

abbrev pub count_after : Entered → ℕ → ℕ
count_after (Listed n) names = names
count_after (New n) names = names + 1
count_after Full names = names

-- the lanes hold a list that entering made: texts one behind another, and no entry behind the last
pub record Listing (l : NameLanes) (names : ℕ) : Type 0 where
  pub equal : length l.ends ≡ length l.terms
  pub few : length l.terms ≤ 512
  pub short : length l.text ≤ 32768
  pub room : names ≤ length l.terms
  pub rise : (i : ℕ) → i < names → start_of l.ends i ≤ get_or l.ends i 0
  pub last : start_of l.ends names ≤ length l.text
  pub terms_zero : drop names l.terms ≡ replicate (length l.terms - names) 0
  pub ends_zero : drop names l.ends ≡ replicate (length l.ends - names) 0

-- T1: "distinct entries have distinct (sort, text); .. numbers consecutive per sort in the order met"
pub data Made : List Entry → Type 0 where
  empty : Made []
  more : {es : List Entry} (sort : ℕ) (word : List ℕ) → Made es → sort ≤ 2 → known es sort word ≡ none → Made (es ++ (entry (next_of es sort) word ∷ []))

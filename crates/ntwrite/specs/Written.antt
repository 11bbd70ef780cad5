-- W5: what is written of a term, and of a row.
use Rattle.std.specs.Prelude.{◌≡◌, List, [], ◌∷◌, ◌++◌, ℕ, zero, suc, ◌+◌, ◌*◌, ◌%◌, ◌≤◌, ◌<◌, length, get_or}
use Rattle.term.specs.Term.{sort_of}
use Rattle.names.specs.Names.{Entry, NameLanes, text_of}

-- "a name as `<` text `>`, a blank as `_:` text, a literal as its text"
unfoldable pub marked : ℕ → List ℕ → List ℕ
marked zero text = (60 ∷ []) ++ text ++ (62 ∷ [])
marked (suc zero) text = (95 ∷ 58 ∷ []) ++ text
marked (suc (suc sort)) text = text

abbrev pub term_bytes : List Entry → ℕ → List ℕ
term_bytes es n = marked (sort_of n) (text_of es n)

-- a term and the blank behind it
abbrev pub part_bytes : List Entry → ℕ → List ℕ
part_bytes es n = term_bytes es n ++ (32 ∷ [])

-- "subject, blank, predicate, blank, object, blank, '.', LF"
abbrev pub line_bytes : List Entry → ℕ → ℕ → ℕ → List ℕ
line_bytes es s p o = part_bytes es s ++ part_bytes es p ++ part_bytes es o ++ (46 ∷ 10 ∷ [])

-- each sort's numbers in slots of their own
abbrev pub slot_of : ℕ → ℕ
slot_of n = sort_of n % 4 * 512 + n % 512

-- no entry of a number stands before where its slot says
pub record Indexed (slots terms : List ℕ) (names : ℕ) : Type 0 where
  pub many : length slots ≡ 2048
  pub begins : (k : ℕ) → k < names → get_or slots (slot_of (get_or terms k 0)) 0 ≤ k

-- lanes that 11 and 14 let pass, and slots filled from them
pub record Fit (l : NameLanes) (names : ℕ) (slots : List ℕ) : Type 0 where
  pub room : names ≤ length l.terms
  pub equal : length l.ends ≡ length l.terms
  pub short : length l.text ≤ 32768
  pub index : Indexed slots l.terms names

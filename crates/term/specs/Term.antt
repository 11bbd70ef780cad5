-- Terms: sort, number, and which are legal.
use Rattle.std.specs.Prelude.{Bool, not, List, [], ◌∷◌, ℕ, ◌+◌, ◌*◌, ◌/◌, ◌%◌, eqb, ltb}
use Rattle.term.specs.Refusal.{Check, refuse}

-- "A term is a 16-bit number. Its top two bits are its sort"
abbrev pub per_sort : ℕ
per_sort = 16384

abbrev pub sort_of : ℕ → ℕ
sort_of t = t / per_sort

abbrev pub number_of : ℕ → ℕ
number_of t = t % per_sort

-- "65,535 .. marks 'unbound'"
abbrev pub unbound : ℕ
unbound = 65535

-- "0 a name, 1 a blank, 2 a literal"; "Sort 3 becomes legal: a value .. Only 65,535 stays illegal, as the unbound mark" (C-17)
abbrev pub is_legal_term : ℕ → Bool
is_legal_term t = ltb t unbound

-- "a predicate is a name"
abbrev pub is_name_lem : ℕ → Bool
is_name_lem t = eqb (sort_of t) 0

-- "in milliamps .. a value from 0 to 16,382": the term of so many
abbrev pub milliamps : ℕ → ℕ
milliamps m = 3 * per_sort + m

-- "Names 0 to 4 are sp, sc, type, dom, range"
abbrev pub sp : ℕ
sp = 0

abbrev pub sc : ℕ
sc = 1

abbrev pub type : ℕ
type = 2

abbrev pub dom : ℕ
dom = 3

abbrev pub range : ℕ
range = 4

-- "8 now means 65,535 only"
abbrev pub term_checks : ℕ → ℕ → List Check
term_checks t place = refuse (not (is_legal_term t)) 8 place ∷ []

-- "8, 9: ..; predicate not a name"
abbrev pub predicate_checks : ℕ → ℕ → List Check
predicate_checks t place = refuse (not (is_legal_term t)) 8 place ∷ refuse (not (is_name_lem t)) 9 place ∷ []

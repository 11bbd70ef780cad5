-- Texts met one after another, and the numbers that they get. Assumes nothing.
use mathlib.Core.Path.{◌≡◌, refl}
use mathlib.Core.List.{List, [], ◌∷◌}
use Prim.Native.Nat.{ℕ}
use Rattle.names.specs.Five.{rdf_schema, rdf_syntax, five_text}
use Rattle.names.specs.Names.{Entry}
use Rattle.names.specs.Entering.{Entered, Listed, New, Full, same_text_lem, lookup, count_of, first_of, bytes_of, five_number, lookup_five, entered_by, entries_after}

record Word : Type 0 where
  sort : ℕ
  text : List ℕ

abbrev of : ℕ → List ℕ → Word
of sort text = record { sort = sort; text = text }

-- what each of them is answered, with so many entries and bytes lent
abbrev met : ℕ → ℕ → List Entry → List Word → List Entered
met entries bytes es [] = []
met entries bytes es (w ∷ ws) =
    entered_by entries bytes es w.sort w.text ∷ met entries bytes (entries_after (entered_by entries bytes es w.sort w.text) es w.text) ws

-- m:a, m:p, m:z, m:b, b, "x"
abbrev a : Word
a = of 0 (109 ∷ 58 ∷ 97 ∷ [])

abbrev p : Word
p = of 0 (109 ∷ 58 ∷ 112 ∷ [])

abbrev z : Word
z = of 0 (109 ∷ 58 ∷ 122 ∷ [])

abbrev blank : Word
blank = of 1 (98 ∷ [])

abbrev x : Word
x = of 2 (34 ∷ 120 ∷ 34 ∷ [])

record Example : Type 0 where
  entries : ℕ
  bytes : ℕ
  words : List Word
  answers : List Entered

abbrev lent : ℕ → ℕ → List Word → List Entered → Example
lent entries bytes words answers = record { entries = entries; bytes = bytes; words = words; answers = answers }

abbrev Hold : List Example → Type 0
Hold [] = Unit {0}
Hold (e ∷ es) = (met e.entries e.bytes [] e.words ≡ e.answers) × Hold es

abbrev examples : List Example
examples =
    -- numbers per sort as first met; rdf:type is 2, as a name only
    lent 512 32768 (a ∷ p ∷ z ∷ a ∷ of 0 (five_text 2) ∷ blank ∷ blank ∷ p ∷ x ∷ []) (New 5 ∷ New 6 ∷ New 7 ∷ Listed 5 ∷ Listed 2 ∷ New 16384 ∷ Listed 16384 ∷ Listed 6 ∷ New 32768 ∷ [])
    ∷ lent 512 32768 (of 1 (five_text 2) ∷ of 0 (98 ∷ []) ∷ blank ∷ []) (New 16384 ∷ New 5 ∷ New 16385 ∷ [])
    -- an entry too few, a byte too few; what is listed is found all the same
    ∷ lent 2 32768 (a ∷ p ∷ z ∷ p ∷ []) (New 5 ∷ New 6 ∷ Full ∷ Listed 6 ∷ [])
    ∷ lent 512 8 (a ∷ p ∷ z ∷ blank ∷ []) (New 5 ∷ New 6 ∷ Full ∷ New 16384 ∷ [])
    ∷ lent 512 9 (a ∷ p ∷ z ∷ blank ∷ a ∷ []) (New 5 ∷ New 6 ∷ New 7 ∷ Full ∷ Listed 5 ∷ [])
    ∷ lent 0 0 (of 0 (five_text 0) ∷ of 0 (five_text 4) ∷ a ∷ []) (Listed 0 ∷ Listed 4 ∷ Full ∷ [])
    ∷ []

pub examples-hold : Hold examples
unfolding rdf_schema rdf_syntax five_text same_text_lem lookup count_of first_of bytes_of five_number lookup_five entered_by
examples-hold = (refl, (refl, (refl, (refl, (refl, (refl, tt))))))

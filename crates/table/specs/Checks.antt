-- The table check: which table is refused, with what number and place.
use Rattle.std.specs.Prelude.{◌≡◌, Bool, false, not, ◌&&◌, List, [], ◌∷◌, ◌++◌, ℕ, zero, suc, length, eqb, leb, ltb}
use Rattle.term.specs.Refusal.{Check, refuse, first}
use Rattle.term.specs.declared.refusal.Verdict.{Verdict}
use Rattle.term.specs.Term.{is_legal_term, is_name_lem}
use Rattle.annotation.specs.Kinds.{kind_checks, annotation_checks}
use Rattle.table.specs.Rows.{Row, Lanes, most_rows, row_at, key_at}

-- "8, 9, 10: 65,535; predicate not a name; annotation illegal", then 28, by number: 8 for any of the three terms comes first
abbrev pub triple_checks : ℕ → Row → ℕ → List Check
triple_checks kind r place =
    refuse (not (is_legal_term r.s && (is_legal_term r.p && is_legal_term r.o))) 8 place
    ∷ refuse (not (is_name_lem r.p)) 9 place
    ∷ annotation_checks kind r.a place

-- "15: row not above the one before"
abbrev pub is_not_above : List ℕ → List ℕ → List ℕ → ℕ → Bool
is_not_above subj pred obj zero = false
is_not_above subj pred obj (suc i) = leb (key_at subj pred obj (suc i)) (key_at subj pred obj i)

abbrev pub row_checks : ℕ → Lanes → ℕ → List Check
row_checks kind l i = triple_checks kind (row_at l i) i ++ (refuse (is_not_above l.subj l.pred l.obj i) 15 i ∷ [])

-- row by row: n rows from row i on
unfoldable pub rows_checks : ℕ → Lanes → ℕ → ℕ → List Check
rows_checks kind l i zero = []
rows_checks kind l i (suc n) = row_checks kind l i ++ rows_checks kind l (suc i) n

-- "lanes unequal or too long"; "at most 1,024"
abbrev pub is_unfit : Lanes → Bool
is_unfit l =
    not
    (eqb (length l.pred) (length l.subj)
    && (eqb (length l.obj) (length l.subj) && (eqb (length l.ann) (length l.subj) && leb (length l.subj) most_rows)))

-- "Tables: 4, 11, 14, then row by row 8, 9, 10, 15"; 28 behind 10
abbrev pub table_checks : ℕ → Lanes → ℕ → List Check
table_checks kind l n =
    kind_checks kind 0
    ++ (refuse (is_unfit l) 11 0
    ∷ refuse (ltb (length l.subj) n) 14 0
    ∷ rows_checks kind l 0 n)

-- what the table check answers
abbrev pub Checking : ℕ → Lanes → ℕ → Verdict → Type 0
Checking kind l n r = r ≡ first (table_checks kind l n)

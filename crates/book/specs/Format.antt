-- "Book format": what a head and a triple field are, byte by byte, and what is refused of them.
use Rattle.std.specs.Prelude.{Bool, not, cond, ◌&&◌, ◌||◌, List, [], ◌∷◌, ◌++◌, ℕ, ◌+◌, length, get_or, eqb, leb}
use Rattle.term.specs.Refusal.{Check, refuse}
use Rattle.term.specs.Term.{term_checks, predicate_checks}
use Rattle.ruleset.specs.RuleSet.{basic_set, reflexive_set, rule_set_checks}
use Rattle.annotation.specs.Kinds.{kind_checks, annotation_checks}
use Rattle.table.specs.Rows.{Row, row}
use Rattle.field.specs.Numbers.{two_at, eight_at, two_bytes, eight_bytes}
use Rattle.field.specs.Fields.{tag_at, size_at, is_cut_lem}

-- a head is of edition 1 or 2
abbrev pub first_edition : ℕ
first_edition = 1

abbrev pub second_edition : ℕ
second_edition = 2

abbrev pub is_edition : ℕ → Bool
is_edition edition = eqb edition first_edition || eqb edition second_edition

-- "tag 1, length 4", and "edition 2 books have a head of length 5": the length that suits the edition
abbrev pub head_length_lem : ℕ → ℕ
head_length_lem edition = cond (eqb edition second_edition) 5 4

abbrev pub is_head_length : ℕ → Bool
is_head_length size = eqb size (head_length_lem first_edition) || eqb size (head_length_lem second_edition)

-- "The writer uses edition 2 only for rule set 2"
abbrev pub edition_for : ℕ → ℕ
edition_for rules = cond (eqb rules reflexive_set) second_edition first_edition

-- "tag 3, length 14"
abbrev pub triple_length : ℕ
triple_length = 14

-- the sizes of the fields: of the head that is written for a rule set, and of a triple
abbrev pub head_size_lem : ℕ → ℕ
head_size_lem rules = 3 + head_length_lem (edition_for rules)

abbrev pub triple_size : ℕ
triple_size = 3 + triple_length

-- "base year (2 bytes; 1900 to 2100 in kind 1, else 0)"
abbrev pub is_base : ℕ → ℕ → Bool
is_base kind base = cond (eqb kind 1) (leb 1900 base && leb base 2100) (eqb base 0)

-- "5: base year"
abbrev pub base_checks : ℕ → ℕ → ℕ → List Check
base_checks kind base place = refuse (not (is_base kind base)) 5 place ∷ []

-- "First the head: tag 1, ..: edition, kind, base year"; of edition 2 "the last byte is the rule set"; "edition 1 means rule set 1"
abbrev pub head_edition : List ℕ → ℕ
head_edition b = get_or b 3 0

abbrev pub head_kind : List ℕ → ℕ
head_kind b = get_or b 4 0

abbrev pub head_base : List ℕ → ℕ
head_base b = two_at b 5

abbrev pub head_rules : List ℕ → ℕ
head_rules b = cond (eqb (head_edition b) second_edition) (get_or b 7 0) basic_set

-- "4, 5: kind; base year", and "36 rule set unknown, after 5"
abbrev pub head_says_checks : List ℕ → List Check
head_says_checks b = kind_checks (head_kind b) 0 ++ (base_checks (head_kind b) (head_base b) 0 ++ rule_set_checks (head_rules b) 0)

-- "3: edition", "2 .. again directly after 3 when (the length) doesn't suit the edition"
abbrev pub head_content_checks : List ℕ → List Check
head_content_checks b =
    refuse (not (is_edition (head_edition b))) 3 0
    ∷ refuse (not (eqb (size_at b 0) (head_length_lem (head_edition b)))) 2 0
    ∷ head_says_checks b

-- "no head first (empty book included)" is 2, and "2 when the head's length is neither 4 nor 5"; "cut, tag, length, content in byte order"
abbrev pub head_checks : List ℕ → List Check
head_checks b =
    refuse (eqb (length b) 0) 2 0
    ∷ refuse (is_cut_lem b 0) 1 0
    ∷ refuse (not (eqb (tag_at b 0) 1)) 2 0
    ∷ refuse (not (is_head_length (size_at b 0))) 2 0
    ∷ head_content_checks b

-- "Then any number of tag 3, length 14: subject, predicate, object, annotation, high byte first"
unfoldable pub row_in : List ℕ → ℕ → Row
row_in b at = row (two_at b (at + 3)) (two_at b (at + 5)) (two_at b (at + 7)) (eight_at b (at + 9))

-- "content in byte order (8 before 9)"
abbrev pub content_checks : ℕ → Row → ℕ → List Check
content_checks kind r place =
    term_checks r.s place ++ (predicate_checks r.p place ++ (term_checks r.o place ++ annotation_checks kind r.a place))

-- a field after the head: cut; "second head" is 2; "tag neither 1 nor 3" is 6; "length not 14" is 7; its content
abbrev pub field_checks : ℕ → List ℕ → ℕ → List Check
field_checks kind b at =
    refuse (is_cut_lem b at) 1 at
    ∷ refuse (eqb (tag_at b at) 1) 2 at
    ∷ refuse (not (eqb (tag_at b at) 3)) 6 at
    ∷ refuse (not (eqb (size_at b at) triple_length)) 7 at
    ∷ content_checks kind (row_in b at) at

-- the bytes of a head, of a triple field, of all rows' fields, of a book; a head of edition 2 ends with its rule set
unfoldable pub rules_bytes : ℕ → List ℕ
rules_bytes rules = cond (eqb (edition_for rules) second_edition) (rules ∷ []) []

unfoldable pub head_bytes : ℕ → ℕ → ℕ → List ℕ
head_bytes kind base rules = 1 ∷ 0 ∷ head_length_lem (edition_for rules) ∷ edition_for rules ∷ kind ∷ (two_bytes base ++ rules_bytes rules)

unfoldable pub field_bytes : Row → List ℕ
field_bytes r = 3 ∷ 0 ∷ triple_length ∷ (two_bytes r.s ++ (two_bytes r.p ++ (two_bytes r.o ++ eight_bytes r.a)))

unfoldable pub fields_bytes : List Row → List ℕ
fields_bytes [] = []
fields_bytes (r ∷ rs) = field_bytes r ++ fields_bytes rs

abbrev pub book_bytes : ℕ → ℕ → ℕ → List Row → List ℕ
book_bytes kind base rules rows = head_bytes kind base rules ++ fields_bytes rows

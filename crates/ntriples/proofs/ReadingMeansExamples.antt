-- Section X: makers' lists worked through, as theorems over `read_file` and `file_bytes`. Kind 1, annotation 7. Assumes nothing.
use mathlib.Core.Path.{◌≡◌, refl}
use mathlib.Core.List.{List, [], ◌∷◌}
use Prim.Native.Nat.{ℕ}
use lib.ListN.{replicate}
use Rattle.ground.specs.Lists.{Every}
use Rattle.table.specs.Rows.{row, Lanes, lanes, add_row}
use Rattle.names.specs.Names.{entry, NameLanes, lanes_of, text_in}
use Rattle.ntenter.specs.Line.{Read, refused, read_as}
use Rattle.ntread.specs.Reading.{lines_from, read_lines, read_file, ends_from}
use Rattle.ntriples.specs.Writing.{file_bytes}
use Rattle.term.specs.Refusal.{first}
use Rattle.annotation.specs.Kinds.{algebra, is_kind}
use Rattle.utf8.specs.Characters.{is_character_lem, one_octet, two_octets, three_octets, four_octets, char_bytes, text_bytes}
use Rattle.utf8.specs.Octets.{is_one_lem, is_two, is_three, is_four, character_of, character_in}
use Rattle.utf8.specs.Texts.{chars_from, chars_of}
use Rattle.names.specs.Five.{rdf_schema, rdf_syntax, five_text}
use Rattle.names.specs.Entering.{same_text_lem, lookup, count_of, first_of, bytes_of, five_number, lookup_five, entered_by}
use Rattle.ntwrite.specs.Written.{marked}
use Rattle.ntline.specs.Classes.{is_white_lem, is_alpha_lem, is_digit_lem, is_alnum_lem, is_hex_lem, hex_value, is_barred, is_iri_char_lem, is_string_char, is_base, is_name_start, is_name_char_lem, is_label_start_lem, is_scheme_char_lem}
use Rattle.ntline.specs.Escapes.{echar_of, opened_by, reckoned, shifted, hexed_by, fed_by, resolved}
use Rattle.ntline.specs.Lexing.{schemed, iri_goes, in_iri, quoted_goes, in_quoted, begun, in_label, step, kind_of, munched, token_of}
use Rattle.ntline.specs.Lines.{spaced, is_over, typed_of, literal_of, source_of, is_dotted, object_of, predicate_of, subject_of, line_of, up_to, inner, mark_of, meant_by, said_by}
use Rattle.nttext.specs.Texts.{canonical, canonical_bytes, mark_bytes, text_of_term, sort_of_term}

-- lanes of so many rows, and of so many entries and bytes
abbrev table : ℕ → Lanes
table n = lanes (replicate n 0) (replicate n 0) (replicate n 0) (replicate n 0)

abbrev list : ℕ → ℕ → NameLanes
list entries bytes = lanes_of (replicate entries 0) (replicate entries 0) (replicate bytes 0)

abbrev reads : List ℕ → Lanes → NameLanes → Read
reads file l n = read_file 1 7 file l n

abbrev file1 : List ℕ
file1 = 60 ∷ 109 ∷ 58 ∷ 108 ∷ 55 ∷ 62 ∷ 32 ∷ 60 ∷ 104 ∷ 116 ∷ 116 ∷ 112 ∷ 58 ∷ 47 ∷ 47 ∷ 119 ∷ 119 ∷ 119 ∷ 46 ∷ 119 ∷ 51 ∷ 46 ∷ 111 ∷ 114 ∷ 103 ∷ 47 ∷ 49 ∷ 57 ∷ 57 ∷ 57 ∷ 47 ∷ 48 ∷ 50 ∷ 47 ∷ 50 ∷ 50 ∷ 45 ∷ 114 ∷ 100 ∷ 102 ∷ 45 ∷ 115 ∷ 121 ∷ 110 ∷ 116 ∷ 97 ∷ 120 ∷ 45 ∷ 110 ∷ 115 ∷ 35 ∷ 116 ∷ 121 ∷ 112 ∷ 101 ∷ 62 ∷ 32 ∷ 60 ∷ 109 ∷ 58 ∷ 116 ∷ 97 ∷ 105 ∷ 108 ∷ 62 ∷ 32 ∷ 46 ∷ 32 ∷ 35 ∷ 32 ∷ 108 ∷ 97 ∷ 109 ∷ 112 ∷ 32 ∷ 55 ∷ 13 ∷ 10 ∷ 60 ∷ 109 ∷ 58 ∷ 116 ∷ 97 ∷ 105 ∷ 108 ∷ 62 ∷ 32 ∷ 60 ∷ 104 ∷ 116 ∷ 116 ∷ 112 ∷ 58 ∷ 47 ∷ 47 ∷ 119 ∷ 119 ∷ 119 ∷ 46 ∷ 119 ∷ 51 ∷ 46 ∷ 111 ∷ 114 ∷ 103 ∷ 47 ∷ 50 ∷ 48 ∷ 48 ∷ 48 ∷ 47 ∷ 48 ∷ 49 ∷ 47 ∷ 114 ∷ 100 ∷ 102 ∷ 45 ∷ 115 ∷ 99 ∷ 104 ∷ 101 ∷ 109 ∷ 97 ∷ 35 ∷ 115 ∷ 117 ∷ 98 ∷ 67 ∷ 108 ∷ 97 ∷ 115 ∷ 115 ∷ 79 ∷ 102 ∷ 62 ∷ 32 ∷ 60 ∷ 109 ∷ 58 ∷ 108 ∷ 97 ∷ 109 ∷ 112 ∷ 62 ∷ 32 ∷ 46 ∷ 10 ∷ []

abbrev file2 : List ℕ
file2 = 60 ∷ 109 ∷ 58 ∷ 97 ∷ 62 ∷ 32 ∷ 60 ∷ 109 ∷ 58 ∷ 112 ∷ 62 ∷ 32 ∷ 60 ∷ 109 ∷ 58 ∷ 122 ∷ 62 ∷ 32 ∷ 46 ∷ 10 ∷ 60 ∷ 109 ∷ 58 ∷ 97 ∷ 62 ∷ 32 ∷ 60 ∷ 104 ∷ 116 ∷ 116 ∷ 112 ∷ 58 ∷ 47 ∷ 47 ∷ 119 ∷ 119 ∷ 119 ∷ 46 ∷ 119 ∷ 51 ∷ 46 ∷ 111 ∷ 114 ∷ 103 ∷ 47 ∷ 49 ∷ 57 ∷ 57 ∷ 57 ∷ 47 ∷ 48 ∷ 50 ∷ 47 ∷ 50 ∷ 50 ∷ 45 ∷ 114 ∷ 100 ∷ 102 ∷ 45 ∷ 115 ∷ 121 ∷ 110 ∷ 116 ∷ 97 ∷ 120 ∷ 45 ∷ 110 ∷ 115 ∷ 35 ∷ 116 ∷ 121 ∷ 112 ∷ 101 ∷ 62 ∷ 32 ∷ 95 ∷ 58 ∷ 98 ∷ 32 ∷ 46 ∷ 10 ∷ 95 ∷ 58 ∷ 98 ∷ 32 ∷ 60 ∷ 109 ∷ 58 ∷ 112 ∷ 62 ∷ 32 ∷ 34 ∷ 120 ∷ 92 ∷ 117 ∷ 48 ∷ 48 ∷ 52 ∷ 49 ∷ 92 ∷ 116 ∷ 34 ∷ 64 ∷ 69 ∷ 78 ∷ 32 ∷ 46 ∷ 10 ∷ []

abbrev file3 : List ℕ
file3 = 60 ∷ 109 ∷ 58 ∷ 97 ∷ 62 ∷ 32 ∷ 60 ∷ 109 ∷ 58 ∷ 112 ∷ 62 ∷ 32 ∷ 34 ∷ 120 ∷ 34 ∷ 32 ∷ 46 ∷ 10 ∷ 60 ∷ 109 ∷ 58 ∷ 92 ∷ 117 ∷ 48 ∷ 48 ∷ 54 ∷ 49 ∷ 62 ∷ 32 ∷ 60 ∷ 109 ∷ 58 ∷ 112 ∷ 62 ∷ 32 ∷ 34 ∷ 120 ∷ 34 ∷ 94 ∷ 94 ∷ 60 ∷ 104 ∷ 116 ∷ 116 ∷ 112 ∷ 58 ∷ 47 ∷ 47 ∷ 119 ∷ 119 ∷ 119 ∷ 46 ∷ 119 ∷ 51 ∷ 46 ∷ 111 ∷ 114 ∷ 103 ∷ 47 ∷ 50 ∷ 48 ∷ 48 ∷ 49 ∷ 47 ∷ 88 ∷ 77 ∷ 76 ∷ 83 ∷ 99 ∷ 104 ∷ 101 ∷ 109 ∷ 97 ∷ 35 ∷ 115 ∷ 116 ∷ 114 ∷ 105 ∷ 110 ∷ 103 ∷ 62 ∷ 32 ∷ 46 ∷ []

abbrev file4 : List ℕ
file4 = 60 ∷ 109 ∷ 58 ∷ 97 ∷ 62 ∷ 32 ∷ 60 ∷ 109 ∷ 58 ∷ 112 ∷ 62 ∷ 32 ∷ 60 ∷ 109 ∷ 58 ∷ 98 ∷ 62 ∷ 32 ∷ 46 ∷ 10 ∷ 60 ∷ 109 ∷ 58 ∷ 97 ∷ 62 ∷ 32 ∷ 60 ∷ 109 ∷ 58 ∷ 112 ∷ 62 ∷ 32 ∷ 60 ∷ 109 ∷ 58 ∷ 99 ∷ 62 ∷ 32 ∷ 46 ∷ []

abbrev file5 : List ℕ
file5 = 60 ∷ 109 ∷ 58 ∷ 97 ∷ 62 ∷ 32 ∷ 60 ∷ 109 ∷ 58 ∷ 112 ∷ 62 ∷ 32 ∷ 60 ∷ 109 ∷ 58 ∷ 98 ∷ 62 ∷ 32 ∷ 46 ∷ 10 ∷ 32 ∷ 32 ∷ 60 ∷ 109 ∷ 58 ∷ 97 ∷ 62 ∷ 32 ∷ 60 ∷ 109 ∷ 58 ∷ 112 ∷ 62 ∷ 32 ∷ 60 ∷ 109 ∷ 58 ∷ 92 ∷ 117 ∷ 48 ∷ 48 ∷ 50 ∷ 48 ∷ 62 ∷ 32 ∷ 46 ∷ []

abbrev written2 : List ℕ
written2 = 60 ∷ 109 ∷ 58 ∷ 97 ∷ 62 ∷ 32 ∷ 60 ∷ 104 ∷ 116 ∷ 116 ∷ 112 ∷ 58 ∷ 47 ∷ 47 ∷ 119 ∷ 119 ∷ 119 ∷ 46 ∷ 119 ∷ 51 ∷ 46 ∷ 111 ∷ 114 ∷ 103 ∷ 47 ∷ 49 ∷ 57 ∷ 57 ∷ 57 ∷ 47 ∷ 48 ∷ 50 ∷ 47 ∷ 50 ∷ 50 ∷ 45 ∷ 114 ∷ 100 ∷ 102 ∷ 45 ∷ 115 ∷ 121 ∷ 110 ∷ 116 ∷ 97 ∷ 120 ∷ 45 ∷ 110 ∷ 115 ∷ 35 ∷ 116 ∷ 121 ∷ 112 ∷ 101 ∷ 62 ∷ 32 ∷ 95 ∷ 58 ∷ 98 ∷ 32 ∷ 46 ∷ 10 ∷ 60 ∷ 109 ∷ 58 ∷ 97 ∷ 62 ∷ 32 ∷ 60 ∷ 109 ∷ 58 ∷ 112 ∷ 62 ∷ 32 ∷ 60 ∷ 109 ∷ 58 ∷ 122 ∷ 62 ∷ 32 ∷ 46 ∷ 10 ∷ 95 ∷ 58 ∷ 98 ∷ 32 ∷ 60 ∷ 109 ∷ 58 ∷ 112 ∷ 62 ∷ 32 ∷ 34 ∷ 120 ∷ 65 ∷ 9 ∷ 34 ∷ 64 ∷ 69 ∷ 78 ∷ 32 ∷ 46 ∷ 10 ∷ []

-- <m:l7> <T> <m:tail> . # lamp 7 CR LF <m:tail> <SC> <m:lamp> . LF
abbrev comment-and_eols : Type 0
comment-and_eols = reads file1 (table 4) (list 8 64) ≡ read_as (entry 5 (109 ∷ 58 ∷ 108 ∷ 55 ∷ []) ∷ entry 6 (109 ∷ 58 ∷ 116 ∷ 97 ∷ 105 ∷ 108 ∷ []) ∷ entry 7 (109 ∷ 58 ∷ 108 ∷ 97 ∷ 109 ∷ 112 ∷ []) ∷ []) (row 5 2 6 7 ∷ row 6 1 7 7 ∷ [])

-- its ends
abbrev ends-of_three : Type 0
ends-of_three = ends_from 0 (entry 5 (109 ∷ 58 ∷ 108 ∷ 55 ∷ []) ∷ entry 6 (109 ∷ 58 ∷ 116 ∷ 97 ∷ 105 ∷ 108 ∷ []) ∷ entry 7 (109 ∷ 58 ∷ 108 ∷ 97 ∷ 109 ∷ 112 ∷ []) ∷ []) ≡ 4 ∷ 10 ∷ 16 ∷ []

-- <m:a> <m:p> <m:z> . LF <m:a> <T> _:b . LF _:b <m:p> "x\u0041\t"@EN . LF
abbrev all_sorts : Type 0
all_sorts = reads file2 (table 4) (list 8 64) ≡ read_as (entry 5 (109 ∷ 58 ∷ 97 ∷ []) ∷ entry 6 (109 ∷ 58 ∷ 112 ∷ []) ∷ entry 7 (109 ∷ 58 ∷ 122 ∷ []) ∷ entry 16384 (98 ∷ []) ∷ entry 32768 (34 ∷ 120 ∷ 65 ∷ 9 ∷ 34 ∷ 64 ∷ 69 ∷ 78 ∷ []) ∷ []) (row 5 2 16384 7 ∷ row 5 6 7 7 ∷ row 16384 6 32768 7 ∷ [])

-- its ends
abbrev ends-of_five : Type 0
ends-of_five = ends_from 0 (entry 5 (109 ∷ 58 ∷ 97 ∷ []) ∷ entry 6 (109 ∷ 58 ∷ 112 ∷ []) ∷ entry 7 (109 ∷ 58 ∷ 122 ∷ []) ∷ entry 16384 (98 ∷ []) ∷ entry 32768 (34 ∷ 120 ∷ 65 ∷ 9 ∷ 34 ∷ 64 ∷ 69 ∷ 78 ∷ []) ∷ []) ≡ 3 ∷ 6 ∷ 9 ∷ 10 ∷ 18 ∷ []

-- written: <m:a> <T> _:b . LF <m:a> <m:p> <m:z> . LF _:b <m:p> "xATAB"@EN . LF
abbrev all_sorts_written : Type 0
all_sorts_written = file_bytes (entry 5 (109 ∷ 58 ∷ 97 ∷ []) ∷ entry 6 (109 ∷ 58 ∷ 112 ∷ []) ∷ entry 7 (109 ∷ 58 ∷ 122 ∷ []) ∷ entry 16384 (98 ∷ []) ∷ entry 32768 (34 ∷ 120 ∷ 65 ∷ 9 ∷ 34 ∷ 64 ∷ 69 ∷ 78 ∷ []) ∷ []) (row 5 2 16384 7 ∷ row 5 6 7 7 ∷ row 16384 6 32768 7 ∷ []) ≡ written2

-- and read back
abbrev all_sorts_again : Type 0
all_sorts_again = reads written2 (table 4) (list 8 64) ≡ read_as (entry 5 (109 ∷ 58 ∷ 97 ∷ []) ∷ entry 16384 (98 ∷ []) ∷ entry 6 (109 ∷ 58 ∷ 112 ∷ []) ∷ entry 7 (109 ∷ 58 ∷ 122 ∷ []) ∷ entry 32768 (34 ∷ 120 ∷ 65 ∷ 9 ∷ 34 ∷ 64 ∷ 69 ∷ 78 ∷ []) ∷ []) (row 5 2 16384 7 ∷ row 5 6 7 7 ∷ row 16384 6 32768 7 ∷ [])

-- <m:a> <m:p> "x" . LF <m:\u0061> <m:p> "x"^^<xsd:string> .
abbrev one-text : Type 0
one-text = reads file3 (table 4) (list 8 64) ≡ read_as (entry 5 (109 ∷ 58 ∷ 97 ∷ []) ∷ entry 6 (109 ∷ 58 ∷ 112 ∷ []) ∷ entry 32768 (34 ∷ 120 ∷ 34 ∷ []) ∷ []) (row 5 6 32768 7 ∷ [])

-- <m:a> <m:p> <m:b> . LF <m:a> <m:p> <m:c> .: 3 entries lent
abbrev few-entries : Type 0
few-entries = reads file4 (table 4) (list 3 64) ≡ refused 27 20

-- a byte of text too few
abbrev few_bytes : Type 0
few_bytes = reads file4 (table 4) (list 8 11) ≡ refused 27 20

-- just enough of all
abbrev just_enough : Type 0
just_enough = reads file4 (table 2) (list 4 12) ≡ read_as (entry 5 (109 ∷ 58 ∷ 97 ∷ []) ∷ entry 6 (109 ∷ 58 ∷ 112 ∷ []) ∷ entry 7 (109 ∷ 58 ∷ 98 ∷ []) ∷ entry 8 (109 ∷ 58 ∷ 99 ∷ []) ∷ []) (row 5 6 7 7 ∷ row 5 6 8 7 ∷ [])

-- 1 row lent
abbrev few-rows : Type 0
few-rows = reads file4 (table 1) (list 8 64) ≡ refused 12 20

-- both
abbrev few-of_both : Type 0
few-of_both = reads file4 (table 1) (list 3 64) ≡ refused 27 20

-- <m:a> <m:p> <m:b> . LF   <m:a> <m:p> <m:\u0020> .: whatever the room
abbrev blank-through_escape : Type 0
blank-through_escape = reads file5 (table 4) (list 8 64) ≡ refused 26 20

-- no room for what it would need
abbrev blank-without_room : Type 0
blank-without_room = reads file5 (table 1) (list 3 64) ≡ refused 26 20

abbrev examples : List (Type 0)
examples =
    comment-and_eols
    ∷ ends-of_three
    ∷ all_sorts
    ∷ ends-of_five
    ∷ all_sorts_written
    ∷ all_sorts_again
    ∷ one-text
    ∷ few-entries
    ∷ few_bytes
    ∷ just_enough
    ∷ few-rows
    ∷ few-of_both
    ∷ blank-through_escape
    ∷ blank-without_room
    ∷ []

pub examples-hold : Every examples
unfolding first algebra is_kind is_character_lem one_octet two_octets three_octets four_octets char_bytes text_bytes is_one_lem is_two is_three is_four character_of character_in chars_from chars_of rdf_schema rdf_syntax five_text text_in same_text_lem lookup count_of first_of bytes_of five_number lookup_five entered_by marked is_white_lem is_alpha_lem is_digit_lem is_alnum_lem is_hex_lem hex_value is_barred is_iri_char_lem is_string_char is_base is_name_start is_name_char_lem is_label_start_lem is_scheme_char_lem echar_of opened_by reckoned shifted hexed_by fed_by resolved schemed iri_goes in_iri quoted_goes in_quoted begun in_label step kind_of munched token_of spaced is_over typed_of literal_of source_of is_dotted object_of predicate_of subject_of line_of up_to inner mark_of meant_by said_by canonical canonical_bytes mark_bytes text_of_term sort_of_term lines_from read_lines read_file ends_from file_bytes add_row
examples-hold =
    (refl, (refl, (refl, (refl, (refl, (refl, (refl, (refl, (refl, (refl, (refl, (refl, (refl, (refl, tt))))))))))))))

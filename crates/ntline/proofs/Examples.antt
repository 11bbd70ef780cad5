-- Lines as theorems over the definitions. Assumes nothing.
use mathlib.Core.Path.{◌≡◌, refl}
use mathlib.Core.List.{[], ◌∷◌}
use Rattle.utf8.specs.Characters.{is_character_lem}
use Rattle.ntline.specs.Classes.{is_white_lem, is_alpha_lem, is_digit_lem, is_alnum_lem, is_hex_lem, hex_value, is_barred, is_iri_char_lem, is_base, is_name_start, is_name_char_lem, is_label_start_lem, is_scheme_char_lem}
use Rattle.ntline.specs.Grammar.{Said, Sort, Term}
use Rattle.ntline.specs.Escapes.{echar_of, opened_by, reckoned, shifted, hexed_by, fed_by, resolved}
use Rattle.ntline.specs.Lexing.{schemed, iri_goes, in_iri, quoted_goes, in_quoted, begun, in_label, step, kind_of, munched, token_of}
use Rattle.ntline.specs.Lines.{spaced, is_over, typed_of, literal_of, source_of, is_dotted, object_of, predicate_of, subject_of, line_of, up_to, inner, mark_of, meant_by, wrong, heard, said_by}

-- escapes and a tag: <m:a> <m:p> "x\u0041\t"@EN .
says-escapes : said_by (line_of (60 ∷ 109 ∷ 58 ∷ 97 ∷ 62 ∷ 32 ∷ 60 ∷ 109 ∷ 58 ∷ 112 ∷ 62 ∷ 32 ∷ 34 ∷ 120 ∷ 92 ∷ 117 ∷ 48 ∷ 48 ∷ 52 ∷ 49 ∷ 92 ∷ 116 ∷ 34 ∷ 64 ∷ 69 ∷ 78 ∷ 32 ∷ 46 ∷ [])) ≡ heard (Said.says (Term.name (109 ∷ 58 ∷ 97 ∷ [])) (Term.name (109 ∷ 58 ∷ 112 ∷ [])) (Term.literal (120 ∷ 65 ∷ 9 ∷ []) (Sort.tagged (69 ∷ 78 ∷ []))))
unfolding is_character_lem is_white_lem is_alpha_lem is_digit_lem is_alnum_lem is_hex_lem hex_value is_barred is_iri_char_lem is_base is_name_start is_name_char_lem is_label_start_lem is_scheme_char_lem echar_of opened_by reckoned shifted hexed_by fed_by resolved schemed iri_goes in_iri quoted_goes in_quoted begun in_label step kind_of munched token_of spaced is_over typed_of literal_of source_of is_dotted object_of predicate_of subject_of line_of up_to inner mark_of meant_by said_by
says-escapes = refl

-- the same IRI through an escape, no white space: <m:\u0061><m:p>"x"^^<m:t>.
says-spelling : said_by (line_of (60 ∷ 109 ∷ 58 ∷ 92 ∷ 117 ∷ 48 ∷ 48 ∷ 54 ∷ 49 ∷ 62 ∷ 60 ∷ 109 ∷ 58 ∷ 112 ∷ 62 ∷ 34 ∷ 120 ∷ 34 ∷ 94 ∷ 94 ∷ 60 ∷ 109 ∷ 58 ∷ 116 ∷ 62 ∷ 46 ∷ [])) ≡ heard (Said.says (Term.name (109 ∷ 58 ∷ 97 ∷ [])) (Term.name (109 ∷ 58 ∷ 112 ∷ [])) (Term.literal (120 ∷ []) (Sort.typed (109 ∷ 58 ∷ 116 ∷ []))))
unfolding is_character_lem is_white_lem is_alpha_lem is_digit_lem is_alnum_lem is_hex_lem hex_value is_barred is_iri_char_lem is_base is_name_start is_name_char_lem is_label_start_lem is_scheme_char_lem echar_of opened_by reckoned shifted hexed_by fed_by resolved schemed iri_goes in_iri quoted_goes in_quoted begun in_label step kind_of munched token_of spaced is_over typed_of literal_of source_of is_dotted object_of predicate_of subject_of line_of up_to inner mark_of meant_by said_by
says-spelling = refl

-- a label with a dot in it, and the line's dot behind one; a comment: _:b.c <m:p> _:d. # lamp
says-label : said_by (line_of (95 ∷ 58 ∷ 98 ∷ 46 ∷ 99 ∷ 32 ∷ 60 ∷ 109 ∷ 58 ∷ 112 ∷ 62 ∷ 32 ∷ 95 ∷ 58 ∷ 100 ∷ 46 ∷ 32 ∷ 35 ∷ 32 ∷ 108 ∷ 97 ∷ 109 ∷ 112 ∷ [])) ≡ heard (Said.says (Term.blank (98 ∷ 46 ∷ 99 ∷ [])) (Term.name (109 ∷ 58 ∷ 112 ∷ [])) (Term.blank (100 ∷ [])))
unfolding is_character_lem is_white_lem is_alpha_lem is_digit_lem is_alnum_lem is_hex_lem hex_value is_barred is_iri_char_lem is_base is_name_start is_name_char_lem is_label_start_lem is_scheme_char_lem echar_of opened_by reckoned shifted hexed_by fed_by resolved schemed iri_goes in_iri quoted_goes in_quoted begun in_label step kind_of munched token_of spaced is_over typed_of literal_of source_of is_dotted object_of predicate_of subject_of line_of up_to inner mark_of meant_by said_by
says-label = refl

-- a comment:  # lamp 7
says-comment : said_by (line_of (32 ∷ 35 ∷ 32 ∷ 108 ∷ 97 ∷ 109 ∷ 112 ∷ 32 ∷ 55 ∷ [])) ≡ heard Said.nothing
unfolding is_character_lem is_white_lem is_alpha_lem is_digit_lem is_alnum_lem is_hex_lem hex_value is_barred is_iri_char_lem is_base is_name_start is_name_char_lem is_label_start_lem is_scheme_char_lem echar_of opened_by reckoned shifted hexed_by fed_by resolved schemed iri_goes in_iri quoted_goes in_quoted begun in_label step kind_of munched token_of spaced is_over typed_of literal_of source_of is_dotted object_of predicate_of subject_of line_of up_to inner mark_of meant_by said_by
says-comment = refl

-- a blank through an escape in an IRI:   <m:a> <m:p> <m:\u0020> .
says-blank_through_escape : said_by (line_of (32 ∷ 32 ∷ 60 ∷ 109 ∷ 58 ∷ 97 ∷ 62 ∷ 32 ∷ 60 ∷ 109 ∷ 58 ∷ 112 ∷ 62 ∷ 32 ∷ 60 ∷ 109 ∷ 58 ∷ 92 ∷ 117 ∷ 48 ∷ 48 ∷ 50 ∷ 48 ∷ 62 ∷ 32 ∷ 46 ∷ [])) ≡ wrong
unfolding is_character_lem is_white_lem is_alpha_lem is_digit_lem is_alnum_lem is_hex_lem hex_value is_barred is_iri_char_lem is_base is_name_start is_name_char_lem is_label_start_lem is_scheme_char_lem echar_of opened_by reckoned shifted hexed_by fed_by resolved schemed iri_goes in_iri quoted_goes in_quoted begun in_label step kind_of munched token_of spaced is_over typed_of literal_of source_of is_dotted object_of predicate_of subject_of line_of up_to inner mark_of meant_by said_by
says-blank_through_escape = refl

-- a surrogate through an escape: <m:a> <m:p> "\uD800" .
says-surrogate : said_by (line_of (60 ∷ 109 ∷ 58 ∷ 97 ∷ 62 ∷ 32 ∷ 60 ∷ 109 ∷ 58 ∷ 112 ∷ 62 ∷ 32 ∷ 34 ∷ 92 ∷ 117 ∷ 68 ∷ 56 ∷ 48 ∷ 48 ∷ 34 ∷ 32 ∷ 46 ∷ [])) ≡ wrong
unfolding is_character_lem is_white_lem is_alpha_lem is_digit_lem is_alnum_lem is_hex_lem hex_value is_barred is_iri_char_lem is_base is_name_start is_name_char_lem is_label_start_lem is_scheme_char_lem echar_of opened_by reckoned shifted hexed_by fed_by resolved schemed iri_goes in_iri quoted_goes in_quoted begun in_label step kind_of munched token_of spaced is_over typed_of literal_of source_of is_dotted object_of predicate_of subject_of line_of up_to inner mark_of meant_by said_by
says-surrogate = refl

-- a relative IRI: <m:a> <p> <m:b> .
says-relative : said_by (line_of (60 ∷ 109 ∷ 58 ∷ 97 ∷ 62 ∷ 32 ∷ 60 ∷ 112 ∷ 62 ∷ 32 ∷ 60 ∷ 109 ∷ 58 ∷ 98 ∷ 62 ∷ 32 ∷ 46 ∷ [])) ≡ wrong
unfolding is_character_lem is_white_lem is_alpha_lem is_digit_lem is_alnum_lem is_hex_lem hex_value is_barred is_iri_char_lem is_base is_name_start is_name_char_lem is_label_start_lem is_scheme_char_lem echar_of opened_by reckoned shifted hexed_by fed_by resolved schemed iri_goes in_iri quoted_goes in_quoted begun in_label step kind_of munched token_of spaced is_over typed_of literal_of source_of is_dotted object_of predicate_of subject_of line_of up_to inner mark_of meant_by said_by
says-relative = refl

-- a literal as subject: "x" <m:p> <m:b> .
says-subject : said_by (line_of (34 ∷ 120 ∷ 34 ∷ 32 ∷ 60 ∷ 109 ∷ 58 ∷ 112 ∷ 62 ∷ 32 ∷ 60 ∷ 109 ∷ 58 ∷ 98 ∷ 62 ∷ 32 ∷ 46 ∷ [])) ≡ wrong
unfolding is_character_lem is_white_lem is_alpha_lem is_digit_lem is_alnum_lem is_hex_lem hex_value is_barred is_iri_char_lem is_base is_name_start is_name_char_lem is_label_start_lem is_scheme_char_lem echar_of opened_by reckoned shifted hexed_by fed_by resolved schemed iri_goes in_iri quoted_goes in_quoted begun in_label step kind_of munched token_of spaced is_over typed_of literal_of source_of is_dotted object_of predicate_of subject_of line_of up_to inner mark_of meant_by said_by
says-subject = refl

-- two triples in a line: <m:a> <m:p> <m:b> . <m:a> <m:p> <m:c> .
says-twice : said_by (line_of (60 ∷ 109 ∷ 58 ∷ 97 ∷ 62 ∷ 32 ∷ 60 ∷ 109 ∷ 58 ∷ 112 ∷ 62 ∷ 32 ∷ 60 ∷ 109 ∷ 58 ∷ 98 ∷ 62 ∷ 32 ∷ 46 ∷ 32 ∷ 60 ∷ 109 ∷ 58 ∷ 97 ∷ 62 ∷ 32 ∷ 60 ∷ 109 ∷ 58 ∷ 112 ∷ 62 ∷ 32 ∷ 60 ∷ 109 ∷ 58 ∷ 99 ∷ 62 ∷ 32 ∷ 46 ∷ [])) ≡ wrong
unfolding is_character_lem is_white_lem is_alpha_lem is_digit_lem is_alnum_lem is_hex_lem hex_value is_barred is_iri_char_lem is_base is_name_start is_name_char_lem is_label_start_lem is_scheme_char_lem echar_of opened_by reckoned shifted hexed_by fed_by resolved schemed iri_goes in_iri quoted_goes in_quoted begun in_label step kind_of munched token_of spaced is_over typed_of literal_of source_of is_dotted object_of predicate_of subject_of line_of up_to inner mark_of meant_by said_by
says-twice = refl

-- a dot too many: <m:a> <m:p> _:d..
says-dots : said_by (line_of (60 ∷ 109 ∷ 58 ∷ 97 ∷ 62 ∷ 32 ∷ 60 ∷ 109 ∷ 58 ∷ 112 ∷ 62 ∷ 32 ∷ 95 ∷ 58 ∷ 100 ∷ 46 ∷ 46 ∷ [])) ≡ wrong
unfolding is_character_lem is_white_lem is_alpha_lem is_digit_lem is_alnum_lem is_hex_lem hex_value is_barred is_iri_char_lem is_base is_name_start is_name_char_lem is_label_start_lem is_scheme_char_lem echar_of opened_by reckoned shifted hexed_by fed_by resolved schemed iri_goes in_iri quoted_goes in_quoted begun in_label step kind_of munched token_of spaced is_over typed_of literal_of source_of is_dotted object_of predicate_of subject_of line_of up_to inner mark_of meant_by said_by
says-dots = refl

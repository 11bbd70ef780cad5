-- The character classes of RDF 1.1 N-Triples, section 7. A character is its number.
use Rattle.std.specs.Prelude.{Bool, not, cond, ◌&&◌, ◌||◌, ℕ, ◌-◌, eqb, leb}
use Rattle.utf8.specs.Characters.{within, is_character_lem}

-- "White space (tab U+0009 or space U+0020)"
unfoldable pub is_white_lem : ℕ → Bool
is_white_lem c = eqb c 0x20 || eqb c 0x9

-- [a-zA-Z]
unfoldable pub is_alpha_lem : ℕ → Bool
is_alpha_lem c = within 0x61 0x7A c || within 0x41 0x5A c

-- [0-9]
unfoldable pub is_digit_lem : ℕ → Bool
is_digit_lem c = within 0x30 0x39 c

-- [a-zA-Z0-9]
unfoldable pub is_alnum_lem : ℕ → Bool
is_alnum_lem c = is_alpha_lem c || is_digit_lem c

-- HEX ::= [0-9] | [A-F] | [a-f]
unfoldable pub is_hex_lem : ℕ → Bool
is_hex_lem c = is_digit_lem c || (within 0x41 0x46 c || within 0x61 0x66 c)

-- what a HEX stands for: 0 to 9, and A to F in either case 10 to 15
unfoldable pub hex_value : ℕ → ℕ
hex_value c = cond (is_digit_lem c) (c - 0x30) (cond (within 0x41 0x46 c) (c - 0x37) (c - 0x57))

-- the nine of IRIREF's [^#x00-#x20<>"{}|^`\]
unfoldable pub is_barred : ℕ → Bool
is_barred c =
    eqb c 0x3C || eqb c 0x3E || eqb c 0x22 || eqb c 0x7B || eqb c 0x7D || eqb c 0x7C || eqb c 0x5E || eqb c 0x60 || eqb c 0x5C

-- [^#x00-#x20<>"{}|^`\]
unfoldable pub is_iri_char_lem : ℕ → Bool
is_iri_char_lem c = is_character_lem c && (leb 0x21 c && not (is_barred c))

-- [^#x22#x5C#xA#xD]
unfoldable pub is_string_char : ℕ → Bool
is_string_char c = is_character_lem c && not (eqb c 0x22 || eqb c 0x5C || eqb c 0xA || eqb c 0xD)

-- PN_CHARS_BASE ::= [A-Z] | [a-z] | [#xC0-#xD6] | [#xD8-#xF6] | [#xF8-#x2FF] | [#x370-#x37D] | [#x37F-#x1FFF] | [#x200C-#x200D]
--   | [#x2070-#x218F] | [#x2C00-#x2FEF] | [#x3001-#xD7FF] | [#xF900-#xFDCF] | [#xFDF0-#xFFFD] | [#x10000-#xEFFFF]
unfoldable pub is_base : ℕ → Bool
is_base c =
    is_alpha_lem c
    || within 0xC0 0xD6 c
    || within 0xD8 0xF6 c
    || within 0xF8 0x2FF c
    || within 0x370 0x37D c
    || within 0x37F 0x1FFF c
    || within 0x200C 0x200D c
    || within 0x2070 0x218F c
    || within 0x2C00 0x2FEF c
    || within 0x3001 0xD7FF c
    || within 0xF900 0xFDCF c
    || within 0xFDF0 0xFFFD c
    || within 0x10000 0xEFFFF c

-- PN_CHARS_U ::= PN_CHARS_BASE | '_' | ':'
unfoldable pub is_name_start : ℕ → Bool
is_name_start c = is_base c || (eqb c 0x5F || eqb c 0x3A)

-- PN_CHARS ::= PN_CHARS_U | '-' | [0-9] | #xB7 | [#x300-#x36F] | [#x203F-#x2040]
unfoldable pub is_name_char_lem : ℕ → Bool
is_name_char_lem c = is_name_start c || (eqb c 0x2D || is_digit_lem c || eqb c 0xB7 || within 0x300 0x36F c || within 0x203F 0x2040 c)

-- PN_CHARS_U | [0-9], a label's first
unfoldable pub is_label_start_lem : ℕ → Bool
is_label_start_lem c = is_name_start c || is_digit_lem c

-- a scheme's characters behind its first letter: letters, digits, '+', '-', '.' (RFC 3986, 3.1)
unfoldable pub is_scheme_char_lem : ℕ → Bool
is_scheme_char_lem c = is_alnum_lem c || (eqb c 0x2B || eqb c 0x2D || eqb c 0x2E)

-- RFC 3629, section 3: which numbers are characters, and the octets of a character. A text is a list of characters.
use Rattle.std.specs.Prelude.{Bool, cond, ◌&&◌, ◌||◌, List, [], ◌∷◌, ◌++◌, ℕ, ◌+◌, ◌/◌, ◌%◌, leb}

abbrev pub within : ℕ → ℕ → ℕ → Bool
within low high x = leb low x && leb x high

-- "characters from the U+0000..U+10FFFF range"; it "prohibits encoding character numbers between U+D800 and U+DFFF"
unfoldable pub is_character_lem : ℕ → Bool
is_character_lem c = within 0 0xD7FF c || within 0xE000 0x10FFFF c

-- 0000 0000-0000 007F   0xxxxxxx
unfoldable pub one_octet : ℕ → List ℕ
one_octet c = c ∷ []

-- 0000 0080-0000 07FF   110xxxxx 10xxxxxx
unfoldable pub two_octets : ℕ → List ℕ
two_octets c = (0xC0 + c / 64) ∷ (0x80 + c % 64) ∷ []

-- 0000 0800-0000 FFFF   1110xxxx 10xxxxxx 10xxxxxx
unfoldable pub three_octets : ℕ → List ℕ
three_octets c = (0xE0 + c / 4096) ∷ (0x80 + c / 64 % 64) ∷ (0x80 + c % 64) ∷ []

-- 0001 0000-0010 FFFF   11110xxx 10xxxxxx 10xxxxxx 10xxxxxx
unfoldable pub four_octets : ℕ → List ℕ
four_octets c = (0xF0 + c / 262144) ∷ (0x80 + c / 4096 % 64) ∷ (0x80 + c / 64 % 64) ∷ (0x80 + c % 64) ∷ []

-- the table of section 3, line by line
unfoldable pub char_bytes : ℕ → List ℕ
char_bytes c = cond (leb c 0x7F) (one_octet c) (cond (leb c 0x7FF) (two_octets c) (cond (leb c 0xFFFF) (three_octets c) (four_octets c)))

unfoldable pub text_bytes : List ℕ → List ℕ
text_bytes [] = []
text_bytes (c ∷ cs) = char_bytes c ++ text_bytes cs

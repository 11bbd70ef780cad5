-- RFC 3629, section 4: which octets are a character. Each rule of its grammar in its words, and the number that the octets give.
use Rattle.std.specs.Prelude.{Bool, cond, ◌&&◌, ◌||◌, List, ℕ, ◌+◌, ◌-◌, ◌*◌, leb, length, get_or, Option, Some, None}
use Rattle.std.proofs.Math.Seq.{slice}
use Rattle.utf8.specs.declared.Character.{Character}
use Rattle.utf8.specs.Characters.{within}

-- UTF8-tail = %x80-BF
abbrev pub is_tail : ℕ → Bool
is_tail x = within 0x80 0xBF x

-- UTF8-1 = %x00-7F
unfoldable pub is_one_lem : ℕ → Bool
is_one_lem x = within 0 0x7F x

-- UTF8-2 = %xC2-DF UTF8-tail
unfoldable pub is_two : ℕ → ℕ → Bool
is_two x y = within 0xC2 0xDF x && is_tail y

-- UTF8-3 = %xE0 %xA0-BF UTF8-tail / %xE1-EC 2( UTF8-tail ) / %xED %x80-9F UTF8-tail / %xEE-EF 2( UTF8-tail )
unfoldable pub is_three : ℕ → ℕ → ℕ → Bool
is_three x y z =
    (within 0xE0 0xE0 x && (within 0xA0 0xBF y && is_tail z))
    || ((within 0xE1 0xEC x && (is_tail y && is_tail z))
    || ((within 0xED 0xED x && (within 0x80 0x9F y && is_tail z))
    || (within 0xEE 0xEF x && (is_tail y && is_tail z))))

-- UTF8-4 = %xF0 %x90-BF 2( UTF8-tail ) / %xF1-F3 3( UTF8-tail ) / %xF4 %x80-8F 2( UTF8-tail )
unfoldable pub is_four : ℕ → ℕ → ℕ → ℕ → Bool
is_four x y z w =
    (within 0xF0 0xF0 x && (within 0x90 0xBF y && (is_tail z && is_tail w)))
    || ((within 0xF1 0xF3 x && (is_tail y && (is_tail z && is_tail w)))
    || (within 0xF4 0xF4 x && (within 0x80 0x8F y && (is_tail z && is_tail w))))

-- "Distribute the bits from the sequence to the character number"
abbrev pub two_number : ℕ → ℕ → ℕ
two_number x y = (x - 0xC0) * 64 + (y - 0x80)

abbrev pub three_number : ℕ → ℕ → ℕ → ℕ
three_number x y z = (x - 0xE0) * 4096 + (y - 0x80) * 64 + (z - 0x80)

abbrev pub four_number : ℕ → ℕ → ℕ → ℕ → ℕ
four_number x y z w = (x - 0xF0) * 262144 + (y - 0x80) * 4096 + (z - 0x80) * 64 + (w - 0x80)

-- a character's number, and how many octets it has
abbrev pub whole : ℕ → ℕ → Option Character
whole number size = Some (record { number = number; size = size })

-- UTF8-char = UTF8-1 / UTF8-2 / UTF8-3 / UTF8-4, of so many octets left
unfoldable pub character_of : ℕ → ℕ → ℕ → ℕ → ℕ → Option Character
character_of left x y z w =
    cond (leb 1 left && is_one_lem x) (whole x 1)
    (cond (leb 2 left && is_two x y) (whole (two_number x y) 2)
    (cond (leb 3 left && is_three x y z) (whole (three_number x y z) 3)
    (cond (leb 4 left && is_four x y z w) (whole (four_number x y z w) 4)
    None)))

-- the character that octets begin with, with how many of them it has; None where they begin with none
unfoldable pub character_in : List ℕ → Option Character
character_in s = character_of (length s) (get_or s 0 0) (get_or s 1 0) (get_or s 2 0) (get_or s 3 0)

-- of the octets from `at` up to, not including, `end`
abbrev pub character_at : List ℕ → ℕ → ℕ → Option Character
character_at b at end = character_in (slice at end b)

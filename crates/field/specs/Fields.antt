-- "Fields: tag (1 byte), length (2 bytes, high byte first), value."
use Rattle.std.specs.Prelude.{Bool, cond, ◌||◌, List, ℕ, ◌+◌, length, get_or, leb, ltb}
use Rattle.field.specs.declared.Field.{Field}
use Rattle.field.specs.declared.Field.TheVariants.{End, Cut, Whole}
use Rattle.field.specs.Numbers.{two_at}

abbrev pub tag_at : List ℕ → ℕ → ℕ
tag_at b at = get_or b at 0

abbrev pub size_at : List ℕ → ℕ → ℕ
size_at b at = two_at b (at + 1)

-- where the next field begins: behind tag, length and value
abbrev pub behind : List ℕ → ℕ → ℕ
behind b at = at + 3 + size_at b at

-- the bytes end inside the field: in its tag and length, or in its value
abbrev pub is_cut_lem : List ℕ → ℕ → Bool
is_cut_lem b at = ltb (length b) (at + 3) || ltb (length b) (behind b at)

-- what stands at a position: nothing more, a field that is cut, or a whole one with its tag and length
unfoldable pub field_at_lem : List ℕ → ℕ → Field
field_at_lem b at = cond (leb (length b) at) End (cond (is_cut_lem b at) Cut (Whole (tag_at b at) (size_at b at)))

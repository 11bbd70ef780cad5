-- RFC 3629, section 4: UTF8-octets = *( UTF8-char ). The characters of octets, and which octets are a text.
use Rattle.std.specs.Prelude.{◌≡◌, Bool, true, false, ◌&&◌, List, [], ◌∷◌, ℕ, suc, zero, ◌≤◌, ◌<◌, length, drop, Option, Some, None}
use Rattle.std.proofs.Math.Seq.{slice}
use Rattle.ground.specs.Lists.{All}
use Rattle.utf8.specs.declared.Character.{Character}
use Rattle.utf8.specs.Characters.{is_character_lem, char_bytes}
use Rattle.utf8.specs.Octets.{character_in}

-- no character; it stands for all that is left where none begins
abbrev pub bad : ℕ
bad = 0x110000

abbrev pub front : Option Character → (ℕ → List ℕ) → List ℕ
front (Some c) rest = c.number ∷ rest c.size
front None rest = bad ∷ []

-- so many characters at most
unfoldable pub chars_from : ℕ → List ℕ → List ℕ
chars_from zero s = []
chars_from (suc most) [] = []
chars_from (suc most) (x ∷ xs) = front (character_in (x ∷ xs)) (λ size. chars_from most (drop size (x ∷ xs)))

-- each character has one octet or more
unfoldable pub chars_of : List ℕ → List ℕ
chars_of s = chars_from (length s) s

unfoldable pub are_characters : List ℕ → Bool
are_characters [] = true
are_characters (c ∷ cs) = is_character_lem c && are_characters cs

unfoldable pub is_text_lem : List ℕ → Bool
is_text_lem s = are_characters (chars_of s)

-- the characters of b from `at` up to, not including, `end`
abbrev pub seen : List ℕ → ℕ → ℕ → List ℕ
seen b at end = chars_of (slice at end b)

abbrev pub AllCharacters : List ℕ → Type 0
AllCharacters cs = All (λ c. is_character_lem c ≡ true) cs

-- the first character from `at` on, and where the next begins
pub record SeenAt (b : List ℕ) (at end value next : ℕ) : Type 0 where
  pub later : at < next
  pub within : next ≤ end
  pub small : value ≤ bad
  pub here : seen b at end ≡ value ∷ seen b next end
  pub whole : is_character_lem value ≡ true → slice at next b ≡ char_bytes value
  pub or_bad : is_character_lem value ≡ false → (value ≡ bad) × (next ≡ end)

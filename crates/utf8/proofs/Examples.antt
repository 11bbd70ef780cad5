-- The RFC's worked examples (section 7), and octets that are none. Assumes nothing.
use mathlib.Core.Path.{◌≡◌, refl}
use mathlib.Core.List.{List, [], ◌∷◌}
use Prim.Native.Nat.{ℕ}
use Rattle.utf8.specs.Octets.{is_one_lem, is_two, is_three, is_four, character_of, character_in}
use Rattle.utf8.specs.Texts.{bad, chars_from, chars_of}

record Example : Type 0 where
  octets : List ℕ
  characters : List ℕ

abbrev of : List ℕ → List ℕ → Example
of octets characters = record { octets = octets; characters = characters }

abbrev Hold : List Example → Type 0
Hold [] = Unit {0}
Hold (e ∷ es) = (chars_of e.octets ≡ e.characters) × Hold es

abbrev examples : List Example
examples =
    of (0x41 ∷ 0xE2 ∷ 0x89 ∷ 0xA2 ∷ 0xCE ∷ 0x91 ∷ 0x2E ∷ []) (0x41 ∷ 0x2262 ∷ 0x391 ∷ 0x2E ∷ [])
    ∷ of (0xED ∷ 0x95 ∷ 0x9C ∷ 0xEA ∷ 0xB5 ∷ 0xAD ∷ 0xEC ∷ 0x96 ∷ 0xB4 ∷ []) (0xD55C ∷ 0xAD6D ∷ 0xC5B4 ∷ [])
    ∷ of (0xE6 ∷ 0x97 ∷ 0xA5 ∷ 0xE6 ∷ 0x9C ∷ 0xAC ∷ 0xE8 ∷ 0xAA ∷ 0x9E ∷ []) (0x65E5 ∷ 0x672C ∷ 0x8A9E ∷ [])
    ∷ of (0xEF ∷ 0xBB ∷ 0xBF ∷ 0xF0 ∷ 0xA3 ∷ 0x8E ∷ 0xB4 ∷ []) (0xFEFF ∷ 0x233B4 ∷ [])
    ∷ of (0 ∷ 0x7F ∷ 0xC2 ∷ 0x80 ∷ 0xDF ∷ 0xBF ∷ 0xE0 ∷ 0xA0 ∷ 0x80 ∷ []) (0 ∷ 0x7F ∷ 0x80 ∷ 0x7FF ∷ 0x800 ∷ [])
    ∷ of (0xEF ∷ 0xBF ∷ 0xBF ∷ 0xF0 ∷ 0x90 ∷ 0x80 ∷ 0x80 ∷ 0xF4 ∷ 0x8F ∷ 0xBF ∷ 0xBF ∷ []) (0xFFFF ∷ 0x10000 ∷ 0x10FFFF ∷ [])
    -- overlong, as in section 10: C0 80 for NUL, and 2F 2E 2E 2F hidden
    ∷ of (0xC0 ∷ 0x80 ∷ []) (bad ∷ [])
    ∷ of (0x2F ∷ 0xC0 ∷ 0xAE ∷ 0x2E ∷ 0x2F ∷ []) (0x2F ∷ bad ∷ [])
    ∷ of (0xE0 ∷ 0x80 ∷ 0x80 ∷ []) (bad ∷ [])
    -- the pair of surrogates of section 3, above 10FFFF, a lone tail, cut
    ∷ of (0xED ∷ 0xA1 ∷ 0x8C ∷ 0xED ∷ 0xBE ∷ 0xB4 ∷ []) (bad ∷ [])
    ∷ of (0xF4 ∷ 0x90 ∷ 0x80 ∷ 0x80 ∷ []) (bad ∷ [])
    ∷ of (0x41 ∷ 0x80 ∷ []) (0x41 ∷ bad ∷ [])
    ∷ of (0x41 ∷ 0xE2 ∷ 0x89 ∷ []) (0x41 ∷ bad ∷ [])
    ∷ []

pub examples-hold : Hold examples
unfolding is_one_lem is_two is_three is_four character_of character_in chars_from chars_of
examples-hold = (refl, (refl, (refl, (refl, (refl, (refl, (refl, (refl, (refl, (refl, (refl, (refl, (refl, tt)))))))))))))

-- Escapes, a character at a time: a character stands for itself, or is one more of an escape, which then gives its character.
use Rattle.std.specs.Prelude.{cond, List, [], ◌∷◌, ℕ, ◌+◌, ◌-◌, ◌*◌, eqb, leb}
use Rattle.utf8.specs.Characters.{is_character_lem}
use Rattle.utf8.specs.Texts.{bad}
use Rattle.ntline.specs.declared.escapes.Fed.{Fed}
use Rattle.ntline.specs.Classes.{is_hex_lem, hex_value}

-- nothing yet: the escape goes on
abbrev pub part : ℕ
part = 0x110001

-- how many HEX are left (0: no escape; 9: behind its backslash), the number so far, and the character given, `part` or `bad`
abbrev pub fed : ℕ → ℕ → ℕ → Fed
fed left value out = record { left = left; value = value; out = out }

-- ECHAR ::= '\' [tbnrf"'\]
unfoldable pub echar_of : ℕ → ℕ
echar_of c =
    cond (eqb c 0x74) 0x9
    (cond (eqb c 0x62) 0x8
    (cond (eqb c 0x6E) 0xA
    (cond (eqb c 0x72) 0xD
    (cond (eqb c 0x66) 0xC
    (cond (eqb c 0x22) 0x22
    (cond (eqb c 0x27) 0x27
    (cond (eqb c 0x5C) 0x5C bad)))))))

-- UCHAR ::= '\u' HEX HEX HEX HEX | '\U' HEX HEX HEX HEX HEX HEX HEX HEX
unfoldable pub opened_by : ℕ → Fed
opened_by c = cond (eqb c 0x75) (fed 4 0 part) (cond (eqb c 0x55) (fed 8 0 part) (fed 0 0 (echar_of c)))

-- the last HEX gives a character, or the escape is bad
unfoldable pub reckoned : ℕ → ℕ → Fed
reckoned left number = cond (eqb left 1) (fed 0 0 (cond (is_character_lem number) number bad)) (fed (left - 1) number part)

-- one HEX more; a number past the last character only grows
unfoldable pub shifted : ℕ → ℕ → ℕ
shifted value digit = cond (leb value 0x10FFFF) (cond (leb digit 15) (value * 16 + digit) bad) bad

unfoldable pub hexed_by : ℕ → ℕ → ℕ → Fed
hexed_by left value c = cond (is_hex_lem c) (reckoned left (shifted value (hex_value c))) (fed 0 0 bad)

-- outside an escape: a character stands for itself, or a backslash begins one
abbrev pub outside_by : ℕ → Fed
outside_by c = cond (eqb c 0x5C) (fed 9 0 part) (fed 0 0 (cond (eqb c part) bad c))

unfoldable pub fed_by : ℕ → ℕ → ℕ → Fed
fed_by left value c = cond (eqb left 0) (outside_by c) (cond (eqb left 9) (opened_by c) (hexed_by left value c))

-- what is given, if anything, before the rest
abbrev pub given : ℕ → List ℕ → List ℕ
given out rest = cond (eqb out part) rest (out ∷ rest)

-- an escape that has given its character is over
abbrev pub kept : ℕ → ℕ → ℕ
kept out x = cond (eqb out part) x 0

-- the characters of a source, its escapes resolved
unfoldable pub resolved : ℕ → ℕ → List ℕ → List ℕ
resolved left value [] = []
resolved left value (c ∷ cs) =
    let f = fed_by left value c in
    given f.out (resolved (kept f.out f.left) (kept f.out f.value) cs)

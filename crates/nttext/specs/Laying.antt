-- The text of a term as it is laid down from its source, a character at a time.
use Rattle.std.specs.Prelude.{Bool, true, false, cond, List, [], ◌∷◌, ◌++◌, ℕ, eqb, drop}
use Rattle.utf8.specs.Characters.{char_bytes}
use Rattle.ntline.specs.Classes.{is_white_lem}
use Rattle.ntline.specs.Escapes.{part, fed_by, kept}
use Rattle.ntline.specs.Lines.{Source, up_to, inner}
use Rattle.names.specs.Entering.{same_text_lem}
use Rattle.nttext.specs.Texts.{canonical, xsd_string}

-- white space stands in a text only between quotes
abbrev pub is_dropped : Bool → ℕ → Bool
is_dropped quoted c = cond quoted false (is_white_lem c)

-- a character by itself as it stands, one that an escape gave in canonical form
abbrev pub unit_bytes : Bool → ℕ → ℕ → List ℕ
unit_bytes quoted left out =
    cond (eqb out part) [] (cond (eqb left 0) (cond (is_dropped quoted out) [] (char_bytes out)) (canonical out))

unfoldable pub laid : Bool → ℕ → ℕ → List ℕ → List ℕ
laid quoted left value [] = []
laid quoted left value (c ∷ cs) =
    let f = fed_by left value c in
    unit_bytes quoted left f.out ++ laid quoted (kept f.out f.left) (kept f.out f.value) cs

-- "^^<http://www.w3.org/2001/XMLSchema#string>"
abbrev pub xsd_mark : List ℕ
xsd_mark = 0x5E ∷ 0x5E ∷ 0x3C ∷ (xsd_string ++ (0x3E ∷ []))

-- what a literal has behind its string: nothing for xsd:string
abbrev pub tail_bytes : List ℕ → List ℕ
tail_bytes cs = let text = laid false 0 0 cs in cond (same_text_lem text xsd_mark) [] text

-- the text of a source: to be shown equal to the text of the term that it means
unfoldable pub laid_text : Source → List ℕ
laid_text s =
    let front = up_to s.from s.to in
    cond (eqb s.sort 0) (laid false 0 0 (inner front))
    (cond (eqb s.sort 1) (laid false 0 0 (drop 2 front))
    (laid true 0 0 front ++ tail_bytes (up_to s.to s.tail)))

-- How large the numbers are that reading gives: a place within the file, and no more rows and names than there is room for. Assumes nothing.
use mathlib.Core.Path.{◌≡◌, refl}
use mathlib.Core.Bool.{Bool, true, false, cond}
use mathlib.Core.List.{List, [], ◌∷◌, ◌++◌}
use Prim.Native.Nat.{ℕ, suc, ◌+◌, ◌≤◌}
use native.Mathlib.Omega.{arith}
use lib.Dec.{leb, ltb}
use lib.ListN.{length, length-append}
use borrow.Author.Tests.{ltb-true, ltb-false}
use Rattle.annotation.specs.Kinds.{algebra}
use Rattle.table.specs.Rows.{Row, row, add_row}
use Rattle.ntline.specs.Grammar.{Said, Term}
use Rattle.ntline.specs.Lines.{Heard, line_of, said_by}
use Rattle.utf8.specs.Texts.{chars_of}
use Rattle.names.specs.Names.{Entry, entry}
use Rattle.names.specs.Entering.{Lookup, known, has_room_lem, answer_of, entered_by, next_of, bytes_of}
use Rattle.names.proofs.Same.{both_true}
use Rattle.nttext.specs.Texts.{text_of_term, sort_of_term}
use Rattle.ntenter.specs.Line.{Read, Room, refused, when_entered, enter_term, when_room, add_triple, read_line}
use Rattle.ntread.specs.Reading.{LineAt, line_at, is_eol, begins_line, longer, lines_from, read_lines}

pub record Bounded (most : ℕ) (room : Room) (r : Read) : Type 0 where
  pub place : r.verdict_of.place ≤ most
  pub rows : length r.rows ≤ room.rows
  pub entries : length r.entries ≤ room.entries

pub refused-bounded : (most : ℕ) (room : Room) (number place : ℕ) → place ≤ most → Bounded most room (refused number place)
refused-bounded most room number place h = record { place = h; rows = omega arith; entries = omega arith }

module _ (most : ℕ) (room : Room) (place : ℕ) (low : place ≤ most) where
  enter_bounded : (es : List Entry) (t : Term) (next : ℕ → List Entry → Read) → length es ≤ room.entries
      → ((n : ℕ) (fs : List Entry) → length fs ≤ room.entries → Bounded most room (next n fs)) → Bounded most room (enter_term room place es t next)
  unfolding entered_by
  enter_bounded es t next few on = go (known es (sort_of_term t) (text_of_term t)) (has_room_lem room.entries room.bytes es (text_of_term t)) refl
    where
      go : (k : Lookup) (b : Bool) → has_room_lem room.entries room.bytes es (text_of_term t) ≡ b
          → Bounded most room (when_entered place es (text_of_term t) (answer_of k b (next_of es (sort_of_term t))) next)
      go (Lookup.number n) b e = on n es few
      go Lookup.none true e =
          let p = both_true (ltb (length es) room.entries) (leb (bytes_of es + length (text_of_term t)) room.bytes) e in
          let q = ltb-true (length es) room.entries p.0 in
          on (next_of es (sort_of_term t)) (es ++ (entry (next_of es (sort_of_term t)) (text_of_term t) ∷ [])) (let c = length-append es (entry (next_of es (sort_of_term t)) (text_of_term t) ∷ []) in omega arith)
      go Lookup.none false e = refused-bounded most room 27 place low

  add_bounded : (kind a s p o : ℕ) (rows : List Row) (next : List Row → Read)
      → ((more : List Row) → length more ≤ room.rows → Bounded most room (next more)) → Bounded most room (add_triple kind a room place s p o rows next)
  add_bounded kind a s p o rows next on = go (ltb room.rows (length (add_row (algebra kind) (row s p o a) rows))) refl
    where
      go : (t : Bool) → ltb room.rows (length (add_row (algebra kind) (row s p o a) rows)) ≡ t → Bounded most room (when_room t place (λ _. next (add_row (algebra kind) (row s p o a) rows)))
      go true e = refused-bounded most room 12 place low
      go false e = on (add_row (algebra kind) (row s p o a) rows) (ltb-false room.rows (length (add_row (algebra kind) (row s p o a) rows)) e)

  line-bounded : (kind a : ℕ) (heard : Heard) (es : List Entry) (rows : List Row) (next : List Entry → List Row → Read) → length es ≤ room.entries → length rows ≤ room.rows
      → ((fs : List Entry) (more : List Row) → length fs ≤ room.entries → length more ≤ room.rows → Bounded most room (next fs more)) → Bounded most room (read_line kind a room place heard es rows next)
  line-bounded kind a Heard.wrong es rows next few Low-rows on = refused-bounded most room 26 place low
  line-bounded kind a (Heard.heard Said.nothing) es rows next few Low-rows on = on es rows few Low-rows
  line-bounded kind a (Heard.heard (Said.says s p o)) es rows next few Low-rows on =
      enter_bounded es s _ few (λ x es₁ f₁. enter_bounded es₁ p _ f₁ (λ y es₂ f₂. enter_bounded es₂ o _ f₂ (λ z es₃ f₃. add_bounded kind a x y z rows _ (λ more g. on es₃ more f₃ g))))

abbrev pub AllPlaces : ℕ → List LineAt → Type 0
AllPlaces most [] = Unit {0}
AllPlaces most (l ∷ ls) = (l.place ≤ most) × AllPlaces most ls

pub lines_bounded : (most : ℕ) (room : Room) (kind a : ℕ) (ls : List LineAt) (es : List Entry) (rows : List Row) → AllPlaces most ls → length es ≤ room.entries → length rows ≤ room.rows
    → Bounded most room (read_lines kind a room ls es rows)
unfolding read_lines
lines_bounded most room kind a [] es rows low few Low-rows = record { place = omega arith; rows = Low-rows; entries = few }
lines_bounded most room kind a (l ∷ ls) es rows low few Low-rows =
    line-bounded most room l.place low.0 kind a (said_by (line_of (chars_of l.bytes))) es rows (λ es₁ rows₁. read_lines kind a room ls es₁ rows₁) few Low-rows
    (λ fs more f g. lines_bounded most room kind a ls fs more low.1 f g)

-- every line begins within the file
pub places_within : (at : ℕ) (b : List ℕ) → AllPlaces (at + length b) (lines_from at b)
unfolding lines_from
places_within at [] = tt
places_within at (x ∷ xs) = go (is_eol x) (begins_line xs) (lines_from (suc at) xs) (let r = places_within (suc at) xs in let e : suc at + length xs ≡ at + suc (length xs) = omega arith in rw e at r)
  where
    go : (t u : Bool) (more : List LineAt) → AllPlaces (at + suc (length xs)) more
        → AllPlaces (at + suc (length xs)) (cond t more (cond u (longer at x more) (line_at at (x ∷ []) ∷ more)))
    go true u more h = h
    go false true [] h = (omega arith, tt)
    go false true (l ∷ ls) h = (omega arith, h.1)
    go false false more h = (omega arith, h)

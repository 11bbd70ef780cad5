-- Bit by bit, for every kind of which bits can be read: two tables whose lines of a bit agree have closures that agree there; and a line that has not the bit
-- leaves all of that bit as it is. For kind 1 a bit is a year, for kind 5 a combination of sheets. The same for degrees of at least u, kind 3. Assumes nothing.
use mathlib.Core.Path.{◌≡◌, refl, sym, ◌∙◌}
use mathlib.Core.Bool.{Bool, true, false, ◌||◌}
use mathlib.Core.List.{List}
use Prim.Native.Nat.{ℕ, ◌-◌, ◌≤◌, ◌<◌}
use native.Mathlib.Omega.{arith}
use lib.Dec.{leb}
use Rattle.annotation.specs.Kinds.{algebra}
use Rattle.annotation.proofs.KindLaws.{laws}
use Rattle.table.specs.Rows.{Row, add_row}
use Rattle.table.specs.Sound.{LegalRow, SoundRows}
use Rattle.table.proofs.Values.{triple_of, legal-small, all_legal_small}
use Rattle.table.proofs.Putting.{sound-add}
use Rattle.rhodf.specs.Graph.{graph_of}
use Rattle.rhodf.specs.Rules.{Rules}
use Rattle.rhodf.specs.Closure.{ClosureOf}
use Rattle.rhodf.specs.Plain.{ExactlyDrawn, Agree, has_bit, in_year, YearOf}
use Rattle.rhodf.proofs.Growing.{at_each}
use Rattle.rhodf.proofs.Drawing.{KeepLegal}
use Rattle.rhodf.proofs.Deciding.{Decided}
use Rattle.rhodf.proofs.YearByYear.{exactly_drawn, closures_agree}
use Rattle.rhodf.proofs.Readings.{ReadsBits, years-read, degree-reads}

or_false : (b : Bool) → b || false ≡ b
or_false true = refl
or_false false = refl

module _ (R : Rules) (keeps : KeepLegal R) (decided : Decided R) where
  module _ (kind : ℕ) (reads : ReadsBits kind) where
    pub bit_exactly_drawn : (k : ℕ) → k < 64 → (rows closed : List Row) → SoundRows kind rows → ClosureOf kind R rows closed → ExactlyDrawn R (has_bit k) rows closed
    bit_exactly_drawn k h = exactly_drawn R keeps decided kind (has_bit k) (reads k h)

    pub bits_agree : (k k' : ℕ) → k < 64 → k' < 64 → (rows rows' closed closed' : List Row) → SoundRows kind rows → SoundRows kind rows'
        → ClosureOf kind R rows closed → ClosureOf kind R rows' closed'
        → Agree (has_bit k) (has_bit k') rows rows' → Agree (has_bit k) (has_bit k') closed closed'
    bits_agree k k' h h' = closures_agree R keeps decided kind kind (has_bit k) (has_bit k') (reads k h) (reads k' h')

    pub other-lines_stay : (k : ℕ) → k < 64 → (r : Row) (rows closed closed' : List Row) → LegalRow kind r → SoundRows kind rows → has_bit k r.a ≡ false
        → ClosureOf kind R rows closed → ClosureOf kind R (add_row (algebra kind) r rows) closed' → Agree (has_bit k) (has_bit k) closed closed'
    other-lines_stay k h r rows closed closed' legal sound other c c' =
        bits_agree k k h h rows (add_row (algebra kind) r rows) closed closed' sound (sound-add kind r rows legal sound) c c'
        (at_each (algebra kind) (laws kind) r rows (legal-small legal) (all_legal_small kind rows sound.legal) sound.ascending
        (λ t a. has_bit k (graph_of rows t) ≡ has_bit k a)
        (sym ((reads k h).of_join (graph_of rows (triple_of r)) r.a ∙ rw other (or_false (has_bit k (graph_of rows (triple_of r))))))
        (λ t. refl))

  -- a year, of books of two base years
  pub years-agree : (base base' year : ℕ) → YearOf base year → YearOf base' year
      → (rows rows' closed closed' : List Row) → SoundRows 1 rows → SoundRows 1 rows' → ClosureOf 1 R rows closed → ClosureOf 1 R rows' closed'
      → Agree (in_year base year) (in_year base' year) rows rows' → Agree (in_year base year) (in_year base' year) closed closed'
  years-agree base base' year y y' =
      bits_agree 1 years-read (year - base) (year - base')
      (omega (arith, y.from_base, y.in_64))
      (omega (arith, y'.from_base, y'.in_64))

  -- a line of a degree under u can't disturb what holds to u
  pub degrees_agree : (u : ℕ) → u ≤ 1000 → (rows rows' closed closed' : List Row) → SoundRows 3 rows → SoundRows 3 rows'
      → ClosureOf 3 R rows closed → ClosureOf 3 R rows' closed'
      → Agree (λ a. leb u a) (λ a. leb u a) rows rows' → Agree (λ a. leb u a) (λ a. leb u a) closed closed'
  degrees_agree u h = closures_agree R keeps decided 3 3 (λ a. leb u a) (λ a. leb u a) (degree-reads u h) (degree-reads u h)

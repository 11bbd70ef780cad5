-- Year by year, of calls of `close` that are done: what a test reads in what they leave is what the plain rules draw from the lines it reads in what came;
-- two tables of one rule set whose lines agree are closed to tables that agree, whatever their lanes and rooms. Assumes nothing.
use mathlib.Core.Path.{◌≡◌}
use mathlib.Core.Bool.{Bool}
use Prim.Native.Nat.{ℕ, ◌-◌, ◌<◌}
use native.Mathlib.Omega.{arith}
use Rattle.annotation.specs.Kinds.{algebra}
use Rattle.table.specs.Rows.{Lanes, rows_of}
use Rattle.table.proofs.Soundness.{sound-list}
use Rattle.rhodf.specs.Rules.{rules_of}
use Rattle.rhodf.specs.Closure.{ClosureOf}
use Rattle.rhodf.specs.Plain.{Reads, ExactlyDrawn, Agree, has_bit, in_year, YearOf}
use Rattle.rhodf.proofs.Growing.{rows-valued}
use Rattle.rhodf.proofs.SetsDecided.{set-keeps_legal, set_decided}
use Rattle.rhodf.proofs.YearByYear.{exactly_drawn, closures_agree}
use Rattle.rhodf.proofs.Readings.{ReadsBits, years-read, sheets-read}
use Rattle.closing.specs.Closing.{Closing}
use Rattle.closing.proofs.CloseCloses.{was_sound, close_closes}

-- a call of `close` that is done: what came, and what it left
pub record Done (kind rules : ℕ) (l : Lanes) (n : ℕ) (m : Lanes) (count : ℕ) : Type 0 where
  pub number : ℕ
  pub place : ℕ
  pub answered : Closing kind rules l n m number place count
  -- "if both closures fit their rooms"
  pub fits : number ≡ 0

module _ {kind rules : ℕ} {l : Lanes} {n : ℕ} {m : Lanes} {count : ℕ} (d : Done kind rules l n m count) where
  done : Closing kind rules l n m 0 d.place count
  done = rw d.fits at d.answered

  -- it left the closure
  left-closed : ClosureOf kind (rules_of rules) (rows_of l n) (rows_of m count)
  left-closed =
      let c = close_closes kind rules l n m d.place count done in
      record {
        sound = sound-list c.sound;
        is_least = record {
          valued = rows-valued kind (rows_of m count) (sound-list c.sound);
          is_closed = c.is_closed;
          holds = c.holds;
          least = c.least;
        };
      }

  -- "exactly when that triple is one of the lines of that year or the plain rules, without annotations, draw it from them"
  pub close_exactly_drawn : (test : ℕ → Bool) → Reads (algebra kind) test → ExactlyDrawn (rules_of rules) test (rows_of l n) (rows_of m count)
  close_exactly_drawn test reads =
      exactly_drawn (rules_of rules) (set-keeps_legal rules) (set_decided rules) kind test reads (rows_of l n) (rows_of m count)
      (sound-list (was_sound kind rules l n m d.place count done))
      left-closed

module _ {kind rules : ℕ} {l : Lanes} {n : ℕ} {m : Lanes} {count : ℕ} (d : Done kind rules l n m count)
    {kind' : ℕ} {l' : Lanes} {n' : ℕ} {m' : Lanes} {count' : ℕ} (d' : Done kind' rules l' n' m' count') where
  pub closings_agree : (test test' : ℕ → Bool) → Reads (algebra kind) test → Reads (algebra kind') test'
      → Agree test test' (rows_of l n) (rows_of l' n') → Agree test test' (rows_of m count) (rows_of m' count')
  closings_agree test test' reads reads' =
      closures_agree (rules_of rules) (set-keeps_legal rules) (set_decided rules) kind kind' test test' reads reads' (rows_of l n) (rows_of l' n') (rows_of m count) (rows_of m' count')
      (sound-list (was_sound kind rules l n m d.place count (done d)))
      (sound-list (was_sound kind' rules l' n' m' d'.place count' (done d')))
      (left-closed d)
      (left-closed d')

-- a kind of which bits can be read: bit k of the one table and bit k' of the other
module _ {kind rules : ℕ} (reads : ReadsBits kind) where
  pub bit_exactly_drawn : {l : Lanes} {n : ℕ} {m : Lanes} {count : ℕ} → Done kind rules l n m count → (k : ℕ) → k < 64
      → ExactlyDrawn (rules_of rules) (has_bit k) (rows_of l n) (rows_of m count)
  bit_exactly_drawn d k h = close_exactly_drawn d (has_bit k) (reads k h)

  pub closed-bits_agree : {l : Lanes} {n : ℕ} {m : Lanes} {count : ℕ} → Done kind rules l n m count
      → {l' : Lanes} {n' : ℕ} {m' : Lanes} {count' : ℕ} → Done kind rules l' n' m' count' → (k k' : ℕ) → k < 64 → k' < 64
      → Agree (has_bit k) (has_bit k') (rows_of l n) (rows_of l' n') → Agree (has_bit k) (has_bit k') (rows_of m count) (rows_of m' count')
  closed-bits_agree d d' k k' h h' = closings_agree d d' (has_bit k) (has_bit k') (reads k h) (reads k' h')

-- kind 1: a year, of two books of one base year or of two
pub year_exactly_drawn : {rules : ℕ} {l : Lanes} {n : ℕ} {m : Lanes} {count : ℕ} → Done 1 rules l n m count → (k : ℕ) → k < 64
    → ExactlyDrawn (rules_of rules) (has_bit k) (rows_of l n) (rows_of m count)
year_exactly_drawn = bit_exactly_drawn years-read

pub closed-years_agree : {rules : ℕ} {l : Lanes} {n : ℕ} {m : Lanes} {count : ℕ} → Done 1 rules l n m count
    → {l' : Lanes} {n' : ℕ} {m' : Lanes} {count' : ℕ} → Done 1 rules l' n' m' count' → (base base' year : ℕ) → YearOf base year → YearOf base' year
    → Agree (in_year base year) (in_year base' year) (rows_of l n) (rows_of l' n') → Agree (in_year base year) (in_year base' year) (rows_of m count) (rows_of m' count')
closed-years_agree d d' base base' year y y' =
    closed-bits_agree years-read d d' (year - base) (year - base')
    (omega (arith, y.from_base, y.in_64))
    (omega (arith, y'.from_base, y'.in_64))

-- kind 5: "the same statement, combination by combination"
pub combination_exactly_drawn : {rules : ℕ} {l : Lanes} {n : ℕ} {m : Lanes} {count : ℕ} → Done 5 rules l n m count → (k : ℕ) → k < 64
    → ExactlyDrawn (rules_of rules) (has_bit k) (rows_of l n) (rows_of m count)
combination_exactly_drawn = bit_exactly_drawn sheets-read

pub closed-combinations_agree : {rules : ℕ} {l : Lanes} {n : ℕ} {m : Lanes} {count : ℕ} → Done 5 rules l n m count
    → {l' : Lanes} {n' : ℕ} {m' : Lanes} {count' : ℕ} → Done 5 rules l' n' m' count' → (k : ℕ) → k < 64
    → Agree (has_bit k) (has_bit k) (rows_of l n) (rows_of l' n') → Agree (has_bit k) (has_bit k) (rows_of m count) (rows_of m' count')
closed-combinations_agree d d' k h = closed-bits_agree sheets-read d d' k k h h

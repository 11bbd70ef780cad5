-- The counter's `main`, in words: it takes what stands next from the input, lets `open` or `answer` lay the text for it, and writes that text,
-- until it is told that this was all.
use Rattle.std.specs.Prelude.{true, false, List, [], ◌∷◌, ◌++◌, ℕ, suc, ◌+◌, ◌*◌, take, drop}
use Rattle.table.specs.Rows.{Lanes, rows_of}
use Rattle.counter.specs.Turns.{Opening, Turned}

-- a length and as many bytes as it says, or what there is
abbrev pub reach : List ℕ → ℕ
reach [] = 0
reach (high ∷ []) = 1
reach (high ∷ low ∷ rest) = suc (suc (high * 256 + low))

abbrev pub front : List ℕ → List ℕ
front s = take (reach s) s

abbrev pub behind : List ℕ → List ℕ
behind s = drop (reach s) s

pub data Answers (looks kind rules : ℕ) : Lanes → ℕ → List ℕ → List ℕ → Type 0 where
  last_turn : {l : Lanes} {n : ℕ} {s text : List ℕ} (m : Lanes) (count : ℕ) → Turned looks kind rules (rows_of l n) (front s) true m count text
      → Answers looks kind rules l n s text
  one_turn : {l : Lanes} {n : ℕ} {s text more : List ℕ} (m : Lanes) (count : ℕ) → Turned looks kind rules (rows_of l n) (front s) false m count text
      → Answers looks kind rules m count (behind s) more → Answers looks kind rules l n s (text ++ more)

pub data Runs (looks : ℕ) : List ℕ → List ℕ → Type 0 where
  book_alone : {s text : List ℕ} (kind rules : ℕ) (m : Lanes) (count : ℕ) → Opening (front s) true kind rules m count text → Runs looks s text
  book_first : {s text more : List ℕ} (kind rules : ℕ) (m : Lanes) (count : ℕ) → Opening (front s) false kind rules m count text
      → Answers looks kind rules m count (behind s) more → Runs looks s (text ++ more)

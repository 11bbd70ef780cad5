-- A text in lent bytes.
use Rattle.std.specs.Prelude.{◌≡◌, List, ◌++◌, ℕ, ◌+◌, ◌*◌, ◌≤◌, length, take, drop}
use Rattle.ground.specs.Lists.{tab, each}
use Rattle.field.specs.Numbers.{written}
use Rattle.printing.specs.Text.{asked_line, answer_line}

-- so many are no more than there are, and as many as the first so many
abbrev pub IsPrefixLen : ℕ → List ℕ → Type 0
IsPrefixLen n xs = (n ≤ length xs) × (n ≡ length (take n xs))

-- the bytes from `at` on hold the text
abbrev pub Fits : List ℕ → ℕ → List ℕ → Type 0
Fits out at text = at + length text ≤ length out

-- the text laid from `at` on, and where it ends
pub record Laid (out out' : List ℕ) (at end : ℕ) (text : List ℕ) : Type 0 where
  pub bytes_are : out' ≡ written out at text
  pub end_is : end ≡ at + length text

-- and no longer than `most`
pub record LaidWithin (out out' : List ℕ) (at end : ℕ) (text : List ℕ) (most : ℕ) : Type 0 where
  pub laid : Laid out out' at end text
  pub within : length text ≤ most

-- the first `size` bytes are such a text, and those behind it stay as they were
pub record Fronted (Text : List ℕ → Type 0) (out out' : List ℕ) (size : ℕ) : Type 0 where
  pub counts : IsPrefixLen size out'
  pub text_is : Text (take size out')
  pub rest_stays : drop size out' ≡ drop size out

-- an answer in the answer lanes, "16 terms and 8 annotations a row"; and the first count answers
abbrev pub answer_at : List ℕ → List ℕ → ℕ → List ℕ
answer_at terms anns i = answer_line (take 16 (drop (i * 16) terms)) (take 8 (drop (i * 8) anns))

abbrev pub answers_in : List ℕ → List ℕ → ℕ → List ℕ
answers_in terms anns count = each (answer_at terms anns) (tab count (λ i. i))

abbrev pub asked_in : ℕ → ℕ → ℕ → List ℕ → List ℕ → ℕ → List ℕ
asked_in number place looks terms anns count = asked_line number place count looks ++ answers_in terms anns count

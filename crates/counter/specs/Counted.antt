-- What the counter prints for its input: a book, then questions to the end.
use Rattle.std.specs.Prelude.{◌≡◌, cond, List, [], ◌∷◌, ◌++◌, ℕ, ◌+◌, ◌*◌, ◌≤◌, ◌<◌, length, take, drop, ltb}
use Rattle.ground.specs.Lists.{each}
use Rattle.annotation.specs.Kinds.{algebra}
use Rattle.table.specs.Rows.{Row}
use Rattle.rhodf.specs.Rules.{rules_of}
use Rattle.rhodf.specs.Closure.{ClosureOf}
use Rattle.question.specs.Compiling.{Final, steps, refused, compiling}
use Rattle.answers.specs.declared.bindings.Bindings.{Bindings}
use Rattle.machine.specs.Trace.{trace_of}
use Rattle.machine.specs.Bounded.{Outcome, nothing, bounded}
use Rattle.trackvesper.specs.ClosedBook.{said}
use Rattle.printing.specs.Text.{refused_line, asked_line, answer_line}

-- "book and questions each behind a length (2 bytes, high first)": what stands next in the input
pub data Next : Type 0 where
  -- nothing any more
  ended : Next
  -- one byte of a length, or fewer bytes than the length says
  cut : Next
  -- the bytes behind the length, and the input behind them
  whole : List ℕ → List ℕ → Next

abbrev pub behind_length : ℕ → List ℕ → Next
behind_length n rest = cond (ltb (length rest) n) cut (whole (take n rest) (drop n rest))

abbrev pub next : List ℕ → Next
next [] = ended
next (high ∷ []) = cut
next (high ∷ low ∷ rest) = behind_length (high * 256 + low) rest

-- what a question comes to over a table's rows, with so many looks allowed: what the run of its steps gives, or its refusal. "It allows 256 rows"
abbrev pub of_steps : ℕ → List Row → ℕ → Final → Outcome
of_steps kind rows looks (steps st) = bounded looks 256 (trace_of (algebra kind) rows st)
of_steps kind rows looks (refused number place) = nothing number place

abbrev pub comes_to : ℕ → List Row → ℕ → List ℕ → Outcome
comes_to kind rows looks q = of_steps kind rows looks (compiling kind q 48)

-- "`asked NUMBER PLACE COUNT LOOKS` and, a line each, the answers' 16 terms and 8 annotations"
abbrev pub line_of : Bindings → List ℕ
line_of b = answer_line b.terms b.anns

abbrev pub asked_lines : Outcome → List ℕ
asked_lines o = asked_line o.number o.place (length o.given) o.looks ++ each line_of o.given

-- "then questions to the end": the text for the input behind the book, over a table of these rows, closed under the book's rule set
pub data Asks (looks kind rules : ℕ) : List Row → List ℕ → List ℕ → Type 0 where
  no_more : {rows : List Row} {s : List ℕ} → next s ≡ ended → Asks looks kind rules rows s []
  -- "Input cut short prints `refused 1 0`"
  cut_short : {rows : List Row} {s : List ℕ} → next s ≡ cut → Asks looks kind rules rows s (refused_line 1 0)
  -- "a refused .. closing prints `refused` too and ends it": no room for 1,024 rows
  no_room : {rows : List Row} {s : List ℕ} (q rest : List ℕ) (closed : List Row) → next s ≡ whole q rest → ClosureOf kind (rules_of rules) rows closed → 1024 < length closed
      → Asks looks kind rules rows s (refused_line 12 0)
  -- "before each question it closes the table, then prints .."
  asks : {rows : List Row} {s more : List ℕ} (q rest : List ℕ) (closed : List Row) → next s ≡ whole q rest → ClosureOf kind (rules_of rules) rows closed → length closed ≤ 1024
      → Asks looks kind rules closed rest more → Asks looks kind rules rows s (asked_lines (comes_to kind closed looks q) ++ more)

-- "reads a book, then questions": the text for the whole input
pub data Counted (looks : ℕ) : List ℕ → List ℕ → Type 0 where
  -- "Input cut short prints `refused 1 0`", and so does no input at all
  no_book : {s : List ℕ} → next s ≡ ended → Counted looks s (refused_line 1 0)
  cut_book : {s : List ℕ} → next s ≡ cut → Counted looks s (refused_line 1 0)
  -- "a refused book .. prints `refused` too and ends it"
  unread : {s : List ℕ} (b rest : List ℕ) → next s ≡ whole b rest → 0 < (said b).verdict_of.number
      → Counted looks s (refused_line (said b).verdict_of.number (said b).verdict_of.place)
  -- the book's table, and the questions
  opened : {s text : List ℕ} (b rest : List ℕ) → next s ≡ whole b rest → (said b).verdict_of.number ≡ 0 → Asks looks (said b).kind (said b).rules (said b).rows rest text
      → Counted looks s text

-- "It allows .. 4,294,967,295 looks" (P12 allows fewer)
abbrev pub all_looks : ℕ
all_looks = 4294967295

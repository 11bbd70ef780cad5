-- P11 and P12 from bytes to `asked` lines; and the readings on input that is short.
use Rattle.std.specs.Prelude.{◌≡◌, List, [], ◌∷◌, ◌++◌, ℕ, ◌/◌, ◌%◌, length, take}
use Prim.Native.String.{String}
use Rattle.meaning.specs.Examples.{both_classes_bytes}
use Rattle.printing.specs.Text.{bytes_of}
use Rattle.printing.specs.Examples.{p1_book}
use Rattle.counter.specs.Counted.{Counted, all_looks}

-- with so many looks allowed, the input prints as this, and as nothing else
abbrev pub PrintsWith : ℕ → List ℕ → String → Type 0
PrintsWith looks input s = Counted looks input (bytes_of s) × ((text : List ℕ) → Counted looks input text → text ≡ bytes_of s)

abbrev pub Prints : List ℕ → String → Type 0
Prints input s = PrintsWith all_looks input s

-- "each behind a length (2 bytes, high first)"
abbrev pub behind_its_length : List ℕ → List ℕ
behind_its_length b = length b / 256 ∷ length b % 256 ∷ b

-- P1's book, and P11's question
abbrev pub p11_input : List ℕ
p11_input = behind_its_length p1_book ++ behind_its_length both_classes_bytes

-- "P11 .. over P1's table: one answer, 10 with 96, 6 looks"
abbrev pub P11Asked : Type 0
P11Asked =
    Prints p11_input
    "asked 0 0 1 6\n10 65535 65535 65535 65535 65535 65535 65535 65535 65535 65535 65535 65535 65535 65535 65535 96 0 0 0 0 0 0 0\n"

-- "P12 3 allowed: 24, one answer; 2 allowed: 24, none"
abbrev pub P12Asked : Type 0
P12Asked =
    PrintsWith 3 p11_input
    "asked 24 0 1 3\n10 65535 65535 65535 65535 65535 65535 65535 65535 65535 65535 65535 65535 65535 65535 65535 96 0 0 0 0 0 0 0\n"
    × PrintsWith 2 p11_input "asked 24 0 0 2\n"

-- "Input cut short prints `refused 1 0`": nothing at all, one byte of a length, a byte too few of the book
abbrev pub CutBook : Type 0
CutBook = Prints [] "refused 1 0\n" × Prints (0 ∷ []) "refused 1 0\n" × Prints (take 42 (behind_its_length p1_book)) "refused 1 0\n"

-- a byte too few of a question behind one that is answered; it is seen before the closing
abbrev pub CutQuestion : Type 0
CutQuestion = Prints (behind_its_length p1_book ++ behind_its_length [] ++ (0 ∷ 45 ∷ 17 ∷ [])) "asked 16 0 0 0\nrefused 1 0\n"

-- a book of no bytes is refused; a book and no question prints nothing
abbrev pub BookAlone : Type 0
BookAlone = Prints (behind_its_length []) "refused 2 0\n" × Prints (behind_its_length p1_book) ""

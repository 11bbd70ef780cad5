-- A line as the bytes have it.
use Rattle.std.specs.Prelude.{List, ℕ}
use Rattle.utf8.specs.Texts.{seen}
use Rattle.ntline.specs.Lines.{Heard, line_of, said_by}

-- what a line says
abbrev pub heard_in : List ℕ → ℕ → ℕ → Heard
heard_in b at end = said_by (line_of (seen b at end))

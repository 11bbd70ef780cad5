-- A names list to write from, as the code has it.
use Rattle.std.specs.Prelude.{◌≡◌, List, ℕ, ◌+◌, length}
use Rattle.field.specs.Numbers.{written}
use Rattle.names.specs.Names.{Entry, NameLanes, lanes_of, entries_of}
use Rattle.ntwrite.specs.declared.index.Names.{Names}

abbrev pub lanes_in : Names → NameLanes
lanes_in l = lanes_of l.terms.now l.ends.now l.text.now

abbrev pub entries_in : Names → List Entry
entries_in l = entries_of (lanes_in l) l.count

-- bytes are laid from a position on, and where they end
abbrev pub LaidFrom : List ℕ → List ℕ → List ℕ → ℕ → ℕ → Type 0
LaidFrom bytes out after at end = (after ≡ written out at bytes) × (end ≡ at + length bytes)

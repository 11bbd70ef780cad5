-- A table and a names list as they are lent: where a call begins and where it ends.
use Rattle.std.specs.Prelude.{List, ℕ}
use denote.Triple.Both.{Both}
use Rattle.table.specs.Lent.{Lane, before, after}
use Rattle.names.specs.Lent.{names_before, names_after}
use Rattle.ntread.specs.declared.TriplesRead.{TriplesRead}
use Rattle.ntread.specs.Reading.{ReadingTriples}

-- a lane, where the call begins and where it ends
abbrev pub Lent : Type 0
Lent = Both Lane Lane

abbrev pub ReadingTo : ℕ → ℕ → List ℕ → Lent → Lent → Lent → Lent → Lent → Lent → Lent → TriplesRead → Type 0
ReadingTo kind a file subj pred obj ann terms ends text r =
    ReadingTriples kind a file (before subj pred obj ann) (after subj pred obj ann) (names_before terms ends text) (names_after terms ends text)
    r.number r.place r.count r.names

-- A names list as it is lent: three references to lanes, where a call begins and where it ends.
use Rattle.std.specs.Prelude.{List, ℕ}
use Rattle.std.specs.Borrow.{MutBor}
use denote.Triple.Both.{Both}
use Rattle.names.specs.Names.{NameLanes, lanes_of}

abbrev pub Lane : Type 0
Lane = MutBor (List ℕ)

abbrev pub names_lent : Lane → Lane → Lane → NameLanes
names_lent terms ends text = lanes_of terms.now ends.now text.now

abbrev pub names_before : Both Lane Lane → Both Lane Lane → Both Lane Lane → NameLanes
names_before terms ends text = names_lent terms.entry ends.entry text.entry

abbrev pub names_after : Both Lane Lane → Both Lane Lane → Both Lane Lane → NameLanes
names_after terms ends text = names_lent terms.exit ends.exit text.exit

-- What putting a row answers, read as whether there was room and whether the table changed.
use Rattle.std.specs.Prelude.{Bool, true, false, Result, Ok, Err}
use Rattle.table.specs.declared.put.Done.{Done}
use Rattle.table.specs.declared.put.Full.{Full}

abbrev pub is_full : Result Done Full → Bool
is_full (Ok d) = false
is_full (Err e) = true

abbrev pub has_changed : Result Done Full → Bool
has_changed (Ok d) = d.changed
has_changed (Err e) = false

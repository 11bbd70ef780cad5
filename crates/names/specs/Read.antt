-- A names list as it is lent to be read.
use Rattle.names.specs.Names.{NameLanes, lanes_of}
use Rattle.names.specs.declared.hash.Lanes.{Lanes}

-- its lanes as they stand
abbrev pub lanes_read : Lanes → NameLanes
lanes_read l = lanes_of l.terms.now l.ends.now l.text.now

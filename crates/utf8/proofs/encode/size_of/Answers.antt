-- By the line of the table.
use native.Mathlib.Omega.{arith}
use Rattle.utf8.proofs.Laying.{size-one, size-two, size-three, size-four}
use Rattle.utf8.proofs.encode.size_of.Goals as goal

pub returns-in-0-to-127 : goal.returns-in-0-to-127
returns-in-0-to-127 c = let h = c.in-0-to-127 in size-one c.args.c (omega arith)

pub returns-in-128-to-2047 : goal.returns-in-128-to-2047
returns-in-128-to-2047 c = let h = c.in-128-to-2047 in size-two c.args.c (omega arith) (omega arith)

pub returns-in-2048-to-65535 : goal.returns-in-2048-to-65535
returns-in-2048-to-65535 c = let h = c.in-2048-to-65535 in size-three c.args.c (omega arith) (omega arith)

pub returns-in_default : goal.returns-in_default
returns-in_default c = let h = c.in_default in size-four c.args.c (omega arith)

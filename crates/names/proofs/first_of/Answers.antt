-- By the sort.
use native.Mathlib.Omega.{arith}
use Rattle.names.proofs.Answering.{first-name, first-blank, first-other}
use Rattle.names.proofs.first_of.Goals as goal

pub returns-in-0 : goal.returns-in-0
returns-in-0 c = (first-name c.args.sort c.in-0.is, omega arith)

pub returns-in-1 : goal.returns-in-1
returns-in-1 c = (first-blank c.args.sort c.in-1.is, omega arith)

pub returns-in_default : goal.returns-in_default
returns-in_default c = (first-other c.args.sort (λ e. omega arith) (λ e. omega arith), omega arith)

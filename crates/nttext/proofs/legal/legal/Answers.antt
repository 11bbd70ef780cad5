-- By the sort.
use mathlib.Core.Path.{sym}
use native.Mathlib.Omega.{arith}
use lib.Seq.{slice}
use Rattle.nttext.proofs.LegalStates.{legal-none}
use Rattle.nttext.proofs.legal.legal.Goals as goal

pub returns-in_default : goal.returns-in_default
returns-in_default c = let h = c.in_default in sym (legal-none c.args.sort (slice c.args.from c.args.to c.args.text.now) (omega arith))

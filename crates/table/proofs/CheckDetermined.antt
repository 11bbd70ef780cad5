-- "Any two results allowed coincide": the table check gives one number and place. Assumes nothing.
use mathlib.Core.Path.{◌≡◌, sym, ◌∙◌}
use Prim.Native.Nat.{ℕ}
use Rattle.term.specs.declared.refusal.Verdict.{Verdict}
use Rattle.table.specs.Rows.{Lanes}
use Rattle.table.specs.Checks.{Checking}

pub check_determined : (kind : ℕ) (l : Lanes) (n : ℕ) (r r' : Verdict) → Checking kind l n r → Checking kind l n r' → r ≡ r'
check_determined kind l n r r' e e' = e ∙ sym e'

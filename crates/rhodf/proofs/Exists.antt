-- Every sound table, whatever its size, has a closure under the rules of a set. Assumes nothing.
use mathlib.Core.List.{List}
use Prim.Native.Nat.{ℕ}
use Rattle.table.specs.Rows.{Row}
use Rattle.table.specs.Sound.{SoundRows}
use Rattle.rhodf.specs.Rules.{rules_of}
use Rattle.rhodf.specs.Closure.{ClosureOf}
use Rattle.rhodf.proofs.SetsDecided.{set-keeps_legal, set_decided}
use Rattle.rhodf.proofs.ExistsFor.{closure_exists_for}

pub closure_exists : (kind rules : ℕ) (rows : List Row) → SoundRows kind rows → (closed : List Row) × ClosureOf kind (rules_of rules) rows closed
closure_exists kind rules rows sound = closure_exists_for (rules_of rules) (set-keeps_legal rules) (set_decided rules) kind rows sound

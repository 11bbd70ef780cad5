-- The numbers passed are laid, in 21 bytes or fewer each.
use Prim.Native.Nat.{ℕ, ◌*◌}
use lib.ListN.{get_or}
use Rattle.ground.specs.Lists.{tab, each}
use Rattle.printing.specs.Text.{behind_blank}
use Rattle.printing.specs.Laid.{LaidWithin}
use Rattle.printing.proofs.lines.put_numbers.Given as goal

abbrev pub invariant-loop-n : goal.invariant-loop-n
invariant-loop-n l = LaidWithin l.initial.out l.out l.at l.next (each behind_blank (tab l.n-index (λ (j : ℕ). get_or l.numbers j 0))) (l.n-index * 21)

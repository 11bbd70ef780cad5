-- The terms passed are laid, in 6 bytes or fewer each.
use Prim.Native.Nat.{ℕ, ◌*◌}
use lib.ListN.{get_or}
use Rattle.ground.specs.Lists.{tab, each}
use Rattle.printing.specs.Text.{behind_blank}
use Rattle.printing.specs.Laid.{LaidWithin}
use Rattle.printing.proofs.asked.put_terms.Given as goal

abbrev pub invariant-loop-term : goal.invariant-loop-term
invariant-loop-term l = LaidWithin l.initial.out l.out l.at l.next (each behind_blank (tab l.term-index (λ (j : ℕ). get_or l.terms j 0))) (l.term-index * 6)

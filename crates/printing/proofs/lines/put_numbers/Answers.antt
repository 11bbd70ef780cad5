use native.Mathlib.Omega.{arith}
use Prim.Native.Nat.{ℕ}
use mathlib.Core.Path.{◌≡◌}
use lib.ListN.{length, get_or}
use Rattle.printing.specs.Text.{behind_blank}
use Rattle.printing.proofs.Digits.{decimal-long}
use Rattle.printing.proofs.Laying.{laid-first, next_fits, laid_next, tab-list}
use Rattle.printing.proofs.lines.put_numbers.Goals as goal

pub loop-n-init : goal.loop-n-init
loop-n-init c = laid-first behind_blank (λ (j : ℕ). get_or c.args.numbers.now j 0) c.args.out.now c.args.at 0

pub put_behind_blank-next-requires : goal.put_behind_blank-next-requires
put_behind_blank-next-requires c =
    let it = c.loop-n in
    next_fits behind_blank (λ (j : ℕ). get_or c.args.numbers.now j 0) c.args.out.now it.out c.args.at it.next it.n-index 21
    (omega (arith, c.requires)) it.invariant (omega (arith, decimal-long (get_or c.args.numbers.now it.n-index 0)))

pub loop-n-preserved : goal.loop-n-preserved
loop-n-preserved c =
    let it = c.loop-n in
    laid_next behind_blank (λ (j : ℕ). get_or c.args.numbers.now j 0) c.args.out.now it.out c.args.at it.next it.n-index 21
    (omega (arith, c.requires)) it.invariant (omega (arith, decimal-long (get_or c.args.numbers.now it.n-index 0))) _ _ c.put_behind_blank-next.ensures

pub returns : goal.returns
returns c =
    let e : c.loop-n.n-index ≡ length c.args.numbers.now = omega arith in
    rw (e, tab-list c.args.numbers.now) at c.loop-n.invariant

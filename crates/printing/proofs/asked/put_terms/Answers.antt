use native.Mathlib.Omega.{arith}
use Prim.Native.Nat.{ℕ, ◌<◌}
use mathlib.Core.Path.{◌≡◌}
use lib.ListN.{length, get_or}
use Rattle.printing.specs.Text.{behind_blank}
use Rattle.printing.proofs.Digits.{term-long}
use Rattle.printing.proofs.Laying.{laid-first, next_fits, laid_next, tab-list}
use Rattle.printing.proofs.asked.put_terms.Goals as goal

pub loop-term-init : goal.loop-term-init
loop-term-init c = laid-first behind_blank (λ (j : ℕ). get_or c.args.terms.now j 0) c.args.out.now c.args.at 0

pub put_behind_blank-next-requires : goal.put_behind_blank-next-requires
put_behind_blank-next-requires c =
    let it = c.loop-term in
    let small : get_or c.args.terms.now it.term-index 0 < 65536 = omega (arith, c.type_inv.terms it.term-index) in
    next_fits behind_blank (λ (j : ℕ). get_or c.args.terms.now j 0) c.args.out.now it.out c.args.at it.next it.term-index 6
    (omega (arith, c.requires)) it.invariant (omega (arith, term-long _ small))

pub loop-term-preserved : goal.loop-term-preserved
loop-term-preserved c =
    let it = c.loop-term in
    let small : get_or c.args.terms.now it.term-index 0 < 65536 = omega (arith, c.type_inv.terms it.term-index) in
    laid_next behind_blank (λ (j : ℕ). get_or c.args.terms.now j 0) c.args.out.now it.out c.args.at it.next it.term-index 6
    (omega (arith, c.requires)) it.invariant (omega (arith, term-long _ small)) _ _ c.put_behind_blank-next.ensures

pub returns : goal.returns
returns c =
    let e : c.loop-term.term-index ≡ length c.args.terms.now = omega arith in
    rw (e, tab-list c.args.terms.now) at c.loop-term.invariant

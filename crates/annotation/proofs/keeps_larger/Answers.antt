-- A mask's test that fails shows what is missed, and six that pass leave nothing.
use mathlib.Core.Path.{sym, ◌∙◌}
use Rattle.annotation.proofs.SixMasks.{fails0, fails1, fails2, fails3, fails4, fails5, none-fails}
use Rattle.annotation.proofs.keeps_larger.Goals as goal

pub returns-then-misses : goal.returns-then-misses
returns-then-misses c =
    let the-misses = c.misses in
    let the-if1 = c.if-misses in
    sym (fails0 _ (sym the-misses.ensures ∙ the-if1.true))

pub returns-then-misses-2 : goal.returns-then-misses-2
returns-then-misses-2 c =
    let the-misses2 = c.misses-2 in
    let the-if2 = c.if-misses-2 in
    sym (fails1 _ (sym the-misses2.ensures ∙ the-if2.true))

pub returns-then-misses-3 : goal.returns-then-misses-3
returns-then-misses-3 c =
    let the-misses3 = c.misses-3 in
    let the-if3 = c.if-misses-3 in
    sym (fails2 _ (sym the-misses3.ensures ∙ the-if3.true))

pub returns-then-misses-4 : goal.returns-then-misses-4
returns-then-misses-4 c =
    let the-misses4 = c.misses-4 in
    let the-if4 = c.if-misses-4 in
    sym (fails3 _ (sym the-misses4.ensures ∙ the-if4.true))

pub returns-then-misses-5 : goal.returns-then-misses-5
returns-then-misses-5 c =
    let the-misses5 = c.misses-5 in
    let the-if5 = c.if-misses-5 in
    sym (fails4 _ (sym the-misses5.ensures ∙ the-if5.true))

pub returns-then-misses-6 : goal.returns-then-misses-6
returns-then-misses-6 c =
    let the-misses6 = c.misses-6 in
    let the-if6 = c.if-misses-6 in
    sym (fails5 _ (sym the-misses6.ensures ∙ the-if6.true))

pub returns : goal.returns
returns c =
    let the-misses = c.misses in
    let the-if1 = c.if-misses in
    let the-misses2 = c.misses-2 in
    let the-if2 = c.if-misses-2 in
    let the-misses3 = c.misses-3 in
    let the-if3 = c.if-misses-3 in
    let the-misses4 = c.misses-4 in
    let the-if4 = c.if-misses-4 in
    let the-misses5 = c.misses-5 in
    let the-if5 = c.if-misses-5 in
    let the-misses6 = c.misses-6 in
    let the-if6 = c.if-misses-6 in
    sym (none-fails _ (sym the-misses.ensures ∙ the-if1.false) (sym the-misses2.ensures ∙ the-if2.false) (sym the-misses3.ensures ∙ the-if3.false) (sym the-misses4.ensures ∙ the-if4.false) (sym the-misses5.ensures ∙ the-if5.false) (sym the-misses6.ensures ∙ the-if6.false))

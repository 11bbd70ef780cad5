-- One after another, until one does not fit.
use Rattle.std.proofs.Common.{refl}
use Rattle.ntnumber.specs.Lent.{list_in}
use Rattle.ntenter.proofs.Threes.{three-first, three-second, three-third, three_all}
use Rattle.ntenter.proofs.three.Goals as goal

pub returns-in_err-s-clause-numbered : goal.returns-in_err-s-clause-numbered
returns-in_err-s-clause-numbered c =
    let l = c.args.list.now in
    rw c.from_residual.ensures (λ x y z sx sy sz. three-first (list_in l) l.count x y z _ _ (c.in_err-s.ensures.numbered x sx) refl)

pub number_of-requires-2-clause-into : goal.number_of-requires-2-clause-into
number_of-requires-2-clause-into c =
    let i = c.requires.into in
    record { within = i.within; stands = i.predicate; listing = (c.in_ok-s.ensures.numbered i.subject.term i.subject.stands).listing }

pub returns-in_err-p-clause-numbered : goal.returns-in_err-p-clause-numbered
returns-in_err-p-clause-numbered c =
    let l = c.args.list.now in
    rw c.from_residual-in_err-p.ensures
    (λ x y z sx sy sz. three-second (list_in l) l.count x y z _ _ (c.in_ok-s.ensures.numbered x sx) refl _ _ (c.in_err-p.ensures.numbered y sy) refl)

pub number_of-requires-3-clause-into : goal.number_of-requires-3-clause-into
number_of-requires-3-clause-into c =
    let i = c.requires.into in
    record { within = i.within; stands = i.object; listing = (c.in_ok-p.ensures.numbered i.predicate.term i.predicate.stands).listing }

pub returns-in_err-o-clause-numbered : goal.returns-in_err-o-clause-numbered
returns-in_err-o-clause-numbered c =
    let l = c.args.list.now in
    rw c.from_residual-in_err-o.ensures
    (λ x y z sx sy sz. three-third (list_in l) l.count x y z _ _ (c.in_ok-s.ensures.numbered x sx) refl _ _ (c.in_ok-p.ensures.numbered y sy) refl _ _ (c.in_err-o.ensures.numbered z sz) refl)

pub returns-clause-numbered : goal.returns-clause-numbered
returns-clause-numbered c =
    let l = c.args.list.now in
    λ x y z sx sy sz. three_all (list_in l) l.count x y z _ _ (c.in_ok-s.ensures.numbered x sx) refl _ _ (c.in_ok-p.ensures.numbered y sy) refl _ _ (c.in_ok-o.ensures.numbered z sz)

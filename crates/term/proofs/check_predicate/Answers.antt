-- The first check of `predicate_checks` holds, or neither, or, by the sort, the second.
use Rattle.std.proofs.Common.{arith}
use Rattle.std.proofs.lemmas.Result.{err_from_is_err_and}
use borrow.Author.Tests.{eq-eqb, ne_eqb}
use Rattle.term.specs.Refusal.{first}
use Rattle.term.specs.Term.{sort_of, term_checks}
use Rattle.term.proofs.Handing.{refused_by-front, passed-legal}
use Rattle.term.proofs.check_predicate.Goals as goal

pub returns-in_err-check_term : goal.returns-in_err-check_term
returns-in_err-check_term c =
    let p = err_from_is_err_and c.from_residual.result c.from_residual.ensures.1 in
    rw (p.1, p.2) (refused_by-front _ (term_checks c.args.term 0) _ (c.in_err-check_term.ensures))

pub returns-then-sort_of-ne-NAME : goal.returns-then-sort_of-ne-NAME
unfolding first
returns-then-sort_of-ne-NAME c =
    rw (passed-legal c.args.term c.in_ok-check_term.ensures, ne_eqb (sort_of c.args.term) 0 (λ e. omega (arith, c.if-sort_of-ne-NAME.true)))

pub returns : goal.returns
unfolding first
returns c =
    rw (passed-legal c.args.term c.in_ok-check_term.ensures, eq-eqb (sort_of c.args.term) 0 (omega arith))

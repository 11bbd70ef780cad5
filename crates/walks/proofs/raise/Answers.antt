-- Not drawn, or put in: a law each.
use Rattle.std.proofs.Common.{arith, refl, sym, ◌∙◌}
use borrow.Author.Tests.{eqb-true, eq-eqb}
use Rattle.walks.proofs.Raising.{raised_unnamed, raised_bottom, conclusion_put, raised_put}
use Rattle.walks.proofs.raise.Goals as goal
use Rattle.walks.proofs.raise.Goals.{then-sort_of-ne-NAME-via-then-sort_of-ne-NAME, then-sort_of-ne-NAME-via-else-sort_of-ne-NAME+then-r-eq-BOTTOM}

pub returns-then-sort_of-ne-NAME-clause-raised : goal.returns-then-sort_of-ne-NAME-clause-raised
returns-then-sort_of-ne-NAME-clause-raised c =
    rw c.unchanged.ensures (
      elim c.then-sort_of-ne-NAME.branch [
        | then-sort_of-ne-NAME-via-then-sort_of-ne-NAME w ↦ raised_unnamed c.requires (λ e. w.if-sort_of-ne-NAME.true (c.sort_of.ensures ∙ eqb-true _ _ e))
        | then-sort_of-ne-NAME-via-else-sort_of-ne-NAME+then-r-eq-BOTTOM w ↦ raised_bottom c.requires w.if-r-eq-BOTTOM.true
      ],
      tt,
    )

pub put_found-requires : goal.put_found-requires
put_found-requires c = conclusion_put c.requires (eq-eqb _ _ (sym c.sort_of.ensures ∙ c.if-sort_of-ne-NAME.false)) (omega arith)

pub returns-in-Ok-clause-raised : goal.returns-in-Ok-clause-raised
returns-in-Ok-clause-raised c =
    (raised_put c.requires (eq-eqb _ _ (sym c.sort_of.ensures ∙ c.if-sort_of-ne-NAME.false)) (omega arith) c.in-Ok.ensures.put, tt)

pub returns-in-Err-clause-raised : goal.returns-in-Err-clause-raised
returns-in-Err-clause-raised c =
    (raised_put c.requires (eq-eqb _ _ (sym c.sort_of.ensures ∙ c.if-sort_of-ne-NAME.false)) (omega arith) c.in-Err.ensures.put, refl)

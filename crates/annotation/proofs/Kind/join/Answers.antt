-- By the line of the table that the kind has.
use Rattle.std.proofs.Common.{inl, inr}
use Rattle.annotation.specs.Kinds.{algebra}
use Rattle.annotation.proofs.Kind.join.Goals as goal

pub returns-in-Years : goal.returns-in-Years
unfolding algebra
returns-in-Years c = elim c.in-Years.is [ inl e ↦ rw e c.in_either.ensures | inr e ↦ rw e c.in_either.ensures ]

pub returns-in-Degree : goal.returns-in-Degree
unfolding algebra
returns-in-Degree c = elim c.in-Degree.is [ inl e ↦ rw e c.max.ensures | inr e ↦ rw e c.max.ensures ]

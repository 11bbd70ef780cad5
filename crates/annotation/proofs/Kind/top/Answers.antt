-- By the line of the table that the kind has.
use Rattle.std.proofs.Common.{inl, inr, refl}
use Rattle.annotation.specs.Kinds.{algebra}
use Rattle.annotation.proofs.Kind.top.Goals as goal

pub returns-in-Years : goal.returns-in-Years
unfolding algebra
returns-in-Years c = elim c.in-Years.is [ inl e ↦ rw e refl | inr e ↦ rw e refl ]

pub returns-in-Degree : goal.returns-in-Degree
unfolding algebra
returns-in-Degree c = elim c.in-Degree.is [ inl e ↦ rw e refl | inr e ↦ rw e refl ]

-- By its two tests: room for a tag and a length, then for the value.
use Rattle.std.proofs.Common.{arith}
use Rattle.std.proofs.lemmas.Bool.Decides.{nat_tests}
use Rattle.parts.specs.Format.{field_in}
use Rattle.parts.proofs.fields.field_at.Goals as goal

pub returns-then-end-at-lt3 : goal.returns-then-end-at-lt3
unfolding field_in
returns-then-end-at-lt3 c = grind (arith, nat_tests)

pub returns-then-end-from : goal.returns-then-end-from
unfolding field_in
returns-then-end-from c = grind (arith, nat_tests)

pub returns : goal.returns
unfolding field_in
returns c = grind (arith, nat_tests)

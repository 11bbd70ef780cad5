-- The examples hold for the definitions. Assumes nothing.
use mathlib.Core.Path.{refl}
use Rattle.ground.specs.Lists.{Every}
use Rattle.term.specs.Refusal.{first}
use Rattle.annotation.specs.Kinds.{is_kind, algebra}
use Rattle.table.specs.Rows.{add_row}
use Rattle.table.specs.Checks.{rows_checks}
use Rattle.table.specs.Examples.{P2, examples, GoesBetween, Joins, GoesFirst, GoesLast, GoesAlone, placings, ValuesInRows}

p2 : P2
unfolding add_row algebra
p2 = refl

pub examples-hold : Every examples
examples-hold = (p2, tt)

goes-between : GoesBetween
unfolding add_row algebra
goes-between = refl

joins : Joins
unfolding add_row algebra
joins = refl

goes_first : GoesFirst
unfolding add_row algebra
goes_first = refl

goes_last : GoesLast
unfolding add_row algebra
goes_last = refl

goes-alone : GoesAlone
unfolding add_row algebra
goes-alone = refl

pub placings-hold : Every placings
placings-hold = (goes-between, (joins, (goes_first, (goes_last, (goes-alone, tt)))))

pub values-in_rows : ValuesInRows
unfolding first is_kind rows_checks
values-in_rows = (refl, refl, refl)

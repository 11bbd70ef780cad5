-- And in the bench examples, by computation. Assumes nothing.
use mathlib.Core.Path.{refl}
use Rattle.annotation.specs.Kinds.{algebra}
use Rattle.annotation.specs.Examples.{AndExamples}

pub and-examples_hold : AndExamples
unfolding algebra
and-examples_hold = record { p4_degree = refl; p4_strict = refl; p5 = refl; p6 = refl }

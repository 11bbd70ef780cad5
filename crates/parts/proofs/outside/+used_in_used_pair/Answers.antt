use native.Mathlib.Omega.{arith}
use Rattle.parts.proofs.Fitting.{fits}
use Rattle.parts.proofs.Second as laws
use Rattle.parts.proofs.outside.+used_in_used_pair.Goals as goal

pub used_in-returns-in_default : goal.used_in-returns-in_default
used_in-returns-in_default t c = laws.used-unfit _ _ _ c.in_default.ensures

pub used_in-overflow_sub-f : goal.used_in-overflow_sub-f
used_in-overflow_sub-f t c = let w = fits _ c.requires.0 c.in-Some.ensures in omega arith

pub used_in-triple_annotation-requires : goal.used_in-triple_annotation-requires
used_in-triple_annotation-requires t c = let w = fits _ c.requires.0 c.in-Some.ensures in omega arith

pub used_in-used_in-requires : goal.used_in-used_in-requires
used_in-used_in-requires t c = let w = fits _ c.requires.0 c.in-Some.ensures in omega arith

pub used_in-used_pair-requires : goal.used_in-used_pair-requires
used_in-used_pair-requires t c = let w = fits _ c.requires.0 c.in-Some.ensures in omega arith

pub used_in-returns-in-16 : goal.used_in-returns-in-16
used_in-returns-in-16 t c = laws.used-triple _ _ _ c.in-Some.ensures c.in-16.is c.triple_annotation.ensures

pub used_in-returns-in-16-2 : goal.used_in-returns-in-16-2
used_in-returns-in-16-2 t c = laws.used-short _ _ _ c.in-Some.ensures c.in-16.is c.if-f-eq-TRIPLE_SIZE.false

pub used_in-returns-in-19 : goal.used_in-returns-in-19
used_in-returns-in-19 t c = laws.used-only _ _ _ c.in-Some.ensures c.in-19.is c.used_in.ensures

pub used_in-returns-in_default-tag : goal.used_in-returns-in_default-tag
used_in-returns-in_default-tag t c = laws.used_pair _ _ _ c.in-Some.ensures (λ z. omega arith) (λ z. omega arith) c.used_pair.ensures

pub used_pair-returns-in_default : goal.used_pair-returns-in_default
used_pair-returns-in_default t c = laws.used-pair_unfit _ _ _ c.in_default.ensures

pub used_pair-used_in-requires-2 : goal.used_pair-used_in-requires-2
used_pair-used_in-requires-2 t c = let w = fits _ c.requires.0 c.in-Some.ensures in omega arith

pub used_pair-returns : goal.used_pair-returns
used_pair-returns t c = laws.used-two _ _ _ c.in-Some.ensures c.used_in.ensures c.used_in-2.ensures

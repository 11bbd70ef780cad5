use Rattle.std.proofs.Common.{ap, ◌∙◌, arith, List, ℕ, ◌+◌, slice_index_or, slice_set}
use Rattle.std.proofs.Math.Numerals.{suc-eq-add-one}
use Rattle.std.proofs.Math.Seq.{paste, paste-suc}
use Rattle.names.proofs.texts.put.Goals as goal

pub loop-k-preserved : goal.loop-k-preserved
loop-k-preserved c =
    let a = c.args in
    let k = c.loop-k.k in
    ap (λ (l : List ℕ). slice_set l (a.at + k) (slice_index_or a.word.now k 0)) c.loop-k.invariant
    ∙ paste-suc a.out.now a.at a.word.now k 0 (omega (arith, c.requires.0, c.loop-k-test.true)) (omega (arith, c.requires.1, c.loop-k-test.true))
    ∙ ap (paste a.out.now a.at a.word.now) (suc-eq-add-one k)

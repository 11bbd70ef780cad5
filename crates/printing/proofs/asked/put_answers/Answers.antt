use Rattle.std.proofs.Common.{ℕ, length, refl, arith}
use Rattle.std.proofs.lemmas.List.{length_push}
use Rattle.printing.specs.Laid.{answer_at}
use Rattle.printing.proofs.Laying.{laid-first, laid_next}
use Rattle.printing.proofs.Chunks.{chunks-start, chunks-next, chunk_is}
use Rattle.printing.proofs.asked.put_answers.Goals as goal

pub loop-bound-init : goal.loop-bound-init
loop-bound-init c =
    let a = c.args in
    let taken = c.take-bound-items.ensures in
    let zipped = c.zip-answers.ensures in
    rw (c.into_iter-bound-iterator.ensures.into_iter_gives, taken.source, taken.count, zipped.first, zipped.second, c.chunks_exact.ensures.size, c.chunks_exact-2.ensures.size, c.chunks_exact.ensures.rest, c.chunks_exact-2.ensures.rest)
    ((omega arith, omega arith), tt, omega arith, chunks-start 16 a.terms.now _ _ refl refl, chunks-start 8 a.anns.now _ _ refl refl, laid-first (answer_at a.terms.now a.anns.now) (λ (i : ℕ). i) a.out.now a.at 0)

pub loop-bound-preserved : goal.loop-bound-preserved
loop-bound-preserved c =
    let a = c.args in
    let it = c.loop-bound in
    let i = length it.yielded in
    let steps = c.in-Some.ensures.steps in
    let t = steps.0.0 in
    let n = steps.0.1 in
    let now = rw (chunk_is 16 a.terms.now i _ _ it.invariant.3 c.in-Some.bound.now _ _ t.0 t.1.0 t.1.1, chunk_is 8 a.anns.now i _ _ it.invariant.4 c.in-Some.values.now _ _ n.0 n.1.0 n.1.1) at c.put_answer-next.ensures in
    rw length_push (
      (omega (arith, t.0, it.invariant.3.size_is), omega (arith, n.0, it.invariant.4.size_is)),
      tt,
      omega (arith, steps.1, it.invariant.2),
      chunks-next 16 a.terms.now i _ _ it.invariant.3 c.in-Some.bound.now _ _ t.0 t.1.0 t.1.1,
      chunks-next 8 a.anns.now i _ _ it.invariant.4 c.in-Some.values.now _ _ n.0 n.1.0 n.1.1,
      laid_next (answer_at a.terms.now a.anns.now) (λ (i : ℕ). i) a.out.now it.out a.at it.next i 264 (omega (arith, c.requires.2, steps.1, it.invariant.2)) it.invariant.5 now.within _ _ now.laid,
    )

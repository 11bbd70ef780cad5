-- The answers passed are laid, in 264 bytes or fewer each, and the chunks left are those of the others.
use Rattle.std.proofs.Common.{◌≡◌, ◌+◌, ◌*◌, length}
use Rattle.std.specs.Iterator.Adapters.{zip_first, zip_second, take_source, take_count}
use Rattle.std.specs.Slice.Iter.{chunks_exact_size, chunks_exact_rest}
use Rattle.printing.specs.Laid.{LaidWithin, answers_in}
use Rattle.printing.proofs.Chunks.{ChunksLeft}
use Rattle.printing.proofs.asked.put_answers.Given as goal

abbrev pub invariant-loop-bound : goal.invariant-loop-bound
invariant-loop-bound l =
    let it = l.bound-iterator in
    let terms = zip_first (take_source it) in
    let anns = zip_second (take_source it) in
    (goal.iterator-loop-bound).can_next it
    × (goal.iterator-loop-bound).is_finite it
    × (length l.yielded + take_count it ≡ l.count)
    × ChunksLeft 16 l.terms (length l.yielded) (chunks_exact_size terms) (chunks_exact_rest terms)
    × ChunksLeft 8 l.anns (length l.yielded) (chunks_exact_size anns) (chunks_exact_rest anns)
    × LaidWithin l.initial.out l.out l.at l.next (answers_in l.terms l.anns (length l.yielded)) (length l.yielded * 264)

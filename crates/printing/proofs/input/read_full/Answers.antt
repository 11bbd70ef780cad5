-- What a turn brings lies behind what had come, and the input has lost it too.
use Rattle.std.proofs.Common.{rules, ◌≡◌, ℕ, ◌+◌, ◌-◌, ◌≤◌, List, ◌++◌, arith, length, take, sym, ap, ◌∙◌, subst, drop_at, length-take-le}
use Rattle.std.specs.Io.KnownBytes.{Consumes}
use Rattle.std.proofs.KnownBytes.{Consumes-trans}
use borrow.Rule.Slice.PartMut.{put_mid, post_of}
use lib.Seq.{take-add, take-append-le}
use lib.ListN.{drop}
use Rattle.std.proofs.lemmas.Slice.{take-put_mid_below}
use Rattle.printing.proofs.input.read_full.Goals as goal

take-filled : (a k n : ℕ) (xs ys : List ℕ) → a ≤ length xs → n ≤ length ys → take (a + n) (put_mid a k xs ys) ≡ take a xs ++ take n ys
take-filled a k n xs ys within fits =
    let after = post_of a k xs in
    take-add a n (put_mid a k xs ys)
    ∙ ap (λ (l : List ℕ). l ++ take n (drop a (put_mid a k xs ys))) (take-put_mid_below a k xs ys a (omega arith) within)
    ∙ ap (λ (l : List ℕ). take a xs ++ take n l) (drop_at (take a xs) (ys ++ after) a (length-take-le a xs within))
    ∙ ap (λ (l : List ℕ). take a xs ++ l) (take-append-le n ys after fits)

pub loop-done-preserved : goal.loop-done-preserved
loop-done-preserved g c =
    let done = c.loop-done.done in
    let room = length c.loop-done.bytes - done in
    let filled = take-filled done room c.in_ok-n.n c.loop-done.bytes c.read.new.buf c.loop-done.invariant.0 c.in_ok-n.ensures.bound.0 in
    (search rules, subst (Consumes _ _) (sym filled) (Consumes-trans _ _ _ _ _ c.loop-done.invariant.1 c.in_ok-n.ensures.bytes.0))

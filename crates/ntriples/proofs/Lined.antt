-- A line with its LF, in front of what follows, is the first of the lines. Assumes nothing.
use mathlib.Core.Path.{◌≡◌, refl, ap, ◌∙◌}
use mathlib.Core.Bool.{false}
use mathlib.Core.List.{List, [], ◌∷◌, ◌++◌}
use Prim.Native.Nat.{ℕ, suc, ◌+◌, ◌≤◌}
use native.Mathlib.Omega.{arith}
use lib.ListN.{length}
use Rattle.ntread.specs.Reading.{line_at, is_eol, longer, lines_from}
use Rattle.ntriples.proofs.Eols.{NoEol}

line-ends : (x : ℕ) (rest : List ℕ) (at : ℕ) → is_eol x ≡ false → lines_from at (x ∷ 0xA ∷ rest) ≡ line_at at (x ∷ []) ∷ lines_from (suc (suc at)) rest
unfolding lines_from
line-ends x rest at e = rw e refl

line-goes_on : (x y : ℕ) (rest : List ℕ) (at : ℕ) → is_eol x ≡ false → is_eol y ≡ false → lines_from at (x ∷ y ∷ rest) ≡ longer at x (lines_from (suc at) (y ∷ rest))
unfolding lines_from
line-goes_on x y rest at e f = rw (e, f) refl

pub line_first : (body rest : List ℕ) (at : ℕ) → NoEol body → 1 ≤ length body →
    lines_from at (body ++ (0xA ∷ rest)) ≡ line_at at body ∷ lines_from (length body + suc at) rest
line_first [] rest at h some = absurd (omega arith)
line_first (x ∷ []) rest at h some =
    let e : suc (suc at) ≡ length (x ∷ []) + suc at = omega arith in
    line-ends x rest at h.0 ∙ ap (λ (k : ℕ). line_at at (x ∷ []) ∷ lines_from k rest) e
line_first (x ∷ y ∷ ys) rest at h some =
    let e : length (y ∷ ys) + suc (suc at) ≡ length (x ∷ y ∷ ys) + suc at = omega arith in
    line-goes_on x y (ys ++ (0xA ∷ rest)) at h.0 h.1.0
    ∙ ap (longer at x) (line_first (y ∷ ys) rest (suc at) h.1 (omega arith))
    ∙ ap (λ (k : ℕ). line_at at (x ∷ y ∷ ys) ∷ lines_from k rest) e

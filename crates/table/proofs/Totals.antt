-- The sum of the annotations: a row added raises it by what it raises its triple's, and no sound rows pass 2^48 * 2^64. Assumes nothing.
use mathlib.Core.Path.{◌≡◌, refl, sym}
use mathlib.Core.Bool.{true, false}
use mathlib.Core.List.{List, [], ◌∷◌}
use Prim.Native.Nat.{ℕ, ◌+◌, ◌*◌, ◌^◌, ◌≤◌, ◌<◌}
use native.Mathlib.Omega.{arith}
use Rattle.annotation.specs.Algebra.{Algebra}
use Rattle.annotation.proofs.KindLaws.{laws}
use Rattle.annotation.proofs.Legal.{legal-value}
use Rattle.table.specs.Rows.{Row, key, joined, add_row, is_triple, value_at, total}
use Rattle.table.specs.Sound.{LegalRow, Over, Ascending, AllLegal}
use Rattle.table.proofs.Ordering.{Tri, less, same, more, tri, add_none, add_less, add_same, add_more, over-down}
use Rattle.table.proofs.Values.{Small, AllSmall, legal-small, triple_of, is-triple, not-triple, key-tells, value_none, value-here, value_there, over-value}

module _ (K : Algebra) (r : Row) (small : Small r) where
  pub total-add : (R : List Row) → AllSmall R → Ascending R
      → total (add_row K r R) + value_at R (triple_of r) ≡ total R + value_at (add_row K r R) (triple_of r)
  unfolding total Ascending Over
  total-add [] w s = rw (add_none K r, value_none (triple_of r), value-here r [] (triple_of r) (is-triple (triple_of r) r refl refl refl)) (omega arith)
  total-add (x ∷ xs) w s = go (tri (key r) (key x)) (total-add xs w.1 s.1)
    where
      go : Tri (key r) (key x) → total (add_row K r xs) + value_at xs (triple_of r) ≡ total xs + value_at (add_row K r xs) (triple_of r)
          → total (add_row K r (x ∷ xs)) + value_at (x ∷ xs) (triple_of r) ≡ total (x ∷ xs) + value_at (add_row K r (x ∷ xs)) (triple_of r)
      go (less q) ih =
          rw (
            add_less K r x xs q,
            over-value (triple_of r) (x ∷ xs) (q, over-down (key r) (key x) xs q s.0),
            value-here r (x ∷ xs) (triple_of r) (is-triple (triple_of r) r refl refl refl),
          )
          (omega arith)
      go (same q) ih =
          let e = key-tells x r w.0 small (sym q) in
          let y : is_triple (triple_of r) x ≡ true = is-triple (triple_of r) x e.same_s e.same-p e.same-o in
          rw (add_same K r x xs q, value-here x xs (triple_of r) y, value-here (joined K r x) xs (triple_of r) y) (omega arith)
      go (more q) ih =
          let n : is_triple (triple_of r) x ≡ false = not-triple (triple_of r) x (λ e. omega arith) in
          rw (add_more K r x xs q, value_there x xs (triple_of r) n, value_there x (add_row K r xs) (triple_of r) n) (omega arith)

-- keys are below 2^48 and annotations below 2^64
abbrev pub most_total : ℕ
most_total = 2 ^ 48 * 2 ^ 64

key-bound : (kind : ℕ) (x : Row) → LegalRow kind x → key x < 2 ^ 48
key-bound kind x h = let small = legal-small h in omega arith

annotation-bound : (kind : ℕ) (x : Row) → LegalRow kind x → x.a < 2 ^ 64
annotation-bound kind x h = omega (arith, (laws kind).value_bound x.a (legal-value x.a kind h.annotation).1)

-- so of rows above a key there is only so much
total-over : (kind k : ℕ) (R : List Row) → k < 2 ^ 48 → Over k R → AllLegal kind R → Ascending R → total R + k * 2 ^ 64 + 2 ^ 64 ≤ most_total
unfolding total Over AllLegal Ascending
total-over kind k [] h o w s = omega arith
total-over kind k (x ∷ xs) h o w s =
    omega (arith, o.0, annotation-bound kind x w.0, total-over kind (key x) xs (key-bound kind x w.0) s.0 w.1 s.1)

pub total-bound : (kind : ℕ) (R : List Row) → AllLegal kind R → Ascending R → total R ≤ most_total
unfolding total AllLegal Ascending
total-bound kind [] w s = omega arith
total-bound kind (x ∷ xs) w s =
    omega (arith, annotation-bound kind x w.0, total-over kind (key x) xs (key-bound kind x w.0) s.0 w.1 s.1)

-- Rows whose triples another table holds are no more rows than that table's: a walk along both, in order.
-- So a table below a closure has no more rows than the closure. Assumes nothing.
use mathlib.Core.Path.{◌≡◌, refl}
use mathlib.Core.Bool.{Bool, true, false}
use mathlib.Core.List.{List, [], ◌∷◌}
use Prim.Native.Nat.{ℕ, ◌≤◌, ◌<◌}
use native.Mathlib.Omega.{arith}
use lib.ListN.{length}
use Rattle.annotation.specs.Kinds.{algebra}
use Rattle.annotation.proofs.KindLaws.{laws}
use Rattle.annotation.proofs.Legal.{legal-value}
use Rattle.annotation.proofs.Order.{at_most_le}
use Rattle.table.specs.Rows.{Triple, Row, key, key_of, is_triple, value_at}
use Rattle.table.specs.Sound.{LegalRow, Over, Ascending, AllLegal, SoundRows}
use Rattle.table.proofs.Ordering.{Tri, less, same, more, tri, over-down}
use Rattle.table.proofs.Values.{triple_of, triple-is, not-triple, first-value, value_none, value_there, over-value}
use Rattle.rhodf.specs.Graph.{graph_of, Below}

-- a triple that rows above a key hold is above it
held-over : (k : ℕ) (R : List Row) → Over k R → (t : Triple) → 0 < value_at R t → k < key_of t.s t.p t.o
unfolding Over
held-over k [] o t h = absurd (omega (arith, value_none t))
held-over k (x ∷ xs) o t h = go (is_triple t x) refl (held-over k xs o.1 t)
  where
    go : (b : Bool) → is_triple t x ≡ b → (0 < value_at xs t → k < key_of t.s t.p t.o) → k < key_of t.s t.p t.o
    go true e later = let b = triple-is t x e in rw (← b.same_s, ← b.same-p, ← b.same-o) o.0
    go false e later = later (rw (value_there x xs t e) at h)

abbrev Holds : List Row → List Row → Type 0
Holds S R = (t : Triple) → 0 < value_at R t → 0 < value_at S t

-- what rows above a row hold, it does not
not_first : (x : Row) (xs R : List Row) → Over (key x) R → (t : Triple) → 0 < value_at R t → value_at (x ∷ xs) t ≡ value_at xs t
not_first x xs R o t h = value_there x xs t (not-triple t x (λ e. omega (arith, held-over (key x) R o t h)))

holds-behind : (y : Row) (ys R : List Row) → Over (key y) R → Holds (y ∷ ys) R → Holds ys R
holds-behind y ys R o holds t h = rw (not_first y ys R o t h) at (holds t h)

rest-held : (x : Row) (xs S : List Row) → Over (key x) xs → Holds S (x ∷ xs) → Holds S xs
rest-held x xs S o holds t h = holds t (rw (not_first x xs xs o t h) h)

module _ (kind : ℕ) where
  not-held : (x : Row) (xs S : List Row) → LegalRow kind x → Over (key x) S → Holds S (x ∷ xs) → ⊥
  not-held x xs S h o holds =
      omega (
        arith,
        over-value (triple_of x) S o,
        holds (triple_of x) (rw (first-value x xs) (legal-value x.a kind h.annotation).0),
      )

  held-no_more : (R S : List Row) → AllLegal kind R → Ascending R → Ascending S → Holds S R → length R ≤ length S
  unfolding AllLegal Ascending Over
  held-no_more [] S v r s holds = omega arith
  held-no_more (x ∷ xs) [] v r s holds = absurd (not-held x xs [] v.0 tt holds)
  held-no_more (x ∷ xs) (y ∷ ys) v r s holds =
      go (tri (key x) (key y)) (held-no_more xs ys v.1 r.1 s.1) (held-no_more (x ∷ xs) ys v r s.1)
    where
      go : Tri (key x) (key y) → (Holds ys xs → length xs ≤ length ys) → (Holds ys (x ∷ xs) → length (x ∷ xs) ≤ length ys)
          → length (x ∷ xs) ≤ length (y ∷ ys)
      go (less q) both past = absurd (not-held x xs (y ∷ ys) v.0 (q, over-down (key x) (key y) ys q s.0) holds)
      go (same q) both past = omega (arith, both (holds-behind y ys xs (rw (← q) r.0) (rest-held x xs (y ∷ ys) r.0 holds)))
      go (more q) both past = omega (arith, past (holds-behind y ys (x ∷ xs) (q, over-down (key y) (key x) xs q r.0) holds))

  pub below-no_more_rows : (R S : List Row) → SoundRows kind R → SoundRows kind S → Below (algebra kind) (graph_of R) (graph_of S) → length R ≤ length S
  below-no_more_rows R S r s b =
      held-no_more R S r.legal r.ascending s.ascending
      (λ t h. omega (arith, at_most_le (algebra kind) (laws kind) (value_at R t) (value_at S t) (b.below t)))

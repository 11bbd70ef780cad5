-- Sound rows are told by their graph: the first rows of both are the same, since each holds its triple and the other's rows from there on are above it.
-- Assumes nothing.
use mathlib.Core.Path.{◌≡◌, refl, sym, ap, ◌∙◌}
use mathlib.Core.Bool.{Bool, true, false}
use mathlib.Core.List.{List, [], ◌∷◌}
use Prim.Native.Nat.{ℕ}
use native.Mathlib.Omega.{arith}
use Rattle.annotation.proofs.Legal.{legal-value}
use Rattle.table.specs.Rows.{Triple, Row, key, is_triple, value_at}
use Rattle.table.specs.Sound.{LegalRow, Over, Ascending, AllLegal, SoundRows}
use Rattle.table.proofs.Ordering.{Tri, less, same, more, tri, over-down}
use Rattle.table.proofs.Values.{triple_of, is-triple, triple-is, key-tells, legal-small, first-value, value-here, value_there, over-value}

-- what the same row stands above agrees too
rest-agrees : (x : Row) (xs ys : List Row) → Over (key x) xs → Over (key x) ys
    → ((t : Triple) → value_at (x ∷ xs) t ≡ value_at (x ∷ ys) t) → (t : Triple) → value_at xs t ≡ value_at ys t
rest-agrees x xs ys o u agree t = go (is_triple t x) refl
  where
    go : (b : Bool) → is_triple t x ≡ b → value_at xs t ≡ value_at ys t
    go true e =
        let s = triple-is t x e in
        over-value t xs (rw (← s.same_s, ← s.same-p, ← s.same-o) o) ∙ sym (over-value t ys (rw (← s.same_s, ← s.same-p, ← s.same-o) u))
    go false e = sym (value_there x xs t e) ∙ agree t ∙ value_there x ys t e

module _ (kind : ℕ) where
  -- rows above a row do not hold its triple
  not-above : (x : Row) (xs ys : List Row) → LegalRow kind x → Over (key x) ys → value_at (x ∷ xs) (triple_of x) ≡ value_at ys (triple_of x) → ⊥
  not-above x xs ys h o e = omega (arith, first-value x xs, over-value (triple_of x) ys o, (legal-value x.a kind h.annotation).0)

  same_graph : (R S : List Row) → AllLegal kind R → AllLegal kind S → Ascending R → Ascending S
      → ((t : Triple) → value_at R t ≡ value_at S t) → R ≡ S
  unfolding AllLegal Ascending Over
  same_graph [] [] v w r s agree = refl
  same_graph [] (y ∷ ys) v w r s agree = absurd (not-above y ys [] w.0 tt (sym (agree (triple_of y))))
  same_graph (x ∷ xs) [] v w r s agree = absurd (not-above x xs [] v.0 tt (agree (triple_of x)))
  same_graph (x ∷ xs) (y ∷ ys) v w r s agree = go (tri (key x) (key y)) (same_graph xs ys v.1 w.1 r.1 s.1)
    where
      go : Tri (key x) (key y) → (((t : Triple) → value_at xs t ≡ value_at ys t) → xs ≡ ys) → x ∷ xs ≡ y ∷ ys
      go (less q) ih = absurd (not-above x xs (y ∷ ys) v.0 (q, over-down (key x) (key y) ys q s.0) (agree (triple_of x)))
      go (same q) ih =
          let e = key-tells y x (legal-small w.0) (legal-small v.0) (sym q) in
          let a : x.a ≡ y.a = sym (first-value x xs) ∙ agree (triple_of x) ∙ value-here y ys (triple_of x) (is-triple (triple_of x) y e.same_s e.same-p e.same-o) in
          let y≡x : y ≡ x = λ i. record { s = e.same_s i; p = e.same-p i; o = e.same-o i; a = sym a i } in
          rw y≡x (ap (λ (zs : List Row). x ∷ zs) (ih (rest-agrees x xs ys r.0 (rw q s.0) (rw y≡x at agree))))
      go (more q) ih = absurd (not-above y ys (x ∷ xs) w.0 (q, over-down (key y) (key x) xs q r.0) (sym (agree (triple_of y))))

  pub tables_agree : (R S : List Row) → SoundRows kind R → SoundRows kind S → ((t : Triple) → value_at R t ≡ value_at S t) → R ≡ S
  tables_agree R S r s agree = same_graph R S r.legal s.legal r.ascending s.ascending agree

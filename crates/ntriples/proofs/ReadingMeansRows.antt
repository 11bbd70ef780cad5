-- A row added to rows that hold it, and to rows that hold none of its key. Assumes nothing.
use mathlib.Core.Path.{◌≡◌, refl, sym, ap, subst, ◌∙◌}
use mathlib.Core.List.{List, [], ◌∷◌}
use mathlib.Core.Logic.{◌⊎◌, inl, inr, ⊎_elim}
use Prim.Native.Nat.{ℕ, suc, ◌<◌}
use lib.ListN.{length}
use Rattle.annotation.specs.Algebra.{Algebra, Laws}
use Rattle.table.specs.Rows.{Row, row, key, add_row, joined}
use Rattle.table.specs.Sound.{Over, Ascending}
use Rattle.table.proofs.Ordering.{Tri, less, same, more, tri, add_none, add_less, add_same, add_more}
use Rattle.ntriples.proofs.ReadingMeansMet.{In, here, later}

over-in : (k : ℕ) {r : Row} (R : List Row) → Over k R → In r R → k < key r
unfolding Over
over-in k {r = r} [] o i = elim i [ ]
over-in k (x ∷ xs) o (here e) = subst (λ (y : Row). k < key y) e o.0
over-in k (x ∷ xs) o (later i) = over-in k xs o.1 i

module _ (K : Algebra) (r : Row) where
  -- the same row once more changes nothing
  pub add_there : Laws K → (R : List Row) → Ascending R → In r R → add_row K r R ≡ R
  unfolding Ascending
  add_there L [] s i = elim i [ ]
  add_there L (x ∷ xs) s (here e) =
      add_same K r x xs (ap key (sym e))
      ∙ ap (λ (y : Row). y ∷ xs) (ap (joined K r) e ∙ ap (row r.s r.p r.o) (L.join_self r.a) ∙ sym e)
  add_there L (x ∷ xs) s (later i) =
      add_more K r x xs (over-in (key x) xs s.0 i) ∙ ap (λ (ys : List Row). x ∷ ys) (add_there L xs s.1 i)

  -- a row of a new key is one more
  abbrev pub NewKey : List Row → Type 0
  NewKey R = (x : Row) → In x R → key r ≡ key x → ⊥

  new_rest : (x : Row) (xs : List Row) → NewKey (x ∷ xs) → NewKey xs
  new_rest x xs h y i = h y (later i)

  pub add_longer : (R : List Row) → NewKey R → length (add_row K r R) ≡ suc (length R)
  add_longer [] h = ap length (add_none K r)
  add_longer (x ∷ xs) h = go (tri (key r) (key x)) (add_longer xs (new_rest x xs h))
    where
      go : Tri (key r) (key x) → length (add_row K r xs) ≡ suc (length xs) → length (add_row K r (x ∷ xs)) ≡ suc (suc (length xs))
      go (less q) ih = ap length (add_less K r x xs q)
      go (same q) ih = absurd (h x (here refl) q)
      go (more q) ih = ap length (add_more K r x xs q) ∙ ap suc ih

  pub in_added : (R : List Row) → NewKey R → In r (add_row K r R)
  in_added [] h = subst (In r) (sym (add_none K r)) (here refl)
  in_added (x ∷ xs) h = go (tri (key r) (key x)) (in_added xs (new_rest x xs h))
    where
      go : Tri (key r) (key x) → In r (add_row K r xs) → In r (add_row K r (x ∷ xs))
      go (less q) ih = subst (In r) (sym (add_less K r x xs q)) (here refl)
      go (same q) ih = absurd (h x (here refl) q)
      go (more q) ih = subst (In r) (sym (add_more K r x xs q)) (later ih)

  pub still-in : (R : List Row) → NewKey R → {y : Row} → In y R → In y (add_row K r R)
  still-in [] h {y = y} i = elim i [ ]
  still-in (x ∷ xs) h {y} i = go (tri (key r) (key x)) i (λ j. still-in xs (new_rest x xs h) j)
    where
      tail : In y (x ∷ xs) → (In y xs → In y (add_row K r xs)) → In y (x ∷ add_row K r xs)
      tail (here e) again = here e
      tail (later j) again = later (again j)

      go : Tri (key r) (key x) → In y (x ∷ xs) → (In y xs → In y (add_row K r xs)) → In y (add_row K r (x ∷ xs))
      go (less q) j again = subst (In y) (sym (add_less K r x xs q)) (later j)
      go (same q) j again = absurd (h x (here refl) q)
      go (more q) j again = subst (In y) (sym (add_more K r x xs q)) (tail j again)

  pub added_in : (R : List Row) → NewKey R → {y : Row} → In y (add_row K r R) → (r ≡ y) ⊎ In y R
  added_in [] h {y} i = one (subst (In y) (add_none K r) i)
    where
      one : In y (r ∷ []) → (r ≡ y) ⊎ In y []
      one (here e) = inl e
      one (later j) = inr j
  added_in (x ∷ xs) h {y} i = go (tri (key r) (key x)) (λ j. added_in xs (new_rest x xs h) j)
    where
      front : In y (r ∷ x ∷ xs) → (r ≡ y) ⊎ In y (x ∷ xs)
      front (here e) = inl e
      front (later j) = inr j

      tail : In y (x ∷ add_row K r xs) → (In y (add_row K r xs) → (r ≡ y) ⊎ In y xs) → (r ≡ y) ⊎ In y (x ∷ xs)
      tail (here e) again = inr (here e)
      tail (later j) again = ⊎_elim (λ e. inl e) (λ k. inr (later k)) (again j)

      go : Tri (key r) (key x) → (In y (add_row K r xs) → (r ≡ y) ⊎ In y xs) → (r ≡ y) ⊎ In y (x ∷ xs)
      go (less q) again = front (subst (In y) (add_less K r x xs q) i)
      go (same q) again = absurd (h x (here refl) q)
      go (more q) again = tail (subst (In y) (add_more K r x xs q) i) again

-- Rows that ascend still ascend with a row added; and adding twice is adding once. Assumes nothing.
use mathlib.Core.Path.{◌≡◌, refl, ap, ◌∙◌}
use mathlib.Core.List.{List, [], ◌∷◌}
use Prim.Native.Nat.{ℕ, zero, suc, ◌<◌}
use native.Mathlib.Decide.{dec_lt}
use native.Mathlib.Omega.{arith}
use borrow.Author.Tests.{lt-ltb, le-ltb, eq-eqb, ne_eqb}
use Rattle.ground.specs.Lists.{tab}
use Rattle.annotation.specs.Algebra.{Algebra, Laws}
use Rattle.table.specs.Rows.{Row, row, key, joined, add_row}
use Rattle.table.specs.Sound.{Over, Ascending}

-- two numbers are in one of three orders
pub data Tri (a b : ℕ) : Type 0 where
  less : a < b → Tri a b
  same : a ≡ b → Tri a b
  more : b < a → Tri a b

pub tri : (a b : ℕ) → Tri a b
tri a b = go (dec_lt a b) (dec_lt b a)
  where
    go : Dec (a < b) → Dec (b < a) → Tri a b
    go (yes h) q = less h
    go (no h) (yes k) = more k
    go (no h) (no k) = same (omega arith)

module _ (K : Algebra) (r : Row) where
  pub add_none : add_row K r [] ≡ r ∷ []
  unfolding add_row
  add_none = refl

  module _ (x : Row) (xs : List Row) where
    pub add_less : key r < key x → add_row K r (x ∷ xs) ≡ r ∷ x ∷ xs
    unfolding add_row
    add_less h = rw (lt-ltb (key r) (key x) h) refl

    pub add_same : key r ≡ key x → add_row K r (x ∷ xs) ≡ joined K r x ∷ xs
    unfolding add_row
    add_same h = rw (le-ltb (key r) (key x) (omega arith), eq-eqb (key r) (key x) h) refl

    pub add_more : key x < key r → add_row K r (x ∷ xs) ≡ x ∷ add_row K r xs
    unfolding add_row
    add_more h = rw (le-ltb (key r) (key x) (omega arith), ne_eqb (key r) (key x) (λ e. omega arith)) refl

pub over-down : (k k' : ℕ) (R : List Row) → k < k' → Over k' R → Over k R
unfolding Over
over-down k k' [] h o = tt
over-down k k' (x ∷ xs) h o = (omega (arith, o.0), over-down k k' xs h o.1)

module _ (K : Algebra) (r : Row) where
  over_add : (k : ℕ) (R : List Row) → Over k R → k < key r → Over k (add_row K r R)
  unfolding Over
  over_add k [] o h = rw (add_none K r) (h, tt)
  over_add k (x ∷ xs) o h = go (tri (key r) (key x)) (over_add k xs o.1 h)
    where
      go : Tri (key r) (key x) → Over k (add_row K r xs) → Over k (add_row K r (x ∷ xs))
      go (less q) ih = rw (add_less K r x xs q) (h, o)
      go (same q) ih = rw (add_same K r x xs q) o
      go (more q) ih = rw (add_more K r x xs q) (o.0, ih)

  pub ascending-add : (R : List Row) → Ascending R → Ascending (add_row K r R)
  unfolding Ascending Over
  ascending-add [] s = rw (add_none K r) (tt, tt)
  ascending-add (x ∷ xs) s = go (tri (key r) (key x)) (ascending-add xs s.1)
    where
      go : Tri (key r) (key x) → Ascending (add_row K r xs) → Ascending (add_row K r (x ∷ xs))
      go (less q) ih = rw (add_less K r x xs q) ((q, over-down (key r) (key x) xs q s.0), s)
      go (same q) ih = rw (add_same K r x xs q) s
      go (more q) ih = rw (add_more K r x xs q) (over_add (key x) xs s.0 q, ih)

module _ (K : Algebra) (L : Laws K) (r : Row) where
  joined-self : joined K r r ≡ r
  joined-self = rw (L.join_self r.a) refl

  joined-twice : (x : Row) → joined K r (joined K r x) ≡ joined K r x
  joined-twice x = ap (row x.s x.p x.o) (L.join_assoc x.a r.a r.a ∙ ap (K.join x.a) (L.join_self r.a))

  pub add_twice : (R : List Row) → add_row K r (add_row K r R) ≡ add_row K r R
  add_twice [] = rw (add_none K r, add_same K r r [] refl, joined-self) refl
  add_twice (x ∷ xs) = go (tri (key r) (key x)) (add_twice xs)
    where
      go : Tri (key r) (key x) → add_row K r (add_row K r xs) ≡ add_row K r xs → add_row K r (add_row K r (x ∷ xs)) ≡ add_row K r (x ∷ xs)
      go (less q) ih = rw (add_less K r x xs q, add_same K r r (x ∷ xs) refl, joined-self) refl
      go (same q) ih = rw (add_same K r x xs q, add_same K r (joined K r x) xs q, joined-twice x) refl
      go (more q) ih = rw (add_more K r x xs q, add_more K r x (add_row K r xs) q, ih) refl

-- ascending rows by their indices
module _ where
  over-at : (k n : ℕ) (f : ℕ → Row) → Over k (tab n f) → (i : ℕ) → i < n → k < key (f i)
  unfolding Over tab
  over-at k zero f o i h = absurd (omega arith)
  over-at k (suc n) f o zero h = o.0
  over-at k (suc n) f o (suc i) h = over-at k n (λ i. f (suc i)) o.1 i (omega arith)

  at_over : (k n : ℕ) (f : ℕ → Row) → ((i : ℕ) → i < n → k < key (f i)) → Over k (tab n f)
  unfolding Over tab
  at_over k zero f h = tt
  at_over k (suc n) f h = (h zero (omega arith), at_over k n (λ i. f (suc i)) (λ i q. h (suc i) (omega arith)))

  -- neighbours ascend, so all do
  pub climbs : (n : ℕ) (f : ℕ → ℕ) → ((i : ℕ) → suc i < n → f i < f (suc i)) → (j i : ℕ) → i < j → j < n → f i < f j
  climbs n f h zero i p q = absurd (omega arith)
  climbs n f h (suc j) i p q = go (tri i j) (λ w. climbs n f h j i w (omega arith))
    where
      go : Tri i j → (i < j → f i < f j) → f i < f (suc j)
      go (less w) ih = omega (arith, ih w, h j q)
      go (same w) ih = rw w (h j q)
      go (more w) ih = absurd (omega arith)

  pub ascending-tab : (n : ℕ) (f : ℕ → Row) → ((i : ℕ) → suc i < n → key (f i) < key (f (suc i))) → Ascending (tab n f)
  unfolding Ascending tab
  ascending-tab zero f h = tt
  ascending-tab (suc n) f h = (
    at_over (key (f zero)) n (λ i. f (suc i)) (λ i q. climbs (suc n) (λ i. key (f i)) h (suc i) zero (omega arith) (omega arith)),
    ascending-tab n (λ i. f (suc i)) (λ i q. h (suc i) (omega arith)),
  )

  pub tab-ascending : (n : ℕ) (f : ℕ → Row) → Ascending (tab n f) → (i : ℕ) → suc i < n → key (f i) < key (f (suc i))
  unfolding Ascending tab
  tab-ascending zero f s i h = absurd (omega arith)
  tab-ascending (suc n) f s zero h = over-at (key (f zero)) n (λ i. f (suc i)) s.0 zero (omega arith)
  tab-ascending (suc n) f s (suc i) h = tab-ascending n (λ i. f (suc i)) s.1 i (omega arith)

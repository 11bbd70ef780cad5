-- A row put in at its place, or joined to the row of its key, is `add_row`; and the sum of annotations then. Assumes nothing.
use mathlib.Core.Path.{◌≡◌, refl, sym, ap}
use Prim.Native.Nat.{ℕ, zero, suc, ◌+◌, ◌≤◌, ◌<◌, zero-le}
use native.Mathlib.Omega.{arith}
use lib.ListN.{length}
use borrow.Author.Tests.{lt-ltb, le-ltb, eq-eqb, ne_eqb}
use Rattle.ground.specs.Lists.{tab}
use Rattle.ground.proofs.Tab.{tab-length, tab-ext}
use Rattle.annotation.specs.Algebra.{Algebra}
use Rattle.table.specs.Rows.{Row, key, add_row, joined, total}

-- one row of a table that is put in, at its place
pub add_inserts : (K : Algebra) (r : Row) (at n : ℕ) (f g : ℕ → Row)
    → at ≤ n
    → ((i : ℕ) → i < at → key (f i) < key r)
    → (at < n → key r < key (f at))
    → ((i : ℕ) → i < at → g i ≡ f i)
    → g at ≡ r
    → ((i : ℕ) → at ≤ i → i < n → g (suc i) ≡ f i)
    → tab (suc n) g ≡ add_row K r (tab n f)
unfolding tab add_row
add_inserts K r zero zero f g h lo hi b m u = rw m refl
add_inserts K r zero (suc n) f g h lo hi b m u =
    let t : tab (suc n) (λ i. g (suc i)) ≡ tab (suc n) f = tab-ext (suc n) (λ i. g (suc i)) f (λ i q. u i (zero-le) q) in
    rw (lt-ltb (key r) (key (f zero)) (hi (omega arith)), m, t) refl
add_inserts K r (suc at) zero f g h lo hi b m u = absurd (omega arith)
add_inserts K r (suc at) (suc n) f g h lo hi b m u =
    let ih : tab (suc n) (λ i. g (suc i)) ≡ add_row K r (tab n (λ i. f (suc i)))
    = add_inserts K r at n (λ i. f (suc i)) (λ i. g (suc i)) (omega arith)
    (λ i q. lo (suc i) (omega arith)) (λ q. hi (omega arith)) (λ i q. b (suc i) (omega arith)) m
    (λ i q w. u (suc i) (omega arith) (omega arith)) in
    let lt : key (f zero) < key r = lo zero (omega arith) in
    rw (le-ltb (key r) (key (f zero)) (omega arith), ne_eqb (key r) (key (f zero)) (λ e. omega arith), b zero (omega arith), ih) refl

-- a row that is joined to the row of its key
pub add_joins : (K : Algebra) (r : Row) (at n : ℕ) (f g : ℕ → Row)
    → at < n
    → ((i : ℕ) → i < at → key (f i) < key r)
    → key (f at) ≡ key r
    → ((i : ℕ) → i < n → (i ≡ at → ⊥) → g i ≡ f i)
    → g at ≡ joined K r (f at)
    → tab n g ≡ add_row K r (tab n f)
unfolding tab add_row
add_joins K r at zero f g h lo e b m = absurd (omega arith)
add_joins K r zero (suc n) f g h lo e b m =
    let t : tab n (λ i. g (suc i)) ≡ tab n (λ i. f (suc i))
    = tab-ext n (λ i. g (suc i)) (λ i. f (suc i)) (λ i q. b (suc i) (omega arith) (λ z. omega arith)) in
    rw (le-ltb (key r) (key (f zero)) (omega arith), eq-eqb (key r) (key (f zero)) (sym e), m, t) refl
add_joins K r (suc at) (suc n) f g h lo e b m =
    let ih : tab n (λ i. g (suc i)) ≡ add_row K r (tab n (λ i. f (suc i)))
    = add_joins K r at n (λ i. f (suc i)) (λ i. g (suc i)) (omega arith)
    (λ i q. lo (suc i) (omega arith)) e (λ i q w. b (suc i) (omega arith) (λ z. w (omega arith))) m in
    let lt : key (f zero) < key r = lo zero (omega arith) in
    rw (le-ltb (key r) (key (f zero)) (omega arith), ne_eqb (key r) (key (f zero)) (λ z. omega arith), b zero (omega arith) (λ z. omega arith), ih) refl

-- the sum of the annotations after each
pub total-set : (at n : ℕ) (f g : ℕ → Row) → at < n
    → ((i : ℕ) → i < n → (i ≡ at → ⊥) → g i ≡ f i)
    → (f at).a < (g at).a
    → total (tab n f) < total (tab n g)
unfolding tab total
total-set at zero f g h b m = absurd (omega arith)
total-set zero (suc n) f g h b m =
    let t : tab n (λ i. g (suc i)) ≡ tab n (λ i. f (suc i))
    = tab-ext n (λ i. g (suc i)) (λ i. f (suc i)) (λ i q. b (suc i) (omega arith) (λ z. omega arith)) in
    rw t (omega arith)
total-set (suc at) (suc n) f g h b m =
    let ih : total (tab n (λ i. f (suc i))) < total (tab n (λ i. g (suc i)))
    = total-set at n (λ i. f (suc i)) (λ i. g (suc i)) (omega arith)
    (λ i q w. b (suc i) (omega arith) (λ z. w (omega arith))) m in
    rw (b zero (omega arith) (λ z. omega arith)) (omega arith)

pub total-insert : (r : Row) (at n : ℕ) (f g : ℕ → Row) → at ≤ n
    → ((i : ℕ) → i < at → g i ≡ f i)
    → g at ≡ r
    → ((i : ℕ) → at ≤ i → i < n → g (suc i) ≡ f i)
    → total (tab (suc n) g) ≡ r.a + total (tab n f)
unfolding tab total
total-insert r zero n f g h b m u =
    let t : tab n (λ i. g (suc i)) ≡ tab n f = tab-ext n (λ i. g (suc i)) f (λ i q. u i zero-le q) in
    rw (m, t) refl
total-insert r (suc at) zero f g h b m u = absurd (omega arith)
total-insert r (suc at) (suc n) f g h b m u =
    let ih : total (tab (suc n) (λ i. g (suc i))) ≡ r.a + total (tab n (λ i. f (suc i)))
    = total-insert r at n (λ i. f (suc i)) (λ i. g (suc i)) (omega arith)
    (λ i q. b (suc i) (omega arith)) m (λ i q w. u (suc i) (omega arith) (omega arith)) in
    rw (b zero (omega arith)) (omega arith)

-- a row of a new key makes the table longer by one
pub add_long : (K : Algebra) (r : Row) (at n : ℕ) (f : ℕ → Row)
    → at ≤ n
    → ((i : ℕ) → i < at → key (f i) < key r)
    → (at < n → key r < key (f at))
    → length (add_row K r (tab n f)) ≡ suc n
unfolding tab add_row
add_long K r zero zero f h lo hi = refl
add_long K r zero (suc n) f h lo hi =
    rw (lt-ltb (key r) (key (f zero)) (hi (omega arith))) (ap suc (ap suc (tab-length n (λ i. f (suc i)))))
add_long K r (suc at) zero f h lo hi = absurd (omega arith)
add_long K r (suc at) (suc n) f h lo hi =
    let ih : length (add_row K r (tab n (λ i. f (suc i)))) ≡ suc n
    = add_long K r at n (λ i. f (suc i)) (omega arith) (λ i q. lo (suc i) (omega arith)) (λ q. hi (omega arith)) in
    let lt : key (f zero) < key r = lo zero (omega arith) in
    rw (le-ltb (key r) (key (f zero)) (omega arith), ne_eqb (key r) (key (f zero)) (λ e. omega arith)) (ap suc ih)

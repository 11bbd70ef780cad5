-- Laws of `all_below`. Assumes nothing.
use mathlib.Core.Path.{◌≡◌, refl, sym, ap, ◌∙◌}
use mathlib.Core.Bool.{Bool, true, ◌&&◌, and-eq-true_iff}
use Prim.Native.Nat.{ℕ, zero, suc, ◌<◌}
use native.Mathlib.Omega.{arith}
use Rattle.ground.specs.Lists.{all_below}
use Rattle.ground.proofs.Bools.{same_test, equal-or}

pub all_below_lem : (n : ℕ) (f : ℕ → Bool) → ((i : ℕ) → i < n → f i ≡ true) → all_below n f ≡ true
unfolding all_below
all_below_lem zero f h = refl
all_below_lem (suc n) f h = rw (h zero (omega arith)) (all_below_lem n (λ i. f (suc i)) (λ i q. h (suc i) (omega arith)))

pub below_all : (n : ℕ) (f : ℕ → Bool) → all_below n f ≡ true → (i : ℕ) → i < n → f i ≡ true
unfolding all_below
below_all zero f h i q = absurd (omega arith)
below_all (suc n) f h zero q = ((and-eq-true_iff (f zero) (all_below n (λ i. f (suc i)))).0 h).0
below_all (suc n) f h (suc i) q = below_all n (λ i. f (suc i)) ((and-eq-true_iff (f zero) (all_below n (λ i. f (suc i)))).0 h).1 i (omega arith)

pub below-ext : (n : ℕ) (f g : ℕ → Bool) → ((i : ℕ) → i < n → f i ≡ g i) → all_below n f ≡ all_below n g
unfolding all_below
below-ext zero f g h = refl
below-ext (suc n) f g h =
    let t : all_below n (λ i. f (suc i)) ≡ all_below n (λ i. g (suc i)) = below-ext n (λ i. f (suc i)) (λ i. g (suc i)) (λ i q. h (suc i) (omega arith)) in
    rw (h zero (omega arith), t) refl

-- both hold below n
pub below-and : (n : ℕ) (f g : ℕ → Bool) → all_below n f && all_below n g ≡ all_below n (λ i. f i && g i)
below-and n f g =
    same_test (all_below n f && all_below n g) (all_below n (λ i. f i && g i))
    (λ h. let b = (and-eq-true_iff (all_below n f) (all_below n g)).0 h in
    all_below_lem n (λ i. f i && g i) (λ i q. (and-eq-true_iff (f i) (g i)).1 (below_all n f b.0 i q, below_all n g b.1 i q)))
    (λ h. (and-eq-true_iff (all_below n f) (all_below n g)).1 (
      all_below_lem n f (λ i q. ((and-eq-true_iff (f i) (g i)).0 (below_all n (λ i. f i && g i) h i q)).0),
      all_below_lem n g (λ i q. ((and-eq-true_iff (f i) (g i)).0 (below_all n (λ i. f i && g i) h i q)).1),
    ))

-- f is g but at v, where g holds and f is q
pub below_but : (n v : ℕ) (f g : ℕ → Bool) (q : Bool) → v < n → ((i : ℕ) → i < n → (i ≡ v → ⊥) → f i ≡ g i) → g v ≡ true → f v ≡ q
    → all_below n f ≡ all_below n g && q
below_but n v f g q h same gv fv =
    same_test (all_below n f) (all_below n g && q)
    (λ a. (and-eq-true_iff (all_below n g) q).1 (
      all_below_lem n g (λ i l. equal-or i v (λ e. ap g e ∙ gv) (λ e. sym (same i l e) ∙ below_all n f a i l)),
      sym fv ∙ below_all n f a v h,
    ))
    (λ a. let b = (and-eq-true_iff (all_below n g) q).0 a in
    all_below_lem n f (λ i l. equal-or i v (λ e. ap f e ∙ (fv ∙ b.1)) (λ e. same i l e ∙ below_all n g b.0 i l)))

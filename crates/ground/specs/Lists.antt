-- Lists: by index, one after another, and of which all are so.
use Rattle.std.specs.Prelude.{Bool, true, cond, ◌&&◌, List, [], ◌∷◌, ◌++◌, ℕ, zero, suc}

-- the first n values of f
unfoldable pub tab : {A : Type 0} → ℕ → (ℕ → A) → List A
tab zero f = []
tab (suc n) f = f zero ∷ tab n (λ i. f (suc i))

-- what f gives for each of them, in order
unfoldable pub each : {A B : Type 0} → (A → List B) → List A → List B
each f [] = []
each f (x ∷ xs) = f x ++ each f xs

-- x alone, if so
abbrev pub only_if : {A : Type 0} → Bool → A → List A
only_if holds x = cond holds (x ∷ []) []

-- whether f holds of every number below n
unfoldable pub all_below : ℕ → (ℕ → Bool) → Bool
all_below zero f = true
all_below (suc n) f = f zero && all_below n (λ i. f (suc i))

-- every one of them is so
abbrev pub All : {A : Type 0} → (A → Type 0) → List A → Type 0
All P [] = Unit {0}
All P (x ∷ xs) = P x × All P xs

-- every statement of a list holds
abbrev pub Every : List (Type 0) → Type 0
Every [] = Unit {0}
Every (s ∷ ss) = s × Every ss

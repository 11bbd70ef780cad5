-- Laws of `each`, `only_if`, `All` and `Every`. Assumes nothing.
use mathlib.Core.Path.{◌≡◌, refl, sym, ap, ◌∙◌}
use mathlib.Core.Bool.{Bool, true, false, cond, ◌&&◌, and_comm}
use mathlib.Core.List.{List, [], ◌∷◌, ◌++◌, append-nil, append_assoc}
use Rattle.ground.specs.Lists.{each, only_if, All, Every}

-- ---- all of them

module _ {A : Type 0} where
  pub all_append : (P : A → Type 0) (xs ys : List A) → All P xs → All P ys → All P (xs ++ ys)
  all_append P [] ys h k = k
  all_append P (x ∷ xs) ys h k = (h.0, all_append P xs ys h.1 k)

  pub all_map : (P Q : A → Type 0) (xs : List A) → ((x : A) → P x → Q x) → All P xs → All Q xs
  all_map P Q [] f h = tt
  all_map P Q (x ∷ xs) f h = (f x h.0, all_map P Q xs f h.1)

  pub all_if : (P : A → Type 0) (u : Bool) (x : A) → (u ≡ true → P x) → All P (only_if u x)
  all_if P true x h = (h refl, tt)
  all_if P false x h = tt

pub every_append : (xs ys : List (Type 0)) → Every xs → Every ys → Every (xs ++ ys)
every_append [] ys h k = k
every_append (x ∷ xs) ys h k = (h.0, every_append xs ys h.1 k)

pub every_front : (xs ys : List (Type 0)) → Every (xs ++ ys) → Every xs
every_front [] ys h = tt
every_front (x ∷ xs) ys h = (h.0, every_front xs ys h.1)

-- ---- each

module _ {A B : Type 0} where
  pub each-one : (f : A → List B) (x : A) → each f (x ∷ []) ≡ f x
  unfolding each
  each-one f x = append-nil (f x)

  pub each_append : (f : A → List B) (xs ys : List A) → each f (xs ++ ys) ≡ each f xs ++ each f ys
  unfolding each
  each_append f [] ys = refl
  each_append f (x ∷ xs) ys = rw (each_append f xs ys) (sym (append_assoc (f x) (each f xs) (each f ys)))

  -- two functions that agree on all of them
  pub each_same : (P : A → Type 0) (f g : A → List B) (xs : List A) → ((x : A) → P x → f x ≡ g x) → All P xs → each f xs ≡ each g xs
  unfolding each
  each_same P f g [] e h = refl
  each_same P f g (x ∷ xs) e h = rw (e x h.0, each_same P f g xs e h.1) refl

  pub each-ext : (f g : A → List B) (xs : List A) → ((x : A) → f x ≡ g x) → each f xs ≡ each g xs
  unfolding each
  each-ext f g [] h = refl
  each-ext f g (x ∷ xs) h = rw (h x, each-ext f g xs h) refl

  -- none of them gives anything
  pub each_none : (f : A → List B) (xs : List A) → All (λ x. f x ≡ []) xs → each f xs ≡ []
  unfolding each
  each_none f [] h = refl
  each_none f (x ∷ xs) h = rw h.0 (each_none f xs h.1)

  pub each-nothing : (xs : List A) → ◌≡◌ {A = List B} (each (λ x. []) xs) []
  unfolding each
  each-nothing [] = refl
  each-nothing (x ∷ xs) = each-nothing xs

  pub all_each : (P : A → Type 0) (Q : B → Type 0) (f : A → List B) (xs : List A) → ((x : A) → P x → All Q (f x)) → All P xs → All Q (each f xs)
  unfolding each
  all_each P Q f [] g h = tt
  all_each P Q f (x ∷ xs) g h = all_append Q (f x) (each f xs) (g x h.0) (all_each P Q f xs g h.1)

  -- of one at most
  pub each-only : (u : Bool) (f : A → List B) (x : A) (ys : List B) → (u ≡ true → f x ≡ ys) → each f (only_if u x) ≡ cond u ys []
  unfolding each
  each-only true f x ys h = append-nil (f x) ∙ h refl
  each-only false f x ys h = refl

  pub each-if : (f : A → List B) (u : Bool) (x : A) → each f (only_if u x) ≡ cond u (f x) []
  each-if f u x = each-only u f x (f x) (λ _. refl)

pub each-each : {A B C : Type 0} (g : B → List C) (f : A → List B) (xs : List A) → each g (each f xs) ≡ each (λ x. each g (f x)) xs
unfolding each
each-each g f [] = refl
each-each {C} g f (x ∷ xs) = each_append g (f x) (each f xs) ∙ ap (λ (l : List C). each g (f x) ++ l) (each-each g f xs)

-- what is done before and what after may change places, where it may for each of them
pub each-swap : {A : Type 0} (P : A → Type 0) (j f g : A → List A) (xs : List A) → All P xs
    → ((x : A) → P x → each j (f x) ≡ each g (j x)) → each j (each f xs) ≡ each g (each j xs)
unfolding each
each-swap P j f g [] h k = refl
each-swap P j f g (x ∷ xs) h k =
    each_append j (f x) (each f xs)
    ∙ rw (k x h.0, each-swap P j f g xs h.1 k) (sym (each_append g (j x) (each j xs)))

-- ---- one at most

module _ {A : Type 0} where
  pub if_if : (u w : Bool) (x : A) → cond u (only_if w x) [] ≡ only_if (u && w) x
  if_if true w x = refl
  if_if false w x = refl

  pub if_swap : (u w : Bool) (x : A) → cond w (only_if u x) [] ≡ only_if (u && w) x
  if_swap u w x = if_if w u x ∙ ap (λ (v : Bool). only_if v x) (and_comm w u)

  pub if_same : (u w : Bool) (x y : A) → u ≡ w → (u ≡ true → x ≡ y) → only_if u x ≡ only_if w y
  if_same u true x y e h = rw (e, h e) refl
  if_same u false x y e h = rw e refl

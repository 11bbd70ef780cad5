-- The different ones of a list as they are met: which they are, and that they only grow. Assumes nothing.
use mathlib.Core.Path.{◌≡◌, refl, sym, subst, ◌∙◌}
use mathlib.Core.Bool.{Bool, true, false, cond, ◌||◌, false≢true}
use mathlib.Core.List.{List, [], ◌∷◌, ◌++◌, append_assoc, append-nil}
use mathlib.Core.Logic.{◌⊎◌, inl, inr, ⊎_elim}
use Prim.Native.Nat.{◌≤◌}
use native.Mathlib.Omega.{arith}
use lib.ListN.{length}
use Rattle.ntriples.specs.Shown.{is_among, met_after}

-- ---- one of a list

pub data In {A : Type 0} (x : A) : List A → Type 0 where
  here : {y : A} {ys : List A} → y ≡ x → In x (y ∷ ys)
  later : {y : A} {ys : List A} → In x ys → In x (y ∷ ys)

module _ {A : Type 0} where
  pub in_front : {x : A} {xs : List A} → In x xs → (ys : List A) → In x (xs ++ ys)
  in_front (here e) ys = here e
  in_front (later i) ys = later (in_front i ys)

  pub in_behind : {x : A} (xs : List A) {ys : List A} → In x ys → In x (xs ++ ys)
  in_behind [] i = i
  in_behind (y ∷ xs) i = later (in_behind xs i)

  pub in_either : {x : A} (xs ys : List A) → In x (xs ++ ys) → In x xs ⊎ In x ys
  in_either [] ys i = inr i
  in_either (y ∷ xs) ys (here e) = inl (here e)
  in_either (y ∷ xs) ys (later i) = ⊎_elim (λ j. inl (later j)) (λ j. inr j) (in_either xs ys i)

  in_some : {x : A} {xs : List A} → In x xs → 1 ≤ length xs
  in_some (here e) = omega arith
  in_some (later i) = let h = in_some i in omega arith

  pub in_none : {x : A} → In x [] → ⊥
  in_none i = let h = in_some i in omega arith

  pub in_one : {x y : A} → In x (y ∷ []) → y ≡ x
  in_one (here e) = e
  in_one {y = y} (later i) = elim i [ ]

-- ---- met

module _ {A : Type 0} (same : A → A → Bool) where
  pub met-append : (met xs ys : List A) → met_after same met (xs ++ ys) ≡ met_after same (met_after same met xs) ys
  unfolding met_after
  met-append met [] ys = refl
  met-append met (x ∷ xs) ys = met-append (cond (is_among same x met) met (met ++ (x ∷ []))) xs ys

  -- more behind those met before
  pub record Grown (met all : List A) : Type 0 where
    pub new : List A
    pub is : all ≡ met ++ new

  grown_on : (b : Bool) (met all : List A) (x : A) → Grown (cond b met (met ++ (x ∷ []))) all → Grown met all
  grown_on true met all x g = g
  grown_on false met all x g = record { new = x ∷ g.new; is = g.is ∙ append_assoc met (x ∷ []) g.new }

  pub met-grown : (met xs : List A) → Grown met (met_after same met xs)
  unfolding met_after
  met-grown met [] = record { new = []; is = sym (append-nil met) }
  met-grown met (x ∷ xs) =
      grown_on (is_among same x met) met (met_after same (cond (is_among same x met) met (met ++ (x ∷ []))) xs) x (met-grown (cond (is_among same x met) met (met ++ (x ∷ []))) xs)

  module _ (tells : (x y : A) → same x y ≡ true → x ≡ y) (self : (x y : A) → x ≡ y → same x y ≡ true) where
    pub among_in : (x : A) (ys : List A) → is_among same x ys ≡ true → In x ys
    unfolding is_among
    among_in x [] h = absurd (false≢true h)
    among_in x (y ∷ ys) h = go (same y x) refl h (λ k. among_in x ys k)
      where
        go : (b : Bool) → same y x ≡ b → (b || is_among same x ys) ≡ true → (is_among same x ys ≡ true → In x ys) → In x (y ∷ ys)
        go true e k again = here (tells y x e)
        go false e k again = later (again k)

    pub in_among : {x : A} {ys : List A} → In x ys → is_among same x ys ≡ true
    unfolding is_among
    in_among {x = x} (here {y = y} e) = rw (self y x e) refl
    in_among {x = x} (later {y = y} {ys = ys} i) = go (same y x) (in_among i)
      where
        go : (b : Bool) → is_among same x ys ≡ true → (b || is_among same x ys) ≡ true
        go true k = refl
        go false k = k

    -- nothing else is met
    pub in_met : (met xs : List A) {x : A} → In x (met_after same met xs) → In x met ⊎ In x xs
    unfolding met_after
    in_met met [] i = inl i
    in_met met (y ∷ xs) {x} i = go (is_among same y met) (in_met (cond (is_among same y met) met (met ++ (y ∷ []))) xs i)
      where
        go : (b : Bool) → In x (cond b met (met ++ (y ∷ []))) ⊎ In x xs → In x met ⊎ In x (y ∷ xs)
        go true j = ⊎_elim (λ k. inl k) (λ k. inr (later k)) j
        go false j = ⊎_elim (λ k. ⊎_elim (λ q. inl q) (λ q. inr (here (in_one q))) (in_either met (y ∷ []) k)) (λ k. inr (later k)) j

    -- and all of them are
    pub met-before : (met xs : List A) {x : A} → In x met → In x (met_after same met xs)
    met-before met xs {x} i = let g = met-grown met xs in subst (In x) (sym g.is) (in_front i g.new)

    pub met_all : (met xs : List A) {x : A} → In x xs → In x (met_after same met xs)
    unfolding met_after
    met_all met [] {x = x} i = elim i [ ]
    met_all met (y ∷ xs) {x} (here e) = met-before (cond (is_among same y met) met (met ++ (y ∷ []))) xs (go (is_among same y met) refl)
      where
        go : (b : Bool) → is_among same y met ≡ b → In x (cond b met (met ++ (y ∷ [])))
        go true h = subst (λ (z : A). In z met) e (among_in y met h)
        go false h = in_behind met (here e)
    met_all met (y ∷ xs) (later i) = met_all (cond (is_among same y met) met (met ++ (y ∷ []))) xs i

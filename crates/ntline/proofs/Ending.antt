-- What the longest match found is a way through the states that ends a terminal. Assumes nothing.
use mathlib.Core.Path.{◌≡◌, refl, sym, ap, ◌∙◌}
use mathlib.Core.Bool.{Bool, true, false, cond}
use mathlib.Core.List.{List, [], ◌∷◌, ◌++◌}
use mathlib.Core.Logic.{◌⊎◌, inl, inr, ⊎_elim}
use Prim.Native.Nat.{ℕ}
use lib.Dec.{eqb}
use borrow.Author.Tests.{eqb-false}
use Rattle.ntline.specs.declared.lexing.State.{State}
use Rattle.ntline.specs.declared.lexing.State.TheVariants.{Start, Dead}
use Rattle.ntline.specs.Lexing.{step, kind_of, Token, token_is, munched, token_of}

-- characters that take a state to one where a terminal of a kind may end
pub data Ends : State → List ℕ → ℕ → Type 0 where
  here : {s : State} {c kind : ℕ} → kind_of (step s c) ≡ kind → (kind ≡ 0 → ⊥) → Ends s (c ∷ []) kind
  on : {s : State} {c kind : ℕ} {cs : List ℕ} → Ends (step s c) cs kind → Ends s (c ∷ cs) kind

-- a terminal found: its characters, and what is left
pub record Found (s : State) (xs : List ℕ) (t : Token) : Type 0 where
  pub front : List ℕ
  pub parts : xs ≡ front ++ t.rest
  pub ends : Ends s front t.kind

on_found_lem : {s : State} {c : ℕ} {cs : List ℕ} {t : Token} → Found (step s c) cs t → Found s (c ∷ cs) t
on_found_lem {c = c} f = record { front = c ∷ f.front; parts = ap (λ (l : List ℕ). c ∷ l) f.parts; ends = on f.ends }

abbrev pub Fate : State → ℕ → List ℕ → List ℕ → Type 0
Fate s kind rest xs = (munched s kind rest xs ≡ token_is kind rest) ⊎ Found s xs (munched s kind rest xs)

-- by whether a terminal may end behind the first character
by_kind : (s : State) (kind : ℕ) (rest : List ℕ) (c : ℕ) (cs : List ℕ) → ((k : ℕ) (r : List ℕ) → Fate (step s c) k r cs) →
    (x : Bool) → eqb (kind_of (step s c)) 0 ≡ x →
    (munched (step s c) (cond x kind (kind_of (step s c))) (cond x rest cs) cs ≡ token_is kind rest)
    ⊎ Found s (c ∷ cs) (munched (step s c) (cond x kind (kind_of (step s c))) (cond x rest cs) cs)
by_kind s kind rest c cs fate true e = ⊎_elim (λ q. inl q) (λ f. inr (on_found_lem f)) (fate kind rest)
by_kind s kind rest c cs fate false e =
    ⊎_elim
    (λ q. inr (record {
      front = c ∷ [];
      parts = ap (λ (t : Token). c ∷ t.rest) (sym q);
      ends = here (ap (λ (t : Token). t.kind) (sym q)) (λ z. eqb-false (kind_of (step s c)) 0 e (ap (λ (t : Token). t.kind) (sym q) ∙ z));
    }))
    (λ f. inr (on_found_lem f))
    (fate (kind_of (step s c)) cs)

pub munched-found : (s : State) (kind : ℕ) (rest xs : List ℕ) → Fate s kind rest xs
unfolding munched
munched-found s kind rest [] = inl refl
munched-found s kind rest (c ∷ cs) = by_kind s kind rest c cs (λ k r. munched-found (step s c) k r cs) (eqb (kind_of (step s c)) 0) refl

-- no way leads on from where no terminal goes on
pub ends-dead : {s : State} {cs : List ℕ} {kind : ℕ} → Ends s cs kind → s ≡ Dead → ⊥
unfolding step kind_of
ends-dead (here {s = s} {c = c} e some) is = some (sym e ∙ ap (λ (t : State). kind_of (step t c)) is)
ends-dead (on {s = s} {c = c} w) is = ends-dead w (ap (λ (t : State). step t c) is)

-- the terminal at the front
pub token_found : (xs : List ℕ) → ((token_of xs).kind ≡ 0 → ⊥) → Found Start xs (token_of xs)
unfolding token_of
token_found xs some =
    ⊎_elim (λ q. absurd (some (ap (λ (t : Token). t.kind) q))) (λ f. f) (munched-found Start 0 xs xs)

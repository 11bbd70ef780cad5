-- What the sorts mean as orders of numbers, that no legal term is the mark "unbound", and the laws of a term's checks. Proofs above cite these
-- and look no further into `is_legal_term` and `is_name_lem`. Assumes nothing.
use mathlib.Core.Path.{◌≡◌, refl, sym, ap, ◌∙◌}
use mathlib.Core.Bool.{Bool, true, false, not}
use mathlib.Core.List.{List, [], ◌++◌}
use Prim.Native.Nat.{ℕ, ◌≤◌, ◌<◌, ◌*◌, ◌+◌}
use native.Mathlib.Omega.{arith}
use borrow.Author.Tests.{eqb-true, ltb-true, lt-ltb, not-false}
use Rattle.term.specs.Refusal.{Check, done, first}
use Rattle.term.specs.declared.refusal.Verdict.{Verdict}
use Rattle.term.specs.Term.{per_sort, sort_of, number_of, unbound, is_legal_term, is_name_lem, milliamps, term_checks, predicate_checks}
use Rattle.term.proofs.Firsts.{Numbered, AllAt, Alike, first-none, first_passes, first-split, number-split}

-- a term is its sort and its number
pub sort-and_number : (t : ℕ) → sort_of t * per_sort + number_of t ≡ t
sort-and_number t = omega arith

-- "65,535 .. marks 'unbound'": every legal term is below it
pub legal-below : (t : ℕ) → is_legal_term t ≡ true → t < unbound
legal-below t e = omega (arith, ltb-true t _ e)

pub legal-not_unbound : (t : ℕ) → is_legal_term t ≡ true → t ≡ unbound → ⊥
legal-not_unbound t e u = omega (arith, legal-below t e)

-- "Only 65,535 stays illegal": of the 16-bit numbers
pub other-legal : (t : ℕ) → t < 65536 → (t ≡ unbound → ⊥) → is_legal_term t ≡ true
other-legal t small other = lt-ltb t unbound (omega (arith, other))

pub unbound-illegal : is_legal_term unbound ≡ false
unbound-illegal = refl

-- what has a text is legal
pub sort-legal : (t : ℕ) → sort_of t ≤ 2 → is_legal_term t ≡ true
sort-legal t h = lt-ltb t unbound (omega arith)

-- "Sort 3 becomes legal: a value from 0 to 16,382": a legal term of sort 3 whose number it is, and no name; one more would be 65,535
pub value-legal : (m : ℕ) → m ≤ 16382 → (is_legal_term (milliamps m) ≡ true) × (sort_of (milliamps m) ≡ 3) × (number_of (milliamps m) ≡ m)
value-legal m h = (lt-ltb (milliamps m) unbound (omega arith), omega arith, omega arith)

pub value_at-most : (t : ℕ) → is_legal_term t ≡ true → sort_of t ≡ 3 → number_of t ≤ 16382
value_at-most t e three = omega (arith, legal-below t e)

pub one-more_is_unbound : milliamps 16383 ≡ unbound
one-more_is_unbound = refl

-- a name is a legal term
pub name_legal : (t : ℕ) → is_name_lem t ≡ true → is_legal_term t ≡ true
name_legal t e = sort-legal t (omega (arith, eqb-true (sort_of t) 0 e))

pub name_below : (t : ℕ) → is_name_lem t ≡ true → t < unbound
name_below t e = legal-below t (name_legal t e)

pub name_not_unbound : (t : ℕ) → is_name_lem t ≡ true → t ≡ unbound → ⊥
name_not_unbound t e u = legal-not_unbound t (name_legal t e) u

-- the checks of a term and of a predicate: numbered, at one place, and the same at every place
module _ (t p : ℕ) where
  pub term-numbered : Numbered (term_checks t p)
  term-numbered = (omega arith, tt)

  pub term-at : AllAt p (term_checks t p)
  term-at = (refl, tt)

  pub predicate-numbered : Numbered (predicate_checks t p)
  predicate-numbered = (omega arith, (omega arith, tt))

  pub predicate-at : AllAt p (predicate_checks t p)
  predicate-at = (refl, (refl, tt))

module _ (t p q : ℕ) where
  pub term-alike : Alike (term_checks t p) (term_checks t q)
  term-alike = ((refl, refl), tt)

  pub predicate-alike : Alike (predicate_checks t p) (predicate_checks t q)
  predicate-alike = ((refl, refl), ((refl, refl), tt))

-- they pass exactly for a legal term, and for a name
module _ (t p : ℕ) (cs : List Check) where
  pub term-passes : is_legal_term t ≡ true → first (term_checks t p ++ cs) ≡ first cs
  term-passes h = first_passes _ 8 p cs (rw h refl)

  pub predicate-passes : is_name_lem t ≡ true → first (predicate_checks t p ++ cs) ≡ first cs
  predicate-passes h = first_passes (not (is_legal_term t)) 8 p _ (rw (name_legal t h) refl) ∙ first_passes _ 9 p cs (rw h refl)

  pub passes-term : first (term_checks t p ++ cs) ≡ done → (is_legal_term t ≡ true) × (first cs ≡ done)
  passes-term e = let s = first-split 8 p (not (is_legal_term t)) cs (omega arith) e in (not-false _ s.0, s.1)

  pub passes-predicate : first (predicate_checks t p ++ cs) ≡ done → (is_name_lem t ≡ true) × (first cs ≡ done)
  passes-predicate e =
      let s = first-split 8 p (not (is_legal_term t)) _ (omega arith) e in
      let n = first-split 9 p (not (is_name_lem t)) cs (omega arith) s.1 in
      (not-false _ n.0, n.1)

-- what a term's refusal number says
module _ (t n : ℕ) (e : n ≡ (first (term_checks t 0)).number) where
  pub term-legal : n ≤ 0 → is_legal_term t ≡ true
  term-legal h = not-false _ (number-split (not (is_legal_term t)) 8 0 [] (omega arith) (sym e ∙ omega arith)).0

  pub term-illegal : 0 < n → is_legal_term t ≡ false
  term-illegal h = go (is_legal_term t) refl
    where
      go : (u : Bool) → is_legal_term t ≡ u → is_legal_term t ≡ false
      go false q = q
      go true q = absurd (let z : n ≡ 0 = e ∙ ap (λ (v : Verdict). v.number) (term-passes t 0 [] q ∙ first-none) in omega arith)

-- what the checks pass is a 16-bit number
pub term_fits : (t p : ℕ) (cs : List Check) → (first (term_checks t p ++ cs)).number ≡ 0 → t < 65536
term_fits t p cs e = omega (arith, legal-below t (not-false _ (number-split (not (is_legal_term t)) 8 p cs (omega arith) e).0))

pub predicate-fits : (t p : ℕ) (cs : List Check) → (first (predicate_checks t p ++ cs)).number ≡ 0 → t < 65536
predicate-fits t p cs e = omega (arith, legal-below t (not-false _ (number-split (not (is_legal_term t)) 8 p _ (omega arith) e).0))

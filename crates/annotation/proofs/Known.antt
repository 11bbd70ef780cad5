-- A kind that the code has is one of the document's, and no other is refused. Assumes nothing.
use Rattle.std.proofs.Common.{◌≡◌, Bool, true, false, cond, eqb, ℕ, refl, sym, ap, ◌∙◌, subst}
use mathlib.Core.Bool.{false≢true}
use Rattle.term.specs.Refusal.{first}
use Rattle.annotation.specs.declared.Kind.{Kind}
use Rattle.annotation.specs.declared.Kind.TheVariants.{Years, Degree, Strict, Sheets}
use borrow.Author.Tests.{ne_eqb}
use Rattle.annotation.specs.Kinds.{is_kind, kind_checks, annotation_checks, strict, algebra}
use Rattle.annotation.specs.Numbered.{kind_number, strict_or}
use Rattle.annotation.proofs.Which.{is-strict}

pub kind-known : (k : Kind) → is_kind (kind_number k) ≡ true
unfolding is_kind
kind-known Years = refl
kind-known Degree = refl
kind-known Strict = refl
kind-known Sheets = refl

pub kind-passes : (k : Kind) → 0 ≡ (first (kind_checks (kind_number k) 0)).number
unfolding first
kind-passes k = rw (kind-known k) refl

-- "4: kind"
pub unknown_is4 : (n : ℕ) → is_kind n ≡ false → 4 ≡ (first (kind_checks n 0)).number
unfolding first
unknown_is4 n h = rw h refl

-- "(a number that is no kind is refused before its algebra matters)"
pub other-strict : (n : ℕ) → is_kind n ≡ false → algebra n ≡ strict
unfolding is_kind
other-strict n h =
    is-strict n (λ e. false≢true (sym h ∙ ap is_kind e)) (λ e. false≢true (sym h ∙ ap is_kind e)) (λ e. false≢true (sym h ∙ ap is_kind e))

-- a number that a kind has is not refused
pub known_passes : (k : Kind) (n : ℕ) → kind_number k ≡ n → 0 ≡ (first (kind_checks n 0)).number
known_passes k n e = subst (λ (x : ℕ). 0 ≡ (first (kind_checks x 0)).number) e (kind-passes k)

-- .. so it is judged as what it stands for is
pub stands-algebra : (n : ℕ) → algebra (strict_or n) ≡ algebra n
unfolding algebra
stands-algebra n = go (is_kind n) refl
  where
    go : (b : Bool) → is_kind n ≡ b → algebra (cond b n 4) ≡ algebra n
    go true e = refl
    go false e = sym (other-strict n e)

pub stands-checks : (n a place : ℕ) → annotation_checks (strict_or n) a place ≡ annotation_checks n a place
unfolding is_kind
stands-checks n a place = go (is_kind n) refl
  where
    go : (b : Bool) → is_kind n ≡ b → annotation_checks (cond b n 4) a place ≡ annotation_checks n a place
    go true e = refl
    go false e =
        let n1 : eqb n 1 ≡ false = ne_eqb n 1 (λ z. false≢true (sym e ∙ ap is_kind z)) in
        let n5 : eqb n 5 ≡ false = ne_eqb n 5 (λ z. false≢true (sym e ∙ ap is_kind z)) in
        rw (n1, n5) refl

-- The checks of a kind and of an annotation: how they are numbered and placed, and that they pass exactly for a kind that there is and a legal
-- annotation. Proofs above cite these: how many checks there are, and which kinds, is told here alone. Assumes nothing.
use mathlib.Core.Path.{◌≡◌, refl, ◌∙◌}
use mathlib.Core.Bool.{Bool, true, false, not, cond, and-eq-true_iff}
use mathlib.Core.List.{List, ◌∷◌, ◌++◌}
use Prim.Native.Nat.{ℕ, ◌<◌}
use native.Mathlib.Omega.{arith}
use borrow.Author.Tests.{not-true, not-false}
use Rattle.term.specs.Refusal.{Check, refuse, verdict, done, first}
use Rattle.term.proofs.Firsts.{Numbered, Without, AllAt, Alike, first_stops, first_passes, first-split, number-split}
use Rattle.annotation.specs.Kinds.{is_kind, kind_checks, is_in_range, misses_larger, is_legal, annotation_checks}
use Rattle.annotation.proofs.KindLaws.{laws}
use Rattle.annotation.proofs.Legal.{legal-value}

module _ (kind p : ℕ) where
  pub kind-numbered : Numbered (kind_checks kind p)
  kind-numbered = (omega arith, tt)

  -- none says "no room"
  pub kind-not_12 : Without 12 (kind_checks kind p)
  kind-not_12 = (λ e. omega arith, tt)

  pub kind_at : AllAt p (kind_checks kind p)
  kind_at = (refl, tt)

  only-four : 0 < (first (kind_checks kind p)).number → first (kind_checks kind p) ≡ verdict 4 p
  unfolding first
  only-four h = go (not (is_kind kind)) h
    where
      go : (u : Bool) → 0 < (cond u (verdict 4 p) done).number → cond u (verdict 4 p) done ≡ verdict 4 p
      go true q = refl
      go false q = absurd (omega arith)

  module _ (cs : List Check) where
    pub kind-passes : is_kind kind ≡ true → first (kind_checks kind p ++ cs) ≡ first cs
    kind-passes h = first_passes _ 4 p cs (rw h refl)

    -- a kind that there is not is refused with 4
    pub kind-refused : 0 < (first (kind_checks kind p)).number → first (kind_checks kind p ++ cs) ≡ verdict 4 p
    kind-refused h = first_stops (kind_checks kind p) cs h ∙ only-four h

    pub passes-kind : first (kind_checks kind p ++ cs) ≡ done → (is_kind kind ≡ true) × (first cs ≡ done)
    passes-kind e = let s = first-split 4 p (not (is_kind kind)) cs (omega arith) e in (not-false _ s.0, s.1)

module _ (kind a p : ℕ) where
  pub annotation-numbered : Numbered (annotation_checks kind a p)
  annotation-numbered = (omega arith, (omega arith, tt))

  pub annotation-not_12 : Without 12 (annotation_checks kind a p)
  annotation-not_12 = (λ e. omega arith, (λ e. omega arith, tt))

  pub annotation-at : AllAt p (annotation_checks kind a p)
  annotation-at = (refl, (refl, tt))

  pub annotation-alike : (q : ℕ) → Alike (annotation_checks kind a p) (annotation_checks kind a q)
  annotation-alike q = ((refl, refl), ((refl, refl), tt))

  both-legal : not (is_in_range kind a) ≡ false → misses_larger kind a ≡ false → is_legal kind a ≡ true
  both-legal r m = rw (not-false (is_in_range kind a) r, m) refl

  module _ (cs : List Check) where
    pub annotation-passes : is_legal kind a ≡ true → first (annotation_checks kind a p ++ cs) ≡ first cs
    annotation-passes h =
        let b = (and-eq-true_iff (is_in_range kind a) (not (misses_larger kind a))).0 h in
        first_passes (not (is_in_range kind a)) 10 p (refuse (misses_larger kind a) 28 p ∷ cs) (rw b.0 refl)
        ∙ first_passes (misses_larger kind a) 28 p cs (not-true (misses_larger kind a) b.1)

    pub passes-annotation : first (annotation_checks kind a p ++ cs) ≡ done → (is_legal kind a ≡ true) × (first cs ≡ done)
    passes-annotation e =
        let r = first-split 10 p (not (is_in_range kind a)) (refuse (misses_larger kind a) 28 p ∷ cs) (omega arith) e in
        let m = first-split 28 p (misses_larger kind a) cs (omega arith) r.1 in
        (both-legal r.0 m.0, m.1)

    -- what the checks pass is a 64-bit number
    pub annotation-fits : (first (annotation_checks kind a p ++ cs)).number ≡ 0 → a < 18446744073709551616
    annotation-fits e =
        let r = number-split (not (is_in_range kind a)) 10 p (refuse (misses_larger kind a) 28 p ∷ cs) (omega arith) e in
        let m = number-split (misses_larger kind a) 28 p cs (omega arith) r.1 in
        omega (arith, (laws kind).value_bound a (legal-value a kind (both-legal r.0 m.0)).1)

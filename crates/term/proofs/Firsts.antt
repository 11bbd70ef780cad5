-- Laws of `first`: which check gives the number and place. Assumes nothing.
use mathlib.Core.Path.{◌≡◌, refl, sym, ap, ◌∙◌}
use mathlib.Core.Bool.{Bool, true, false, cond}
use mathlib.Core.List.{List, [], ◌∷◌, ◌++◌}
use Prim.Native.Nat.{ℕ, zero, suc, ◌≤◌, ◌<◌}
use native.Mathlib.Omega.{arith}
use Rattle.term.specs.Refusal.{Check, refuse, verdict, done, first}
use Rattle.term.specs.declared.refusal.Verdict.{Verdict}

pub first-none : first [] ≡ done
unfolding first
first-none = refl

pub first_holds : (w : Bool) (number place : ℕ) (cs : List Check) → w ≡ true → first (refuse w number place ∷ cs) ≡ verdict number place
unfolding first
first_holds w number place cs h = rw h refl

pub first_passes : (w : Bool) (number place : ℕ) (cs : List Check) → w ≡ false → first (refuse w number place ∷ cs) ≡ first cs
unfolding first
first_passes w number place cs h = rw h refl

-- checks that give a number give it whatever follows
pub first_stops : (cs ds : List Check) → 0 < (first cs).number → first (cs ++ ds) ≡ first cs
unfolding first
first_stops [] ds h = absurd (omega arith)
first_stops (c ∷ cs) ds h = go c.when (first_stops cs ds) h
  where
    go : (w : Bool) → (0 < (first cs).number → first (cs ++ ds) ≡ first cs) → 0 < (cond w (verdict c.number c.place) (first cs)).number
        → cond w (verdict c.number c.place) (first (cs ++ ds)) ≡ cond w (verdict c.number c.place) (first cs)
    go true ih q = refl
    go false ih q = ih q

-- what follows the same checks and gives the same, gives the same with them
pub first-same : (cs ds es : List Check) → first ds ≡ first es → first (cs ++ ds) ≡ first (cs ++ es)
unfolding first
first-same [] ds es e = e
first-same (c ∷ cs) ds es e = ap (λ (v : Verdict). cond c.when (verdict c.number c.place) v) (first-same cs ds es e)

-- no check has the number 0, which means done
abbrev pub Numbered : List Check → Type 0
Numbered [] = Unit {0}
Numbered (c ∷ cs) = (0 < c.number) × Numbered cs

pub numbered-append : (cs ds : List Check) → Numbered cs → Numbered ds → Numbered (cs ++ ds)
numbered-append [] ds h k = k
numbered-append (c ∷ cs) ds h k = (h.0, numbered-append cs ds h.1 k)

caught_or : (w : Bool) (c : Check) (v : Verdict) → 0 < c.number → (cond w (verdict c.number c.place) v).number ≡ 0 → (w ≡ false) × (v.number ≡ 0)
caught_or true c v h e = absurd (omega arith)
caught_or false c v h e = (refl, e)

-- checks of which none gives a number pass
pub first-clear : (cs ds : List Check) → Numbered cs → (first cs).number ≡ 0 → first (cs ++ ds) ≡ first ds
unfolding first
first-clear [] ds h e = refl
first-clear (c ∷ cs) ds h e =
    let k = caught_or c.when c (first cs) h.0 e in
    rw k.0 (first-clear cs ds h.1 k.1)

pub first_done : (cs : List Check) → Numbered cs → (first cs).number ≡ 0 → first cs ≡ done
unfolding first
first_done [] h e = refl
first_done (c ∷ cs) h e =
    let k = caught_or c.when c (first cs) h.0 e in
    rw k.0 (first_done cs h.1 k.1)

-- no check has the number k, and so it is not given
abbrev pub Without : ℕ → List Check → Type 0
Without k [] = Unit {0}
Without k (c ∷ cs) = (c.number ≡ k → ⊥) × Without k cs

pub without_append : (k : ℕ) (cs ds : List Check) → Without k cs → Without k ds → Without k (cs ++ ds)
without_append k [] ds h w = w
without_append k (c ∷ cs) ds h w = (h.0, without_append k cs ds h.1 w)

pub never_given : (k : ℕ) (cs : List Check) → 0 < k → Without k cs → (first cs).number ≡ k → ⊥
unfolding first
never_given k [] p h e = omega arith
never_given k (c ∷ cs) p h e = go c.when (never_given k cs p h.1) e
  where
    go : (w : Bool) → ((first cs).number ≡ k → ⊥) → (cond w (verdict c.number c.place) (first cs)).number ≡ k → ⊥
    go true ih q = h.0 q
    go false ih q = ih q

-- the checks all have the place p, and so has the number that they give
abbrev pub AllAt : ℕ → List Check → Type 0
AllAt p [] = Unit {0}
AllAt p (c ∷ cs) = (c.place ≡ p) × AllAt p cs

pub at_append : (p : ℕ) (cs ds : List Check) → AllAt p cs → AllAt p ds → AllAt p (cs ++ ds)
at_append p [] ds h k = k
at_append p (c ∷ cs) ds h k = (h.0, at_append p cs ds h.1 k)

pub first-place : (p : ℕ) (cs : List Check) → AllAt p cs → 0 < (first cs).number → first cs ≡ verdict (first cs).number p
unfolding first
first-place p [] h e = absurd (omega arith)
first-place p (c ∷ cs) h e = go c.when (first-place p cs h.1) e
  where
    go : (w : Bool) → (0 < (first cs).number → first cs ≡ verdict (first cs).number p)
        → 0 < (cond w (verdict c.number c.place) (first cs)).number
        → cond w (verdict c.number c.place) (first cs) ≡ verdict (cond w (verdict c.number c.place) (first cs)).number p
    go true ih q = ap (verdict c.number) h.0
    go false ih q = ih q

-- a list that gives done passes, whatever its places
first-all : (w : Bool) (n p : ℕ) (v : Verdict) → 0 < n → cond w (verdict n p) v ≡ done → (w ≡ false) × (v ≡ done)
first-all true n p v h e = absurd (let z : n ≡ 0 = ap (λ (u : Verdict). u.number) e in omega arith)
first-all false n p v h e = (refl, e)

pub first-split : (n p : ℕ) (w : Bool) (cs : List Check) → 0 < n → first (refuse w n p ∷ cs) ≡ done → (w ≡ false) × (first cs ≡ done)
unfolding first
first-split n p w cs h e = first-all w n p (first cs) h e

-- the same of the number alone
pub number-split : (w : Bool) (n p : ℕ) (cs : List Check) → 0 < n → (first (refuse w n p ∷ cs)).number ≡ 0 → (w ≡ false) × ((first cs).number ≡ 0)
unfolding first
number-split w n p cs h e = caught_or w (refuse w n p) (first cs) h e

-- checks that pass in front of others pass by themselves
pub first-left : (cs ds : List Check) → (first (cs ++ ds)).number ≡ 0 → (first cs).number ≡ 0
first-left cs ds e = go (first cs).number refl
  where
    go : (k : ℕ) → (first cs).number ≡ k → (first cs).number ≡ 0
    go zero q = q
    go (suc k) q = absurd (let s = first_stops cs ds (omega arith) in omega (arith, ap (λ (v : Verdict). v.number) s))

-- checks that give a number give one behind others too
pub first-positive : (cs ds : List Check) → Numbered cs → 0 < (first ds).number → 0 < (first (cs ++ ds)).number
first-positive cs ds n h = by (first cs).number refl
  where
    by : (k : ℕ) → (first cs).number ≡ k → 0 < (first (cs ++ ds)).number
    by zero e = rw (first-clear cs ds n e) h
    by (suc k) e = rw (first_stops cs ds (omega arith), e) (omega arith)

-- the number alone: it stops at checks that give one, and passes those that give none
pub number-stops : (n : ℕ) (cs ds : List Check) → n ≡ (first cs).number → 0 < n → n ≡ (first (cs ++ ds)).number
number-stops n cs ds e h = e ∙ ap (λ (v : Verdict). v.number) (sym (first_stops cs ds (rw (← e) h)))

pub number-passes : (n k : ℕ) (cs ds : List Check) → Numbered cs → n ≡ (first cs).number → n ≤ 0 → k ≡ (first ds).number → k ≡ (first (cs ++ ds)).number
number-passes n k cs ds num e h ek = ek ∙ ap (λ (v : Verdict). v.number) (sym (first-clear cs ds num (sym e ∙ omega arith)))

-- lists of checks that differ in their places alone give the same number
abbrev pub Alike : List Check → List Check → Type 0
Alike [] [] = Unit {0}
Alike [] (d ∷ ds) = ⊥
Alike (c ∷ cs) [] = ⊥
Alike (c ∷ cs) (d ∷ ds) = ((c.when ≡ d.when) × (c.number ≡ d.number)) × Alike cs ds

pub alike_append : (cs ds cs' ds' : List Check) → Alike cs ds → Alike cs' ds' → Alike (cs ++ cs') (ds ++ ds')
alike_append [] [] cs' ds' h k = k
alike_append [] (d ∷ ds) cs' ds' h k = absurd h
alike_append (c ∷ cs) [] cs' ds' h k = absurd h
alike_append (c ∷ cs) (d ∷ ds) cs' ds' h k = (h.0, alike_append cs ds cs' ds' h.1 k)

pub number-alike : (cs ds : List Check) → Alike cs ds → (first cs).number ≡ (first ds).number
unfolding first
number-alike [] [] h = refl
number-alike [] (d ∷ ds) h = absurd h
number-alike (c ∷ cs) [] h = absurd h
number-alike (c ∷ cs) (d ∷ ds) h = rw (← h.0.0) (go c.when (number-alike cs ds h.1))
  where
    go : (w : Bool) → (first cs).number ≡ (first ds).number
        → (cond w (verdict c.number c.place) (first cs)).number ≡ (cond w (verdict d.number d.place) (first ds)).number
    go true e = h.0.1
    go false e = e

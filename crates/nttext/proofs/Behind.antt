-- The state behind characters without a backslash, a character at a time. Assumes nothing.
use mathlib.Core.Path.{◌≡◌, refl, sym, ap, ◌∙◌}
use mathlib.Core.List.{List, []}
use Prim.Native.Nat.{ℕ, ◌≤◌}
use native.Mathlib.Omega.{arith}
use lib.Seq.{slice, slice_empty}
use borrow.Author.Tests.{eq-eqb, ne_eqb}
use Rattle.utf8.specs.Texts.{chars_of, seen, SeenAt}
use Rattle.utf8.proofs.Texts.{chars-nil}
use Rattle.ntline.specs.declared.lexing.State.{State}
use Rattle.ntline.specs.declared.lexing.State.TheVariants.{Dead}
use Rattle.ntline.specs.Lexing.{step}
use Rattle.nttext.specs.Inner.{bare_run}

pub record BareLoop (text : List ℕ) (from to : ℕ) (first state : State) (i : ℕ) : Type 0 where
  pub inside : i ≤ to
  pub same : bare_run first (seen text from to) ≡ bare_run state (seen text i to)

module _ (text : List ℕ) (from to : ℕ) (first : State) where
  pub bare-start : from ≤ to → BareLoop text from to first first from
  bare-start h = record { inside = h; same = refl }

  pub bare-stops : (state : State) (i v n : ℕ) → BareLoop text from to first state i → SeenAt text i to v n → v ≡ 0x5C → Dead ≡ bare_run first (seen text from to)
  unfolding bare_run
  bare-stops state i v n l s e = sym (l.same ∙ ap (bare_run state) s.here ∙ rw (eq-eqb v 0x5C e) refl)

  pub bare-goes : (state new : State) (i v n : ℕ) → BareLoop text from to first state i → SeenAt text i to v n → (v ≡ 0x5C → ⊥) → new ≡ step state v →
      BareLoop text from to first new n
  unfolding bare_run
  bare-goes state new i v n l s some is =
      record { inside = s.within; same = l.same ∙ ap (bare_run state) s.here ∙ rw (ne_eqb v 0x5C some, ← is) refl }

  pub bare_ends : (state : State) (i : ℕ) → BareLoop text from to first state i → to ≤ i → state ≡ bare_run first (seen text from to)
  unfolding bare_run
  bare_ends state i l h =
      let e : i ≡ to = omega (arith, l.inside) in
      let none : seen text i to ≡ [] = ap (λ (n : ℕ). chars_of (slice n to text)) e ∙ ap chars_of (slice_empty to text) ∙ chars-nil in
      sym (l.same ∙ ap (bare_run state) none)

-- What a test that passed says of its parts. Assumes nothing.
use mathlib.Core.Path.{◌≡◌, refl, sym, ap, ◌∙◌}
use mathlib.Core.Bool.{Bool, true, false, ◌||◌, true≢false}
use Prim.Native.Nat.{ℕ}
use lib.Dec.{eqb}
use borrow.Author.Tests.{ne_eqb}

pub second : (a b : Bool) → a ≡ false → (a || b) ≡ true → b ≡ true
second true b h e = absurd (true≢false h)
second false b h e = e

-- where one of two tests passed
pub either : {P : Type 0} (a b : Bool) → (a || b) ≡ true → (a ≡ true → P) → (b ≡ true → P) → P
either true b e f g = f refl
either false b e f g = g e

-- where a test passes at one number and not at another, they are two
pub differs : (P : ℕ → Bool) (c x : ℕ) → P x ≡ false → P c ≡ true → eqb c x ≡ false
differs P c x out here = ne_eqb c x (λ (e : c ≡ x). true≢false (sym here ∙ ap P e ∙ out))

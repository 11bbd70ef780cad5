-- Bottom is out of every kind, and so is what is past the top; up to it kinds 1, 3 and 4 take every number, and 5 those that keep larger
-- combinations.
use Rattle.std.proofs.Common.{◌≡◌, ◌≤◌, ◌<◌, ℕ, refl, sym, ◌∙◌, arith}
use borrow.Author.Tests.{ne_eqb, lt-leb, le-leb}
use Rattle.term.specs.Refusal.{first}
use Rattle.annotation.proofs.Legal.{bottom-out_of_range}
use Rattle.annotation.specs.declared.Kind.{Kind}
use Rattle.annotation.specs.declared.Kind.TheVariants.{Years, Degree, Strict, Sheets}
use Rattle.annotation.specs.Kinds.{algebra, annotation_checks}
use Rattle.annotation.specs.Numbered.{kind_number}
use Rattle.annotation.proofs.Kind.check.Goals as goal

-- a 64-bit number that is not bottom
module _ (a : ℕ) (fits : a ≤ 18446744073709551615) (some : a ≡ 0 → ⊥) where
  abbrev Says : ℕ → Kind → Type 0
  Says n k = n ≡ (first (annotation_checks (kind_number k) a 0)).number

  past : (k : Kind) → (algebra (kind_number k)).top < a → Says 10 k
  unfolding first algebra
  past Years h = absurd (omega (arith, h, fits))
  past Degree h = rw (le-leb 1 a (omega (arith, some)), lt-leb a 1000 h) refl
  past Strict h = rw (le-leb 1 a (omega (arith, some)), lt-leb a 1000 h) refl
  past Sheets h = absurd (omega (arith, h, fits))

  within : (k : Kind) → (k ≡ Sheets → ⊥) → a ≤ (algebra (kind_number k)).top → Says 0 k
  unfolding first algebra
  within Years s h = rw (ne_eqb a 0 some, le-leb a 18446744073709551615 fits) refl
  within Degree s h = rw (le-leb 1 a (omega (arith, some)), le-leb a 1000 h) refl
  within Strict s h = rw (le-leb 1 a (omega (arith, some)), le-leb a 1000 h) refl
  within Sheets s h = absurd (s refl)

pub returns-then-a-eq-BOTTOM : goal.returns-then-a-eq-BOTTOM
unfolding first
returns-then-a-eq-BOTTOM c = rw (c.if-a-eq-BOTTOM.true, bottom-out_of_range (kind_number c.args.self))

pub returns-then-keeps_larger : goal.returns-then-keeps_larger
unfolding first
returns-then-keeps_larger c =
    rw (c.in-Sheets.is, ne_eqb _ 0 c.if-a-eq-BOTTOM.false, le-leb c.args.a 18446744073709551615 (omega arith), sym c.keeps_larger.ensures ∙ c.if-keeps_larger.true)

pub returns-else-keeps_larger : goal.returns-else-keeps_larger
unfolding first
returns-else-keeps_larger c =
    rw (c.in-Sheets.is, ne_eqb _ 0 c.if-a-eq-BOTTOM.false, le-leb c.args.a 18446744073709551615 (omega arith), sym c.keeps_larger.ensures ∙ c.if-keeps_larger.false)

pub returns-then-top-a : goal.returns-then-top-a
returns-then-top-a c = past c.args.a (omega arith) c.if-a-eq-BOTTOM.false c.args.self (rw (← c.top.ensures) c.if-top-a.true)

pub returns-in_default : goal.returns-in_default
returns-in_default c = within c.args.a (omega arith) c.if-a-eq-BOTTOM.false c.args.self c.in_default.not-Sheets (rw (← c.top.ensures) c.if-top-a.false)

-- The kinds as the code has them, by the document's numbers.
use Rattle.std.specs.Prelude.{◌≡◌, false, cond, ℕ, Result, MatchResult}
use Rattle.annotation.specs.declared.Kind.{Kind}
use Rattle.annotation.specs.declared.Kind.TheVariants.{Years, Degree, Strict, Sheets}
use Rattle.term.specs.declared.refusal.Refusal.{Refusal}
use Rattle.term.specs.declared.refusal.Refusal.TheVariants.{WrongKind}
use Rattle.annotation.specs.Kinds.{is_kind}

-- "1 years", "3 degree", "4 strict degree", "5 sheets"
abbrev pub kind_number : Kind → ℕ
kind_number Years = 1
kind_number Degree = 3
kind_number Strict = 4
kind_number Sheets = 5

-- the kind of a number; "4: kind" where there is none
abbrev pub Numbers : ℕ → Result Kind Refusal → Type 0
Numbers n r = MatchResult r (λ kind. kind_number kind ≡ n) (λ e. (e ≡ WrongKind) × (is_kind n ≡ false))

-- a number that is no kind stands for strict degrees where annotations are judged
abbrev pub strict_or : ℕ → ℕ
strict_or n = cond (is_kind n) n 4

-- Which rule sets there are ("whose last byte is the rule set, 1 or 2"), and the refusal of another.
use Rattle.std.specs.Prelude.{Bool, not, ◌&&◌, List, [], ◌∷◌, ℕ, leb}
use Rattle.term.specs.Refusal.{Check, refuse}

-- "Edition 1 means rule set 1"; "Rule set 2 adds .."
abbrev pub basic_set : ℕ
basic_set = 1

abbrev pub reflexive_set : ℕ
reflexive_set = 2

unfoldable pub is_rule_set : ℕ → Bool
is_rule_set rules = leb basic_set rules && leb rules reflexive_set

-- "36 rule set unknown"
abbrev pub rule_set_checks : ℕ → ℕ → List Check
rule_set_checks rules place = refuse (not (is_rule_set rules)) 36 place ∷ []

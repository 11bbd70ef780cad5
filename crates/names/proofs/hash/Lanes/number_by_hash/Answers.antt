use Rattle.std.proofs.Common.{◌≡◌, ℕ, refl, ap, ◌∙◌}
use Rattle.std.specs.Prelude.{Ok, Some, None}
use Rattle.names.specs.Names.{entries_of}
use Rattle.names.specs.Entering.{next_of}
use Rattle.names.specs.Read.{lanes_read}
use Rattle.names.proofs.FiveTexts.{five_some, five_none}
use Rattle.names.proofs.Answering.{for_five, no_five_name, no_five_sort}
use Rattle.names.proofs.Hashing.{number_or}
use Rattle.names.proofs.hash.Lanes.number_by_hash.Goals as goal
use Rattle.names.proofs.hash.Lanes.number_by_hash.Goals.{then-sort-eq-NAME+in_default, else-sort-eq-NAME}

pub returns-in-Some : goal.returns-in-Some
returns-in-Some c =
    let es = entries_of (lanes_read c.args.self) c.args.self.count in
    let word = c.args.word.now in
    let five = five_some word c.in-Some.five c.in-Some.ensures in
    ap Ok five.0 ∙ for_five es c.args.sort word c.if-sort-eq-NAME.true five.1

pub returns-in-Some-find_by_hash : goal.returns-in-Some-find_by_hash
returns-in-Some-find_by_hash c =
    let es = entries_of (lanes_read c.args.self) c.args.self.count in
    let word = c.args.word.now in
    number_or es c.args.sort word
    (elim c.if-sort-eq-NAME.branch [ then-sort-eq-NAME+in_default w ↦ no_five_name es c.args.sort word (five_none word w.in_default.ensures) | else-sort-eq-NAME w ↦ no_five_sort es c.args.sort word w.if-sort-eq-NAME.false ])
    (Some c.in-Some-find_by_hash.number) (Ok c.in-Some-find_by_hash.number) (λ (n : ℕ). n ≡ next_of es c.args.sort) c.in-Some-find_by_hash.ensures (λ n q. q) refl

pub returns-in-None : goal.returns-in-None
returns-in-None c =
    let es = entries_of (lanes_read c.args.self) c.args.self.count in
    let word = c.args.word.now in
    number_or es c.args.sort word
    (elim c.if-sort-eq-NAME.branch [ then-sort-eq-NAME+in_default w ↦ no_five_name es c.args.sort word (five_none word w.in_default.ensures) | else-sort-eq-NAME w ↦ no_five_sort es c.args.sort word w.if-sort-eq-NAME.false ])
    None _ (λ (n : ℕ). n ≡ next_of es c.args.sort) c.in-None.ensures (λ n q. q) (rw (c.first_of.ensures.0, c.count_of.ensures.0) refl)

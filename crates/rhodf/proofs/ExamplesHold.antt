-- The bench examples P1 to P10, and those beside them, hold for the definitions: the rules that draw the new rows are named, the rest computes. Assumes nothing.
use mathlib.Core.Path.{◌≡◌, refl}
use mathlib.Core.Bool.{true}
use mathlib.Core.List.{List, [], ◌∷◌}
use native.Mathlib.Omega.{arith}
use Rattle.ground.specs.Lists.{Every}
use Rattle.ruleset.specs.RuleSet.{basic_set, reflexive_set}
use Rattle.annotation.specs.Kinds.{algebra, is_legal}
use Rattle.annotation.proofs.KindLaws.{laws}
use Rattle.annotation.proofs.Legal.{value-legal}
use Rattle.annotation.proofs.SheetExamplesHold.{sheet_examples_hold}
use Rattle.table.proofs.ExamplesHold.{examples-hold as table-examples-hold}
use Rattle.rhodf.specs.Rules.{Rule, r2b, r3a, r3b, r4b, r5a, r5b, r9, r10, r11, r12, r14, r15, r16, r17, rules_of}
use Rattle.rhodf.specs.Examples.{
  P1,
  P3,
  P4,
  P5,
  P6,
  P7,
  P8,
  P9,
  P10,
  RangeBeyondBlank,
  ThreeClasses,
  RangeOfValue,
  ThroughValue,
  TwoSheets,
  OrAThird,
  P1Reflexive,
  BlanksReflexive,
  P9Reflexive,
  DomReflexive,
  examples,
}
use Rattle.rhodf.proofs.DrawnClosure.{Conclusion, by, by_rule, by_line, closure_with, is_closed_by, closure_by}

p1 : P1
unfolding is_closed_by
p1 = closure_by basic_set (by (r3b 11 12 10) ∷ []) refl refl

p3 : P3
unfolding is_closed_by
p3 = closure_by basic_set [] refl refl

p4 : P4
unfolding is_closed_by
p4 = (closure_by basic_set (by (r3b 11 12 10) ∷ []) refl refl, closure_by basic_set (by (r3b 11 12 10) ∷ []) refl refl)

p5 : P5
unfolding is_closed_by
p5 = closure_by basic_set [] refl refl

p6 : P6
unfolding is_closed_by
p6 = closure_by basic_set (by (r3b 11 13 10) ∷ by (r3b 12 13 10) ∷ []) refl refl

p7 : P7
unfolding is_closed_by
p7 = closure_by basic_set (by (r5a 16384 12 20 10 30) ∷ []) refl refl

-- kind 5: the top is legal, and so is a line on one sheet
top-legal : is_legal 5 (algebra 5).top ≡ true
unfolding algebra
top-legal = value-legal (algebra 5).top 5 (omega arith) (laws 5).top_value

abbrev p8_drawn : List (Conclusion Rule)
p8_drawn = by (r2b 0 40 0 40) ∷ by (r2b 0 40 20 21) ∷ []

p8 : P8
unfolding is_closed_by
p8 = (closure_by basic_set p8_drawn refl refl, closure_by basic_set p8_drawn refl refl, closure_by basic_set p8_drawn refl refl, closure_with basic_set p8_drawn (top-legal, (top-legal, tt)) refl refl)

p9 : P9
unfolding is_closed_by
p9 = closure_by basic_set (by (r3a 5 6 5) ∷ by (r3a 6 5 6) ∷ []) refl refl

abbrev p10_drawn : List (Conclusion Rule)
p10_drawn = by (r4b 20 12 10 32769) ∷ []

p10 : P10
unfolding is_closed_by
p10 = (closure_by basic_set p10_drawn refl refl, closure_by basic_set p10_drawn refl refl, closure_by basic_set p10_drawn refl refl, closure_with basic_set p10_drawn (top-legal, (top-legal, tt)) refl refl)

range-beyond_blank : RangeBeyondBlank
unfolding is_closed_by
range-beyond_blank = closure_by basic_set (by (r5b 16384 12 20 10 30) ∷ []) refl refl

three-classes : ThreeClasses
unfolding is_closed_by
three-classes = closure_by basic_set (by (r3a 5 6 7) ∷ []) refl refl

range-of_value : RangeOfValue
unfolding is_closed_by
range-of_value = closure_by basic_set (by (r4b 20 12 10 49652) ∷ []) refl refl

through_value : ThroughValue
unfolding is_closed_by
through_value = closure_by basic_set (by (r5a 49152 12 20 10 30) ∷ []) refl refl

two_sheets : TwoSheets
unfolding is_closed_by
two_sheets = closure_with basic_set (by (r3b 11 12 10) ∷ []) (sheet_examples_hold.alone.0.legal, (sheet_examples_hold.alone.1.legal, tt)) refl refl

or_a_third : OrAThird
unfolding is_closed_by
or_a_third = closure_with basic_set (by (r3b 11 12 10) ∷ []) (sheet_examples_hold.alone.0.legal, (sheet_examples_hold.alone.2.legal, (sheet_examples_hold.alone.1.legal, tt))) refl refl

p1_reflexive_lem : P1Reflexive
unfolding is_closed_by
p1_reflexive_lem =
    closure_by reflexive_set
    (by_rule (r3b 11 12 10) ∷ by_line (r14 11 12) ∷ by_line (r16 10 11) ∷ by_line (r15 11 12) ∷ by_line (r9 10 2 11) ∷ by_line (r9 11 1 11)
    ∷ by_line (r9 1 0 1) ∷ [])
    refl
    refl

blanks_reflexive : BlanksReflexive
unfolding is_closed_by
blanks_reflexive = closure_by reflexive_set (by_line (r9 16384 0 16385) ∷ by_line (r10 16384 16385) ∷ by_line (r11 16384 16385) ∷ []) refl refl

p9_reflexive : P9Reflexive
unfolding is_closed_by
p9_reflexive =
    closure_by reflexive_set (by_line (r14 5 6) ∷ by_line (r15 5 6) ∷ by_line (r9 5 1 6) ∷ by_line (r9 1 0 1) ∷ []) refl refl

abbrev dom-drawn : List (Conclusion (rules_of reflexive_set))
dom-drawn = by_line (r9 20 3 12) ∷ by_line (r12 20 12) ∷ by_line (r17 20 12) ∷ by_line (r9 12 1 12) ∷ by_line (r9 1 0 1) ∷ []

dom-reflexive : DomReflexive
unfolding is_closed_by
dom-reflexive = (closure_by reflexive_set dom-drawn refl refl, closure_by reflexive_set dom-drawn refl refl)

pub examples-hold : Every examples
examples-hold = (
  p1,
  (
    table-examples-hold.0,
    (
      p3,
      (
        p4,
        (
          p5,
          (
            p6,
            (
              p7,
              (
                p8,
                (
                  p9,
                  (
                    p10,
                    (
                      range-beyond_blank,
                      (
                        three-classes,
                        (
                          range-of_value,
                          (
                            through_value,
                            (
                              two_sheets,
                              (
                                or_a_third,
                                (p1_reflexive_lem, (blanks_reflexive, (p9_reflexive, (dom-reflexive, tt)))),
                              ),
                            ),
                          ),
                        ),
                      ),
                    ),
                  ),
                ),
              ),
            ),
          ),
        ),
      ),
    ),
  ),
)

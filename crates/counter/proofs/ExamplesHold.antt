-- P11 and P12 hold from bytes to `asked` lines, and so do the readings on input that is short. Assumes nothing.
use mathlib.Core.Path.{◌≡◌, refl, ap, ◌∙◌}
use mathlib.Core.List.{List, [], ◌∷◌, ◌++◌, append-nil}
use Prim.Native.Nat.{ℕ}
use native.Mathlib.Omega.{arith}
use Rattle.ground.specs.Lists.{tab, each, all_below}
use Rattle.term.specs.Refusal.{verdict, first}
use Rattle.ruleset.specs.RuleSet.{basic_set, is_rule_set}
use Rattle.annotation.specs.Kinds.{algebra, is_kind}
use Rattle.table.specs.Rows.{Row, row, add_row}
use Rattle.field.specs.Numbers.{two_at, four_at, eight_at}
use Rattle.rhodf.proofs.ExamplesHold.{examples-hold}
use Rattle.book.specs.Format.{row_in}
use Rattle.book.specs.Reading.{read_as, refused, fields_from, read_book}
use Rattle.parts.specs.Format.{field_in, read_part}
use Rattle.question.specs.Steps.{compile, size, program}
use Rattle.question.specs.Compiling.{steps, compiled, finish, compiling}
use Rattle.answers.specs.Answers.{agree, merged, match_term, match_ann, matched}
use Rattle.machine.specs.Trace.{seek_rows, trace_from}
use Rattle.machine.specs.Bounded.{Outcome, nothing, bounded}
use Rattle.meaning.specs.Stopping.{ended as ending}
use Rattle.meaning.specs.Examples.{of_both_classes, ten_with_96, both_classes_bytes}
use Rattle.meaning.proofs.ExamplesHold.{compiles_from_bytes}
use Rattle.trackvesper.specs.ClosedBook.{said}
use Rattle.printing.specs.Text.{bytes_of, decimal_in, decimal, line, numbers_line, refused_line}
use Rattle.printing.specs.Examples.{p1_book}
use Rattle.counter.specs.Counted.{next, whole, of_steps, comes_to, asked_lines, Asks, no_more, cut_short, asks, Counted, no_book, cut_book as by-cut, unread, opened, all_looks}
use Rattle.counter.specs.Examples.{behind_its_length, p11_input, P11Asked, P12Asked, CutBook, CutQuestion, BookAlone}
use Rattle.counter.proofs.Nexts.{ended-not_whole, cut-not_whole}
use Rattle.counter.proofs.Counting.{asks-ended, asks-cut, Asked, asks-asked, counted-short, counted-unread, counted-opened}

abbrev p1_rows_lem : List Row
p1_rows_lem = row 10 2 11 120 ∷ row 11 1 12 2016 ∷ []

abbrev p1_closed : List Row
p1_closed = row 10 2 11 120 ∷ row 10 2 12 96 ∷ row 11 1 12 2016 ∷ []

p1_said : said p1_book ≡ read_as 1 2000 basic_set p1_rows_lem
unfolding first is_rule_set read_book fields_from row_in two_at four_at eight_at algebra is_kind add_row
p1_said = refl

-- behind P1's book
after-book : {looks : ℕ} {text : List ℕ} (rest : List ℕ) → Counted looks (behind_its_length p1_book ++ rest) text → next (behind_its_length p1_book ++ rest) ≡ whole p1_book rest
    → Asks looks 1 basic_set p1_rows_lem rest text
after-book rest c e = rw p1_said at (counted-opened c e (rw p1_said refl))

-- and of P1's book with what stands behind it
with_book : {looks : ℕ} {text : List ℕ} (rest : List ℕ) → next (behind_its_length p1_book ++ rest) ≡ whole p1_book rest → Asks looks 1 basic_set p1_rows_lem rest text
    → Counted looks (behind_its_length p1_book ++ rest) text
with_book {looks} {text} rest e a = opened {text = text} p1_book rest e (rw p1_said refl) (rw p1_said a)

-- one question
asked-once : {looks : ℕ} {text : List ℕ} (q rest : List ℕ) → Asks looks 1 basic_set p1_rows_lem (behind_its_length q ++ rest) text → next (behind_its_length q ++ rest) ≡ whole q rest
    → Asked looks 1 basic_set p1_closed q rest text
asked-once q rest a e = asks-asked a e examples-hold.0 (omega arith)

module _ (looks : ℕ) (o : Outcome) (comes : comes_to 1 p1_closed looks both_classes_bytes ≡ o) where
  p11_text : (text : List ℕ) → Counted looks p11_input text → text ≡ asked_lines o
  p11_text text c =
      let a = after-book (behind_its_length both_classes_bytes) c refl in
      let w = asked-once both_classes_bytes [] a refl in
      w.text_is ∙ rw (asks-ended w.goes_on refl, comes) (append-nil (asked_lines o))

  p11_counted : Counted looks p11_input (asked_lines o)
  p11_counted =
      let c = with_book {looks = looks} (behind_its_length both_classes_bytes) refl (asks both_classes_bytes [] p1_closed refl examples-hold.0 (omega arith) (no_more refl)) in
      rw (comes, append-nil (asked_lines o)) at c

compiled-to : (looks : ℕ) → comes_to 1 p1_closed looks both_classes_bytes ≡ of_steps 1 p1_closed looks (steps (program of_both_classes))
compiled-to looks = ap (of_steps 1 p1_closed looks) compiles_from_bytes

p11_comes : of_steps 1 p1_closed all_looks (steps (program of_both_classes)) ≡ ending 0 (ten_with_96 ∷ []) 6
unfolding algebra tab each all_below agree merged match_term match_ann matched compile size seek_rows trace_from bounded
p11_comes = refl

p12_three : of_steps 1 p1_closed 3 (steps (program of_both_classes)) ≡ ending 24 (ten_with_96 ∷ []) 3
unfolding algebra tab each all_below agree merged match_term match_ann matched compile size seek_rows trace_from bounded
p12_three = refl

p12_two : of_steps 1 p1_closed 2 (steps (program of_both_classes)) ≡ ending 24 [] 2
unfolding algebra tab each all_below agree merged match_term match_ann matched compile size seek_rows trace_from bounded
p12_two = refl

pub p11_asked : P11Asked
unfolding bytes_of line numbers_line decimal decimal_in tab each
p11_asked =
    let e = compiled-to all_looks ∙ p11_comes in
    (p11_counted all_looks (ending 0 (ten_with_96 ∷ []) 6) e, λ text c. p11_text all_looks (ending 0 (ten_with_96 ∷ []) 6) e text c)

pub p12_asked : P12Asked
unfolding bytes_of line numbers_line decimal decimal_in tab each
p12_asked = (
  (p11_counted 3 (ending 24 (ten_with_96 ∷ []) 3) (compiled-to 3 ∙ p12_three), λ text c. p11_text 3 (ending 24 (ten_with_96 ∷ []) 3) (compiled-to 3 ∙ p12_three) text c),
  (p11_counted 2 (ending 24 [] 2) (compiled-to 2 ∙ p12_two), λ text c. p11_text 2 (ending 24 [] 2) (compiled-to 2 ∙ p12_two) text c),
)

-- ---- short input

pub cut_book : CutBook
unfolding bytes_of line decimal decimal_in tab each
cut_book = (
  (no_book refl, λ text c. counted-short c (λ b rest h. ended-not_whole refl h)),
  (by-cut refl, λ text c. counted-short c (λ b rest h. cut-not_whole refl h)),
  (by-cut refl, λ text c. counted-short c (λ b rest h. cut-not_whole refl h)),
)

empty-comes : comes_to 1 p1_closed all_looks [] ≡ nothing 16 0
unfolding first is_kind compiling compiled finish read_part field_in
empty-comes = refl

pub cut-question : CutQuestion
unfolding bytes_of line decimal decimal_in tab each
cut-question =
    let rest : List ℕ = 0 ∷ 45 ∷ 17 ∷ [] in
    let there = with_book {looks = all_looks} (behind_its_length [] ++ rest) refl (asks [] rest p1_closed refl examples-hold.0 (omega arith) (cut_short refl)) in (
      rw empty-comes at there,
      λ text c.
          let w = asked-once [] rest (after-book (behind_its_length [] ++ rest) c refl) refl in
          w.text_is ∙ rw (asks-cut w.goes_on refl, empty-comes) refl,
    )

none_said : said [] ≡ refused (verdict 2 0)
unfolding first is_rule_set read_book fields_from row_in two_at four_at eight_at algebra is_kind add_row
none_said = refl

none-counted : Counted all_looks (behind_its_length []) (refused_line 2 0)
none-counted =
    let there : Counted all_looks (behind_its_length []) (refused_line (said []).verdict_of.number (said []).verdict_of.place) = unread [] [] refl (rw none_said (omega arith)) in
    rw none_said at there

pub book_alone : BookAlone
unfolding bytes_of line decimal decimal_in tab each
book_alone = (
  (none-counted, λ text c. rw none_said at (counted-unread c refl (rw none_said (omega arith)))),
  (with_book [] refl (no_more refl), λ text c. asks-ended (after-book [] c refl) refl),
)

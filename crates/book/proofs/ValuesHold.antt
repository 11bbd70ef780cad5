-- The examples of measured values in books, and of heads, hold, by computation. Assumes nothing.
use mathlib.Core.Path.{refl}
use Rattle.ground.specs.Lists.{Every}
use Rattle.term.specs.Refusal.{first}
use Rattle.ruleset.specs.RuleSet.{is_rule_set}
use Rattle.annotation.specs.Kinds.{is_kind, algebra}
use Rattle.table.specs.Rows.{add_row}
use Rattle.field.specs.Numbers.{two_at, four_at, eight_at, two_bytes}
use Rattle.book.specs.Format.{row_in, rules_bytes, head_bytes, fields_bytes}
use Rattle.book.specs.Reading.{fields_from, read_book}
use Rattle.book.specs.Values.{ValuesInBooks, HeadsOfBooks}

pub values-in_books : Every ValuesInBooks
unfolding first is_rule_set is_kind algebra add_row two_at four_at eight_at row_in fields_from read_book
values-in_books = (refl, (refl, (refl, (refl, (refl, tt)))))

pub heads_of_books : Every HeadsOfBooks
unfolding first is_rule_set is_kind two_at two_bytes rules_bytes head_bytes fields_bytes fields_from read_book
heads_of_books = (refl, (refl, (refl, (refl, (refl, (refl, (refl, (refl, (refl, (refl, (refl, (refl, tt))))))))))))

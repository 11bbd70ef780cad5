-- The terminals and the sorts of terms, as the code names them, by their numbers.
use Rattle.std.specs.Prelude.{cond, eqb, ℕ}
use Rattle.ntline.specs.declared.lexing.Kind.{Kind}
use Rattle.ntline.specs.declared.lexing.Kind.TheVariants.{Nothing, Space, Dot, Hats, Remark, Label, Tag, Iri, String}
use Rattle.ntline.specs.declared.lexing.Terminal.{Terminal}
use Rattle.ntline.specs.declared.lines.Sort.{Sort}
use Rattle.ntline.specs.declared.lines.Span.{Span}
use Rattle.ntline.specs.declared.lines.Missing.{Missing}
use Rattle.ntline.specs.Lexing.{none, a_space, a_dot, a_hats, a_remark, a_label, a_tag, an_iri, a_string}
pub use Rattle.ntline.specs.Lines.{sort_number}

abbrev pub number_of : Kind → ℕ
number_of Nothing = none
number_of Space = a_space
number_of Dot = a_dot
number_of Hats = a_hats
number_of Remark = a_remark
number_of Label = a_label
number_of Tag = a_tag
number_of Iri = an_iri
number_of String = a_string

-- where the terminal found ends: where it would begin, where none is
abbrev pub found_to : ℕ → Terminal → ℕ
found_to at t = cond (eqb (number_of t.kind) none) at t.to

abbrev pub span : Sort → ℕ → ℕ → ℕ → Span
span sort from to tail = record { sort = sort; from = from; to = to; tail = tail }

abbrev pub missing : ℕ → ℕ → ℕ → Missing
missing from to tail = record { from = from; to = to; tail = tail }

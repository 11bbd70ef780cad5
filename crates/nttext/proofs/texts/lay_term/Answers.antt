-- One part behind the other.
use Rattle.std.proofs.Common.{◌≡◌, ◌∙◌}
use lib.Dec.{eqb}
use Rattle.ntline.specs.Kinds.{sort_number}
use Rattle.nttext.proofs.Parts.{is_literal, term-laid}
use Rattle.nttext.proofs.texts.lay_term.Goals as goal

pub returns : goal.returns
returns c =
    let quoted : c.eq.result ≡ eqb (sort_number c.args.t.sort) 2 = c.eq.ensures ∙ is_literal c.args.t.sort in
    term-laid c.args.b.now c.args.end c.args.t _ c.parts-p.ensures c.args.out.now _ _ c.args.at _ _ (rw quoted at c.in_ok-last.ensures) c.lay_span-2.ensures

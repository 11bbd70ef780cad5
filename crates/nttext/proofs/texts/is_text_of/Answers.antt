-- One part behind the other, and nothing behind them.
use Rattle.std.proofs.Common.{◌≡◌, ◌∙◌}
use lib.Dec.{eqb}
use Rattle.ntline.specs.Kinds.{sort_number}
use Rattle.nttext.proofs.Parts.{is_literal, term-compared}
use Rattle.nttext.proofs.texts.is_text_of.Goals as goal

pub returns : goal.returns
returns c =
    let quoted : c.eq.result ≡ eqb (sort_number c.args.t.sort) 2 = c.eq.ensures ∙ is_literal c.args.t.sort in
    rw c.eq-2.ensures
    (term-compared c.args.b.now c.args.end c.args.t _ c.parts-p.ensures c.args.text.now c.args.from c.args.to c.requires.2 _ _ (rw quoted at c.in-Some.ensures) c.match_span-2.ensures)

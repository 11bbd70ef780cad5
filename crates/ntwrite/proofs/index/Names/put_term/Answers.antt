-- By the sort.
use mathlib.Core.Path.{refl, sym, ◌∙◌}
use mathlib.Core.List.{[]}
use native.Mathlib.Omega.{arith}
use lib.ListN.{length-set}
use Rattle.term.specs.Term.{sort_of}
use Rattle.ntwrite.specs.Listed.{entries_in}
use Rattle.ntwrite.proofs.Pieces.{two_more, literal-is, name_laid, blank-laid, literal-laid}
use Rattle.ntwrite.proofs.index.Names.put_term.Goals as goal

pub bounds-out-at : goal.bounds-out-at
bounds-out-at c = let long = two_more (entries_in c.args.self) c.args.n (sort_of c.args.n) (omega (arith, c.sort_of.ensures, c.in-0.is)) in omega (arith, c.requires, long)

pub put_text-end-requires : goal.put_text-end-requires
put_text-end-requires c =
    let long = two_more (entries_in c.args.self) c.args.n (sort_of c.args.n) (omega (arith, c.sort_of.ensures, c.in-0.is)) in simp length-set (omega (arith, c.requires, long))

pub bounds-out-end : goal.bounds-out-end
bounds-out-end c =
    let long = two_more (entries_in c.args.self) c.args.n (sort_of c.args.n) (omega (arith, c.sort_of.ensures, c.in-0.is)) in
    omega (arith, c.requires, c.put_text-end.auto.out, length-set c.args.out.now c.args.at 60, c.put_text-end.ensures.1, long)

pub overflow_add-result : goal.overflow_add-result
overflow_add-result c =
    let long = two_more (entries_in c.args.self) c.args.n (sort_of c.args.n) (omega (arith, c.sort_of.ensures, c.in-0.is)) in omega (arith, c.requires, c.put_text-end.ensures.1, long)

pub returns-in-0 : goal.returns-in-0
returns-in-0 c =
    name_laid (entries_in c.args.self) c.args.n c.args.out.now _ _ _ c.args.at c.put_text-end.result c.requires (sym c.sort_of.ensures ∙ c.in-0.is) c.put_text-end.ensures.1 refl c.put_text-end.ensures.0 refl

pub put_pair-requires : goal.put_pair-requires
put_pair-requires c = let long = two_more (entries_in c.args.self) c.args.n (sort_of c.args.n) (omega (arith, c.sort_of.ensures, c.in-1.is)) in omega (arith, c.requires, long)

pub put_text-requires : goal.put_text-requires
put_text-requires c =
    let long = two_more (entries_in c.args.self) c.args.n (sort_of c.args.n) (omega (arith, c.sort_of.ensures, c.in-1.is)) in omega (arith, c.requires, c.put_pair.auto.bytes, long)

pub returns-in-1 : goal.returns-in-1
returns-in-1 c =
    blank-laid (entries_in c.args.self) c.args.n c.args.out.now _ _ [] c.args.at c.put_text.result c.requires (sym c.sort_of.ensures ∙ c.in-1.is) c.put_text.ensures.1 c.put_pair.ensures c.put_text.ensures.0

pub put_text-requires-in_default : goal.put_text-requires-in_default
put_text-requires-in_default c = rw (literal-is (entries_in c.args.self) c.args.n (omega (arith, c.sort_of.ensures))) at c.requires

pub returns-in_default : goal.returns-in_default
returns-in_default c =
    literal-laid (entries_in c.args.self) c.args.n c.args.out.now _ [] [] c.args.at c.put_text-in_default.result c.requires (omega (arith, c.sort_of.ensures)) c.put_text-in_default.ensures.1 c.put_text-in_default.ensures.0

use Rattle.std.proofs.Common.{rules, ◌≡◌, true, false, ◌<◌, ℕ, List, length, refl, ap, sym, ◌∙◌, subst, arith}
use Rattle.std.proofs.lemmas.Result.{err_from_is_err_and}
use Rattle.std.specs.Borrow.{Bor}
use Rattle.annotation.specs.Numbered.{kind_number}
use Rattle.table.specs.Lent.{lanes_in}
use Rattle.field.specs.Fields.{behind}
use Rattle.book.specs.declared.content.Content.{Content}
use Rattle.book.specs.Format.{field_checks}
use Rattle.book.specs.Inner.{RowSaid, Reached}
use Rattle.book.proofs.FieldByField.{reached-start, field_refused, field_ready, field_full, field_put, reached-end}
use Rattle.book.proofs.fields.read_fields.Goals as goal

-- what the reader's bytes say, the book says
said_by : (kind : ℕ) (b s : List ℕ) (at : ℕ) (f : Content) → s ≡ b → RowSaid (field_checks kind s at) s at (behind s at) f → RowSaid (field_checks kind b at) b at (behind b at) f
said_by kind b s at f e r = subst (λ x. RowSaid (field_checks kind x at) x at (behind x at) f) e r

pub loop-reader-init : goal.loop-reader-init
loop-reader-init c =
    let stood = c.stand-reader.ensures in
    let a = c.args in
    let t = a.table.now in
    let l = lanes_in t in
    record {
      kept = search rules;
      on_book = ap (λ (s : Bor (List ℕ)). s.now) stood.0;
      reached = subst (λ n. Reached (kind_number t.kind) a.book.now a.start l l n 0) (sym stood.1)
          (reached-start (kind_number t.kind) a.book.now a.start l c.requires);
    }

pub returns-in_err-field-clause-read : goal.returns-in_err-field-clause-read
returns-in_err-field-clause-read c =
    let p = err_from_is_err_and c.from_residual.result c.from_residual.ensures.1 in
    let a = c.args in
    let t = a.table.now in
    let it = c.loop-reader in
    let less : it.reader.at < length a.book.now = omega (arith, c.loop-reader-test.true, ap length it.invariant.on_book) in
    let r = rw (it.invariant.kept.same_kind, it.invariant.on_book) at c.in_err-field.ensures in
    rw (p.1, p.2)
    (field_refused (kind_number t.kind) a.book.now a.start (lanes_in t) (lanes_in it.table) it.reader.at it.table.count it.invariant.reached less _ r)

pub put_row-requires : goal.put_row-requires
put_row-requires c =
    let a = c.args in
    let t = a.table.now in
    let it = c.loop-reader in
    let less : it.reader.at < length a.book.now = omega (arith, c.loop-reader-test.true, ap length it.invariant.on_book) in
    let f = said_by (kind_number t.kind) a.book.now it.reader.src.now it.reader.at c.in_ok-field.field it.invariant.on_book (rw it.invariant.kept.same_kind at c.in_ok-field.ensures) in
    rw it.invariant.kept.same_kind (field_ready (kind_number t.kind) a.book.now a.start (lanes_in t) (lanes_in it.table) it.reader.at it.table.count it.invariant.reached less _ f)

pub returns-in-Err-clause-read : goal.returns-in-Err-clause-read
returns-in-Err-clause-read c =
    let a = c.args in
    let t = a.table.now in
    let it = c.loop-reader in
    let less : it.reader.at < length a.book.now = omega (arith, c.loop-reader-test.true, ap length it.invariant.on_book) in
    let f = said_by (kind_number t.kind) a.book.now it.reader.src.now it.reader.at c.in_ok-field.field it.invariant.on_book (rw it.invariant.kept.same_kind at c.in_ok-field.ensures) in
    rw c.at.ensures
    (field_full (kind_number t.kind) a.book.now a.start (lanes_in t) (lanes_in it.table) it.reader.at it.table.count it.invariant.reached less _ f
    (lanes_in c.put_row.new.self) true false c.put_row.new.self.count (rw it.invariant.kept.same_kind at c.in-Err.ensures.put) refl _ refl)

pub loop-reader-preserved : goal.loop-reader-preserved
loop-reader-preserved c =
    let a = c.args in
    let t = a.table.now in
    let it = c.loop-reader in
    let less : it.reader.at < length a.book.now = omega (arith, c.loop-reader-test.true, ap length it.invariant.on_book) in
    let f = said_by (kind_number t.kind) a.book.now it.reader.src.now it.reader.at c.in_ok-field.field it.invariant.on_book (rw it.invariant.kept.same_kind at c.in_ok-field.ensures) in
    let new = c.put_row.new.self in
    let went = c.moved-reader.ensures in
    record {
      kept = search rules;
      on_book = ap (λ (s : Bor (List ℕ)). s.now) went.0 ∙ it.invariant.on_book;
      reached = subst (λ n. Reached (kind_number t.kind) a.book.now a.start (lanes_in t) (lanes_in new) n new.count) (sym went.1)
          (field_put (kind_number t.kind) a.book.now a.start (lanes_in t) (lanes_in it.table) it.reader.at it.table.count it.invariant.reached less _ f
          (lanes_in new) false _ new.count (rw it.invariant.kept.same_kind at c.in-Ok.ensures.put) refl);
    }

pub returns-clause-read : goal.returns-clause-read
returns-clause-read c =
    let a = c.args in
    let t = a.table.now in
    let it = c.loop-reader in
    reached-end (kind_number t.kind) a.book.now a.start (lanes_in t) (lanes_in it.table) it.reader.at it.table.count it.invariant.reached
    c.requires.sound (omega (arith, c.loop-reader-test.false, ap length it.invariant.on_book))

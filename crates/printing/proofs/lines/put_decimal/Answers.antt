-- The digits, as `itoa::write_digits` makes them.
use Rattle.std.proofs.lemmas.Fmt.{length-decimal-le}
use native.Mathlib.Omega.{arith}
use Rattle.printing.proofs.Laying.{same_digits}
use Rattle.printing.proofs.lines.put_decimal.Goals as goal

pub write_digits-start-requires : goal.write_digits-start-requires
write_digits-start-requires c = (length-decimal-le 20 c.args.n (omega arith) (omega arith) (omega arith), omega arith)

pub put-requires : goal.put-requires
put-requires c =
    let the-digits = c.write_digits-start in
    rw (same_digits the-digits.new.buf the-digits.result c.args.n (omega arith) the-digits.ensures.start the-digits.ensures.written) c.requires

pub returns : goal.returns
returns c =
    let the-digits = c.write_digits-start in
    rw (same_digits the-digits.new.buf the-digits.result c.args.n (omega arith) the-digits.ensures.start the-digits.ensures.written) at c.put.ensures

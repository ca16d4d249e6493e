-- `put_signed` meets its contract: the bits in the upper half of the width are below 0.
use Rattle.output.proofs.Output.{wrote_more}
use lib.ListN.{take}
use Rattle.numeral.proofs.Integers.{in_width, signed_low, signed_high}
use native.Mathlib.Omega.{arith}
use Rattle.numeral.proofs.put_signed.Goals as goal

pub returns-then-n-top : goal.returns-then-n-top
returns-then-n-top c =
    rw (signed_low (take 8 c.args.src.now) _ _ c.number_of-n.ensures c.largest-top.ensures c.if-n-top.true) c.put_decimal.ensures

pub overflow_sub-top : goal.overflow_sub-top
overflow_sub-top c = in_width c.args.src.now c.type_inv.src _ _ c.number_of-n.ensures c.largest-top.ensures

pub returns : goal.returns
returns c =
    let n = in_width c.args.src.now c.type_inv.src _ _ c.number_of-n.ensures c.largest-top.ensures in
    rw (signed_high (take 8 c.args.src.now) _ _ c.number_of-n.ensures c.largest-top.ensures c.if-n-top.false n)
    (wrote_more (omega (arith, c.well_formed)) c.put-place.ensures c.put_decimal-2.ensures)

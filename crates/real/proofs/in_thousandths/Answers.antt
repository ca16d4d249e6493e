-- A Real64 has a significand of 53 bits, and a Real32 after a shift.
use native.Mathlib.Omega.{arith}
use Rattle.rules.specs.Reals.{real32, real64}
use Rattle.laws.proofs.Reals.{exponent_most}
use Rattle.real.proofs.Rounding.{thousandths_32, thousandths_64}
use Rattle.real.proofs.in_thousandths.Goals as goal

pub scaled-requires : goal.scaled-requires
scaled-requires c =
    let e = exponent_most real64 c.args.bits (omega arith) (rw c.if-double.true at c.requires) in
    (omega arith, omega (arith, rw c.if-double.true at c.exponent.ensures), omega arith)

pub returns-then-double : goal.returns-then-double
returns-then-double c =
    let e = rw c.if-double.true at c.exponent.ensures in
    rw c.if-double.true (thousandths_64 c.args.bits c.scaled.result (rw e at c.scaled.ensures))

pub scaled-requires-2 : goal.scaled-requires-2
scaled-requires-2 c =
    let e = exponent_most real32 c.args.bits (omega arith) (rw c.if-double.false at c.requires) in
    (omega arith, omega (arith, rw c.if-double.false at c.exponent-2.ensures), omega arith)

pub returns : goal.returns
returns c =
    let e = rw c.if-double.false at c.exponent-2.ensures in
    rw c.if-double.false (thousandths_32 c.args.bits c.scaled-2.result (rw e at c.scaled-2.ensures))

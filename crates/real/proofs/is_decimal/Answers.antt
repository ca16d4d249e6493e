-- The exponent decides, by the format.
use native.Mathlib.Omega.{arith}
use Rattle.rules.specs.Reals.{real32, real64}
use Rattle.laws.specs.Reals.{is_decimal_lem}
use Rattle.real.proofs.is_decimal.Goals as goal

pub returns-then-double : goal.returns-then-double
returns-then-double c = rw (c.exponent.ensures, c.if-double.true, is_decimal_lem real64 c.args.bits (omega arith))

pub returns : goal.returns
returns c = rw (c.exponent-2.ensures, c.if-double.false, is_decimal_lem real32 c.args.bits (omega arith))

-- `largest` meets its contract: each turn adds a byte of ones at the end.
use native.Mathlib.Omega.{arith}
use Rattle.numeral.proofs.Integers.{width_most, larger}
use Rattle.numeral.proofs.largest.Goals as goal

pub overflow_mul-top : goal.overflow_mul-top
overflow_mul-top c = omega (arith, larger c.loop.top c.loop.counter c.loop.invariant (omega (arith, width_most c.args.src.now)))

pub overflow_add-top : goal.overflow_add-top
overflow_add-top c = omega (arith, larger c.loop.top c.loop.counter c.loop.invariant (omega (arith, width_most c.args.src.now)))

-- `count` meets its contract. The measure is what the power lacks to n / base.
use native.Mathlib.Omega.{arith}
use Rattle.digits.proofs.Counting.{next_inside, next_larger, count_step, count_end}
use Rattle.digits.proofs.count.Goals as goal

pub overflow_mul-power : goal.overflow_mul-power
overflow_mul-power g c = omega (arith, next_inside c.requires c.loop-power.invariant (omega arith))

pub overflow_add-k : goal.overflow_add-k
overflow_add-k g c =
    omega (
      arith,
      next_larger c.requires c.loop-power.invariant,
      next_inside c.requires c.loop-power.invariant
          (omega arith),
    )

pub loop-power-smaller : goal.loop-power-smaller
loop-power-smaller g c = omega (arith, next_larger c.requires c.loop-power.invariant)

pub loop-power-preserved : goal.loop-power-preserved
loop-power-preserved g c = count_step c.requires c.loop-power.invariant (omega arith)

pub returns : goal.returns
returns g c = count_end c.requires c.loop-power.invariant (omega arith)

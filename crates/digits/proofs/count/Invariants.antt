use Prim.Native.Nat.{◌+◌, ◌-◌}
use Rattle.digits.proofs.Counting.{Counting}
use Rattle.digits.proofs.count.Given as goal

abbrev pub invariant-loop-power : goal.invariant-loop-power
invariant-loop-power g l = Counting g.row.BASE l.n l.power l.k

abbrev pub decreases-loop-power : goal.decreases-loop-power
decreases-loop-power g l = l.most + 1 - l.power

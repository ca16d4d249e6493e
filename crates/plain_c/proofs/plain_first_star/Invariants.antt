use Prim.Native.Nat.{◌-◌}
use lib.ListN.{length}
use Rattle.plain_c.proofs.Passing.{Passed}
use Rattle.plain_c.proofs.plain_first_star.Given as goal

abbrev pub invariant-loop-i : goal.invariant-loop-i
invariant-loop-i l = Passed l.bytes l.i

abbrev pub decreases-loop-i : goal.decreases-loop-i
decreases-loop-i l = length l.bytes - l.i

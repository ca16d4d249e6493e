use Rattle.zeros.specs.Dropped.{Dropped}
use Rattle.zeros.proofs.kept.Given as goal

abbrev pub invariant-loop-i : goal.invariant-loop-i
invariant-loop-i l = Dropped l.s l.i

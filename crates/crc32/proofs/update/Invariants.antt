use Rattle.crc32.specs.Passing.{Passing}
use Rattle.crc32.proofs.update.Given as goal

abbrev pub invariant-loop-b : goal.invariant-loop-b
invariant-loop-b l = Passing l.initial.c l.b-items l.c l.b-index

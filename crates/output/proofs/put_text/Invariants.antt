use lib.ListN.{drop}
use Rattle.output.proofs.Loops.{Left}
use Rattle.output.proofs.put_text.Given as goal

abbrev pub invariant-loop-b : goal.invariant-loop-b
invariant-loop-b l = Left l.src l.initial.out l.at (drop l.b-index l.src) l.out l.place

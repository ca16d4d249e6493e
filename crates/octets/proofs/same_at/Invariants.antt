use lib.ListN.{length}
use Rattle.rules.specs.Bytes.{part}
use Rattle.octets.proofs.Comparing.{Comparing}
use Rattle.octets.proofs.same_at.Given as goal

abbrev pub invariant-loop-k : goal.invariant-loop-k
invariant-loop-k l = Comparing (part l.i (length l.known) l.s) l.known l.k

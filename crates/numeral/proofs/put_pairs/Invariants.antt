use lib.ListN.{drop}
use Rattle.output.proofs.Loops.{Left}
use Rattle.rules.specs.Numerals.{hex_pairs}
use Rattle.numeral.proofs.put_pairs.Given as goal

abbrev pub invariant-loop-b : goal.invariant-loop-b
invariant-loop-b l = Left (hex_pairs l.src) l.initial.out l.at (hex_pairs (drop l.b-index l.src)) l.out l.place

use Rattle.digits.specs.Digits.{cased}
use Rattle.digits.proofs.Backwards.{Backwards}
use Rattle.digits.proofs.put_last.Given as goal

abbrev pub invariant-loop-i : goal.invariant-loop-i
invariant-loop-i g l = Backwards (cased l.upper) g.row.BASE l.k l.n l.initial.out l.at l.out l.i l.left

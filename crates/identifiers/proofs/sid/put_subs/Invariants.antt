use Prim.Native.Nat.{◌+◌, ◌-◌, ◌*◌}
use lib.ListN.{drop}
use Rattle.output.proofs.Loops.{Left}
use Rattle.rules.specs.Values.{subs_text}
use Rattle.identifiers.proofs.sid.put_subs.Given as goal

abbrev pub invariant-loop-i : goal.invariant-loop-i
invariant-loop-i l = Left (subs_text l.k (drop 8 l.src)) l.initial.out l.at (subs_text (l.k - l.i) (drop (8 + 4 * l.i) l.src)) l.out l.place

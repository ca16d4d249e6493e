use mathlib.Core.Path.{◌≡◌}
use Prim.Native.Nat.{◌+◌, ◌^◌}
use Rattle.numeral.proofs.largest.Given as goal

abbrev pub invariant-loop : goal.invariant-loop
invariant-loop l = l.top + 1 ≡ 256 ^ l.counter

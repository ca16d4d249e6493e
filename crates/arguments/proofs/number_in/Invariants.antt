use mathlib.Core.Path.{◌≡◌}
use Prim.Native.Nat.{◌≤◌}
use lib.ListN.{drop}
use Rattle.arguments.specs.Numbers.{number_in}
use Rattle.arguments.proofs.Digits.{rest}
use Rattle.arguments.proofs.number_in.Given as goal

abbrev pub invariant-loop-digit : goal.invariant-loop-digit
invariant-loop-digit l = record {
  holds : l.number ≤ 0xffff_ffff_ffff_ffff;
  same : number_in l.word ≡ rest l.number (drop l.digit-index l.word);
}

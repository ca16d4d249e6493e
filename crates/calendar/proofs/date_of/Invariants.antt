use Prim.Native.Nat.{◌-◌, ◌≤◌}
use lib.ListN.{get_or}
use Rattle.calendar.specs.Years.{row_of}
use Rattle.calendar.proofs.date_of.Given as goal

abbrev pub invariant-loop-m : goal.invariant-loop-m
invariant-loop-m l = get_or (row_of l.l) (l.m - 1) 0 ≤ l.rest

-- `days_of_month` meets its contract: the rows rise, and are those of rules.Dates.
use mathlib.Core.Path.{◌≡◌}
use Prim.Native.Nat.{◌+◌, ◌-◌}
use Rattle.calendar.proofs.Years.{row_of_lem, row_rises}
use native.Mathlib.Omega.{arith}
use Rattle.calendar.proofs.days_of_month.Goals as goal

pub overflow_sub-result : goal.overflow_sub-result
overflow_sub-result c =
    omega (arith, c.days_before.ensures, c.days_before-2.ensures, row_rises c.is_leap-l.result c.args.m c.requires.0 c.requires.1)

pub returns : goal.returns
returns c =
    let next : c.args.m + 1 - 1 ≡ c.args.m = omega arith in
    let same = row_of_lem c.args.y c.is_leap-l.result c.is_leap-l.ensures in
    rw (next, ← same, c.days_before.ensures, c.days_before-2.ensures)

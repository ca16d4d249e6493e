-- `date_of` meets its contract: the month is the first that ends behind the day of the year, and December does.
use mathlib.Core.Path.{◌≡◌, sym}
use Prim.Native.Nat.{◌+◌, ◌-◌}
use Rattle.calendar.proofs.Years.{row_of_lem, row_starts, in_the_year}
use borrow.Author.Rules.{rules}
use native.Mathlib.Omega.{arith}
use Rattle.calendar.proofs.date_of.Goals as goal

pub overflow_add-year : goal.overflow_add-year
overflow_add-year c = omega (arith, c.year_of-y.ensures.few)

pub loop-m-init : goal.loop-m-init
loop-m-init c = rw (row_starts c.is_leap-l.result) (search rules)

pub loop-m-preserved : goal.loop-m-preserved
loop-m-preserved c =
    let next : c.loop-m.m + 1 - 1 ≡ c.loop-m.m = omega arith in
    rw (next, ← c.days_before.ensures) (search rules)

pub overflow_sub-result : goal.overflow_sub-result
overflow_sub-result c = omega (arith, c.days_before-then-rest-days_before.ensures, c.loop-m.invariant)

pub returns-then-rest-days_before : goal.returns-then-rest-days_before
returns-then-rest-days_before c =
    let same = row_of_lem (1601 + c.year_of-y.result.years) c.is_leap-l.result c.is_leap-l.ensures in
    rw (c.days_before-then-rest-days_before.ensures, same)
    (sym (in_the_year c.args.d c.year_of-y.result.years c.year_of-y.result.rest c.loop-m.m c.year_of-y.ensures (search rules)
    (search rules) (rw same at c.loop-m.invariant) (rw (c.days_before.ensures, same) at c.if-rest-days_before.true)))

pub unreachable-requires : goal.unreachable-requires
unreachable-requires c =
    let same = row_of_lem (1601 + c.year_of-y.result.years) c.is_leap-l.result c.is_leap-l.ensures in
    let last : c.loop-m.m - 1 ≡ 12 = omega arith in
    omega (arith, c.year_of-y.ensures.inside, rw (last, same) at c.loop-m.invariant)

-- `year_of` meets its contract: the quotient is the year, or the one after it.
use mathlib.Core.Path.{refl}
use Rattle.calendar.proofs.Years.{first_guess, second_guess}
use native.Mathlib.Omega.{arith}
use Rattle.calendar.proofs.year_of.Goals as goal

pub returns-then-before-d : goal.returns-then-before-d
returns-then-before-d c = rw c.days_of-before.ensures (first_guess _ _ refl c.requires (rw c.days_of-before.ensures at c.if-before-d.true))

pub overflow_sub-result-2 : goal.overflow_sub-result-2
overflow_sub-result-2 c = omega (arith, (second_guess _ _ refl c.requires (rw c.days_of-before.ensures at c.if-before-d.false)).0)

pub overflow_sub-n : goal.overflow_sub-n
overflow_sub-n c = omega (arith, (second_guess _ _ refl c.requires (rw c.days_of-before.ensures at c.if-before-d.false)).0)

pub overflow_sub-result-3 : goal.overflow_sub-result-3
overflow_sub-result-3 c =
    omega (arith, c.days_of.ensures, (second_guess _ _ refl c.requires (rw c.days_of-before.ensures at c.if-before-d.false)).1)

pub returns : goal.returns
returns c =
    rw c.days_of.ensures (second_guess _ _ refl c.requires (rw c.days_of-before.ensures at c.if-before-d.false)).2

-- `days_of` meets its contract: the closed form of the days of years.
use Rattle.laws.specs.Calendar.{days_closed}
use native.Mathlib.Omega.{arith}
use Rattle.calendar.proofs.days_of.Goals as goal

pub returns : goal.returns
returns c = omega (arith, days_closed c.args.n)

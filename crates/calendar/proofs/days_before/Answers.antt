-- `days_before` meets its contract: the table's rows are those of rules.Dates, as antt computes.
use Rattle.rules.specs.Dates.{common_row, leap_row}
use Rattle.calendar.proofs.days_before.Goals as goal

pub returns-then-leap : goal.returns-then-leap
unfolding leap_row
returns-then-leap c = rw c.if-leap.true

pub returns : goal.returns
unfolding common_row
returns c = rw c.if-leap.false

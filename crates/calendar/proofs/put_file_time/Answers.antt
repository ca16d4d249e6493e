-- `put_file_time` meets its contract: up to the limit every day has a date.
use borrow.Author.Tests.{le-leb, lt-leb}
use Rattle.rules.specs.Dates.{file_time, file_time_text}
use Rattle.calendar.proofs.Times.{put_done, put_wrong}
use Rattle.calendar.proofs.put_file_time.Goals as goal

pub returns-then-n-gt2650467743999999999 : goal.returns-then-n-gt2650467743999999999
unfolding file_time
returns-then-n-gt2650467743999999999 c = rw (← c.number_at-n.ensures, lt-leb _ _ c.if-n-gt2650467743999999999.true) put_wrong

pub returns : goal.returns
unfolding file_time file_time_text
returns c =
    rw (← c.number_at-n.ensures, le-leb _ _ c.if-n-gt2650467743999999999.false) (put_done (rw c.date_of.ensures at c.put_time.ensures))

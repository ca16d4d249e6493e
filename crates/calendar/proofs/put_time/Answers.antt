-- `put_time` meets its contract: its six parts in turn.
use Rattle.output.proofs.Output.{in_turn, ◌&◌}
use Rattle.rules.specs.Dates.{date_text, clock_text, time_text}
use borrow.Author.Rules.{rules}
use Rattle.calendar.proofs.put_time.Goals as goal

pub returns : goal.returns
unfolding time_text date_text clock_text
returns c =
    (in_turn (search rules) & c.put_marked-a.ensures & c.put-b.ensures & c.put_marked-c.ensures & c.put-e.ensures & c.put_padded-f.ensures
    & c.put.ensures).wrote

-- `put_marked` meets its contract: its five parts in turn.
use Rattle.output.proofs.Output.{in_turn, ◌&◌}
use borrow.Author.Rules.{rules}
use Rattle.calendar.proofs.put_marked.Goals as goal

pub returns : goal.returns
returns c =
    (in_turn (search rules) & c.put_padded-first.ensures & c.put-second.ensures & c.put_padded-third.ensures & c.put-fourth.ensures
    & c.put_padded.ensures).wrote

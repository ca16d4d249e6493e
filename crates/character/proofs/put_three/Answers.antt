-- `put_three` meets its contract: three bytes in turn.
use Rattle.output.proofs.Output.{in_turn, ◌&◌}
use borrow.Author.Rules.{rules}
use Rattle.character.proofs.put_three.Goals as goal

pub returns : goal.returns
returns c = (in_turn (search rules) & c.put-second.ensures & c.put-third.ensures & c.put.ensures).wrote

-- `put_sub` meets its contract.
use Rattle.output.proofs.Output.{wrote_more}
use borrow.Author.Rules.{rules}
use Rattle.identifiers.proofs.sid.put_sub.Goals as goal

pub returns : goal.returns
returns c = wrote_more (search rules) c.put-place.ensures c.put_decimal.ensures

-- `put` meets its contract: a byte within the memory is stored, and past its end only the place moves.
use Rattle.output.proofs.Output.{wrote_in, wrote_past}
use borrow.Author.Rules.{rules}
use Rattle.output.proofs.put.Goals as goal

pub returns-then-at-out : goal.returns-then-at-out
returns-then-at-out c = wrote_in _ _ _ (search rules) (search rules)

pub returns : goal.returns
returns c = wrote_past _ _ _ _ (search rules) c.skip.ensures

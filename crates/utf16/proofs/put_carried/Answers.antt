-- `put_carried` meets its contract.
use Rattle.output.proofs.Output.{wrote_nil}
use Rattle.rules.specs.Strings.{all_shown}
use Rattle.utf16.proofs.put_carried.Goals as goal

pub returns-in-None : goal.returns-in-None
unfolding all_shown
returns-in-None c = rw c.in-None.is (wrote_nil _ _)

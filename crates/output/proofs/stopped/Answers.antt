-- `stopped` meets its contract: the test of the code is the definition's.
use Rattle.output.proofs.stopped.Goals as goal

pub returns : goal.returns
returns c = rw c.top.ensures

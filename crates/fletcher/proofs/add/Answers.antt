-- `add` meets its contract: the bytes, and then the number.
use Rattle.fletcher.proofs.add.Goals as goal

pub returns : goal.returns
returns c = rw c.over.ensures at c.with.ensures

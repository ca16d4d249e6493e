-- The number is that of the check.
use Rattle.records_c.proofs.evtx_check_chunk.Goals as goal

pub returns : goal.returns
returns c = rw c.check_chunk.ensures at c.answer_of.ensures

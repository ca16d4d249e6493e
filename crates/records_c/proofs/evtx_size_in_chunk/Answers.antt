-- The answer is the struct that the library's answer means.
use Rattle.records_c.proofs.evtx_size_in_chunk.Goals as goal

pub returns : goal.returns
returns c = rw c.size_in_chunk.ensures at c.size_answer.ensures

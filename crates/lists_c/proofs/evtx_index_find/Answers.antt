-- The answer is the struct that the library's answer means.
use Rattle.lists_c.proofs.evtx_index_find.Goals as goal

pub returns : goal.returns
returns c = rw c.find.ensures at c.entry_answer.ensures

-- The answer is the struct that the library's answer means.
use Rattle.records_c.proofs.evtx_next_in_chunk.Goals as goal

pub returns : goal.returns
returns c = rw (c.wide.ensures, c.next_in_chunk.ensures) at c.found_at.ensures

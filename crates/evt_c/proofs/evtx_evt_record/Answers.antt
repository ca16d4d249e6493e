-- The answer is the struct that the library's answer means.
use Rattle.evt_c.proofs.evtx_evt_record.Goals as goal

pub returns : goal.returns
returns c = rw c.record.ensures at c.seen_answer.ensures

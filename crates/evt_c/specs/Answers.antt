-- What the struct of the C interface means: the papers' number, and the values, which are zero in a refusal.
use Rattle.rules.specs.Answers.{Outcome, value, refused}
use Rattle.rules.specs.Evt.{EvtFields}
use Rattle.evt_c.specs.declared.EvtxEvtSeen.{EvtxEvtSeen}

-- what a record shows of itself
abbrev pub seen_in : Outcome EvtFields → EvtxEvtSeen
seen_in (value f) =
    record { number = 0; length = f.size; record_number = f.record_number; written_time = f.written_time; next = f.next }
seen_in (refused n p) = record { number = n; length = 0; record_number = 0; written_time = 0; next = 0 }

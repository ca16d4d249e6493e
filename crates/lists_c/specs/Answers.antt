-- What an entry is in C: document 02's number, and the values, which are zero in a refusal.
use Rattle.rules.specs.Answers.{Outcome, value, refused}
use Rattle.rules.specs.Index.{Placed}
use Rattle.lists_c.specs.declared.EvtxEntry.{EvtxEntry}

abbrev pub entry_in : Outcome Placed → EvtxEntry
entry_in (value p) =
    record {
      number = 0;
      position = p.0;
      chunk_number = p.1.chunk;
      offset = p.1.offset;
      size = p.1.size;
      record_number = p.1.number;
      refusal = p.1.refusal;
    }
entry_in (refused n p) =
    record { number = n; position = 0; chunk_number = 0; offset = 0; size = 0; record_number = 0; refusal = 0 }

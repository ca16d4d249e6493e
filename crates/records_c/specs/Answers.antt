-- What the structs of the C interface mean: document 01's number, and the values, which are zero in a refusal.
use Rattle.std.specs.Prelude.{ℕ}
use Rattle.rules.specs.Answers.{Outcome, value, refused}
use Rattle.rules.specs.Records.{Range, RecordFields}
use Rattle.records_c.specs.declared.EvtxAnswer.{EvtxAnswer}
use Rattle.records_c.specs.declared.EvtxFound.{EvtxFound}
use Rattle.records_c.specs.declared.EvtxStretch.{EvtxStretch}
use Rattle.records_c.specs.declared.EvtxFields.{EvtxFields}

-- a check answers its number
abbrev pub checked : ℕ → EvtxAnswer
checked n = record { number = n; length = 0 }

-- the size of a record
abbrev pub size_in : Outcome ℕ → EvtxAnswer
size_in (value n) = record { number = 0; length = n }
size_in (refused n p) = record { number = n; length = 0 }

abbrev pub found_of : Outcome ℕ → EvtxFound
found_of (value s) = record { number = 0; offset = s }
found_of (refused n p) = record { number = n; offset = 0 }

abbrev pub stretch_in : Outcome Range → EvtxStretch
stretch_in (value r) = record { number = 0; offset = r.at; length = r.count }
stretch_in (refused n p) = record { number = n; offset = 0; length = 0 }

abbrev pub fields_in : Outcome RecordFields → EvtxFields
fields_in (value f) = record { number = 0; record_number = f.record_number; written_time = f.written_time }
fields_in (refused n p) = record { number = n; record_number = 0; written_time = 0 }

-- What the calls on times answer and leave, against rules.Dates.
--     time_meaning : document 01's number and value for each answer
--     PutTime o out at out' r : the text of a time, or none, gives the answer r and the memory out'
use Rattle.std.specs.Prelude as Prelude
use Rattle.std.specs.Prelude.{◌≡◌, List, ℕ, length, Some, None}
use Rattle.std.proofs.Math.Option.{Option, none, some}
use Rattle.output.specs.Output.{emit, adv}
use Rattle.rules.specs.Bytes.{Text}
use Rattle.rules.specs.Answers.{Outcome, value, refusal, wrong_value}
use Rattle.rules.specs.Dates as Dates
use Rattle.calendar.specs.declared.Date.{Date}

abbrev pub date_in : Date → Dates.Date
date_in d = record { year = d.year; month = d.month; day = d.day }

-- what each answer means: the place after the text, or 11
abbrev pub time_meaning : Prelude.Option ℕ → Outcome ℕ
time_meaning (Some at) = value at
time_meaning None = refusal wrong_value

-- the place after a text, in a memory of so many bytes; 11 where there is none
abbrev pub place_after : ℕ → ℕ → Option Text → Outcome ℕ
place_after room at none = refusal wrong_value
place_after room at (some t) = value (adv room at (length t))

-- what the memory holds then
abbrev pub leaves : List ℕ → ℕ → Option Text → List ℕ
leaves out at none = out
leaves out at (some t) = emit out at t

-- what is promised of a time's text at a place
pub record PutTime (o : Option Text) (out : List ℕ) (at : ℕ) (out' : List ℕ) (r : Prelude.Option ℕ) : Type 0 where
  -- the answer means the place after the text, or 11
  pub meaning : time_meaning r ≡ place_after (length out) at o
  -- the memory holds the text, or is as it was
  pub bytes : out' ≡ leaves out at o

-- What `put_sid` answers and leaves, against `sid_size` and `sid` of rules.
--     sid_meaning : document 01's number and value for each answer
--     PutSid fits o out at out' r : whether the size is that of a Sid, and the text of the content, or none, give the answer r and the memory out'
use Rattle.std.specs.Prelude.{◌≡◌, Bool, true, false, List, ℕ, length, if◌then◌else◌, Result, Ok, Err}
use Rattle.std.proofs.Math.Option.{Option, none, some}
use Rattle.output.specs.Output.{adv}
use Rattle.rules.specs.Bytes.{Text}
use Rattle.rules.specs.Answers.{Outcome, value, refusal, wrong_value}
use Rattle.calendar.specs.Times.{place_after, leaves}
use Rattle.identifiers.specs.declared.sid.WrongSid.{WrongSid}
use Rattle.identifiers.specs.declared.sid.WrongSid.TheVariants.{Size, Content}

-- what each answer means: the place after the text, or 11
abbrev pub sid_meaning : Result ℕ WrongSid → Outcome ℕ
sid_meaning (Ok at) = value at
sid_meaning (Err cause) = refusal wrong_value

-- the answer for each cause, in a memory of so many bytes
abbrev pub sid_answer : ℕ → ℕ → Bool → Option Text → Result ℕ WrongSid
sid_answer room at false o = Err Size
sid_answer room at true none = Err Content
sid_answer room at true (some t) = Ok (adv room at (length t))

-- what is promised of a Sid's text at a place
pub record PutSid (fits : Bool) (o : Option Text) (out : List ℕ) (at : ℕ) (out' : List ℕ) (r : Result ℕ WrongSid) : Type 0 where
  -- the answer means the place after the text, or 11
  pub meaning : sid_meaning r ≡ place_after (length out) at (if fits then o else none)
  -- and it is the one for the cause: size or content
  pub answer : r ≡ sid_answer (length out) at fits o
  -- the memory holds the text, or is as it was
  pub bytes : out' ≡ leaves out at (if fits then o else none)

-- What comes of a call for the text of a value.
use Rattle.std.specs.Prelude.{ℕ}
use Rattle.rules.specs.Bytes.{Text}
use Rattle.rules.specs.Answers.{Outcome, refusal, wrong_value, in_room}
use Rattle.rules.specs.Values.{Written, written, wrong_type, wrong_size, wrong_content}

-- what comes of the call with so much room: the text, 11, or 13
abbrev pub outcome : ℕ → Written → Outcome Text
outcome room (written t) = in_room room t
outcome room wrong_type = refusal wrong_value
outcome room wrong_size = refusal wrong_value
outcome room wrong_content = refusal wrong_value

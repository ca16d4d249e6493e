-- Its four parts in turn.
use Rattle.rules.specs.Reals.{places_text}
use Rattle.output.proofs.Output.{in_turn, ◌&◌}
use borrow.Author.Rules.{rules}
use Rattle.real.proofs.put_places.Goals as goal

pub returns : goal.returns
unfolding places_text
returns c =
    (in_turn (search rules) & c.put_sign-place.ensures & c.put_decimal-point.ensures & c.put-after.ensures & c.put_padded.ensures).wrote

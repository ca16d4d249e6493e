-- `put_fields` meets its contract: its six parts in turn.
use Rattle.output.proofs.Output.{in_turn, ◌&◌}
use borrow.Author.Rules.{rules}
use Rattle.identifiers.proofs.guid.put_fields.Goals as goal

pub returns : goal.returns
returns c =
    rw (← c.number_at.ensures, ← c.number_at-2.ensures, ← c.number_at-3.ensures)
    (in_turn (search (rules, c.well_formed)) & c.put-a.ensures & c.put_upper_hex-b.ensures & c.put-c.ensures
    & c.put_upper_hex-d.ensures & c.put-e.ensures
    & c.put_upper_hex.ensures).wrote

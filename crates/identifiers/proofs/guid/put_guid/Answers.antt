-- `put_guid` meets its contract: its parts in turn.
use Rattle.output.proofs.Output.{in_turn, ◌&◌}
use Rattle.rules.specs.Values.{guid_text}
use borrow.Author.Rules.{rules}
use Rattle.identifiers.proofs.guid.put_guid.Goals as goal

pub returns : goal.returns
unfolding guid_text
returns c =
    rw (← c.part_of.ensures, ← c.part_of-2.ensures)
    (in_turn (search (rules, c.well_formed)) & c.put_fields-a.ensures & c.put-b.ensures & c.put_pairs-c.ensures & c.put-d.ensures
    & c.put_pairs-e.ensures
    & c.put.ensures).wrote

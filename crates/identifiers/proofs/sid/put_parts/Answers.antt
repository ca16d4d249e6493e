-- `put_parts` meets its contract.
use Rattle.output.proofs.Output.{in_turn, ◌&◌}
use borrow.Author.Rules.{rules}
use Rattle.identifiers.proofs.sid.put_parts.Goals as goal

pub returns : goal.returns
returns c =
    (in_turn (search rules) & c.put_text-a.ensures & (rw c.authority.ensures at c.put_authority-b.ensures)
    & c.put_subs.ensures).wrote

-- `put_hex` meets its contract: `0x`, and base 16.
use Rattle.output.proofs.Output.{wrote_more}
use borrow.Author.Rules.{rules}
use Rattle.digits.proofs.put_hex.Goals as goal

pub returns : goal.returns
returns c = wrote_more (search rules) c.put_text-place.ensures c.put_last.ensures

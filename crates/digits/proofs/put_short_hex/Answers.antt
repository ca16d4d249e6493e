-- `put_short_hex` meets its contract: as many of the last digits as there are.
use Rattle.rules.specs.Numerals.{short_hex}
use Rattle.digits.proofs.put_short_hex.Goals as goal

pub returns : goal.returns
unfolding short_hex
returns c = rw c.count.ensures c.put_hex.ensures

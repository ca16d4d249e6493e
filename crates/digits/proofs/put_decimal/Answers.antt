-- `put_decimal` meets its contract: as many of the last digits as there are, in base 10.
use Rattle.rules.specs.Numerals.{decimal}
use Rattle.digits.proofs.put_decimal.Goals as goal

pub returns : goal.returns
unfolding decimal
returns c = rw c.count.ensures c.put_last.ensures

-- `put_unsigned` meets its contract.
use Rattle.rules.specs.Numerals.{unsigned}
use Rattle.numeral.proofs.put_unsigned.Goals as goal

pub returns : goal.returns
unfolding unsigned
returns c = rw c.number_of.ensures at c.put_decimal.ensures

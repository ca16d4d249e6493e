-- `four` meets its contract: `number_at` answers where not all bytes are there.
use Rattle.octets.proofs.Numbers.{bounded}
use Rattle.octets.proofs.four.Goals as goal

pub returns : goal.returns
returns c = let a = c.args in bounded a.i 4 a.s.now c.type_inv.s c.number_at.ensures

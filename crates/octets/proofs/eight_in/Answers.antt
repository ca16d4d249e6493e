-- `eight_in` joins what two calls of `four_in` give.
use Rattle.octets.proofs.Widths.{halves}
use Rattle.octets.proofs.eight_in.Goals as goal

pub returns : goal.returns
returns c = let a = c.args in halves a.i 4 a.s.now _ _ c.four_in.ensures.0 c.four_in-2.ensures.0

-- `four_in` joins what two calls of `two_in` give.
use Rattle.octets.proofs.Widths.{halves}
use borrow.Author.Rules.{rules}
use Rattle.octets.proofs.four_in.Goals as goal

pub returns : goal.returns
returns c = let a = c.args in (halves a.i 2 a.s.now _ _ c.two_in.ensures.0 c.two_in-2.ensures.0, search rules)

-- `two_in` meets its contract: the higher byte counts 256 times.
use Rattle.octets.proofs.Widths.{bytes}
use borrow.Author.Rules.{rules}
use Rattle.octets.proofs.two_in.Goals as goal

pub returns : goal.returns
returns c =
    let a = c.args in
    (bytes a.i a.s.now _ _ c.wide.ensures.0 c.wide-2.ensures.0, search rules)

-- An exponent of 0 counts as 1, without the bit before the fraction.
use Rattle.real.proofs.Rounding.{scaled_none, scaled_some}
use Rattle.real.proofs.scaled.Goals as goal

pub returns-then-exponent-eq0 : goal.returns-then-exponent-eq0
returns-then-exponent-eq0 c =
    let a = c.args in
    scaled_none a.exponent a.fraction a.top c.rounded.result c.if-exponent-eq0.true c.requires.2 c.rounded.ensures

pub returns : goal.returns
returns c =
    let a = c.args in
    scaled_some a.exponent a.fraction a.top c.rounded-2.result c.if-exponent-eq0.false c.requires.1 c.rounded-2.ensures

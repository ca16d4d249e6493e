-- Each turn passes one byte that is not 2a.
use Rattle.plain_c.proofs.Passing.{passed_none, passed_more, star_here, star_none}
use borrow.Author.Rules.{rules}
use Rattle.plain_c.proofs.plain_first_star.Goals as goal

pub loop-i-init : goal.loop-i-init
loop-i-init c = passed_none

pub returns-then-bytes-i-eq42 : goal.returns-then-bytes-i-eq42
returns-then-bytes-i-eq42 c = star_here c.loop-i.invariant (search rules) (search rules)

pub loop-i-preserved : goal.loop-i-preserved
loop-i-preserved c = passed_more c.loop-i.invariant (search rules) c.if-bytes-i-eq42.false

pub returns : goal.returns
returns c = star_none c.loop-i.invariant (search rules)

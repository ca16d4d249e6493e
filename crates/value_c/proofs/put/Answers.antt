-- `put` meets its contract: what the first run tells, and what the second leaves.
use Rattle.value_c.proofs.Call.{told_refused, told_long, told_fits}
use borrow.Author.Rules.{rules}
use Rattle.value_c.proofs.put.Goals as goal

pub returns-in_err-length : goal.returns-in_err-length
returns-in_err-length c = told_refused c.put_value.auto.out c.in_err-length.ensures (search rules)

pub returns-then-out-length : goal.returns-then-out-length
returns-then-out-length c = told_long c.put_value.auto.out c.in_ok-length.ensures (search rules)

pub returns : goal.returns
returns c = told_fits c.put_value.auto.out c.in_ok-length.ensures (search rules) (search rules) c.put_value-2.ensures

-- No minus sign where all digits are zero.
use borrow.Author.Tests.{eq-eqb, ne_eqb}
use Rattle.rules.specs.Reals.{sign_text}
use Rattle.output.proofs.Output.{wrote_nil}
use Rattle.real.proofs.put_sign.Goals.{else-negative-via-then-negative+else-t-ne0, else-negative-via-else-negative}
use Rattle.real.proofs.put_sign.Goals as goal

pub returns-then-t-ne0 : goal.returns-then-t-ne0
unfolding sign_text
returns-then-t-ne0 c = rw (c.if-negative.true, ne_eqb _ 0 c.if-t-ne0.true) c.put.ensures

pub returns-else-negative : goal.returns-else-negative
unfolding sign_text
returns-else-negative c =
    elim c.else-negative.branch [
      | else-negative-via-then-negative+else-t-ne0 w ↦ rw (w.if-negative.true, eq-eqb _ 0 w.if-t-ne0.false) (wrote_nil _ _)
      | else-negative-via-else-negative w ↦ rw w.if-negative.false (wrote_nil _ _)
    ]

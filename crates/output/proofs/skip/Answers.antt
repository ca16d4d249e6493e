-- `skip` meets its contract: the three cases of a place that stops at the top.
use mathlib.Core.Path.{sym, ◌∙◌}
use Rattle.output.proofs.Output.{adv_low, adv_high, adv_end}
use native.Mathlib.Omega.{arith}
use Rattle.output.proofs.skip.Goals as goal

pub returns-then-end-at : goal.returns-then-end-at
returns-then-end-at c = sym (adv_high _ _ _ (omega (arith, c.top-end.ensures)))

pub returns-then-n-end : goal.returns-then-n-end
returns-then-n-end c = sym (adv_low _ _ _ (omega (arith, c.top-end.ensures)))

pub returns : goal.returns
returns c =
    c.top-end.ensures ∙ sym (adv_end _ _ _ (omega (arith, c.top-end.ensures)) (omega (arith, c.top-end.ensures)))

-- `put_after_high` meets its contract: a pair is one character, and else the two stand by themselves.
use mathlib.Core.Path.{sym, ◌∙◌}
use native.Mathlib.Omega.{arith}
use borrow.Author.Rules.{rules}
use Rattle.output.proofs.Output.{wrote_more}
use Rattle.utf16.proofs.Carry.{apart, paired, low_bounds}
use Rattle.utf16.proofs.put_after_high.Goals as goal

pub overflow_sub-u : goal.overflow_sub-u
overflow_sub-u c = omega (arith, low_bounds c.args.u (sym c.is_low.ensures ∙ c.if-is_low.true))

pub returns-then-is_low : goal.returns-then-is_low
returns-then-is_low c = rw (paired _ _ (sym c.is_low.ensures ∙ c.if-is_low.true)) c.put_shown.ensures

pub returns : goal.returns
returns c =
    rw (apart _ _ (sym c.is_low.ensures ∙ c.if-is_low.false)) (wrote_more (search rules) c.put_shown-place.ensures c.put_unless_high.ensures)

-- A word of zeros more is passed.
use mathlib.Core.Path.{sym, ◌∙◌}
use Rattle.zeros.proofs.Dropped.{passing_word}
use Rattle.zeros.proofs.pass_eights.Goals as goal

pub loop-word-preserved : goal.loop-word-preserved
loop-word-preserved c =
    let inv = c.loop-word.invariant in
    let steps = c.in-Some.ensures.steps in (
      steps.0 ∙ inv.0,
      rw steps.1 (passing_word _ _ inv.1 steps.2.0 (steps.2.1 ∙ inv.0) (sym c.eight.ensures ∙ c.if-eight-ne0.false)),
    )

-- `put_text` meets its contract: byte after byte, what is left of src is still to be written.
use mathlib.Core.Path.{refl}
use mathlib.Core.List.{[], ◌∷◌}
use Rattle.output.proofs.Loops.{left_start, each_step, each_end}
use borrow.Author.Rules.{rules}
use Rattle.output.proofs.put_text.Goals as goal

pub loop-b-init : goal.loop-b-init
loop-b-init c = left_start (search rules)

pub loop-b-preserved : goal.loop-b-preserved
loop-b-preserved c =
    each_step (λ l. l) c.args.src.now (λ b. b ∷ []) (λ b bs. refl) c.loop-b.b-index (search rules) c.loop-b.invariant
    c.put-place.ensures

pub returns : goal.returns
returns c = each_end (λ l. l) c.args.src.now refl c.loop-b.b-index (search rules) c.loop-b.invariant

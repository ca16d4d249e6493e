-- `put_unless_high` meets its contract.
use mathlib.Core.Path.{sym}
use Rattle.output.proofs.Output.{wrote_nil}
use Rattle.rules.specs.Strings.{all_shown}
use Rattle.utf16.proofs.Carry.{none_high}
use Rattle.utf16.proofs.put_unless_high.Goals as goal

pub returns-in-Some : goal.returns-in-Some
unfolding all_shown
returns-in-Some c = rw (none_high c.args.u _ (sym c.in-Some.ensures)) (wrote_nil _ _)

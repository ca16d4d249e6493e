-- `plain` meets its contract: the table has 1 for the units that are written as themselves, as antt computes.
use mathlib.Core.Path.{sym, ◌∙◌}
use Rattle.utf16.proofs.Shown.{not_some, plain_entry}
use borrow.Author.Rules.{rules}
use Rattle.utf16.proofs.plain.Goals as goal

pub returns : goal.returns
returns c =
    rw (not_some c.args.carry (sym c.is_some.ensures ∙ c.if-is_some.false)) (plain_entry c.args.u (search rules))

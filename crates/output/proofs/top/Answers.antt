-- `top` meets its contract: no memory, some, and more than any slice has.
use mathlib.Core.Path.{sym, ap, ◌∙◌}
use Rattle.output.specs.Output.{top}
use Rattle.output.proofs.Output.{top_none, top_some, top_high}
use borrow.Author.Rules.{rules}
use native.Mathlib.Omega.{arith}
use Rattle.output.proofs.top.Goals as goal

pub returns-then-room-eq0 : goal.returns-then-room-eq0
returns-then-room-eq0 c = sym (ap top (search rules) ∙ top_none)

pub returns-then-room-lt9223372036854775808 : goal.returns-then-room-lt9223372036854775808
returns-then-room-lt9223372036854775808 c = sym (top_some _ (omega arith) (search rules))

pub returns : goal.returns
returns c = sym (top_high _ (search rules))

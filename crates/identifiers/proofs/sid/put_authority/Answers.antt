-- `put_authority` meets its contract.
use Rattle.output.proofs.Output.{wrote_more}
use borrow.Author.Tests.{lt-ltb, le-ltb}
use Rattle.rules.specs.Values.{authority_text}
use borrow.Author.Rules.{rules}
use Rattle.identifiers.proofs.sid.put_authority.Goals as goal

pub returns-then-a-lt4294967296 : goal.returns-then-a-lt4294967296
unfolding authority_text
returns-then-a-lt4294967296 c = rw (lt-ltb _ _ c.if-a-lt4294967296.true) c.put_decimal.ensures

pub returns : goal.returns
unfolding authority_text
returns c =
    rw (le-ltb _ _ c.if-a-lt4294967296.false) (wrote_more (search rules) c.put_text-place.ensures c.put_upper_hex.ensures)

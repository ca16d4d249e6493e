-- `put_pair` meets its contract.
use Prim.Native.Nat.{◌/◌, ◌%◌}
use Rattle.output.proofs.Output.{wrote_more}
use Rattle.laws.specs.Tables.{tabled_at}
use Rattle.rules.specs.Numerals.{upper}
use Rattle.numeral.proofs.Pairs.{byte_pair}
use native.Mathlib.Omega.{arith}
use borrow.Author.Rules.{rules}
use Rattle.numeral.proofs.put_pair.Goals as goal

pub returns : goal.returns
returns c =
    let b = c.args.b in
    let high = tabled_at upper 16 (b / 16) 0 (search rules) in
    let low = tabled_at upper 16 (b % 16) 0 (search rules) in
    rw (byte_pair b c.ranges.b.fits)
    (wrote_more (omega (arith, c.well_formed)) (rw high at c.put-place.ensures) (rw low at c.put.ensures))

-- `put_utf8` meets its contract: one, two, three or four bytes.
use Rattle.output.proofs.Output.{wrote_more}
use borrow.Author.Tests.{lt-ltb, le-ltb}
use Rattle.rules.specs.Strings.{utf8}
use native.Mathlib.Omega.{arith}
use Rattle.character.proofs.put_utf8.Goals as goal

pub returns-then-c-lt128 : goal.returns-then-c-lt128
unfolding utf8
returns-then-c-lt128 c =
    rw (lt-ltb _ 0x80 c.if-c-lt128.true) c.put.ensures

pub returns-then-c-lt2048 : goal.returns-then-c-lt2048
unfolding utf8
returns-then-c-lt2048 c =
    rw (le-ltb _ 0x80 c.if-c-lt128.false, lt-ltb _ 0x800 c.if-c-lt2048.true)
    (wrote_more (omega (arith, c.well_formed)) c.put-second.ensures
    c.put-then-c-lt2048.ensures)

pub returns-then-c-lt65536 : goal.returns-then-c-lt65536
unfolding utf8
returns-then-c-lt65536 c =
    rw (le-ltb _ 0x80 c.if-c-lt128.false, le-ltb _ 0x800 c.if-c-lt2048.false, lt-ltb _ 0x1_0000 c.if-c-lt65536.true) c.put_three.ensures

pub returns : goal.returns
unfolding utf8
returns c =
    rw (le-ltb _ 0x80 c.if-c-lt128.false, le-ltb _ 0x800 c.if-c-lt2048.false, le-ltb _ 0x1_0000 c.if-c-lt65536.false)
    (wrote_more (omega (arith, c.well_formed)) c.put-second-2.ensures c.put_three-2.ensures)

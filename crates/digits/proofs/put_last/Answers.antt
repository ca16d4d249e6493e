-- `put_last` meets its contract: a digit is what the quotient leaves.
use native.Mathlib.Omega.{arith}
use borrow.Author.Rules.{rules}
use Rattle.digits.specs.Digits.{cased}
use Rattle.digits.proofs.Digits.{remainder}
use Rattle.digits.proofs.Backwards.{last_past, back_stored, back_left_out, back_end}
use Rattle.digits.proofs.put_last.Goals as goal

pub returns-then-out-at : goal.returns-then-out-at
returns-then-out-at g c =
    let a = c.args in
    last_past (cased a.upper) g.row.BASE a.k a.n _ a.at _ (search rules) c.skip.ensures

pub overflow_mul-before : goal.overflow_mul-before
overflow_mul-before g c =
    omega (arith, c.loop-i.invariant.less, c.ranges.n.fits, (remainder c.requires c.loop-i.left).0)

pub overflow_sub-left : goal.overflow_sub-left
overflow_sub-left g c =
    (remainder c.requires c.loop-i.left).0

pub digit-d-requires : goal.digit-d-requires
digit-d-requires g c =
    let r = remainder c.requires c.loop-i.left in
    omega (arith, r.1, r.2)

pub loop-i-preserved-then-i-room : goal.loop-i-preserved-then-i-room
loop-i-preserved-then-i-room g c =
    rw (c.digit-d.ensures, (remainder c.requires c.loop-i.left).1)
    (back_stored c.loop-i.invariant (search rules))

pub loop-i-preserved : goal.loop-i-preserved
loop-i-preserved g c =
    back_left_out c.loop-i.invariant (search rules) (omega (arith, c.loop-i.invariant.long))

pub returns : goal.returns
returns g c = back_end c.loop-i.invariant (search rules) c.skip-2.ensures

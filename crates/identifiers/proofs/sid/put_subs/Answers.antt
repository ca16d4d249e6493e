-- `put_subs` meets its contract: what is left are the sub-authorities from the i-th on.
use mathlib.Core.Path.{◌≡◌}
use Prim.Native.Nat.{◌-◌}
use Rattle.output.proofs.Loops.{left_start, left_end}
use Rattle.rules.specs.Values.{subs_text}
use Rattle.identifiers.proofs.SidText.{subs_step}
use borrow.Author.Rules.{rules}
use native.Mathlib.Omega.{arith}
use Rattle.identifiers.proofs.sid.put_subs.Goals as goal

pub loop-i-init : goal.loop-i-init
loop-i-init c = let z : c.args.k - 0 ≡ c.args.k = omega arith in rw z (left_start (search rules))

pub loop-i-preserved : goal.loop-i-preserved
loop-i-preserved c =
    subs_step c.args.k c.loop-i.i c.number_at.result c.args.src.now (search rules) c.number_at.ensures c.loop-i.invariant c.put_sub-place.ensures

pub returns : goal.returns
unfolding subs_text
returns c = let z : c.args.k - c.loop-i.i ≡ 0 = omega arith in left_end (rw z at c.loop-i.invariant)

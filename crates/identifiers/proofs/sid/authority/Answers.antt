-- `authority` meets its contract: the bytes are read from the first to the last, and a is what those read so far hold.
use mathlib.Core.Path.{refl, ap, ◌∙◌}
use mathlib.Core.List.{List, reverse}
use Prim.Native.Nat.{ℕ}
use lib.ListN.{take, drop}
use lib.Seq.{take_all}
use Rattle.rules.specs.Bytes.{number}
use Rattle.identifiers.proofs.SidText.{big_step, big_fits}
use borrow.Author.Rules.{rules}
use native.Mathlib.Omega.{arith}
use Rattle.identifiers.proofs.sid.authority.Goals as goal

pub loop-b-init : goal.loop-b-init
loop-b-init c = (search rules, refl)

pub overflow_mul-a : goal.overflow_mul-a
overflow_mul-a c =
    omega (arith, (big_fits c.loop-b.b-index c.loop-b.a c.wide.result c.loop-b.invariant.0 (search rules) c.wide.ensures.1).1)

pub overflow_add-a : goal.overflow_add-a
overflow_add-a c =
    omega (arith, (big_fits c.loop-b.b-index c.loop-b.a c.wide.result c.loop-b.invariant.0 (search rules) c.wide.ensures.1).1)

pub loop-b-preserved : goal.loop-b-preserved
loop-b-preserved c = (
  (big_fits c.loop-b.b-index c.loop-b.a c.wide.result c.loop-b.invariant.0 (search rules) c.wide.ensures.1).0,
  rw c.wide.ensures.0 (big_step (take 6 (drop 2 c.args.src.now)) c.loop-b.b-index c.loop-b.a c.loop-b-test.true c.loop-b.invariant.1),
)

pub returns : goal.returns
returns c = c.loop-b.invariant.1 ∙ ap (λ (l : List ℕ). number (reverse l)) (take_all c.loop-b.b-index _ c.loop-b-test.false)

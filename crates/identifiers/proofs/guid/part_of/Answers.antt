-- `part_of` meets its contract.
use mathlib.Core.Path.{◌≡◌, sym, ◌∙◌}
use Prim.Native.Nat.{◌+◌, ◌-◌}
use lib.ListN.{length, drop, drop_of_length-le, length-drop}
use lib.Seq.{take-nil, take_all}
use native.Mathlib.Omega.{arith}
use Rattle.identifiers.proofs.guid.part_of.Goals as goal

pub returns-then-src-p : goal.returns-then-src-p
returns-then-src-p c =
    rw (drop_of_length-le c.args.src.now c.if-src-p.true, take-nil c.args.n)

pub returns-then-n-src : goal.returns-then-n-src
returns-then-n-src c =
    let e : c.args.p + c.args.n - c.args.p ≡ c.args.n = omega arith in rw e

pub returns : goal.returns
returns c =
    let rest = drop c.args.p c.args.src.now in
    take_all (length c.args.src.now - c.args.p) rest (rw length-drop (omega arith)) ∙ sym (take_all c.args.n rest (rw length-drop (omega arith)))

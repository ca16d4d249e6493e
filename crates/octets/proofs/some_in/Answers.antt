-- `some_in` meets its contract: the bytes are read from the last to the first, and v is what those read so far hold.
use mathlib.Core.Path.{◌≡◌, ◌∙◌}
use Prim.Native.Nat.{◌+◌, ◌*◌, ◌-◌, ◌^◌, ◌<◌}
use Rattle.octets.proofs.Numbers.{number_step, number_fits}
use borrow.Author.Rules.{rules}
use native.Mathlib.Omega.{arith}
use Rattle.octets.proofs.some_in.Goals as goal
use Rattle.octets.proofs.some_in.Goals.{After-wide}

pub loop-i-init : goal.loop-i-init
loop-i-init c = let z : c.args.w - c.args.w ≡ 0 = omega arith in rw z

-- the next number fits
fits : (c : After-wide) → c.wide.result + c.loop-i.v * 256 < 2 ^ 64
fits c =
    let a = c.args in
    let l = c.loop-i in
    rw c.wide.ensures.0
    (number_fits a.s.now c.type_inv.s a.p a.w l.i l.v c.requires.0 (search rules) l.auto.i l.invariant)

pub loop-i-preserved : goal.loop-i-preserved
loop-i-preserved c =
    let a = c.args in
    let l = c.loop-i in
    rw c.wide.ensures.0 (number_step a.s.now c.type_inv.s a.p a.w l.i l.v c.requires.0 (search rules) l.auto.i l.invariant)

pub returns : goal.returns
returns c =
    let a = c.args in
    let z : c.loop-i.i ≡ 0 = omega arith in
    let w : a.w - 0 ≡ a.w = omega arith in
    let p : a.p + 0 ≡ a.p = omega arith in
    c.loop-i.invariant ∙ rw (z, w, p)

pub overflow_mul-v : goal.overflow_mul-v
overflow_mul-v c = omega (arith, fits c)

pub overflow_add-v : goal.overflow_add-v
overflow_add-v c = omega (arith, fits c)

-- `put_bytes` meets its contract. What is left after i bytes is the text of the units from there on, with what was carried over; a
-- plain unit is one byte, and any other goes through `put_unit`. Where the place has stopped nothing is written or counted.
use mathlib.Core.Path.{sym, ◌∙◌}
use Prim.Native.Nat.{◌*◌}
use Rattle.output.proofs.Output.{wrote_stopped}
use Rattle.output.proofs.Loops.{left_start}
use Rattle.rules.specs.Names.{units}
use Rattle.utf16.proofs.Carry.{carried_high, text_start, text_end, units_none, unit_step}
use borrow.Author.Rules.{rules}
use borrow.Author.Tests.{leb-true}
use native.Mathlib.Omega.{arith}
use Rattle.utf16.proofs.put_bytes.Goals as goal

pub returns-then-stopped : goal.returns-then-stopped
returns-then-stopped g c = wrote_stopped _ _ _ (search rules) (leb-true _ _ (sym c.stopped.ensures ∙ c.if-stopped.true))

pub loop-i-init : goal.loop-i-init
loop-i-init g c = (tt, rw (← (text_start (units (g.B.Bytes.bytes c.args.src.now)))) (left_start (search rules)))

pub loop-i-preserved-then-plain : goal.loop-i-preserved-then-plain
loop-i-preserved-then-plain g c =
    let p = rw c.if-plain.true at c.plain.ensures in (
      c.loop-i.invariant.0,
      unit_step (g.B.Bytes.bytes c.args.src.now) (2 * c.loop-i.i) _ _ _ _ (omega arith) c.unit-u.ensures.0 (omega arith) p.next c.loop-i.invariant.1
          (rw p.itself c.put-place.ensures),
    )

pub loop-i-preserved : goal.loop-i-preserved
loop-i-preserved g c = (
  rw c.high-carry.ensures (carried_high c.unit-u.result),
  unit_step (g.B.Bytes.bytes c.args.src.now) (2 * c.loop-i.i) _ _ _ _ (omega arith) c.unit-u.ensures.0 (omega arith) c.high-carry.ensures c.loop-i.invariant.1
      c.put_unit-place.ensures,
)

pub returns : goal.returns
returns g c =
    c.loop-i.invariant.1.rest _ _
    (rw (units_none (g.B.Bytes.bytes c.args.src.now) (2 * c.loop-i.i) (omega arith), text_end c.loop-i.carry) c.put_carried.ensures)

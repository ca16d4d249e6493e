-- The loop compares byte by byte; its invariant is `Comparing`.
use native.Mathlib.Omega.{arith}
use lib.ListN.{length}
use Rattle.rules.specs.Bytes.{part}
use Rattle.octets.proofs.Comparing.{compare_start, same_shorter, part_room, same_past, at_step, at_other, at_end}
use borrow.Author.Rules.{rules}
use Rattle.octets.proofs.same_at.Goals as goal

pub returns-then-s-i : goal.returns-then-s-i
returns-then-s-i c = let a = c.args in same_past a.i a.s.now a.known.now c.if-s-i.true

pub returns-then-s-i-2 : goal.returns-then-s-i-2
returns-then-s-i-2 c =
    let a = c.args in
    same_shorter (part a.i (length a.known.now) a.s.now) a.known.now (omega (arith, part_room a.i (length a.known.now) a.s.now))

pub loop-k-init : goal.loop-k-init
loop-k-init c = compare_start

pub returns-then-s-i-3 : goal.returns-then-s-i-3
returns-then-s-i-3 c =
    let l = c.loop-k in
    let a = c.args in
    at_other a.i a.s.now a.known.now (search rules) l.k l.invariant (search rules) c.if-s-i-3.true

pub loop-k-preserved : goal.loop-k-preserved
loop-k-preserved c =
    let l = c.loop-k in
    let a = c.args in
    at_step a.i a.s.now a.known.now (search rules) l.k l.invariant (search rules) c.if-s-i-3.false

pub returns : goal.returns
returns c =
    let l = c.loop-k in
    let a = c.args in
    at_end a.i a.s.now a.known.now (search rules) l.k l.invariant (search rules)

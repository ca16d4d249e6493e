-- `number_at` meets its contract: the bytes that are there decide, and they are read by their number.
use mathlib.Core.Path.{◌≡◌, ◌∙◌, ap, sym}
use Prim.Native.Nat.{ℕ, min}
use native.Mathlib.Omega.{arith}
use Rattle.std.proofs.lemmas.Bool.Decides.{nat_tests}
use Rattle.std.specs.Ordering.{ord_min, nat_cmp}
use Rattle.rules.specs.Bytes.{number_at}
use Rattle.octets.proofs.Split.{number_past, number_there}
use Rattle.octets.proofs.number_at.Goals as goal
use Rattle.octets.proofs.number_at.Goals.{After-min-2}

-- the lesser of two numbers
min_is : (a b : ℕ) → ord_min nat_cmp a b ≡ min a b
min_is a b = grind (arith, nat_tests)

lesser : (n b q r : ℕ) → q ≡ ord_min nat_cmp 8 n → r ≡ min q b → r ≡ min (min 8 n) b
lesser n b q r e f = f ∙ ap (λ (m : ℕ). min m b) (e ∙ min_is 8 n)

-- at the match: the number in as many bytes as are there is the number asked for
there : (c : After-min-2) → let a = c.args in
    number_at a.p c.min-2.result a.s.now ≡ number_at a.p (min 8 a.n) a.s.now
there c =
    let a = c.args in
    number_there a.p (min 8 a.n) c.min-2.result a.s.now (lesser _ _ _ _ c.min.ensures c.min-2.ensures)

pub returns-then-s-p : goal.returns-then-s-p
returns-then-s-p c =
    let a = c.args in
    sym (number_past a.p (min 8 a.n) a.s.now c.if-s-p.true)

pub returns-in-2 : goal.returns-in-2
returns-in-2 c = c.two_in.ensures.0 ∙ rw c.in-2.is at (there (goal.at-returns-in-2 c).After-min-2)

pub returns-in-4 : goal.returns-in-4
returns-in-4 c = c.four_in.ensures.0 ∙ rw c.in-4.is at (there (goal.at-returns-in-4 c).After-min-2)

pub returns-in-8 : goal.returns-in-8
returns-in-8 c = c.eight_in.ensures ∙ rw c.in-8.is at (there (goal.at-returns-in-8 c).After-min-2)

pub returns-in_default : goal.returns-in_default
returns-in_default c = c.some_in.ensures ∙ there (goal.at-returns-in_default c).After-min-2

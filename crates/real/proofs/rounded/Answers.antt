-- The whole number is left, the next one is nearer, or both are as near and the even one is taken.
use mathlib.Core.Path.{refl, sym}
use Rattle.laws.specs.Reals.{shifted_out}
use Rattle.real.proofs.Rounding.{back_most, to_lower, to_upper, to_even}
use Rattle.real.proofs.rounded.Goals as goal

pub returns-then-s-gt63 : goal.returns-then-s-gt63
returns-then-s-gt63 c = sym (shifted_out c.args.n c.args.s c.requires c.if-s-gt63.true)

pub overflow_sub-rest : goal.overflow_sub-rest
overflow_sub-rest c = back_most c.args.n c.args.s c.requires c.if-s-gt63.false

pub returns-then-rest-divisor : goal.returns-then-rest-divisor
returns-then-rest-divisor c = to_lower c.args.n c.args.s c.requires c.if-s-gt63.false _ _ refl refl c.if-rest-divisor.true

pub returns-then-divisor-rest : goal.returns-then-divisor-rest
returns-then-divisor-rest c = to_upper c.args.n c.args.s c.requires c.if-s-gt63.false _ _ refl refl c.if-divisor-rest.true

pub returns : goal.returns
returns c =
    to_even c.args.n c.args.s c.requires c.if-s-gt63.false _ _ refl refl c.if-rest-divisor.false c.if-divisor-rest.false

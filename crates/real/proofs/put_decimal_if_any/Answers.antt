-- As a decimal, or in the bits form.
use mathlib.Core.Path.{sym, ◌∙◌}
use Rattle.rules.specs.Reals.{real_text}
use Rattle.real.proofs.put_decimal_if_any.Goals as goal

pub in_thousandths-requires : goal.in_thousandths-requires
in_thousandths-requires c = sym c.is_decimal.ensures ∙ c.if-is_decimal.true

pub returns-then-is_decimal : goal.returns-then-is_decimal
unfolding real_text
returns-then-is_decimal c =
    let d = sym c.is_decimal.ensures ∙ c.if-is_decimal.true in
    rw (← c.number_at-bits.ensures, d, ← c.in_thousandths.ensures, ← c.is_negative.ensures) c.put_places.ensures

pub returns : goal.returns
unfolding real_text
returns c =
    let d = sym c.is_decimal.ensures ∙ c.if-is_decimal.false in
    rw (← c.number_at-bits.ensures, d) c.put_all_hex.ensures

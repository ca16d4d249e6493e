-- `number_in` meets its contract: digit after digit, the number is that of the rest of the word behind those that were read.
use Rattle.std.proofs.Common.{◌+◌, ℕ, drop, sym, ap, ◌∙◌, arith}
use Rattle.std.proofs.lemmas.Bool.Decides.{nat_tests}
use Rattle.arguments.proofs.Digits.{rest, no_word, start, on, stop}
use Rattle.arguments.proofs.number_in.Goals as goal

pub returns-then-is_empty : goal.returns-then-is_empty
returns-then-is_empty c = no_word c.args.word.now (grind (arith, nat_tests))

pub loop-digit-init : goal.loop-digit-init
loop-digit-init c = record { holds = omega arith; same = start c.args.word.now (λ e. grind (arith, nat_tests)) }

pub returns-then-not-is_ascii_digit : goal.returns-then-not-is_ascii_digit
returns-then-not-is_ascii_digit c =
    let l = c.loop-digit in
    stop c.args.word.now l.number l.digit-index c.loop-digit-test.true (sym c.is_ascii_digit.ensures.value ∙ c.if-not-is_ascii_digit.true)
    ∙ sym l.invariant.same

pub loop-digit-preserved : goal.loop-digit-preserved
loop-digit-preserved c =
    let l = c.loop-digit in
    let w = c.args.word.now in
    record {
      holds = omega (arith, c.with_digit-number.ensures);
      same = l.invariant.same ∙ on w l.number l.digit-index c.loop-digit-test.true (sym c.is_ascii_digit.ensures.value ∙ c.if-not-is_ascii_digit.false)
          ∙ ap (λ (n : ℕ). rest n (drop (l.digit-index + 1) w)) (sym c.with_digit-number.ensures);
    }

-- A real number that is written as a decimal can be read back: its digits give the thousandths, three of them stand behind the point, and a minus
-- sign stands before them exactly if the sign bit is set and some digit is not zero.
--     real_back : is_decimal f (number b) ≡ true → Places (is_negative f (number b)) (thousandths f (number b)) (real_text f b)
-- The idea: `decimal` and `padded` are read back as everywhere else, and a number is 1,000 times its thousands and what is left.
use Rattle.std.specs.Prelude.{◌≡◌, refl, Bool, true, false, List, ℕ, ◌+◌, ◌*◌, ◌/◌, ◌%◌, eqb}
use Rattle.std.proofs.Common.{ap₂, ◌∙◌, div-add-mod', arith, eqb-true}
use Rattle.std.proofs.lemmas.Bool.{eqb-false}
use Rattle.rules.specs.Bytes.{number}
use Rattle.rules.specs.Numerals.{lower, decimal, padded}
use Rattle.rules.specs.Reals.{Format, is_negative, thousandths, sign_text, places_text, is_decimal, real_text}
use Rattle.laws.specs.Digits.{decimal_back, last_digits_length, padded_back}
use Rattle.laws.specs.RealText.{Sign, minus, positive, all_zero, Places}

sign_of : (negative : Bool) (t : ℕ) → Sign negative t (sign_text negative t)
unfolding sign_text
sign_of false t = positive refl
sign_of true t = go (eqb t 0) refl
  where
    go : (e : Bool) → eqb t 0 ≡ e → Sign true t (sign_text true t)
    go true e = rw e (all_zero (eqb-true t 0 e))
    go false e = rw e (minus refl (eqb-false t 0 e))

pub places_back : (negative : Bool) (t : ℕ) → Places negative t (places_text negative t)
unfolding places_text
places_back negative t =
    record {
      sign = sign_text negative t;
      whole = decimal (t / 1_000);
      places = padded 3 (t % 1_000);
      is = refl;
      signed = sign_of negative t;
      three = last_digits_length lower 10 3 (t % 1_000);
      back = ap₂ (λ (i j : ℕ). i * 1_000 + j) (decimal_back (t / 1_000)) (padded_back 10 (omega arith) 3 (t % 1_000) (omega arith))
          ∙ div-add-mod' t 1_000;
    }

-- a real number that is written as a decimal
pub real_back : (f : Format) (b : List ℕ) → is_decimal f (number b) ≡ true → Places (is_negative f (number b)) (thousandths f (number b)) (real_text f b)
unfolding real_text
real_back f b e = rw e (places_back (is_negative f (number b)) (thousandths f (number b)))

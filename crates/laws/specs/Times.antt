-- Every FileTime up to the limit gives 28 bytes whose date is the day counted from 1601 and whose clock is what is left of the day.
--     filetime_text : n ≤ 2_650_467_743_999_999_999 → FileTimeText n (file_time_text n)
-- Digits are read back from their places in the text; the date's law is that of Calendar.
use Rattle.std.specs.Prelude.{◌≡◌, refl, List, ℕ, ◌/◌, ◌%◌, ◌≤◌, ◌<◌, length}
use Rattle.std.proofs.Common.{ap, ◌∙◌, arith, le-leb}
use Rattle.std.proofs.Math.Option.{some}
use Rattle.std.proofs.Math.Nat.{div-div-eq-div-mul}
use Rattle.rules.specs.Bytes.{number, part, Text}
use Rattle.rules.specs.Numerals.{last_digits}
use Rattle.rules.specs.Dates.{Date, date_of, date_text, clock_text, time_text, file_time_text, file_time}
use Rattle.laws.specs.Digits.{read_back, padded_back}
use Rattle.laws.specs.Calendar.{Real, day_number, month_short, date_real, there_and_back}

-- the number in the k digits at offset i of a text
abbrev pub digits_at : ℕ → ℕ → Text → ℕ
digits_at i k t = read_back 10 (part i k t)

-- what the text of FileTime n says
pub record FileTimeText (n : ℕ) (t : Text) : Type 0 where
  pub long : length t ≡ 28
  pub date : Date
  pub real : Real date
  pub day_number_lem : day_number date ≡ n / 864_000_000_000
  pub year : digits_at 0 4 t ≡ date.year
  pub month : digits_at 5 2 t ≡ date.month
  pub day : digits_at 8 2 t ≡ date.day
  pub hour : digits_at 11 2 t ≡ n / 36_000_000_000 % 24
  pub minute : digits_at 14 2 t ≡ n / 600_000_000 % 60
  pub second : digits_at 17 2 t ≡ n / 10_000_000 % 60
  pub fraction : digits_at 20 7 t ≡ n % 10_000_000

pub filetime_text : (n : ℕ) → n ≤ 2_650_467_743_999_999_999 → FileTimeText n (file_time_text n)
unfolding file_time_text time_text date_text clock_text last_digits
filetime_text n h =
    let seconds = n / 10_000_000 in
    let d = seconds / 86_400 in
    let inside : d < 3_067_671 = omega arith in
    let r = date_real d inside in
    record {
      long = refl;
      date = date_of d;
      real = r;
      day_number_lem = there_and_back d inside ∙ div-div-eq-div-mul n 10_000_000 86_400;
      year = padded_back 10 (omega arith) 4 (date_of d).year (omega (arith, r.year_high));
      month = padded_back 10 (omega arith) 2 (date_of d).month (omega (arith, r.month_high));
      day = padded_back 10 (omega arith) 2 (date_of d).day
          (omega (arith, r.day_high, month_short (date_of d).year (date_of d).month r.month_low r.month_high));
      hour = padded_back 10 (omega arith) 2 (seconds / 3_600 % 24) (omega arith) ∙ ap (◌% 24) (div-div-eq-div-mul n 10_000_000 3_600);
      minute = padded_back 10 (omega arith) 2 (seconds / 60 % 60) (omega arith) ∙ ap (◌% 60) (div-div-eq-div-mul n 10_000_000 60);
      second = padded_back 10 (omega arith) 2 (seconds % 60) (omega arith);
      fraction = padded_back 10 (omega arith) 7 (n % 10_000_000) (omega arith);
    }

-- a FileTime up to the limit has this text
pub filetime_given : (b : List ℕ) → number b ≤ 2_650_467_743_999_999_999 → file_time b ≡ some (file_time_text (number b))
unfolding file_time
filetime_given b h = rw (le-leb (number b) 2_650_467_743_999_999_999 h)

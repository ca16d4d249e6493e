-- The year that a day falls into, found by a division, and the month and day in it.
--     first_guess, second_guess : the quotient of `year_of` is the year, or the one after it
--     in_the_year : the month whose days hold the day of the year makes the date
use mathlib.Core.Path.{◌≡◌, refl, ap, sym, ◌∙◌}
use mathlib.Core.Bool.{Bool, true, false, ◌&&◌}
use mathlib.Core.List.{List, [], ◌∷◌}
use Prim.Native.Nat.{ℕ, zero, suc, ◌+◌, ◌*◌, ◌-◌, ◌/◌, ◌≤◌, ◌<◌}
use native.Mathlib.Omega.{arith}
use borrow.Author.Tests.{leb-true}
use lib.Dec.{leb}
use lib.ListN.{length, get_or}
use Rattle.rules.specs.Dates.{leap, common_row, leap_row, row, days_of_year, Date, date_of}
use Rattle.laws.specs.Tests.{both}
use Rattle.laws.specs.Calendar.{days_of_years, days_closed, day_number, Real, back_and_there}
use Rattle.calendar.specs.Years.{row_of, YearOf}

pub row_of_lem : (y : ℕ) (l : Bool) → l ≡ leap y → row_of l ≡ row y
unfolding row
row_of_lem y true e = rw (← e)
row_of_lem y false e = rw (← e)

pub row_starts : (l : Bool) → get_or (row_of l) 0 0 ≡ 0
unfolding common_row leap_row
row_starts true = refl
row_starts false = refl

-- no entry is below the one before it
abbrev rising : List ℕ → Bool
rising [] = true
rising (x ∷ []) = true
rising (x ∷ y ∷ l) = leb x y && rising (y ∷ l)

next_entry : (l : List ℕ) → rising l ≡ true → (i : ℕ) → suc i < length l → get_or l i 0 ≤ get_or l (suc i) 0
next_entry [] h i g = absurd (omega arith)
next_entry (x ∷ []) h i g = absurd (omega arith)
next_entry (x ∷ y ∷ l) h zero g = leb-true x y (both (leb x y) (rising (y ∷ l)) h).0
next_entry (x ∷ y ∷ l) h (suc i) g = next_entry (y ∷ l) (both (leb x y) (rising (y ∷ l)) h).1 i (omega arith)

pub row_rises : (l : Bool) (m : ℕ) → 1 ≤ m → m ≤ 12 → get_or (row_of l) (m - 1) 0 ≤ get_or (row_of l) m 0
unfolding common_row leap_row
row_rises true m low high = let z : suc (m - 1) ≡ m = omega arith in rw z at (next_entry leap_row refl (m - 1) (omega arith))
row_rises false m low high = let z : suc (m - 1) ≡ m = omega arith in rw z at (next_entry common_row refl (m - 1) (omega arith))

-- the last of n + 1 years
last_year : (n y : ℕ) → days_of_years (suc n) y ≡ days_of_years n y + days_of_year (y + n)
unfolding days_of_years
last_year zero y = let z : y + 0 ≡ y = omega arith in rw z (omega arith)
last_year (suc n) y =
    let z : suc y + n ≡ y + suc n = omega arith in
    omega (arith, rw z at (last_year n (suc y)))

-- the days of n years against the average of a year
near : (n : ℕ) → (400 * days_of_years n 1_601 ≤ 146_097 * n + 396) × (146_097 * n ≤ 400 * days_of_years n 1_601 + 699)
near n = (omega (arith, days_closed n), omega (arith, days_closed n))

module _ (d n : ℕ) (guess : n ≡ (400 * d + 800) / 146_097) (all : d < 3_067_671) where
  pub most : n ≤ 8_400
  most = omega arith

  pub first_guess : days_of_years n 1_601 ≤ d → YearOf d n (d - days_of_years n 1_601)
  first_guess h =
      let a = near n in
      let b = near (suc n) in
      let l = last_year n 1_601 in
      record { few = omega arith; whole = omega arith; inside = omega arith }

  pub second_guess : d < days_of_years n 1_601 → (0 < n) × (days_of_years (n - 1) 1_601 ≤ d) × YearOf d (n - 1) (d - days_of_years (n - 1) 1_601)
  second_guess h =
      let a = near n in
      let b = near (n - 1) in
      let z : suc (n - 1) ≡ n = omega arith in
      let l = rw z at (last_year (n - 1) 1_601) in
      (omega arith, omega arith, record { few = omega arith; whole = omega arith; inside = omega arith })

-- the date of day d in its year, by the month whose days hold the day of the year
pub in_the_year : (d n rest m : ℕ) → YearOf d n rest → 1 ≤ m → m ≤ 12 → get_or (row (1_601 + n)) (m - 1) 0 ≤ rest → rest < get_or (row (1_601 + n)) m 0
    → date_of d ≡ record { year = 1_601 + n; month = m; day = rest - get_or (row (1_601 + n)) (m - 1) 0 + 1 }
in_the_year d n rest m y low high before after =
    let date : Date = record { year = 1_601 + n; month = m; day = rest - get_or (row (1_601 + n)) (m - 1) 0 + 1 } in
    let next : m + 1 - 1 ≡ m = omega arith in
    let few = y.few in
    let real : Real date =
    record { year_low = omega arith; year_high = omega arith; month_low = low; month_high = high; day_low = omega arith; day_high = rw next (omega arith) }
    in
    let years : 1_601 + n - 1_601 ≡ n = omega arith in
    let is : day_number date ≡ d = rw years (omega (arith, y.whole)) in
    sym (ap date_of is) ∙ back_and_there date real

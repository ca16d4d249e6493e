-- The year that a day falls into, and the month and day in it, as the code finds them.
use Rattle.std.specs.Prelude.{◌≡◌, Bool, true, false, List, ℕ, ◌+◌, ◌≤◌, ◌<◌}
use Rattle.rules.specs.Dates.{common_row, leap_row, days_of_year}
use Rattle.laws.specs.Calendar.{days_of_years}

-- the row of common years, or of leap years
abbrev pub row_of : Bool → List ℕ
row_of true = leap_row
row_of false = common_row

-- day d falls into the year after n years from 1601 on, and is its day `rest`, from 0
pub record YearOf (d n rest : ℕ) : Type 0 where
  pub few : n ≤ 8_398
  pub whole : d ≡ days_of_years n 1_601 + rest
  pub inside : rest < days_of_year (1_601 + n)

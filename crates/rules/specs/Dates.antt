-- The calendar, and the text of FileTime and SysTime.
use Rattle.std.specs.Prelude.{Bool, true, false, ◌&&◌, ◌||◌, not, List, [], ◌∷◌, ◌++◌, ℕ, zero, suc, ◌+◌, ◌-◌, ◌/◌, ◌%◌, leb, ltb, eqb, get_or, if◌then◌else◌}
use Rattle.std.proofs.Math.Option.{Option, none, some}
use Rattle.rules.specs.Bytes.{number, number_at, Text, ascii}
use Rattle.rules.specs.Numerals.{padded}

-- a leap year: divisible by 4, and not by 100 unless by 400
abbrev pub leap : ℕ → Bool
leap y = eqb (y % 4) 0 && (not (eqb (y % 100) 0) || eqb (y % 400) 0)

-- the days before each month, and in the whole year: the row for common years
unfoldable pub common_row : List ℕ
common_row = 0 ∷ 31 ∷ 59 ∷ 90 ∷ 120 ∷ 151 ∷ 181 ∷ 212 ∷ 243 ∷ 273 ∷ 304 ∷ 334 ∷ 365 ∷ []

-- and the row for leap years
unfoldable pub leap_row : List ℕ
leap_row = 0 ∷ 31 ∷ 60 ∷ 91 ∷ 121 ∷ 152 ∷ 182 ∷ 213 ∷ 244 ∷ 274 ∷ 305 ∷ 335 ∷ 366 ∷ []

unfoldable pub row : ℕ → List ℕ
row y = if leap y then leap_row else common_row

-- the days of year y before its month m, from 1 to 13
abbrev pub days_before : ℕ → ℕ → ℕ
days_before y m = get_or (row y) (m - 1) 0

abbrev pub days_of_year : ℕ → ℕ
days_of_year y = days_before y 13

abbrev pub days_of_month : ℕ → ℕ → ℕ
days_of_month y m = days_before y (m + 1) - days_before y m

pub record Date : Type 0 where
  pub year : ℕ
  pub month : ℕ
  pub day : ℕ

-- the month that day r of year y falls into: as many as begin by then
abbrev pub begun : ℕ → List ℕ → ℕ
begun r [] = 0
begun r (d ∷ ds) = (if leb d r then 1 else 0) + begun r ds

-- the date of day r of year y; both the days of a year and the row count from 0
unfoldable pub in_year : ℕ → ℕ → Date
in_year y r =
    let m = begun r (row y) in
    record { year = y; month = m; day = suc (r - days_before y m) }

-- the date r days after the first of January of year y: year after year is counted off, k at most
unfoldable pub date_from : ℕ → ℕ → ℕ → Date
date_from zero y r = in_year y r
date_from (suc k) y r = elim (ltb r (days_of_year y)) [ true ↦ in_year y r | false ↦ date_from k (suc y) (r - days_of_year y) ]

-- days are counted from the first of January 1601; there are 8,399 years from then up to 9999
unfoldable pub date_of : ℕ → Date
date_of d = date_from 8_398 1_601 d

-- `YYYY-MM-DD`
unfoldable pub date_text : Date → Text
date_text d = padded 4 d.year ++ ascii "-" ++ padded 2 d.month ++ ascii "-" ++ padded 2 d.day

-- `hh:mm:ss`
unfoldable pub clock_text : ℕ → ℕ → ℕ → Text
clock_text h m s = padded 2 h ++ ascii ":" ++ padded 2 m ++ ascii ":" ++ padded 2 s

-- `YYYY-MM-DDThh:mm:ss.` and a fraction, `Z`
unfoldable pub time_text : Date → Text → Text → Text
time_text d clock fraction = date_text d ++ ascii "T" ++ clock ++ ascii "." ++ fraction ++ ascii "Z"

-- FileTime n: 100 ns from 1601
unfoldable pub file_time_text : ℕ → Text
file_time_text n =
    let seconds = n / 10_000_000 in
    time_text (date_of (seconds / 86_400)) (clock_text (seconds / 3_600 % 24) (seconds / 60 % 60) (seconds % 60)) (padded 7 (n % 10_000_000))

-- up to 2,650,467,743,999,999,999
unfoldable pub file_time : List ℕ → Option Text
file_time b = if leb (number b) 2_650_467_743_999_999_999 then some (file_time_text (number b)) else none

-- a date from 1601 to 9999, on a real day of its month
abbrev pub is_date : Date → Bool
is_date d =
    leb 1_601 d.year && leb d.year 9_999 && leb 1 d.month && leb d.month 12
    && leb 1 d.day && leb d.day (days_of_month d.year d.month)

-- hour, minute and second below 24, 60, 60
abbrev pub is_clock : ℕ → ℕ → ℕ → Bool
is_clock h m s = ltb h 24 && ltb m 60 && ltb s 60

-- SysTime's eight 2-byte fields: year, month, weekday (unread), day, hour, minute, second, ms below 1000
unfoldable pub sys_time : List ℕ → Option Text
sys_time b =
    let date : Date = record { year = number_at 0 2 b; month = number_at 2 2 b; day = number_at 6 2 b } in
    let hour = number_at 8 2 b in
    let minute = number_at 10 2 b in
    let second = number_at 12 2 b in
    let ms = number_at 14 2 b in
    if is_date date && is_clock hour minute second && ltb ms 1_000
    then some (time_text date (clock_text hour minute second) (padded 3 ms))
    else none

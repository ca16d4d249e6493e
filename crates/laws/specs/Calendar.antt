-- The calendar: day numbers and dates are two forms of the same thing, over all days from 1601-01-01 to 9999-12-31.
--     rows_rule : the two rows are the running sums of the months' lengths, by one computed test
--     leap_gregorian : leap y ≡ true ↔ Gregorian y
--     days_closed : days_of_years n 1_601 + n / 100 ≡ 365 * n + n / 4 + n / 400
--     date_real, there_and_back : d < 3_067_671 → Real (date_of d), and day_number (date_of d) ≡ d
--     back_and_there : Real d → date_of (day_number d) ≡ d
-- The idea: counting off years leaves a day of a year; in a row that rises, as many months have begun as stand up to that day.
use Rattle.std.specs.Prelude.{◌≡◌, refl, Bool, true, false, ◌&&◌, ◌||◌, not, List, [], ◌∷◌, ◌↔◌, ◌⊎◌, leb, ltb, eqb, length, get_or}
use Rattle.std.proofs.Math.Path.{ap}
use Rattle.std.proofs.Common.{◌∙◌, inl, inr, add_assoc, leb-true, leb-false, ltb-true, ltb-false, eqb-true, le-leb, lt-ltb, le-ltb}
use Prim.Native.Nat.{ℕ, zero, suc, ◌+◌, ◌*◌, ◌-◌, ◌/◌, ◌%◌, ◌≤◌, ◌<◌}
use native.Mathlib.Omega.{arith}
use Rattle.std.proofs.lemmas.Bool.{eqb-false, lt-leb}
use Rattle.rules.specs.Bytes.{same}
use Rattle.rules.specs.Dates.{leap, common_row, leap_row, row, days_before, days_of_year, days_of_month, Date, begun, in_year, date_from, date_of}
use Rattle.laws.specs.Tests.{both}

-- the lengths of the months, with that of February
abbrev pub months : ℕ → List ℕ
months february = 31 ∷ february ∷ 31 ∷ 30 ∷ 31 ∷ 30 ∷ 31 ∷ 31 ∷ 30 ∷ 31 ∷ 30 ∷ 31 ∷ []

-- running sums
abbrev pub sums : ℕ → List ℕ → List ℕ
sums acc [] = acc ∷ []
sums acc (d ∷ ds) = acc ∷ sums (acc + d) ds

-- the two rows of the days table satisfy their rule
pub rows_rule : same common_row (sums 0 (months 28)) && same leap_row (sums 0 (months 29)) ≡ true
unfolding common_row leap_row
rows_rule = refl

-- the Gregorian rule: every fourth year, but of the hundreds only every fourth
abbrev pub Gregorian : ℕ → Type 0
Gregorian y = (y % 4 ≡ 0) × ((y % 100 ≡ 0 → ⊥) ⊎ (y % 400 ≡ 0))

pub leap_gregorian : (y : ℕ) → leap y ≡ true ↔ Gregorian y
leap_gregorian y = go (eqb (y % 4) 0) (eqb (y % 100) 0) (eqb (y % 400) 0) refl refl refl
  where
    go : (a b c : Bool) → eqb (y % 4) 0 ≡ a → eqb (y % 100) 0 ≡ b → eqb (y % 400) 0 ≡ c → a && (not b || c) ≡ true ↔ Gregorian y
    go false b c ea eb ec = (λ e. absurd (let z : ◌≡◌ {A = ℕ} 0 1 = cc in omega arith), λ g. absurd (eqb-false (y % 4) 0 ea g.0))
    go true false c ea eb ec = (λ e. (eqb-true (y % 4) 0 ea, inl (eqb-false (y % 100) 0 eb)), λ g. refl)
    go true true true ea eb ec = (λ e. (eqb-true (y % 4) 0 ea, inr (eqb-true (y % 400) 0 ec)), λ g. refl)
    go true true false ea eb ec = (λ e. absurd (let z : ◌≡◌ {A = ℕ} 0 1 = cc in omega arith), λ g. absurd (neither g.1))
      where
        neither : (y % 100 ≡ 0 → ⊥) ⊎ (y % 400 ≡ 0) → ⊥
        neither (inl n) = n (eqb-true (y % 100) 0 eb)
        neither (inr e) = eqb-false (y % 400) 0 ec e

abbrev bit : Bool → ℕ
bit true = 1
bit false = 0

-- a year has 365 days, and a leap year one more
year_days : (y : ℕ) (t : Bool) → leap y ≡ t → days_of_year y ≡ 365 + bit t
unfolding row common_row leap_row
year_days y true e = rw (row, e)
year_days y false e = rw (row, e)

-- the days of n years from y on
unfoldable pub days_of_years : ℕ → ℕ → ℕ
days_of_years zero y = 0
days_of_years (suc n) y = days_of_year y + days_of_years n (suc y)

last_year : (n y : ℕ) → days_of_years (suc n) y ≡ days_of_years n y + days_of_year (y + n)
unfolding days_of_years
last_year zero y = let z : y + 0 ≡ y = omega arith in rw z (omega arith)
last_year (suc n) y =
    let z : suc y + n ≡ y + suc n = omega arith in
    omega (arith, rw z at (last_year n (suc y)))

-- the quotient by 4, by 100 and by 400 rises by one exactly before the years that it divides
by_4 : (n : ℕ) (t : Bool) → eqb ((1_601 + n) % 4) 0 ≡ t → suc n / 4 ≡ n / 4 + bit t
by_4 n true e = let h = eqb-true ((1_601 + n) % 4) 0 e in omega arith
by_4 n false e = let h = eqb-false ((1_601 + n) % 4) 0 e in omega arith

by_100 : (n : ℕ) (t : Bool) → eqb ((1_601 + n) % 100) 0 ≡ t → suc n / 100 ≡ n / 100 + bit t
by_100 n true e = let h = eqb-true ((1_601 + n) % 100) 0 e in omega arith
by_100 n false e = let h = eqb-false ((1_601 + n) % 100) 0 e in omega arith

by_400 : (n : ℕ) (t : Bool) → eqb ((1_601 + n) % 400) 0 ≡ t → suc n / 400 ≡ n / 400 + bit t
by_400 n true e = let h = eqb-true ((1_601 + n) % 400) 0 e in omega arith
by_400 n false e = let h = eqb-false ((1_601 + n) % 400) 0 e in omega arith

-- what divides by 400 divides by 100, and what divides by 100 divides by 4
nested : (y : ℕ) → ((y % 100 ≡ 0) → y % 4 ≡ 0) × ((y % 400 ≡ 0) → y % 100 ≡ 0)
nested y = (λ h. omega arith, λ h. omega arith)

sum_up : (d q₄ q₁₀₀ q₄₀₀ p₄ p₁₀₀ p₄₀₀ a b c l : ℕ) → d ≡ 365 + l → p₄ ≡ q₄ + a → p₁₀₀ ≡ q₁₀₀ + b → p₄₀₀ ≡ q₄₀₀ + c → l + b ≡ a + c
    → d + q₄ + q₄₀₀ + p₁₀₀ ≡ 365 + p₄ + p₄₀₀ + q₁₀₀
sum_up d q₄ q₁₀₀ q₄₀₀ p₄ p₁₀₀ p₄₀₀ a b c l e₁ e₂ e₃ e₄ e₅ = omega arith

year_closed : (n : ℕ) → days_of_year (1_601 + n) + n / 4 + n / 400 + suc n / 100 ≡ 365 + suc n / 4 + suc n / 400 + n / 100
year_closed n = go (eqb (y % 4) 0) (eqb (y % 100) 0) (eqb (y % 400) 0) refl refl refl
  where
    y : ℕ
    y = 1_601 + n

    closed : (a b c l : Bool) → eqb (y % 4) 0 ≡ a → eqb (y % 100) 0 ≡ b → eqb (y % 400) 0 ≡ c → leap y ≡ l → bit l + bit b ≡ bit a + bit c
        → days_of_year y + n / 4 + n / 400 + suc n / 100 ≡ 365 + suc n / 4 + suc n / 400 + n / 100
    closed a b c l ea eb ec el e =
        sum_up (days_of_year y) (n / 4) (n / 100) (n / 400) (suc n / 4) (suc n / 100) (suc n / 400) (bit a) (bit b) (bit c) (bit l) (year_days y l el)
        (by_4 n a ea) (by_100 n b eb) (by_400 n c ec) e

    go : (a b c : Bool) → eqb (y % 4) 0 ≡ a → eqb (y % 100) 0 ≡ b → eqb (y % 400) 0 ≡ c
        → days_of_year y + n / 4 + n / 400 + suc n / 100 ≡ 365 + suc n / 4 + suc n / 400 + n / 100
    go true true true ea eb ec = closed true true true true ea eb ec (rw (ea, eb, ec)) refl
    go true true false ea eb ec = closed true true false false ea eb ec (rw (ea, eb, ec)) refl
    go true false false ea eb ec = closed true false false true ea eb ec (rw (ea, eb)) refl
    go false false false ea eb ec = closed false false false false ea eb ec (rw ea) refl
    go a false true ea eb ec = absurd (eqb-false (y % 100) 0 eb ((nested y).1 (eqb-true (y % 400) 0 ec)))
    go false true c ea eb ec = absurd (eqb-false (y % 4) 0 ea ((nested y).0 (eqb-true (y % 100) 0 eb)))

-- the days of n years from 1601 on, in closed form
pub days_closed : (n : ℕ) → days_of_years n 1_601 + n / 100 ≡ 365 * n + n / 4 + n / 400
unfolding days_of_years
days_closed zero = refl
days_closed (suc n) = omega (arith, last_year n 1_601, days_closed n, year_closed n)

-- each entry is above the one before it, and the first is e or above
abbrev rises_from : ℕ → List ℕ → Bool
rises_from e [] = true
rises_from e (d ∷ ds) = leb e d && rises_from (suc d) ds

tail : (e d : ℕ) (ds : List ℕ) → rises_from e (d ∷ ds) ≡ true → (e ≤ d) × (rises_from (suc d) ds ≡ true)
tail e d ds h = let p = both (leb e d) (rises_from (suc d) ds) h in (leb-true e d p.0, p.1)

module _ (r : ℕ) where
  has_begun : (d : ℕ) (ds : List ℕ) → d ≤ r → begun r (d ∷ ds) ≡ suc (begun r ds)
  has_begun d ds h = rw (le-leb d r h) (omega arith)

  not_begun : (d : ℕ) (ds : List ℕ) → r < d → begun r (d ∷ ds) ≡ begun r ds
  not_begun d ds h = rw (lt-leb d r h) (omega arith)

  none_begun : (e : ℕ) (l : List ℕ) → rises_from e l ≡ true → r < e → begun r l ≡ 0
  none_begun e [] h g = refl
  none_begun e (d ∷ ds) h g =
      let t = tail e d ds h in
      not_begun d ds (omega arith) ∙ none_begun (suc d) ds t.1 (omega arith)

  -- the months that have begun stand up to r, and the others do not
  begun_low : (e : ℕ) (l : List ℕ) → rises_from e l ≡ true → (i : ℕ) → i < begun r l → get_or l i 0 ≤ r
  begun_low e [] h i g = absurd (omega arith)
  begun_low e (d ∷ ds) h i g = go (leb d r) refl i g (λ j f. begun_low (suc d) ds (tail e d ds h).1 j f)
    where
      go : (t : Bool) → leb d r ≡ t → (i : ℕ) → i < begun r (d ∷ ds) → ((j : ℕ) → j < begun r ds → get_or ds j 0 ≤ r) → get_or (d ∷ ds) i 0 ≤ r
      go true q zero g ih = leb-true d r q
      go true q (suc j) g ih = ih j (omega (arith, has_begun d ds (leb-true d r q)))
      go false q i g ih =
          let f = leb-false d r q in
          absurd (omega (arith, not_begun d ds f, none_begun (suc d) ds (tail e d ds h).1 (omega arith)))

  begun_high : (e : ℕ) (l : List ℕ) → rises_from e l ≡ true → (i : ℕ) → begun r l ≤ i → i < length l → r < get_or l i 0
  begun_high e [] h i g f = absurd (omega arith)
  begun_high e (d ∷ ds) h i g f = go (leb d r) refl i g f (λ j p q. begun_high (suc d) ds (tail e d ds h).1 j p q)
    where
      go : (t : Bool) → leb d r ≡ t → (i : ℕ) → begun r (d ∷ ds) ≤ i → i < suc (length ds) → ((j : ℕ) → begun r ds ≤ j → j < length ds → r < get_or ds j 0)
          → r < get_or (d ∷ ds) i 0
      go true q zero g f ih = absurd (omega (arith, has_begun d ds (leb-true d r q)))
      go true q (suc j) g f ih = ih j (omega (arith, has_begun d ds (leb-true d r q))) (omega arith)
      go false q zero g f ih = leb-false d r q
      go false q (suc j) g f ih =
          let p = leb-false d r q in
          ih j (omega (arith, none_begun (suc d) ds (tail e d ds h).1 (omega arith))) (omega arith)

-- each entry is at most 31 above the one before it
abbrev is_short : List ℕ → Bool
is_short [] = true
is_short (d ∷ []) = true
is_short (d ∷ e ∷ ds) = leb e (d + 31) && is_short (e ∷ ds)

short_steps : (l : List ℕ) → is_short l ≡ true → (i : ℕ) → suc i < length l → get_or l (suc i) 0 ≤ get_or l i 0 + 31
short_steps [] h i g = absurd (omega arith)
short_steps (d ∷ []) h i g = absurd (omega arith)
short_steps (d ∷ e ∷ ds) h zero g = leb-true e (d + 31) (both (leb e (d + 31)) (is_short (e ∷ ds)) h).0
short_steps (d ∷ e ∷ ds) h (suc i) g = short_steps (e ∷ ds) (both (leb e (d + 31)) (is_short (e ∷ ds)) h).1 i (omega arith)

-- what holds of both rows
record Row (l : List ℕ) : Type 0 where
  long : length l ≡ 13
  rises : rises_from 0 l ≡ true
  starts : get_or l 0 0 ≡ 0
  short : is_short l ≡ true

rows : (y : ℕ) → Row (row y)
unfolding row common_row leap_row
rows y = go (leap y) refl
  where
    go : (t : Bool) → leap y ≡ t → Row (row y)
    go true e = rw (row, e) (record { long = refl; rises = refl; starts = refl; short = refl })
    go false e = rw (row, e) (record { long = refl; rises = refl; starts = refl; short = refl })

-- a month has 31 days at most
pub month_short : (y m : ℕ) → 1 ≤ m → m ≤ 12 → days_of_month y m ≤ 31
month_short y m low high =
    let w = rows y in
    let z : suc (m - 1) ≡ m = omega arith in
    let s : m + 1 - 1 ≡ m = omega arith in
    let h : get_or (row y) m 0 ≤ get_or (row y) (m - 1) 0 + 31 = rw z at (short_steps (row y) w.short (m - 1) (omega (arith, w.long))) in
    rw s (omega arith)

-- a real date from 1601 to 9999
pub record Real (d : Date) : Type 0 where
  pub year_low : 1_601 ≤ d.year
  pub year_high : d.year ≤ 9_999
  pub month_low : 1 ≤ d.month
  pub month_high : d.month ≤ 12
  pub day_low : 1 ≤ d.day
  pub day_high : d.day ≤ days_of_month d.year d.month

-- the days from 1601-01-01 up to the date
abbrev pub day_number : Date → ℕ
day_number d = days_of_years (d.year - 1_601) 1_601 + days_before d.year d.month + (d.day - 1)

-- the month and day of day r of year y
record InYear (y r : ℕ) : Type 0 where
  month_low : 1 ≤ begun r (row y)
  month_high : begun r (row y) ≤ 12
  before : days_before y (begun r (row y)) ≤ r
  after : r < days_before y (begun r (row y) + 1)

in_year_lem : (y r : ℕ) → r < days_of_year y → InYear y r
in_year_lem y r h =
    let w = rows y in
    let m = begun r (row y) in
    let low : 1 ≤ m = lowest (leb 1 m) refl w in
    let high : m ≤ 12 = highest (leb m 12) refl w in
    let s : m + 1 - 1 ≡ m = omega arith in
    record {
      month_low = low;
      month_high = high;
      before = begun_low r 0 (row y) w.rises (m - 1) (omega arith);
      after = rw s (begun_high r 0 (row y) w.rises m (omega arith) (omega (arith, w.long)));
    }
  where
    lowest : (t : Bool) → leb 1 (begun r (row y)) ≡ t → Row (row y) → 1 ≤ begun r (row y)
    lowest true e w = leb-true 1 (begun r (row y)) e
    lowest false e w =
        let n = leb-false 1 (begun r (row y)) e in
        absurd (omega (arith, begun_high r 0 (row y) w.rises 0 (omega arith) (omega (arith, w.long)), w.starts))

    highest : (t : Bool) → leb (begun r (row y)) 12 ≡ t → Row (row y) → begun r (row y) ≤ 12
    highest true e w = leb-true (begun r (row y)) 12 e
    highest false e w =
        let n = leb-false (begun r (row y)) 12 e in
        absurd (omega (arith, begun_low r 0 (row y) w.rises 12 n))

-- the year that a day falls into, and the day of that year
record YearOf (k y r : ℕ) : Type 0 where
  years : ℕ
  rest : ℕ
  few : years ≤ k
  inside : rest < days_of_year (y + years)
  whole : r ≡ days_of_years years y + rest
  is : date_from k y r ≡ in_year (y + years) rest

this_year : (k y r : ℕ) → r < days_of_year y → date_from k y r ≡ in_year y r
unfolding date_from
this_year zero y r h = refl
this_year (suc k) y r h = rw (date_from, lt-ltb r (days_of_year y) h)

later_year : (k y r : ℕ) → days_of_year y ≤ r → date_from (suc k) y r ≡ date_from k (suc y) (r - days_of_year y)
unfolding date_from
later_year k y r h = rw (date_from, le-ltb r (days_of_year y) h)

first_year : (k y r : ℕ) → r < days_of_year y → YearOf k y r
unfolding days_of_years
first_year k y r h =
    let z : y + 0 ≡ y = omega arith in
    record { years = 0; rest = r; few = omega arith; inside = rw z h; whole = omega arith; is = rw z (this_year k y r h) }

year_of : (k y r : ℕ) → r < days_of_years (suc k) y → YearOf k y r
unfolding days_of_years
year_of zero y r h = first_year 0 y r (omega arith)
year_of (suc k) y r h = go (ltb r (days_of_year y)) refl (λ g. year_of k (suc y) (r - days_of_year y) g)
  where
    go : (t : Bool) → ltb r (days_of_year y) ≡ t → (r - days_of_year y < days_of_years (suc k) (suc y) → YearOf k (suc y) (r - days_of_year y))
        → YearOf (suc k) y r
    go true e ih = first_year (suc k) y r (ltb-true r (days_of_year y) e)
    go false e ih =
        let past = ltb-false r (days_of_year y) e in
        let i = ih (omega arith) in
        let z : suc y + i.years ≡ y + suc i.years = omega arith in
        record {
          years = suc i.years;
          rest = i.rest;
          few = omega (arith, i.few);
          inside = rw z at i.inside;
          whole = omega (arith, i.whole);
          is = later_year k y r past ∙ (rw z at i.is);
        }

-- and the other way: years counted on are counted off again
counted : (k y j r : ℕ) → j ≤ k → r < days_of_year (y + j) → date_from k y (days_of_years j y + r) ≡ in_year (y + j) r
unfolding days_of_years
counted k y zero r h g =
    let z : y + 0 ≡ y = omega arith in
    let s : 0 + r ≡ r = omega arith in
    rw (s, z) (this_year k y r (rw z at g))
counted zero y (suc j) r h g = absurd (omega arith)
counted (suc k) y (suc j) r h g =
    let z : suc y + j ≡ y + suc j = omega arith in
    let s : days_of_year y + days_of_years j (suc y) + r - days_of_year y ≡ days_of_years j (suc y) + r = omega arith in
    later_year k y (days_of_year y + days_of_years j (suc y) + r) (omega arith)
    ∙ ap (date_from k (suc y)) s
    ∙ counted k (suc y) j r (omega arith) (rw z g)
    ∙ ap (λ (i : ℕ). in_year i r) z

-- there are 3,067,671 days from 1601-01-01 to 9999-12-31
all_days : days_of_years 8_399 1_601 ≡ 3_067_671
all_days = omega (arith, days_closed 8_399)

module _ (d : ℕ) (inside : d < 3_067_671) where
  y : YearOf 8_398 1_601 d
  y = year_of 8_398 1_601 d (omega (arith, all_days))

  found : date_of d ≡ in_year (1_601 + y.years) y.rest
  unfolding date_of
  found = y.is

  -- the date of a day is a real one
  pub date_real : Real (date_of d)
  unfolding in_year
  date_real =
      let m = in_year_lem (1_601 + y.years) y.rest y.inside in
      rw found (record {
        year_low = omega arith;
        year_high = omega (arith, y.few);
        month_low = m.month_low;
        month_high = m.month_high;
        day_low = omega arith;
        day_high = omega (arith, m.before, m.after);
      })

  -- from a day to its date and back
  pub there_and_back : day_number (date_of d) ≡ d
  unfolding in_year
  there_and_back =
      let m = in_year_lem (1_601 + y.years) y.rest y.inside in
      let z : 1_601 + y.years - 1_601 ≡ y.years = omega arith in
      rw (found, z) (omega (arith, m.before, y.whole))

-- a row that rises is in order
above : (e : ℕ) (l : List ℕ) → rises_from e l ≡ true → (j : ℕ) → j < length l → e ≤ get_or l j 0
above e [] h j g = absurd (omega arith)
above e (d ∷ ds) h zero g = (tail e d ds h).0
above e (d ∷ ds) h (suc j) g = let t = tail e d ds h in omega (arith, above (suc d) ds t.1 j (omega arith))

ordered : (e : ℕ) (l : List ℕ) → rises_from e l ≡ true → (i j : ℕ) → i ≤ j → j < length l → get_or l i 0 ≤ get_or l j 0
ordered e [] h i j g f = absurd (omega arith)
ordered e (d ∷ ds) h zero zero g f = omega arith
ordered e (d ∷ ds) h zero (suc j) g f = omega (arith, above (suc d) ds (tail e d ds h).1 j (omega arith))
ordered e (d ∷ ds) h (suc i) zero g f = absurd (omega arith)
ordered e (d ∷ ds) h (suc i) (suc j) g f = ordered (suc d) ds (tail e d ds h).1 i j (omega arith) (omega arith)

between : (a b : ℕ) → (a < b → ⊥) → (b < a → ⊥) → a ≡ b
between a b f g = go (ltb a b) (ltb b a) refl refl
  where
    go : (s t : Bool) → ltb a b ≡ s → ltb b a ≡ t → a ≡ b
    go true t e₁ e₂ = absurd (f (ltb-true a b e₁))
    go false true e₁ e₂ = absurd (g (ltb-true b a e₂))
    go false false e₁ e₂ = omega (arith, ltb-false a b e₁, ltb-false b a e₂)

module _ (d : Date) (real : Real d) where
  -- the day of the year
  nth : ℕ
  nth = days_before d.year d.month + (d.day - 1)

  next_month : d.month + 1 - 1 ≡ d.month
  next_month = omega arith

  before_next : nth < get_or (row d.year) d.month 0
  unfolding nth
  before_next = omega (arith, real.day_low, rw next_month at real.day_high)

  in_this_year : nth < days_of_year d.year
  in_this_year =
      let w = rows d.year in
      omega (arith, before_next, ordered 0 (row d.year) w.rises d.month 12 real.month_high (omega (arith, w.long)))

  month_back : begun nth (row d.year) ≡ d.month
  unfolding nth
  month_back = between _ _ early late
    where
      early : begun nth (row d.year) < d.month → ⊥
      early h =
          let w = rows d.year in
          omega (arith, begun_high nth 0 (row d.year) w.rises (d.month - 1) (omega arith) (omega (arith, w.long, real.month_high)))

      late : d.month < begun nth (row d.year) → ⊥
      late h = omega (arith, before_next, begun_low nth 0 (row d.year) (rows d.year).rises d.month h)

  in_year_back : in_year d.year nth ≡ d
  unfolding in_year nth
  in_year_back = λ i. record { year = d.year; month = month_back i; day = day_back i }
    where
      day_back : suc (nth - days_before d.year (begun nth (row d.year))) ≡ d.day
      day_back = rw month_back (omega (arith, real.day_low))

  years_back : 1_601 + (d.year - 1_601) ≡ d.year
  years_back = omega (arith, real.year_low)

  -- from a real date to its day and back
  pub back_and_there : date_of (day_number d) ≡ d
  unfolding date_of nth
  back_and_there =
      ap (date_from 8_398 1_601) (add_assoc (days_of_years (d.year - 1_601) 1_601) (days_before d.year d.month) (d.day - 1))
      ∙ counted 8_398 1_601 (d.year - 1_601) nth (omega (arith, real.year_high)) (rw years_back in_this_year)
      ∙ ap (λ (i : ℕ). in_year i nth) years_back
      ∙ in_year_back

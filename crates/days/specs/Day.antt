-- Request A.1: the days of the Gregorian calendar, and the numbers that stand for them.
use Rattle.std.specs.Prelude.{ℕ, ◌+◌, ◌*◌, ◌/◌, ◌%◌, List, [], ◌∷◌, Bool, true, false, not, ◌&&◌, ◌||◌, get_or, leb, eqb}

-- a day by its year, its month of the year and its day of the month, the last two counted from 1
pub record Day : Type 0 where
  pub year : ℕ
  pub month : ℕ
  pub day : ℕ

-- "year × 10,000 + month × 100 + day"
abbrev pub number_of : Day → ℕ
number_of d = d.year * 10_000 + d.month * 100 + d.day

-- the Gregorian leap rule: every fourth year, of those that end a century every fourth
unfoldable pub leap_year : ℕ → Bool
leap_year year = eqb (year % 4) 0 && not (eqb (year % 100) 0) || eqb (year % 400) 0

abbrev pub february : (leap : Bool) → ℕ
february true = 29
february false = 28

-- the days of each month, from month 1 on; there is no month 0
abbrev pub months_of : (leap : Bool) → List ℕ
months_of leap = 0 ∷ 31 ∷ february leap ∷ 31 ∷ 30 ∷ 31 ∷ 30 ∷ 31 ∷ 31 ∷ 30 ∷ 31 ∷ 30 ∷ 31 ∷ []

-- how many days a month has; none where there is no such month
unfoldable pub month_days : (year month : ℕ) → ℕ
month_days year month = get_or (months_of (leap_year year)) month 0

-- the month has that day
unfoldable pub gregorian : Day → Bool
gregorian d = leb 1 d.day && leb d.day (month_days d.year d.month)

-- the day that a number's digits tell
abbrev pub day_of : ℕ → Day
day_of n = record { year = n / 10_000; month = n / 100 % 100; day = n % 100 }

-- "a Gregorian day from 19500101 to 20991231"
unfoldable pub is_day : ℕ → Bool
is_day n = gregorian (day_of n) && (leb 19_500_101 n && leb n 20_991_231)

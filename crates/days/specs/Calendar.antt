-- A number from 19500101 to 20991231 is a day exactly where a Gregorian day is written by it; the years 1950 to 2099 have 54,787 days. Assumes nothing.
use Rattle.std.specs.Prelude.{◌≡◌, refl, ◌↔◌, Bool, true, false, ◌&&◌, ℕ, zero, suc, ◌+◌, ◌*◌, ◌/◌, ◌%◌, ◌≤◌, ◌<◌, leb, get_or, sum}
use Rattle.std.proofs.Common.{ap, ◌∙◌, subst, arith, leb→le, leb-true, le-leb}
use Rattle.std.proofs.Math.Decide.{dec_lt}
use Rattle.std.proofs.Math.ListN.{get_or-eq_default}
use Rattle.laws_of_lists.specs.Each.{each}
use Rattle.laws_of_lists.specs.Tests.{and_left, and_right}
use Rattle.days.specs.Day.{Day, number_of, leap_year, months_of, month_days, gregorian, day_of, is_day}

-- ---- month and day have two digits

-- there are twelve months, of at most 31 days
month-short : (leap : Bool) (month : ℕ) → get_or (months_of leap) month 0 ≤ 31
month-short true month = leb→le _ 31 (each (λ n. leb n 31) 0 (months_of true) tt tt month)
month-short false month = leb→le _ 31 (each (λ n. leb n 31) 0 (months_of false) tt tt month)

month-few : (leap : Bool) (month : ℕ) → 1 ≤ get_or (months_of leap) month 0 → month ≤ 12
month-few leap month h = go (dec_lt month 13)
  where
    go : Dec (month < 13) → month ≤ 12
    go (yes l) = omega arith
    go (no l) =
        let past : 13 ≤ month = omega arith in
        let none : get_or (months_of leap) month 0 ≡ 0 = get_or-eq_default (months_of leap) 0 past in
        absurd (omega arith)

record Digits (d : Day) : Type 0 where
  month : d.month ≤ 12
  day : d.day ≤ 31

digits : (d : Day) → gregorian d ≡ true → Digits d
unfolding gregorian month_days
digits d e =
    let n : ℕ = get_or (months_of (leap_year d.year)) d.month 0 in
    let low = leb-true 1 d.day (and_left (leb 1 d.day) (leb d.day n) e) in
    let high = leb-true d.day n (and_right (leb 1 d.day) (leb d.day n) e) in
    record { month = month-few (leap_year d.year) d.month (omega arith); day = omega (arith, month-short (leap_year d.year) d.month) }

-- the digits of the number are the day
pub day_back : (d : Day) → gregorian d ≡ true → day_of (number_of d) ≡ d
day_back d e =
    let g = digits d e in
    let m = g.month in
    let n = g.day in
    let year : (d.year * 10000 + d.month * 100 + d.day) / 10000 ≡ d.year = omega arith in
    let month : (d.year * 10000 + d.month * 100 + d.day) / 100 % 100 ≡ d.month = omega arith in
    let day : (d.year * 10000 + d.month * 100 + d.day) % 100 ≡ d.day = omega arith in
    rw (year, month, day)

number_back : (n : ℕ) → number_of (day_of n) ≡ n
number_back n = omega arith

-- what "a Gregorian day from 19500101 to 20991231" says of a number
pub record WrittenBy (n : ℕ) (d : Day) : Type 0 where
  pub calendar : gregorian d ≡ true
  pub number : number_of d ≡ n
  pub low : 19_500_101 ≤ n
  pub high : n ≤ 20_991_231

pub is_day_iff : (n : ℕ) → (is_day n ≡ true) ↔ ((d : Day) × WrittenBy n d)
unfolding is_day
is_day_iff n = (there, back)
  where
    there : is_day n ≡ true → (d : Day) × WrittenBy n d
    there e =
        let r = and_right (gregorian (day_of n)) (leb 19_500_101 n && leb n 20_991_231) e in (
          day_of n,
          record {
            calendar = and_left (gregorian (day_of n)) (leb 19_500_101 n && leb n 20_991_231) e;
            number = number_back n;
            low = leb-true 19_500_101 n (and_left (leb 19_500_101 n) (leb n 20_991_231) r);
            high = leb-true n 20_991_231 (and_right (leb 19_500_101 n) (leb n 20_991_231) r);
          },
        )

    back : ((d : Day) × WrittenBy n d) → is_day n ≡ true
    back h =
        let w = h.1 in
        let g : gregorian (day_of n) ≡ true = subst (λ (m : ℕ). gregorian (day_of m) ≡ true) w.number (ap gregorian (day_back h.0 w.calendar) ∙ w.calendar) in
        rw (g, le-leb 19_500_101 n w.low, le-leb n 20_991_231 w.high)

-- ---- how many days the years have
-- the days of so many years from a year on
abbrev pub days_from : (year count : ℕ) → ℕ
days_from year zero = 0
days_from year (suc n) = sum (months_of (leap_year year)) + days_from (suc year) n

-- 1950 to 2099
pub day-count : days_from 1950 150 ≡ 54_787
unfolding leap_year
day-count = refl

abbrev pub one : Bool → ℕ
one true = 1
one false = 0

-- how many numbers below n are days
unfoldable pub days_below : (n : ℕ) → ℕ
days_below zero = 0
days_below (suc n) = days_below n + one (is_day n)

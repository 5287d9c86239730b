-- The times that texts name lie within the bound of timestamps: `jiff` reads no year beyond 9999.
use Rattle.std.proofs.Common.{◌≡◌, ℕ, zero, suc, ◌+◌, ◌-◌, ◌*◌, ◌^◌, ◌<◌, ◌≤◌, nat_lt, cond, ℤ, pos, neg_ℤ, int_lt, ◌-ℤ◌, Bool, true, false, not, ◌||◌, ◌&&◌, ◌==◌, List, [], ◌∷◌, min, take, Option, Some, None, option_map, option_and_then, IfSome, Result, Ok, Err, IfOk, refl, arith, if◌then◌else◌}
use Rattle.std.proofs.lemmas.Int.{ints}
use Rattle.std.proofs.Math.Nat.{mul-le-mul_right}
use Rattle.std.specs.Char.{is_ascii_digit}
use Rattle.std.specs.List.{prefix_len}
use Rattle.jiff_core.specs.declared.error.Error.{Error}
use Rattle.jiff_core.specs.declared.error.Syntax.{Syntax}
use Rattle.jiff_core.specs.declared.error.Bound.{Bound}
use Rattle.jiff_core.specs.Calendar.{IsYear, IsCivilDate, days_in_month}
use Rattle.jiff_core.specs.Sign.{signed}
use Rattle.jiff_core.proofs.SignedLemmas.{signed_arith}
use Rattle.jiff_core.proofs.CalendarLemmas.{days_from_civil-day_count, day_count_bounds}
use Rattle.jiff_fmt.specs.Reader.{◌>>=◌, or_err, two_digits, four_digits, field, fraction_value, nanoseconds, temporal_fraction, begins_with}
use Rattle.jiff_fmt.proofs.ReaderLemmas.{tenth, ten_pow-pos}
use Rattle.jiff_fmt.specs.Rfc9557 as Rfc9557
use Rattle.jiff_fmt.specs.Offset as JiffOffset
use Rattle.jiff_core.specs.Timestamp.{nanos_of_seconds}
use Rattle.jiff_core.specs.declared.error.Error.TheVariants.{Missing}
use Rattle.jiff_core.specs.declared.error.Part.TheVariants as part
use Rattle.jiff_fmt.specs.Temporal.{DateParts, TimeParts, DateTimeParts, signed_year, year, year_sign, after_sign, date_spec, second, after_minute, fraction_or_zero, time_spec, time_part, no_time, after_date, temporal_datetime, whole, full, is_zulu_option, time_separator, to_date, to_datetime, midnight, time_or_midnight, instant, to_timestamp, parse_timestamp, parse_date, parse_datetime, parts_nanos}
use Rattle.eql_values.specs.Reading.{IsTime}
use Rattle.eql_lines.specs.Times.{of_clock, of_day, by_instant, by_lack, lack_of, text_time}
use Rattle.eql_lines.specs.declared.times.Lack.{Lack}
use Rattle.eql_lines.specs.declared.times.Lack.TheVariants.{Offset, Time, Other}

-- what is told of all that may be read

-- a fact of what was read goes on to a fact of what is read from it
and_then : {A B : Type 0} (r : Result A Error) (f : A → Result B Error) (P : A → Type 0) (Q : B → Type 0) → IfOk r P → ((a : A) → P a → IfOk (f a) Q) → IfOk (r >>= f) Q
and_then (Ok a) f P Q is so = so a is
and_then (Err e) f P Q is so = tt

any : {A B : Type 0} (r : Result A Error) (f : A → Result B Error) (Q : B → Type 0) → ((a : A) → IfOk (f a) Q) → IfOk (r >>= f) Q
any (Ok a) f Q so = so a
any (Err e) f Q so = tt

either : {A : Type 0} (test : Bool) (first second : Result A Error) (Q : A → Type 0) → (test ≡ true → IfOk first Q) → (test ≡ false → IfOk second Q) → IfOk (if test then first else second) Q
either true first second Q h k = h refl
either false first second Q h k = k refl

if_some : {A : Type 0} (test : Bool) (a : A) (Q : A → Type 0) → (test ≡ true → Q a) → IfSome (if test then Some a else None) Q
if_some true a Q h = h refl
if_some false a Q h = tt

or_err_is : {A : Type 0} (e : Error) (o : Option A) (Q : A → Type 0) → IfSome o Q → IfOk (or_err e o) Q
or_err_is e (Some a) Q is = is
or_err_is e None Q is = tt

-- digits

two_digits_below : (text : List ℕ) → IfSome (two_digits text) (λ n. n.0 < 100)
unfolding two_digits
two_digits_below [] = tt
two_digits_below (a ∷ []) = tt
two_digits_below (a ∷ b ∷ rest) =
    if_some (is_ascii_digit a && is_ascii_digit b) ((a - 48) * 10 + (b - 48), rest) (λ n. n.0 < 100) (λ h. grind (arith, h))

years_below : (n : ℕ) (o : Option (ℕ × List ℕ)) → n < 100 → IfSome o (λ y. y.0 < 100) → IfSome {T = ℕ × List ℕ} (option_map (λ y. (n * 100 + y.0, y.1)) o) (λ y. y.0 < 10000)
years_below n None h is = tt
years_below n (Some y) h is = omega (arith, h, is)

centuries_below : (o : Option (ℕ × List ℕ)) → IfSome o (λ c. c.0 < 100)
    → IfSome {T = ℕ × List ℕ} (option_and_then (λ c. option_map (λ y. (c.0 * 100 + y.0, y.1)) (two_digits c.1)) o) (λ y. y.0 < 10000)
centuries_below None is = tt
centuries_below (Some c) is = years_below c.0 (two_digits c.1) is (two_digits_below c.1)

four_digits_below : (text : List ℕ) → IfSome (four_digits text) (λ n. n.0 < 10000)
unfolding four_digits
four_digits_below text = centuries_below (two_digits text) (two_digits_below text)

field_is : (missing : Syntax) (low high : ℕ) (bound : Bound) (text : List ℕ) → IfOk (field missing low high bound text) (λ n. (low ≤ n.0) × (n.0 ≤ high))
unfolding field
field_is missing low high bound text =
    any (or_err _ (two_digits text)) _ (λ n. (low ≤ n.0) × (n.0 ≤ high))
    (λ n. either (nat_lt n.0 low || nat_lt high n.0) _ _ (λ m. (low ≤ m.0) × (m.0 ≤ high)) (λ h. tt) (λ h. grind (arith, h)))

-- a fraction of a second

one_more : (k d n : ℕ) (ds : List ℕ) (test : Bool) → is_ascii_digit d ≡ test → suc n ≤ cond test (1 + prefix_len is_ascii_digit ds) 0
    → (n ≤ prefix_len is_ascii_digit ds → fraction_value k (take n ds) < 10 ^ k) → (d - 48) * 10 ^ k + fraction_value k (take n ds) < 10 ^ suc k
one_more k d n ds true is h so =
    let rest : fraction_value k (take n ds) < 10 ^ k = so (omega (arith, h)) in
    let digit : d - 48 ≤ 9 = grind (arith, is) in
    let first : (d - 48) * 10 ^ k ≤ 9 * 10 ^ k = mul-le-mul_right (10 ^ k) digit in
    omega (arith, rest, first, tenth (suc k) k refl)
one_more k d n ds false is h so = absurd (omega (arith, h))

-- the digits at the front of a text, as the last places of a fraction
digits_below : (places : ℕ) (text : List ℕ) (n : ℕ) → n ≤ prefix_len is_ascii_digit text → fraction_value places (take n text) < 10 ^ places
unfolding fraction_value
digits_below zero text n h = omega arith
digits_below (suc k) [] zero h = ten_pow-pos (suc k)
digits_below (suc k) [] (suc n) h = absurd (omega (arith, h))
digits_below (suc k) (d ∷ ds) zero h = ten_pow-pos (suc k)
digits_below (suc k) (d ∷ ds) (suc n) h = one_more k d n ds (is_ascii_digit d) refl h (digits_below k ds n)

nanoseconds_below : (text : List ℕ) → IfOk (nanoseconds text) (λ n. n.0 < 1000000000)
unfolding nanoseconds
nanoseconds_below text =
    let len = min (prefix_len is_ascii_digit text) 9 in
    either (len == 0) _ _ (λ n. n.0 < 1000000000) (λ h. tt) (λ h. digits_below 9 text len (omega arith))

fraction_below : (text : List ℕ) → IfOk (temporal_fraction text) (λ n. fraction_or_zero n.0 < 1000000000)
unfolding temporal_fraction
fraction_below [] = omega arith
fraction_below (c ∷ rest) =
    either ((c == 46) || (c == 44)) _ _ (λ n. fraction_or_zero n.0 < 1000000000)
    (λ h. and_then (nanoseconds rest) _ (λ n. n.0 < 1000000000) (λ n. fraction_or_zero n.0 < 1000000000) (nanoseconds_below rest) (λ n is. is))
    (λ h. omega arith)

-- dates

signed_year_is : (negative : Bool) (n : ℕ) → n < 10000 → IsYear (signed negative n)
signed_year_is false n h = omega (arith, signed_arith, h)
signed_year_is true n h = omega (arith, signed_arith, h)

signed_is : (negative : Bool) (text : List ℕ) → IfOk (signed_year negative text) (λ y. IsYear y.0)
unfolding signed_year
signed_is negative text =
    any (or_err _ (two_digits text)) _ (λ y. IsYear y.0)
    (λ high. and_then (or_err _ (four_digits high.1)) _ (λ n. n.0 < 10000) (λ y. IsYear y.0)
    (or_err_is _ (four_digits high.1) (λ n. n.0 < 10000) (four_digits_below high.1))
    (λ low h. either (not (high.0 == 0)) _ _ (λ y. IsYear y.0) (λ e. tt)
    (λ e. either ((low.0 == 0) && negative) _ _ (λ y. IsYear y.0) (λ f. tt) (λ f. signed_year_is negative low.0 h))))

after_sign_is : (sign : Option Bool × List ℕ) → IfOk (after_sign sign) (λ y. IsYear y.0)
after_sign_is (Some negative, rest) = signed_is negative rest
after_sign_is (None, rest) =
    and_then (or_err _ (four_digits rest)) _ (λ n. n.0 < 10000) (λ y. IsYear y.0)
    (or_err_is _ (four_digits rest) (λ n. n.0 < 10000) (four_digits_below rest)) (λ n h. omega (arith, signed_arith, h))

year_is : (text : List ℕ) → IfOk (year text) (λ y. IsYear y.0)
unfolding year
year_is text = after_sign_is (year_sign text)

abbrev IsCivil : DateParts → Type 0
IsCivil d = IsCivilDate d.year d.month d.day

date_is : (text : List ℕ) → IfOk (date_spec text) (λ d. IsCivil d.0)
unfolding date_spec
date_is text =
    and_then (year text) _ (λ y. IsYear y.0) (λ d. IsCivil d.0) (year_is text)
    (λ y y-is. any _ _ (λ d. IsCivil d.0)
    (λ a. and_then (field _ 1 12 _ a) _ (λ m. (1 ≤ m.0) × (m.0 ≤ 12)) (λ d. IsCivil d.0) (field_is _ 1 12 _ a)
    (λ m m-is. any _ _ (λ d. IsCivil d.0)
    (λ b. and_then (field _ 1 31 _ b) _ (λ d. (1 ≤ d.0) × (d.0 ≤ 31)) (λ d. IsCivil d.0) (field_is _ 1 31 _ b)
    (λ d d-is. either (nat_lt (days_in_month y.0 m.0) d.0) _ _ (λ d. IsCivil d.0) (λ h. tt)
    (λ h. (y-is, m-is, (d-is.0, grind (arith, h)))))))))

-- times of day

abbrev IsClock : TimeParts → Type 0
IsClock t = (t.hour ≤ 23) × (t.minute ≤ 59) × (t.second ≤ 59) × (t.subsec < 1000000000)

second_is : (text : List ℕ) → IfOk (second text) (λ s. s.0 ≤ 59)
second_is text =
    and_then (field _ 0 60 _ text) _ (λ s. (0 ≤ s.0) × (s.0 ≤ 60)) (λ s. s.0 ≤ 59) (field_is _ 0 60 _ text) (λ s h. leap (s.0 == 60) s.0 refl h.1)
  where
    leap : (test : Bool) (n : ℕ) → (n == 60) ≡ test → n ≤ 60 → (if test then 59 else n) ≤ 59
    leap true n is h = omega arith
    leap false n is h = grind (arith, is, h)

after_minute_is : (h m : ℕ) (extended : Bool) (text : List ℕ) → h ≤ 23 → m ≤ 59 → IfOk (after_minute h m extended text) (λ t. IsClock t.0.0)
after_minute_is h m extended text hour minute =
    let next = time_separator extended text in
    either (not next.0) _ _ (λ t. IsClock t.0.0) (λ e. (hour, minute, omega arith, omega arith))
    (λ e. and_then (second next.1) _ (λ s. s.0 ≤ 59) (λ t. IsClock t.0.0) (second_is next.1)
    (λ s s-is. and_then (temporal_fraction s.1) _ (λ n. fraction_or_zero n.0 < 1000000000) (λ t. IsClock t.0.0) (fraction_below s.1)
    (λ n n-is. (hour, minute, s-is, n-is))))

clock_is : (text : List ℕ) → IfOk (time_spec text) (λ t. IsClock t.0.0)
unfolding time_spec
clock_is text =
    and_then (field _ 0 23 _ text) _ (λ h. (0 ≤ h.0) × (h.0 ≤ 23)) (λ t. IsClock t.0.0) (field_is _ 0 23 _ text)
    (λ h h-is.
    let extended = begins_with 58 h.1 in
    let next = time_separator extended h.1 in
    either (not next.0) _ _ (λ t. IsClock t.0.0) (λ e. (h-is.1, omega arith, omega arith, omega arith))
    (λ e. and_then (field _ 0 59 _ next.1) _ (λ m. (0 ≤ m.0) × (m.0 ≤ 59)) (λ t. IsClock t.0.0) (field_is _ 0 59 _ next.1)
    (λ m m-is. after_minute_is h.0 m.0 extended m.1 h-is.1 m-is.1)))

-- dates with times of day

abbrev IsCivilTime : DateTimeParts → Type 0
IsCivilTime p = IsCivil p.date × IfSome p.time IsClock

no_time_is : (date : DateParts) (text : List ℕ) → IsCivil date → IfOk (no_time date text) (λ p. IsCivilTime p.0)
no_time_is date text is = any (Rfc9557.parse text) _ (λ p. IsCivilTime p.0) (λ zone. (is, tt))

time_part_is : (date : DateParts) (text : List ℕ) → IsCivil date → IfOk (time_part date text) (λ p. IsCivilTime p.0)
time_part_is date text is =
    and_then (time_spec text) _ (λ t. IsClock t.0.0) (λ p. IsCivilTime p.0) (clock_is text)
    (λ t t-is. any (JiffOffset.parse_optional JiffOffset.datetime_parser t.1) _ (λ p. IsCivilTime p.0)
    (λ offset. any (Rfc9557.parse offset.1) _ (λ p. IsCivilTime p.0) (λ zone. (is, t-is))))

after_date_is : (date : DateParts) (text : List ℕ) → IsCivil date → IfOk (after_date (date, text)) (λ p. IsCivilTime p.0)
after_date_is date [] is = no_time_is date [] is
after_date_is date (c ∷ rest) is =
    either ((c == 32) || (c == 84) || (c == 116)) _ _ (λ p. IsCivilTime p.0) (λ h. time_part_is date rest is) (λ h. no_time_is date (c ∷ rest) is)

datetime_is : (text : List ℕ) → IfOk (temporal_datetime text) (λ p. IsCivilTime p.0)
unfolding temporal_datetime
datetime_is text = and_then (date_spec text) _ (λ d. IsCivil d.0) (λ p. IsCivilTime p.0) (date_is text) (λ d is. after_date_is d.0 d.1 is)

whole_is : (p : DateTimeParts) (rest : List ℕ) → IsCivilTime p → IfOk (whole p rest) IsCivilTime
whole_is p [] is = is
whole_is p (c ∷ rest) is = tt

full_is : (text : List ℕ) → IfOk (full (temporal_datetime text)) IsCivilTime
full_is text = and_then (temporal_datetime text) _ (λ p. IsCivilTime p.0) IsCivilTime (datetime_is text) (λ p is. whole_is p.0 p.1 is)

to_date_is : (p : DateTimeParts) → IsCivilTime p → IfOk (to_date p) IsCivil
to_date_is p is = either (is_zulu_option p.offset) _ _ IsCivil (λ h. tt) (λ h. is.0)

or_midnight_is : (t : Option TimeParts) → IfSome t IsClock → IsClock (time_or_midnight t)
or_midnight_is None is = (omega arith, omega arith, omega arith, omega arith)
or_midnight_is (Some t) is = is

to_datetime_is : (p : DateTimeParts) → IsCivilTime p → IfOk (to_datetime p) (λ c. IsCivil c.0 × IsClock c.1)
to_datetime_is p is =
    and_then (to_date p) _ IsCivil (λ c. IsCivil c.0 × IsClock c.1) (to_date_is p is) (λ d d-is. (d-is, or_midnight_is p.time is.1))

-- nanoseconds since the epoch

nanos_in_time : (d : DateParts) (t : TimeParts) → IsCivil d → IsClock t → IsTime (parts_nanos d t)
nanos_in_time d t d-is t-is =
    omega (arith, signed_arith, days_from_civil-day_count d.year d.month d.day, day_count_bounds d.year d.month d.day d-is, t-is)

clock_in_time : (r : Result (DateParts × TimeParts) Error) → IfOk r (λ c. IsCivil c.0 × IsClock c.1) → IfSome (of_clock r) IsTime
clock_in_time (Ok c) is = nanos_in_time c.0 c.1 is.0 is.1
clock_in_time (Err e) is = tt

day_in_time : (r : Result DateParts Error) → IfOk r IsCivil → IfSome (of_day r) IsTime
day_in_time (Ok d) is = nanos_in_time d midnight is (omega arith, omega arith, omega arith, omega arith)
day_in_time (Err e) is = tt

instant_in_time : (n : ℤ) → IfOk (instant n) IsTime
instant_in_time n =
    either (int_lt n (neg_ℤ (pos 377_705_023_201_000_000_000)) || int_lt (pos 253_402_207_200_999_999_999) n) _ _ IsTime (λ h. tt) (λ h. grind (arith, ints, h))

timestamp_in_time : (p : DateTimeParts) → IfOk (to_timestamp p) IsTime
timestamp_in_time p =
    any (or_err (Missing part.Time) p.time) _ IsTime
    (λ time. any (or_err (Missing part.Offset) p.offset) _ IsTime
    (λ offset. any (JiffOffset.to_offset offset) _ IsTime
    (λ seconds. instant_in_time (parts_nanos p.date time -ℤ nanos_of_seconds seconds))))

by_lack_in_time : (lack : Lack) (bytes : List ℕ) → IfSome (by_lack lack bytes) IsTime
by_lack_in_time Offset bytes =
    clock_in_time (parse_datetime bytes) (and_then (full (temporal_datetime bytes)) to_datetime IsCivilTime _ (full_is bytes) to_datetime_is)
by_lack_in_time Time bytes =
    day_in_time (parse_date bytes) (and_then (full (temporal_datetime bytes)) to_date IsCivilTime IsCivil (full_is bytes) to_date_is)
by_lack_in_time Other bytes = tt

by_instant_in_time : (r : Result ℤ Error) (bytes : List ℕ) → IfOk r IsTime → IfSome (by_instant r bytes) IsTime
by_instant_in_time (Ok n) bytes is = is
by_instant_in_time (Err e) bytes is = by_lack_in_time (lack_of e) bytes

-- the time that a text names, if it names one
pub text_in_time : (bytes : List ℕ) → IfSome (text_time bytes) IsTime
unfolding text_time
text_in_time bytes =
    by_instant_in_time (parse_timestamp bytes) bytes (any (full (temporal_datetime bytes)) to_timestamp IsTime timestamp_in_time)

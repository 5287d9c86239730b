-- The times that texts name.
use Rattle.std.proofs.Common.{◌≡◌, ℕ, ℤ, pos, List, ◌-ℤ◌, Option, Some, Result, Ok, Err, refl, sym, ap, ◌∙◌, arith, FitsSigned}
use Rattle.std.specs.Int.{w128}
use Rattle.jiff_core.specs.DateTime.{civil_nanos}
use Rattle.jiff_core.proofs.DateTimeLemmas.{civil_nanos_range}
use Rattle.jiff_core.specs.Time.{time_nanos}
use Rattle.jiff_core.specs.declared.error.Error.{Error}
use Rattle.jiff_core.specs.declared.civil.datetime.DateTime.{DateTime}
use Rattle.jiff_core.specs.declared.civil.date.Date.{Date}
use Rattle.jiff_core.proofs.SignedLemmas.{signed_arith}
use Rattle.jiff_fmt.specs.Temporal.{parts_nanos, date_parts, time_parts, midnight, DateParts, TimeParts, parse_timestamp}
use Rattle.eql_lines.specs.Times.{of_clock, of_day, by_instant, by_lack, lack_of, text_time}

parts_nanos-civil : (dt : DateTime) → parts_nanos (date_parts dt.date) (time_parts dt.time) ≡ civil_nanos dt
unfolding civil_nanos
parts_nanos-civil dt = omega (arith, signed_arith)

parts_nanos-midnight : (d : Date) (dt : DateTime) → dt.date ≡ d → time_nanos dt.time ≡ 0 → parts_nanos (date_parts d) midnight ≡ civil_nanos dt
unfolding civil_nanos
parts_nanos-midnight d dt same zero = rw (sym same, zero) refl

pub clock_is : (n : ℤ) (dt : DateTime) (r : Result (DateParts × TimeParts) Error) → n ≡ civil_nanos dt
    → Ok (date_parts dt.date, time_parts dt.time) ≡ r → Some n ≡ of_clock r
clock_is n dt r e f = ap (λ m. Some m) (e ∙ sym (parts_nanos-civil dt)) ∙ ap of_clock f

pub day_is : (n : ℤ) (d : Date) (dt : DateTime) (r : Result DateParts Error) → n ≡ civil_nanos dt → dt.date ≡ d → time_nanos dt.time ≡ 0
    → Ok (date_parts d) ≡ r → Some n ≡ of_day r
day_is n d dt r e same zero f = ap (λ m. Some m) (e ∙ sym (parts_nanos-midnight d dt same zero)) ∙ ap of_day f

pub instant_is : (n m : ℤ) (bytes : List ℕ) → n ≡ m → Ok m ≡ parse_timestamp bytes → Some n ≡ text_time bytes
unfolding text_time
instant_is n m bytes e f = ap (λ k. Some k) e ∙ ap (λ r. by_instant r bytes) f

pub lack_is : (e : Error) (bytes : List ℕ) (o : Option ℤ) → o ≡ by_lack (lack_of e) bytes → Err e ≡ parse_timestamp bytes → o ≡ text_time bytes
unfolding text_time
lack_is e bytes o is f = is ∙ ap (λ r. by_instant r bytes) f

pub since_epoch : (n d now epoch : ℤ) → n ≡ d → d ≡ now -ℤ epoch → epoch ≡ pos 0 → n ≡ now
since_epoch n d now epoch same since zero = omega (arith, signed_arith, same, since, zero)

pub civil_fits : (n : ℤ) (dt : DateTime) → n ≡ civil_nanos dt → FitsSigned w128 n
civil_fits n dt e = let range = civil_nanos_range dt in omega (arith, signed_arith, e, range)

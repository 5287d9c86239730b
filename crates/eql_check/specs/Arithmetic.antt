-- Arithmetic on whole numbers of 64 signed bits (EQL syntax reference, "Math operators"), with null for a zero divisor and for a result outside.
use Rattle.std.specs.Prelude.{zero, suc, ℤ, pos, negsuc, neg_ℤ, ◌+ℤ◌, ◌-ℤ◌, ◌*ℤ◌, ◌<ℤ◌, ◌≤ℤ◌, ◌^◌, Bool, nat_lt, if◌then◌else◌}
use Rattle.std.specs.Int.{int_div_euclid}
use Rattle.eql_values.specs.declared.value.Value.{Value}
use Rattle.eql_values.specs.declared.value.Value.TheVariants as value
use Rattle.eql_query.specs.declared.expr.MathOp.{MathOp}
use Rattle.eql_query.specs.declared.expr.MathOp.TheVariants.{Add, Sub, Mul, Div, Mod}

-- the floor of a / b: by a positive divisor the quotient whose rest isn't negative; a negative divisor and
-- the number both change their signs first
abbrev pub floor_div : ℤ → ℤ → ℤ
floor_div a (pos b) = int_div_euclid a (pos b)
floor_div a (negsuc b) = int_div_euclid (neg_ℤ a) (pos (suc b))

-- what the floor of a / b leaves of a
abbrev pub floor_rest : ℤ → ℤ → ℤ
floor_rest a b = a -ℤ b *ℤ floor_div a b

-- from -2 ^ 63 to 2 ^ 63 - 1
abbrev pub fits_long : ℤ → Bool
fits_long (pos n) = nat_lt n (2 ^ 63)
fits_long (negsuc n) = nat_lt n (2 ^ 63)

abbrev pub long_or_null : ℤ → Value
long_or_null z = if fits_long z then value.Long z else value.Null

abbrev pub unless_zero : ℤ → Value → Value
unless_zero (pos zero) v = value.Null
unless_zero _ v = v

abbrev pub result_of : MathOp → ℤ → ℤ → Value
result_of Add a b = long_or_null (a +ℤ b)
result_of Sub a b = long_or_null (a -ℤ b)
result_of Mul a b = long_or_null (a *ℤ b)
result_of Div a b = unless_zero b (long_or_null (floor_div a b))
result_of Mod a b = unless_zero b (long_or_null (floor_rest a b))

-- an operator on two values; null where one isn't a whole number
abbrev pub math_value : MathOp → Value → Value → Value
math_value op (value.Long a) (value.Long b) = result_of op a b
math_value op _ _ = value.Null

-- the number with the other sign
abbrev pub negative_value : Value → Value
negative_value (value.Long a) = long_or_null (neg_ℤ a)
negative_value _ = value.Null

-- q is the floor of a / b, the greatest whole number that isn't above the exact quotient: for b above zero q * b is at
-- most a, and one b more is above it; for b below zero the two sides change places
pub record IsFloor (a b q : ℤ) : Type 0 where
  pub above_zero : pos 0 <ℤ b → ((q *ℤ b) ≤ℤ a) × (a <ℤ (q *ℤ b +ℤ b))
  pub below_zero : b <ℤ pos 0 → (a ≤ℤ (q *ℤ b)) × ((q *ℤ b +ℤ b) <ℤ a)

-- r is zero or has the sign of b, and is nearer to zero than b
pub record IsRest (b r : ℤ) : Type 0 where
  pub above_zero : pos 0 <ℤ b → (pos 0 ≤ℤ r) × (r <ℤ b)
  pub below_zero : b <ℤ pos 0 → (b <ℤ r) × (r ≤ℤ pos 0)

-- the quotients are floors, and what they leave are rests
pub record FloorsAreExact : Type 0 where
  pub quotient : (a b : ℤ) → IsFloor a b (floor_div a b)
  pub rest : (a b : ℤ) → IsRest b (floor_rest a b)

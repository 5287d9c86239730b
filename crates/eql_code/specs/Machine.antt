-- The stack machine. The topmost value of a stack comes first.
use Rattle.std.specs.Prelude.{ℕ, zero, suc, nat_le, List, [], ◌∷◌, length, true, false, Option, Some, None, get_or, if◌then◌else◌}
use Rattle.eql_values.specs.declared.value.Value.{Value}
use Rattle.eql_values.specs.declared.value.Value.TheVariants as value
use Rattle.eql_check.specs.ThreeValued.{truth, truth_in, negation, conjunction, disjunction}
use Rattle.eql_check.specs.Comparisons.{compares, matches_one}
use Rattle.eql_check.specs.Arithmetic.{math_value, negative_value}
use Rattle.eql_check.specs.Functions.{call_value}
use Rattle.eql_operators.specs.Prepared.{equals_address, is_among_read, is_in_blocks}
use Rattle.eql_code.specs.declared.emit.Op.{Op}
use Rattle.eql_code.specs.declared.emit.Op.TheVariants as op

-- an operator on the topmost value, and on the two topmost, the lower one first
abbrev pub on_one : (Value → Value) → List Value → Option (List Value)
on_one f [] = None
on_one f (a ∷ st) = Some (f a ∷ st)

abbrev pub on_two : (Value → Value → Value) → List Value → Option (List Value)
on_two f [] = None
on_two f (b ∷ []) = None
on_two f (b ∷ a ∷ st) = Some (f a b ∷ st)

-- n values taken off a stack and put before others, so that the lowest comes first; and what is left of the stack
abbrev pub take_off : ℕ → List Value → List Value → Option (List Value × List Value)
take_off zero args st = Some (args, st)
take_off (suc n) args [] = None
take_off (suc n) args (v ∷ st) = take_off n (v ∷ args) st

abbrev pub on_many : (List Value → Value) → Option (List Value × List Value) → Option (List Value)
on_many f None = None
on_many f (Some p) = Some (f p.0 ∷ p.1)

abbrev pub not_value : Value → Value
not_value a = truth (negation (truth_in a))

abbrev pub and_value : Value → Value → Value
and_value a b = truth (conjunction (truth_in a) (truth_in b))

abbrev pub or_value : Value → Value → Value
or_value a b = truth (disjunction (truth_in a) (truth_in b))

-- how many operands an operator takes; a call and what puts a value on the stack are no operators
abbrev pub arity : Op → ℕ
arity (op.Push v) = 0
arity (op.Slot i) = 0
arity (op.Call f fold n) = 0
arity op.Not = 1
arity (op.Address negated text ip) = 1
arity (op.Pattern how patterns) = 1
arity (op.Member fold negated list addresses) = 1
arity (op.Cidr blocks) = 1
arity op.Negate = 1
arity _ = 2

abbrev pub of_one : Op → Value → Value
of_one op.Not a = not_value a
of_one (op.Address negated text ip) a = equals_address negated a text ip
of_one (op.Pattern how patterns) a = matches_one how a patterns
of_one (op.Member fold negated list addresses) a = is_among_read fold negated a list addresses
of_one (op.Cidr blocks) a = is_in_blocks a blocks
of_one op.Negate a = negative_value a
of_one _ a = value.Null

abbrev pub of_two : Op → Value → Value → Value
of_two (op.And rest) a b = and_value a b
of_two (op.Or rest) a b = or_value a b
of_two (op.Compare literal how) a b = compares literal how a b
of_two (op.Math how) a b = math_value how a b
of_two _ a b = value.Null

-- what one operation does; none where an operand is missing
abbrev pub stack_after : List Value → Op → List Value → Option (List Value)
stack_after slots (op.Push v) st = Some (v ∷ st)
stack_after slots (op.Slot i) st = Some (get_or slots i value.Null ∷ st)
stack_after slots op.Not st = on_one (of_one op.Not) st
stack_after slots (op.Address negated text ip) st = on_one (of_one (op.Address negated text ip)) st
stack_after slots (op.Pattern how patterns) st = on_one (of_one (op.Pattern how patterns)) st
stack_after slots (op.Member fold negated list addresses) st = on_one (of_one (op.Member fold negated list addresses)) st
stack_after slots (op.Cidr blocks) st = on_one (of_one (op.Cidr blocks)) st
stack_after slots op.Negate st = on_one (of_one op.Negate) st
stack_after slots (op.And rest) st = on_two (of_two (op.And rest)) st
stack_after slots (op.Or rest) st = on_two (of_two (op.Or rest)) st
stack_after slots (op.Compare literal how) st = on_two (of_two (op.Compare literal how)) st
stack_after slots (op.Math how) st = on_two (of_two (op.Math how)) st
stack_after slots (op.Call f fold n) st = on_many (call_value f fold) (take_off n [] st)

-- goes on with a stack that is no deeper than the limit
abbrev pub within : ℕ → Option (List Value) → (List Value → Option (List Value)) → Option (List Value)
within limit None go = None
within limit (Some st) go = if nat_le (length st) limit then go st else None

-- how many operations are passed over behind one that left this stack: the rest of a list whose `and` gave false, or
-- whose `or` gave true
abbrev pub skips : Op → List Value → ℕ
skips (op.And rest) (value.Bool false ∷ st) = rest
skips (op.Or rest) (value.Bool true ∷ st) = rest
skips _ _ = 0

-- what the operations leave where the first n are passed over; none where an operand is missing, a stack is deeper than
-- the limit, or there are fewer than n
abbrev pub runs : List Value → ℕ → ℕ → List Op → List Value → Option (List Value)
runs slots limit zero [] st = Some st
runs slots limit (suc n) [] st = None
runs slots limit zero (o ∷ os) st = within limit (stack_after slots o st) (λ st'. runs slots limit (skips o st') os st')
runs slots limit (suc n) (o ∷ os) st = runs slots limit n os st

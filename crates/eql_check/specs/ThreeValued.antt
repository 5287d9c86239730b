-- Three-valued logic (EQL syntax reference, "Logical operators"). A truth value is `Some true`, `Some false`, or null, which is `None`.
use Rattle.std.specs.Prelude.{◌≡◌, Bool, true, false, not, List, [], ◌∷◌, Option, Some, None, is_none, if◌then◌else◌}
use Rattle.std.specs.List.{list_any}
use Rattle.eql_values.specs.declared.value.Value.{Value}
use Rattle.eql_values.specs.declared.value.Value.TheVariants as value

-- the truth value that a value is, and the value of a truth value
abbrev pub truth_in : Value → Option Bool
truth_in (value.Bool b) = Some b
truth_in _ = None

abbrev pub truth : Option Bool → Value
truth (Some b) = value.Bool b
truth None = value.Null

-- null stays null
abbrev pub negation : Option Bool → Option Bool
negation None = None
negation (Some b) = Some (not b)

-- false where one is false, else null where one is null, else true
abbrev pub conjunction : Option Bool → Option Bool → Option Bool
conjunction (Some false) q = Some false
conjunction (Some true) q = q
conjunction None (Some false) = Some false
conjunction None (Some true) = None
conjunction None None = None

-- true where one is true, else null where one is null, else false
abbrev pub disjunction : Option Bool → Option Bool → Option Bool
disjunction (Some true) q = Some true
disjunction (Some false) q = q
disjunction None (Some true) = Some true
disjunction None (Some false) = None
disjunction None None = None

-- `and` and `or` of a truth value and those of a list, from left to right
abbrev pub all_from : Option Bool → List Value → Option Bool
all_from p [] = p
all_from p (v ∷ vs) = all_from (conjunction p (truth_in v)) vs

abbrev pub any_from : Option Bool → List Value → Option Bool
any_from p [] = p
any_from p (v ∷ vs) = any_from (disjunction p (truth_in v)) vs

-- whether a value is true, whether it is false, and whether it is neither
abbrev pub is_true : Value → Bool
is_true (value.Bool b) = b
is_true _ = false

abbrev pub is_false : Value → Bool
is_false (value.Bool b) = not b
is_false _ = false

abbrev pub is_unknown : Value → Bool
is_unknown v = is_none (truth_in v)

-- `and` of a list, read at once: false where one is false, else null where one is neither, else true
abbrev pub all_of : List Value → Option Bool
all_of vs = if list_any is_false vs then Some false else if list_any is_unknown vs then None else Some true

-- `or` of a list, read at once: true where one is true, else null where one is neither, else false
abbrev pub any_of : List Value → Option Bool
any_of vs = if list_any is_true vs then Some true else if list_any is_unknown vs then None else Some false

-- from left to right they give the same
pub record ConnectivesRead : Type 0 where
  pub and_reads : (vs : List Value) → all_from (Some true) vs ≡ all_of vs
  pub or_reads : (vs : List Value) → any_from (Some false) vs ≡ any_of vs

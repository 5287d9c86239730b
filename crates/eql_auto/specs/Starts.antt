-- How the pending sequences of a machine began.
use Rattle.std.specs.Prelude.{List, [], ◌∷◌, Option, None, Some}
use Rattle.eql_values.specs.declared.order.OrderKey.{OrderKey}
use Rattle.eql_auto.specs.Machine.{Sequence}

-- the first event of a chain
abbrev pub first_of : List OrderKey → Option OrderKey
first_of [] = None
first_of (first ∷ rest) = Some first

-- the first event of the pending sequence of the least stage that has one
abbrev pub first_event : {T : Type 0} → List (Option (Sequence T)) → Option OrderKey
first_event [] = None
first_event (None ∷ slots) = first_event slots
first_event (Some s ∷ slots) = first_of s.0

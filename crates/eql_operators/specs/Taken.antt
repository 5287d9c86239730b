-- The arguments of a call, where there are one to four.
use Rattle.std.specs.Prelude.{◌≡◌, ◌<◌, ◌⊎◌, List, [], ◌∷◌, length}
use Rattle.eql_values.specs.declared.value.Value.{Value}
use Rattle.eql_operators.specs.declared.calls.Taken.{Taken}
use Rattle.eql_operators.specs.declared.calls.Taken.TheVariants.{One, Two, Three, Four, Other}

abbrev pub IsTaken : List Value → Taken → Type 0
IsTaken vs (One a) = vs ≡ a.now ∷ []
IsTaken vs (Two a b) = vs ≡ a.now ∷ b.now ∷ []
IsTaken vs (Three a b c) = vs ≡ a.now ∷ b.now ∷ c.now ∷ []
IsTaken vs (Four a b c d) = vs ≡ a.now ∷ b.now ∷ c.now ∷ d.now ∷ []
IsTaken vs Other = (length vs ≡ 0) ⊎ (4 < length vs)

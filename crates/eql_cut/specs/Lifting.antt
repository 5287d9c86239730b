-- Laws of cuts whose places are set anew.
use Rattle.std.specs.Prelude.{◌≡◌, ◌↔◌, ℕ, List, All}
use Rattle.eql_values.specs.declared.order.OrderKey.{OrderKey}
use Rattle.eql_values.specs.declared.cut.Pipe.{Pipe}
use Rattle.eql_cut.specs.declared.cut.Cut.{Cut}
use Rattle.eql_cut.specs.Domain.{IsCut}
use Rattle.eql_cut.specs.Fitting.{FitsRun}
use Rattle.eql_cut.specs.Placing.{IsUnplaced, orders_in, lifted_cut}
use Rattle.eql_cut.specs.Whole.{IsText}

-- no event of a cut whose text is in the first format has a place
abbrev pub FirstFormatHasNoPlaces : Type 0
FirstFormatHasNoPlaces = (cut : Cut) (bytes : List ℕ) → IsText 1 cut bytes → IsUnplaced (orders_in cut)

-- a cut without places that stands in the orders and counts of a text does so with any places
abbrev pub LiftedStands : Type 0
LiftedStands = (place : ℕ → ℕ → ℕ) (cut : Cut) → IsUnplaced (orders_in cut) → IsCut cut → IsCut (lifted_cut place cut)

-- and with any places it fits the runs that it fitted
abbrev pub LiftedFits : Type 0
LiftedFits = (place : ℕ → ℕ → ℕ) (m values : ℕ) (pipes : List Pipe) (cut : Cut) → IsUnplaced (orders_in cut)
    → FitsRun m values pipes (lifted_cut place cut) ↔ FitsRun m values pipes cut

-- each event has the place of its line
abbrev pub IsPlacedBy : (ℕ → ℕ → ℕ) → Cut → Type 0
IsPlacedBy place cut = All (λ (o : OrderKey). place o.shard o.line ≡ o.at) (orders_in cut)

-- a cut that has lost its places, and nothing else, is had again by the places of its lines
abbrev pub LiftedIsPlaced : Type 0
LiftedIsPlaced = (place : ℕ → ℕ → ℕ) (cut : Cut) → IsPlacedBy place cut → lifted_cut place (lifted_cut (λ shard line. 0) cut) ≡ cut

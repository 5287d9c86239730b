-- What the report tells of lanes.
use Rattle.std.specs.Prelude.{List, map}
use Rattle.eql_values.specs.declared.cut.Counts.{Counts}
use Rattle.eql_lane.specs.Views.{LaneView}

-- what became of the lines of each lane
abbrev pub counts_in : {S L : Type 0} → List (LaneView S L) → List Counts
counts_in lanes = map (λ lane. lane.state.cut.counts) lanes

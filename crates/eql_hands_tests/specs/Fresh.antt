-- Lanes of which nothing was read.
use Rattle.std.specs.Prelude.{◌≡◌, ℕ, List, [], ◌∷◌, None}
use Rattle.eql_values.specs.Accepted.{Reads}
use Rattle.eql_lane.specs.Lanes.{beginning_lane, fresh_cut}
use Rattle.eql_lane.specs.Views.{LaneView}

module _ {S L : Type 0} (read_of : L → Reads) where
  -- a lane of this shard, without a slack, by this reading, of which nothing was read
  pub record IsFreshLane (reads : Reads) (shard : ℕ) (lane : LaneView S L) : Type 0 where
    pub shard_is : lane.shard ≡ shard
    pub slack_is : lane.slack ≡ None
    pub reads_are : read_of lane.reader ≡ reads
    pub cut_is : lane.state.cut ≡ fresh_cut
    pub state_is : lane.state ≡ beginning_lane lane.state.cut lane.state.faults

  -- two such lanes by one reading, of the shards 0 and 1
  pub record AreTwo (lanes : List (LaneView S L)) : Type 0 where
    pub first : LaneView S L
    pub second : LaneView S L
    pub reads : Reads
    pub are : lanes ≡ first ∷ second ∷ []
    pub first_is : IsFreshLane reads 0 first
    pub second_is : IsFreshLane reads 1 second

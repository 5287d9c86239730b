-- Lanes that were lifted from a cut without places, and the cut with the places that they found.
use Rattle.std.specs.Prelude.{◌≡◌, ◌+◌, ℕ, List, [], ◌∷◌, Some, length, map, slice_get}
use Rattle.eql_values.specs.declared.cut.LaneCut.{LaneCut}
use Rattle.eql_values.specs.declared.cut.Pipe.{Pipe}
use Rattle.eql_laws.specs.Places.{ReadTo, whole}
use Rattle.eql_lane.specs.Noting.{Locates, placed_cut}
use Rattle.eql_cut.specs.declared.cut.Cut.{Cut}
use Rattle.eql_cut.specs.Placing.{LinesAscend, lifted_cut, listed_place}
use Rattle.eql_cut.specs.Placed.{cut_at_places}
use Rattle.eql_runs.specs.Starts.{lanes_over}
use Rattle.eql_resume.specs.Beginnings.{AreWanted}
use Rattle.eql_resume.specs.Finding.{Suits}

-- the lane of a shard, which was read up to a place, began with what the cut keeps of it, with the digest of what was read and each
-- event at the place of its line; these are the places of the wanted lines
pub record WasLifted (cut : Cut) (shard : ℕ) (r : ReadTo) (kept : LaneCut) (places : List (ℕ × ℕ)) : Type 0 where
  pub lane : LaneCut
  pub there : slice_get cut.lanes shard ≡ Some lane
  pub count : length r.first ≡ lane.offset
  pub wanted : List ℕ
  pub are : AreWanted cut shard wanted
  pub located : Locates r.first r.rest wanted places
  pub kept_is : kept ≡ placed_cut r.first lane

-- so did the lanes of this shard and of those after it
abbrev pub WereLifted : Cut → (shard : ℕ) → List ReadTo → List LaneCut → List (List (ℕ × ℕ)) → Type 0
WereLifted cut shard [] [] [] = Unit {0}
WereLifted cut shard (r ∷ shards) (kept ∷ lanes) (places ∷ lists) =
    WasLifted cut shard r kept places × WereLifted cut (shard + 1) shards lanes lists
WereLifted cut shard _ _ _ = ⊥

-- what the lanes keep is what the cut does once it has their places and the digests of the texts; and these are the places of the whole
-- texts
pub record LiftsAs (cut : Cut) (shards : List ReadTo) (lanes : List LaneCut) (lists : List (List (ℕ × ℕ))) : Type 0 where
  pub ascend : LinesAscend lists
  pub lanes_are : lanes ≡ lanes_over (map whole shards) (lifted_cut (listed_place lists) cut).lanes
  pub placed_is : lifted_cut (listed_place lists) cut ≡ cut_at_places (map whole shards) cut

-- of a cut that suits a run
abbrev pub LiftedIsCut : Type 0
LiftedIsCut =
    (stages values : ℕ) (pipes : List Pipe) (cut : Cut) (shards : List ReadTo) (lanes : List LaneCut) (lists : List (List (ℕ × ℕ)))
    → Suits stages values pipes cut.head cut → length lanes ≡ length cut.lanes → WereLifted cut 0 shards lanes lists
    → LiftsAs cut shards lanes lists

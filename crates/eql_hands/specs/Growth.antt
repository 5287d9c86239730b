-- How the passes of a hand grow over its steps.
use Rattle.std.specs.Prelude.{◌≤◌, ◌+◌, ℕ, length}
use Rattle.eql_turn_lock.specs.declared.view.View.{View}
use Rattle.eql_hub.specs.Hands.{HandView, LaneKnown, PartKnown}
use Rattle.eql_hub.specs.Later.{IsLater}
use Rattle.eql_hub.specs.Steps.{EachIsRelated}

module _ {T O R : Type 0} where
  -- it has at most so many entries more of its own
  abbrev pub HasMineWithin : ℕ → View T O R → View T O R → Type 0
  HasMineWithin most v w = length w.mine ≤ length v.mine + most

module _ {S L : Type 0} where
  -- each pass of a lane is related so to what it was before, and each pass of a part so
  pub record EachPass (OnLane : LaneKnown S L → LaneKnown S L → Type 0) (OnPart : PartKnown → PartKnown → Type 0) (old new : HandView S L) : Type 0 where
    pub lanes : EachIsRelated OnLane old.lanes.views new.lanes.views
    pub parts : EachIsRelated OnPart old.parts.views new.parts.views

  -- each pass is the same one later
  abbrev pub AreLater : HandView S L → HandView S L → Type 0
  AreLater old new = EachPass IsLater IsLater old new

  -- each pass has at most so many entries more of its own
  abbrev pub HaveMineWithin : ℕ → HandView S L → HandView S L → Type 0
  HaveMineWithin most old new = EachPass (HasMineWithin most) (HasMineWithin most) old new

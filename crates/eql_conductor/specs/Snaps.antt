-- What is known of cuts of lanes and of parts, taken one after another, and what their types say.
use Rattle.std.specs.Prelude.{◌≡◌, ◌+◌, ℕ, ℤ, List, [], ◌∷◌, Option, All, length}
use Rattle.eql_values.specs.declared.cut.LaneCut.{LaneCut}
use Rattle.eql_values.specs.declared.cut.PipeState.{PipeState}
use Rattle.eql_values.specs.declared.found.Holder.{Holder}
use Rattle.eql_values.specs.declared.found.Numbered.{Numbered}
use Rattle.eql_values.specs.declared.item.Item.{Item}
use Rattle.eql_values.specs.declared.order.Mark.{Mark}
use Rattle.eql_values.specs.OrderKeys.{EventsAscend}
use Rattle.eql_values.specs.Routes.{RoutesStand}
use Rattle.eql_laws.specs.Books.{kept_of}
use Rattle.eql_laws.specs.Parts.{alive_in}
use Rattle.eql_lane.specs.Lanes.{Setting, LaneState}
use Rattle.eql_cut.specs.declared.cut.Cut.{Cut}
use Rattle.eql_parts.specs.PartSteps.{Rules}
use Rattle.eql_parts.specs.Spreading.{part_number}
use Rattle.eql_conductor.specs.LaneCalls.{LaneIsAt}
use Rattle.eql_conductor.specs.Benches.{Known}
use Rattle.eql_conductor.specs.LaneRounds.{text_at}
use Rattle.eql_conductor.specs.PartRounds.{pending_after}

-- ---- lanes
-- what a cut keeps of a lane in a state of which this is known
pub record IsSnap (text : Option (List ℕ)) (set : Setting) (mark : Mark) (cut : LaneCut) : Type 0 where
  pub state : LaneState
  pub at : LaneIsAt text set mark state
  pub cut_is : cut ≡ state.cut

-- what it keeps of lanes, of which the first is this one
abbrev pub SnapsFrom : Option (List (List ℕ)) → Mark → Known → ℕ → List LaneCut → Type 0
SnapsFrom texts mark b s [] = Unit {0}
SnapsFrom texts mark b s (cut ∷ cuts) = IsSnap (text_at texts s) (b.set s) mark cut × SnapsFrom texts mark b (s + 1) cuts

-- and of each lane
pub record SnapsAll (texts : Option (List (List ℕ))) (mark : Mark) (b : Known) (cuts : List LaneCut) : Type 0 where
  pub count : length cuts ≡ b.lanes
  pub each : SnapsFrom texts mark b 0 cuts

-- ---- parts
-- a part's own of what is pending and alive at a time
abbrev pub held_of : Rules → List Holder → ℤ → ℕ → List Holder
held_of rules all time p = alive_in rules.span time part_number p (pending_after rules all [])

-- ---- what types say
abbrev pub ItemStands : Item → Type 0
ItemStands item = RoutesStand item.routes

abbrev pub LaneStands : LaneCut → Type 0
LaneStands lane = All ItemStands lane.items

abbrev pub HolderAscends : Holder → Type 0
HolderAscends h = EventsAscend h.chain

abbrev pub ListedAscends : Numbered → Type 0
ListedAscends n = EventsAscend n.found.chain

abbrev pub PipeAscends : PipeState → Type 0
PipeAscends state = All ListedAscends (kept_of state)

-- the routes of each event stand, and the events of each sequence ascend
pub record TypesSay (cut : Cut) : Type 0 where
  pub routes : All LaneStands cut.lanes
  pub holders : All HolderAscends cut.holders
  pub book : All PipeAscends cut.book.pipes

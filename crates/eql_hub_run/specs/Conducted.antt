-- With what the conductor may run over a hub: the first hand, from which those of the workers were split off.
use Rattle.std.specs.Prelude.{◌≤◌, ℕ, List, [], ◌∷◌, Option, None, Some, All, length}
use Rattle.eql_outside.specs.declared.disk.Disk as disks
use Rattle.eql_outside.specs.declared.source.Source as sources
use Rattle.eql_values.specs.declared.reader.LineReader as readers
use Rattle.eql_turn_lock.specs.declared.view.View.{View}
use Rattle.eql_conductor.specs.declared.plan.Run.{Run}
use Rattle.eql_conductor.specs.GoingOn.{AreOfTexts}
use Rattle.eql_conductor.specs.Lists.{PoolView, known_in}
use Rattle.eql_conductor.specs.Runs.{MayKeepIf, MayRun}
use Rattle.eql_hub.specs.Hands.{HandView, HubView, IsHandOf, Knows}
use Rattle.eql_hub_run.specs.Gathers.{IsUnplayedHand}
use Rattle.eql_hub_run.specs.Workers.{MayStart, WorkerView}

-- the values of which locks were made, as their first passes tell them
abbrev pub with_opening : {T : Type 0} → Option T → List T → List T
with_opening None values = values
with_opening (Some value) values = value ∷ values

abbrev pub openings : {T O R : Type 0} → List (View T O R) → List T
openings [] = []
openings (v ∷ vs) = with_opening v.opening (openings vs)

-- the lanes and parts of which a hub was made, as its first hand tells them
abbrev pub opened : {S L : Type 0} → HandView S L → PoolView S L
opened hand = record { lanes = openings hand.lanes.views; parts = openings hand.parts.views }

-- no hand of the hub has played, and a run may begin over its lanes and parts
pub record MayConduct {S L D : Type 0} (source : sources.Ghosts S) (reader : readers.Ghosts L) (disk : disks.Ghosts D) (text : ℕ → Option (List ℕ))
    (hub : HubView) (hand : HandView S L) (workers : List (WorkerView S L)) (run : Run D) : Type 0 where
  pub own : IsHandOf hub hand
  pub knows : Knows source.left source.lent_as source.fault_plan reader.read_of hand
  pub unplayed : IsUnplayedHand (length workers) (opened hand).lanes (opened hand).parts hand
  pub start : All (MayStart hub) workers
  pub few : length (opened hand).lanes ≤ 256
  pub many : length workers ≤ 65536
  pub texts : AreOfTexts source.left text (opened hand).lanes
  pub may : MayRun run.plan (known_in reader.read_of text (opened hand).lanes (opened hand).parts) run.book
  pub keeps : MayKeepIf disk.history disk.fault_count run.plan (known_in reader.read_of text (opened hand).lanes (opened hand).parts) run.keep

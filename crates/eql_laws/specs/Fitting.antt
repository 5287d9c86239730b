-- The law of a whole cut: what a cut of texts keeps fits the run.
use Rattle.std.specs.Prelude.{◌≡◌, ◌≤◌, ℕ, ℤ, List, [], Option, Some, map, length, All, IsTrue}
use Rattle.eql_values.specs.declared.item.Item.{Item}
use Rattle.eql_values.specs.declared.found.Holder.{Holder}
use Rattle.eql_values.specs.declared.found.Numbered.{Numbered}
use Rattle.eql_values.specs.declared.cut.BookCut.{BookCut}
use Rattle.eql_values.specs.declared.cut.LaneCut.{LaneCut}
use Rattle.eql_values.specs.declared.cut.Pipe.{Pipe}
use Rattle.eql_values.specs.declared.cut.PipeState.{PipeState}
use Rattle.eql_values.specs.declared.order.Mark.TheVariants.{At}
use Rattle.eql_values.specs.declared.reader.LineGot.TheVariants as got
use Rattle.eql_values.specs.Accepted.{Reads, below}
use Rattle.eql_values.specs.Marks.{is_safe}
use Rattle.eql_values.specs.Matching.{matches}
use Rattle.eql_values.specs.Ascending.{Ascend}
use Rattle.eql_values.specs.OrderKeys.{EventsAscend}
use Rattle.eql_values.specs.Routes.{RoutesStand}
use Rattle.eql_laws.specs.Alive.{HoldersAreInOrder}
use Rattle.eql_laws.specs.Belows.{IsReading, IsMarkTime}
use Rattle.eql_laws.specs.Books.{book_of, kept_of, BookFits, StateStands, CompletesOnce, greatest_shards, greatest_found}
use Rattle.eql_laws.specs.Bounds.{KeysHave, HasMasksTo, HasTimes}
use Rattle.eql_laws.specs.Counting.{IsShardText, front}
use Rattle.eql_laws.specs.Cuts.{pending_at, PendingAre}
use Rattle.eql_laws.specs.Lanes.{lanes_from, LanesFit}
use Rattle.eql_laws.specs.Places.{ReadTo, whole, ArePlaces, lows_from}

-- what a cut depends on of a run: the number of stages, the span, the number of values of each key, the pipes, and the slack
pub record Run : Type 0 where
  pub stages : ℕ
  pub span : Option ℤ
  pub values : ℕ
  pub pipes : List Pipe
  pub slack : ℤ

-- what a cut keeps: its time, the lanes, the pending sequences and the book
pub record Kept : Type 0 where
  pub time : ℤ
  pub lanes : List LaneCut
  pub holders : List Holder
  pub book : BookCut

-- what a cut at a time keeps of shards that were read up to places
abbrev pub cut_of : Run → Reads → ℤ → List ReadTo → Kept
cut_of run reads t shards =
    let texts : List (List ℕ) = map whole shards in
    record {
      time = t;
      lanes = lanes_from reads (Some run.slack) 0 (At t) shards;
      holders = pending_at run.stages run.span t reads (Some run.slack) texts (At t);
      book = book_of run.pipes (matches run.stages run.span [] (below reads (Some run.slack) texts (At t)));
    }

-- an event that the run's reader may read: its masks have no stage above the last, its keys have the number of values, and at most one of them is at the last stage
pub record IsFor (run : Run) (item : Item) : Type 0 where
  pub masks : HasMasksTo run.stages item
  pub keys : KeysHave run.values item
  pub once : CompletesOnce run.stages item

-- readings of the run's reader
pub record ReadsFor (run : Run) (reads : Reads) : Type 0 where
  pub reading : IsReading reads
  pub each : (shard line : ℕ) (bytes : List ℕ) (item : Item) → reads shard line bytes ≡ got.Item item → IsFor run item

-- a cut of so many shards that fits the run
pub record Fits (run : Run) (shards : ℕ) (kept : Kept) : Type 0 where
  pub time_in_range : IsMarkTime kept.time
  pub lane_for_each : length kept.lanes ≡ shards
  pub lanes : LanesFit run.slack kept.time 0 kept.lanes
  pub lane_masks : All (λ (lane : LaneCut). All (HasMasksTo run.stages) lane.items) kept.lanes
  pub lane_keys : All (λ (lane : LaneCut). All (KeysHave run.values) lane.items) kept.lanes
  pub holders : PendingAre run.stages shards (At kept.time) kept.holders
  pub holder_times : All (λ (h : Holder). HasTimes h.chain) kept.holders
  pub holder_keys : All (λ (h : Holder). length h.key ≡ run.values) kept.holders
  pub book : BookFits run.stages shards run.pipes kept.book
  pub found_to : kept.book.found ≤ greatest_found
  pub book_times : All (λ (s : PipeState). All (λ (n : Numbered). HasTimes n.found.chain) (kept_of s)) kept.book.pipes
  pub book_keys : All (λ (s : PipeState). All (λ (n : Numbered). length n.found.key ≡ run.values) (kept_of s)) kept.book.pipes

-- a cut at a safe time in the range of marks, where what was read is no more than shards may have, fits the run
abbrev pub CutsFit : Type 0
CutsFit = (run : Run) (reads : Reads) (t : ℤ) (shards : List ReadTo) → ReadsFor run reads
    → ArePlaces shards → All IsShardText (map front shards) → length shards ≤ greatest_shards
    → IsTrue (is_safe (At t) (lows_from reads (Some run.slack) 0 shards)) → IsMarkTime t
    → Fits run (length shards) (cut_of run reads t shards)

-- a cut of so many shards in the orders and counts that its text has: a lane for each shard, its events in order and each with routes in order that
-- say something; the pending sequences by key and stage, each with as many events as its stage, in order; what pipes keep by number, each with
-- its events in order
pub record StandsInOrder (shards : ℕ) (kept : Kept) : Type 0 where
  pub lane_for_each : length kept.lanes ≡ shards
  pub items : All (λ (lane : LaneCut). Ascend lane.items × All (λ (item : Item). RoutesStand item.routes) lane.items) kept.lanes
  pub holders : HoldersAreInOrder kept.holders
  pub chains : All (λ (h : Holder). (length h.chain ≡ h.stage) × EventsAscend h.chain) kept.holders
  pub book : All StateStands kept.book.pipes

-- what a cut keeps is in those orders and counts
abbrev pub CutsStand : Type 0
CutsStand = (run : Run) (reads : Reads) (t : ℤ) (shards : List ReadTo) → IsReading reads → StandsInOrder (length shards) (cut_of run reads t shards)

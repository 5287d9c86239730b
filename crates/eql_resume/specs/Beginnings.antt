-- What lanes, parts and a book begin with: what a cut keeps, or nothing.
use Rattle.std.specs.Prelude.{◌≡◌, ◌==◌, ◌↔◌, ◌+◌, if◌then◌else◌, ◌++◌, ℕ, zero, suc, List, [], ◌∷◌, Bool, true, false, Option, None, Some, All, length, slice_get, map, Contains}
use Rattle.std.specs.List.{flat_map}
use Rattle.std.specs.List.Sorted.{IsStrictlyIncreasing}
use Rattle.eql_values.specs.declared.cut.BookCut.{BookCut}
use Rattle.eql_values.specs.declared.cut.LaneCut.{LaneCut}
use Rattle.eql_values.specs.declared.cut.Pipe.{Pipe}
use Rattle.eql_values.specs.declared.found.Holder.{Holder}
use Rattle.eql_values.specs.declared.order.Mark.{Mark}
use Rattle.eql_values.specs.declared.order.OrderKey.{OrderKey}
use Rattle.eql_values.specs.declared.order.Mark.TheVariants.{Start, At}
use Rattle.eql_lane.specs.declared.make.LaneStart.{LaneStart}
use Rattle.eql_lane.specs.declared.make.LaneStart.TheVariants as start
use Rattle.eql_lane.specs.Starts.{MayStart}
use Rattle.eql_book.specs.Laws.{fresh_cut as fresh_book}
use Rattle.eql_cut.specs.declared.cut.Cut.{Cut}
use Rattle.eql_cut.specs.Placing.{NamesLine, lifted_holder, lifted_book, state_orders}
use Rattle.eql_runs.specs.Starts.{keeps_digests}

-- ---- lanes
-- what the text of a cut keeps of lanes, by its format: all, no digests, or neither digests nor places
pub data Keeping : Type 0 where
  whole : Keeping
  undigested : Keeping
  unplaced : Keeping

abbrev pub keeping_of : (format : ℕ) → Keeping
keeping_of format = if keeps_digests format then whole else if format == 1 then unplaced else undigested

-- how the lane of a shard begins: afresh, or with what the cut keeps of it; where the cut has no digests they are to be set, and where
-- it has no places these are too, and the lines that the cut names are wanted
abbrev pub LaneBegins : Option Cut → Keeping → (shard : ℕ) → LaneStart → Type 0
LaneBegins None by shard s = s ≡ start.Fresh
LaneBegins (Some cut) whole shard s = (lane : LaneCut) × (slice_get cut.lanes shard ≡ Some lane) × (s ≡ start.From lane)
LaneBegins (Some cut) undigested shard s = (lane : LaneCut) × (slice_get cut.lanes shard ≡ Some lane) × (s ≡ start.Retrace lane)
LaneBegins (Some cut) unplaced shard s =
    (lane : LaneCut) × (slice_get cut.lanes shard ≡ Some lane) × (wanted : List ℕ) × (s ≡ start.Lift lane wanted)
    × ((line : ℕ) → Contains wanted line ↔ NamesLine cut shard line)

-- as many lanes that begin afresh
abbrev pub fresh_starts : ℕ → List LaneStart
fresh_starts zero = []
fresh_starts (suc n) = start.Fresh ∷ fresh_starts n

-- lanes that begin with these cuts, which have digests or not
abbrev pub starts_by : (digested : Bool) → List LaneCut → List LaneStart
starts_by true lanes = map start.From lanes
starts_by false lanes = map start.Retrace lanes

-- lanes that begin with these cuts without places, and want these lines
abbrev pub lifts_of : List LaneCut → List (List ℕ) → List LaneStart
lifts_of [] lists = []
lifts_of (lane ∷ lanes) [] = []
lifts_of (lane ∷ lanes) (wanted ∷ lists) = start.Lift lane wanted ∷ lifts_of lanes lists

-- exactly the lines that the cut names, of this shard and of those after it
pub record AreWanted (cut : Cut) (shard : ℕ) (wanted : List ℕ) : Type 0 where
  pub ascend : IsStrictlyIncreasing wanted
  pub exact : (line : ℕ) → Contains wanted line ↔ NamesLine cut shard line

abbrev pub WantedAre : Cut → (shard : ℕ) → List (List ℕ) → Type 0
WantedAre cut shard [] = Unit {0}
WantedAre cut shard (wanted ∷ lists) = AreWanted cut shard wanted × WantedAre cut (shard + 1) lists

-- one for each shard, as `Lane::make` asks
pub record LanesBegin (cut : Option Cut) (format : ℕ) (shards : ℕ) (starts : List LaneStart) : Type 0 where
  pub count : length starts ≡ shards
  pub each : (s : ℕ) (x : LaneStart) → slice_get starts s ≡ Some x → LaneBegins cut (keeping_of format) s x
  pub may : All MayStart starts

-- ---- the rest
-- from which mark a run goes on, what is pending, and what the book keeps; and whether their events have no places yet
pub record Rest : Type 0 where
  pub mark : Mark
  pub holders : List Holder
  pub book : BookCut
  pub unplaced : Bool

abbrev pub fresh_rest : List Pipe → Rest
fresh_rest pipes = record { mark = Start; holders = []; book = fresh_book pipes; unplaced = false }

abbrev pub rest_of : Cut → (bare : Bool) → Rest
rest_of cut bare = record { mark = At cut.mark; holders = cut.holders; book = cut.book; unplaced = bare }

abbrev pub rest_by : List Pipe → (bare : Bool) → Option Cut → Rest
rest_by pipes bare None = fresh_rest pipes
rest_by pipes bare (Some cut) = rest_of cut bare

-- where its events stand
abbrev pub rest_orders : List Holder → BookCut → List OrderKey
rest_orders holders book = flat_map (λ (h : Holder). h.chain) holders ++ flat_map state_orders book.pipes

-- the same with the places of these lines, where it has none yet
abbrev pub placed_if : Bool → (place : ℕ → ℕ → ℕ) → Rest → Rest
placed_if false place rest = rest
placed_if true place rest =
    record { mark = rest.mark; holders = map (lifted_holder place) rest.holders; book = lifted_book place rest.book; unplaced = false }

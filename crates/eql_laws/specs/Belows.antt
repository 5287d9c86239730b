-- Laws of the events below a mark: they stand in order, and grow by what lies between two marks.
use Rattle.std.specs.Prelude.{◌≡◌, ◌<◌, ◌≤◌, ℕ, ℤ, ◌≤ℤ◌, ◌-ℤ◌, pos, neg_ℤ, true, false, not, List, ◌++◌, Option, Some, IfSome, filter, length, All}
use Rattle.eql_values.specs.declared.item.Item.{Item}
use Rattle.eql_values.specs.declared.order.Mark.{Mark}
use Rattle.eql_values.specs.declared.order.Mark.TheVariants.{At}
use Rattle.eql_values.specs.declared.reader.LineGot.TheVariants as got
use Rattle.eql_values.specs.Accepted.{Reads, readable, accepted_items, accepted_from, sorted_items, below}
use Rattle.eql_values.specs.Ascending.{Ascend}
use Rattle.eql_values.specs.Lines.{lines_of, lines_in}
use Rattle.eql_values.specs.Marks.{is_below, low_of}
use Rattle.eql_values.specs.Reading.{IsTime, IsReadAt, time_bound}
use Rattle.eql_values.specs.Routes.{RoutesAreInOrder, RoutesStand}
use Rattle.eql_laws.specs.Lateness.{IsAtMost, best_of}

-- these readings are those of a reader of lines: each event has the shard and the line that it was read at
abbrev pub IsReading : Reads → Type 0
IsReading reads = (shard line : ℕ) (bytes : List ℕ) (item : Item) → reads shard line bytes ≡ got.Item item → IsReadAt shard line item

-- the item's routes stand in order
abbrev pub HasRoutesInOrder : Item → Type 0
HasRoutesInOrder item = RoutesAreInOrder item.routes

-- items in the order of their places ascend, where their routes stand in order
abbrev pub SortedAscends : Type 0
SortedAscends = (items : List Item) → All HasRoutesInOrder items → Ascend (sorted_items items)

-- so the events below a mark ascend
abbrev pub BelowAscends : Type 0
BelowAscends = (reads : Reads) (slack : Option ℤ) (texts : List (List ℕ)) (mark : Mark) → IsReading reads → Ascend (below reads slack texts mark)

-- of items those from one mark on and below another
abbrev pub from_to : (from to : Mark) → List Item → List Item
from_to from to items = filter (is_below to) (filter (λ item. not (is_below from item)) items)

-- the accepted events of all texts from one mark on and below another, in ascending order
abbrev pub between : Reads → Option ℤ → List (List ℕ) → (from to : Mark) → List Item
between reads slack texts from to = sorted_items (from_to from to (accepted_from reads slack 0 texts))

-- the events below the greater of two marks are those below the lesser, followed by those between
abbrev pub BelowGrows : Type 0
BelowGrows = (reads : Reads) (slack : Option ℤ) (texts : List (List ℕ)) (from to : Mark) → IsAtMost from to
    → below reads slack texts to ≡ below reads slack texts from ++ between reads slack texts from to

-- an accepted event of a text: it has its shard, a line of the text and its place, a time within the bound, and routes in order
pub record IsAcceptedOf (shard : ℕ) (text : List ℕ) (item : Item) : Type 0 where
  pub shard_is : item.order.shard ≡ shard
  pub line_from : 1 ≤ item.order.line
  pub line_to : item.order.line ≤ length (lines_of text)
  pub at_within : item.order.at < length text
  pub in_range : IsTime item.order.ts
  pub routes_stand : RoutesStand item.routes

-- the accepted events of a text are such, and no more than its readable lines, which are no more than its lines
pub record AcceptedAre (reads : Reads) (slack : Option ℤ) (shard : ℕ) (text : List ℕ) : Type 0 where
  pub all : All (IsAcceptedOf shard text) (accepted_items reads slack shard text)
  pub fewer : length (accepted_items reads slack shard text) ≤ length (readable reads shard (lines_in text))
  pub readable_fewer : length (readable reads shard (lines_in text)) ≤ length (lines_of text)
  pub best_in_range : IfSome (best_of (readable reads shard (lines_in text))) IsTime

abbrev pub AcceptedComeFromText : Type 0
AcceptedComeFromText = (reads : Reads) (slack : Option ℤ) (shard : ℕ) (text : List ℕ) → IsReading reads → AcceptedAre reads slack shard text

-- an event of all texts below a mark: it is of one of the shards, has a time within the bound and routes in order, and is below the mark
pub record IsBelow (shards : ℕ) (mark : Mark) (item : Item) : Type 0 where
  pub shard_is : item.order.shard < shards
  pub line_from : 1 ≤ item.order.line
  pub in_range : IsTime item.order.ts
  pub routes_stand : RoutesStand item.routes
  pub below : is_below mark item ≡ true

abbrev pub BelowAre : Type 0
BelowAre = (reads : Reads) (slack : Option ℤ) (texts : List (List ℕ)) (mark : Mark) → IsReading reads
    → All (IsBelow (length texts) mark) (below reads slack texts mark)

-- the greatest slack, 36,500 days in nanoseconds
abbrev pub greatest_slack : ℤ
greatest_slack = pos 3153600000000000000

-- the time of a mark: within the bound, or below it by no more than the greatest slack
abbrev pub IsMarkTime : ℤ → Type 0
IsMarkTime t = ((neg_ℤ time_bound -ℤ greatest_slack) ≤ℤ t) × (t ≤ℤ time_bound)

-- the low of an open shard, where it is a time, is the greatest timestamp less the slack, and the time of a mark
abbrev pub OpenLowIsTime : Type 0
OpenLowIsTime = (slack : ℤ) (best : Option ℤ) (t : ℤ) → pos 0 ≤ℤ slack → slack ≤ℤ greatest_slack → IfSome best IsTime
    → low_of false (Some slack) best ≡ At t → IsMarkTime t

-- an open shard whose low is at least a time has a slack and a greatest timestamp, which less the slack is at least that time
abbrev pub OpenLowIsAtLeast : Type 0
OpenLowIsAtLeast = (slack best : Option ℤ) (t : ℤ) → IsAtMost (At t) (low_of false slack best)
    → (s : ℤ) × (b : ℤ) × (slack ≡ Some s) × (best ≡ Some b) × (t ≤ℤ (b -ℤ s))

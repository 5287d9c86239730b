-- Laws of what is kept of texts at a mark: nothing is lost, and what is kept is as it is said to be.
use Rattle.std.specs.Prelude.{◌≡◌, ◌≢◌, ◌<◌, ◌≤◌, ◌&&◌, nat_lt, ℕ, ℤ, Bool, false, not, List, [], ◌∷◌, Option, filter, length, All, IsTrue, IsPermutation}
use Rattle.eql_values.specs.declared.order.OrderKey.{OrderKey}
use Rattle.eql_values.specs.declared.item.Route.{Route}
use Rattle.eql_values.specs.declared.item.Item.{Item}
use Rattle.eql_values.specs.declared.found.Match.{Match}
use Rattle.eql_values.specs.declared.found.Holder.{Holder}
use Rattle.eql_values.specs.declared.order.Mark.{Mark}
use Rattle.eql_values.specs.declared.reader.LineGot.TheVariants as got
use Rattle.eql_values.specs.Accepted.{Reads, accepted_items, accepted_from, sorted_items, below}
use Rattle.eql_values.specs.Ascending.{Ascend}
use Rattle.eql_values.specs.Marks.{is_below}
use Rattle.eql_values.specs.Matching.{matches, after}
use Rattle.eql_values.specs.OrderKeys.{EventsAscend}
use Rattle.eql_laws.specs.Alive.{HoldersAreInOrder, alive_holders}
use Rattle.eql_laws.specs.Belows.{IsReading, IsAcceptedOf}
use Rattle.eql_laws.specs.Shapes.{EventsPass, FirstsFall}

-- no two of the items stand at one place
abbrev pub PlacesDiffer : List Item → Type 0
PlacesDiffer [] = Unit {0}
PlacesDiffer (item ∷ items) = All (λ (other : Item). item.order ≢ other.order) items × PlacesDiffer items

-- putting items of different places in order loses none and adds none
abbrev pub SortedKeepsAll : Type 0
SortedKeepsAll = (items : List Item) → PlacesDiffer items → IsPermutation items (sorted_items items)

-- so the events below a mark are all accepted ones that lie below it
abbrev pub BelowKeepsAll : Type 0
BelowKeepsAll = (reads : Reads) (slack : Option ℤ) (texts : List (List ℕ)) (mark : Mark) → IsReading reads
    → PlacesDiffer (accepted_from reads slack 0 texts)
    × IsPermutation (filter (is_below mark) (accepted_from reads slack 0 texts)) (below reads slack texts mark)

-- what a shard holds back at a mark: its accepted events that aren't below it, in order
abbrev pub held_back : Reads → Option ℤ → ℕ → List ℕ → Mark → List Item
held_back reads slack shard text mark = sorted_items (filter (λ item. not (is_below mark item)) (accepted_items reads slack shard text))

-- an event that is held back
pub record IsHeldBack (shard : ℕ) (text : List ℕ) (mark : Mark) (item : Item) : Type 0 where
  pub accepted : IsAcceptedOf shard text item
  pub not_below : is_below mark item ≡ false

pub record HeldBackAre (reads : Reads) (slack : Option ℤ) (shard : ℕ) (text : List ℕ) (mark : Mark) : Type 0 where
  pub all : All (IsHeldBack shard text mark) (held_back reads slack shard text mark)
  pub ascending : Ascend (held_back reads slack shard text mark)
  pub fewer : length (held_back reads slack shard text mark) ≤ length (accepted_items reads slack shard text)

abbrev pub HeldBackFits : Type 0
HeldBackFits = (reads : Reads) (slack : Option ℤ) (shard : ℕ) (text : List ℕ) (mark : Mark) → IsReading reads
    → HeldBackAre reads slack shard text mark

-- the event is of one of the shards
abbrev pub is_of_shards : (shards : ℕ) → OrderKey → Bool
is_of_shards shards event = nat_lt event.shard shards

-- the event is below the mark, and of one of the shards
abbrev pub is_of : (shards : ℕ) → Mark → OrderKey → Bool
is_of shards mark event = is_below mark (record { order = event; routes = [] }) && is_of_shards shards event

-- a pending sequence of the events of shards below a mark, of a query of m stages
pub record IsPending (m shards : ℕ) (mark : Mark) (h : Holder) : Type 0 where
  pub stage_from : 1 ≤ h.stage
  pub stage_to : h.stage < m
  pub full : length h.chain ≡ h.stage
  pub ascends : EventsAscend h.chain
  pub events : EventsPass (is_of shards mark) h.chain

-- the pending sequences of texts below a mark that are alive at a time
abbrev pub pending_at : ℕ → Option ℤ → ℤ → Reads → Option ℤ → List (List ℕ) → Mark → List Holder
pending_at m span t reads slack texts mark = alive_holders span t (after m span [] (below reads slack texts mark))

pub record PendingAre (m shards : ℕ) (mark : Mark) (holders : List Holder) : Type 0 where
  pub all : All (IsPending m shards mark) holders
  pub in_order : HoldersAreInOrder holders
  pub firsts_fall : FirstsFall holders

abbrev pub PendingFits : Type 0
PendingFits = (m : ℕ) (span : Option ℤ) (t : ℤ) (reads : Reads) (slack : Option ℤ) (texts : List (List ℕ)) (mark : Mark) → IsReading reads
    → PendingAre m (length texts) mark (pending_at m span t reads slack texts mark)

-- a match of the events of shards below a mark
pub record IsFound (m shards : ℕ) (mark : Mark) (found : Match) : Type 0 where
  pub full : length found.chain ≡ m
  pub ascends : EventsAscend found.chain
  pub events : EventsPass (is_of shards mark) found.chain

abbrev pub FoundFits : Type 0
FoundFits = (m : ℕ) (span : Option ℤ) (reads : Reads) (slack : Option ℤ) (texts : List (List ℕ)) (mark : Mark) → IsReading reads
    → All (IsFound m (length texts) mark) (matches m span [] (below reads slack texts mark))

-- what a test says of the routes of each event that is read, it says of each that is accepted, held back or below a mark
pub record RoutesKeep (reads : Reads) (slack : Option ℤ) (test : List Route → Bool) (texts : List (List ℕ)) (mark : Mark) : Type 0 where
  pub held_back : (shard : ℕ) (text : List ℕ) → All (λ (item : Item). IsTrue (test item.routes)) (held_back reads slack shard text mark)
  pub below : All (λ (item : Item). IsTrue (test item.routes)) (below reads slack texts mark)

abbrev pub RoutesStay : Type 0
RoutesStay = (reads : Reads) (slack : Option ℤ) (test : List Route → Bool) (texts : List (List ℕ)) (mark : Mark)
    → ((shard line : ℕ) (bytes : List ℕ) (item : Item) → reads shard line bytes ≡ got.Item item → IsTrue (test item.routes))
    → RoutesKeep reads slack test texts mark

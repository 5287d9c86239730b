-- What a part does at each call: its state before and after, by operation and reply.
use Rattle.std.specs.Prelude.{◌≡◌, ◌<◌, ◌≤◌, ◌++◌, ℕ, ℤ, List, [], ◌∷◌, Option, None, Some, All, IsTrue, length, min}
use Rattle.eql_laws.specs.Lateness.{IsAtMost}
use Rattle.eql_values.specs.declared.order.Mark.{Mark}
use Rattle.eql_values.specs.declared.order.Mark.TheVariants.{Start, At, End}
use Rattle.eql_values.specs.declared.item.Item.{Item}
use Rattle.eql_values.specs.declared.found.Match.{Match}
use Rattle.eql_values.specs.declared.found.Holder.{Holder}
use Rattle.eql_values.specs.Ascending.{Ascend}
use Rattle.eql_values.specs.Chains.{in_time}
use Rattle.eql_values.specs.Matching.{after, matches}
use Rattle.eql_laws.specs.Alive.{HoldersAreInOrder, alive_holders}
use Rattle.eql_laws.specs.Together.{AllAreBelow, NoneIsBelow}
use Rattle.eql_parts.specs.declared.ops.PartOp.{PartOp}
use Rattle.eql_parts.specs.declared.ops.PartOp.TheVariants.{Deliver, Turn, Collect, Snap}
use Rattle.eql_parts.specs.declared.ops.PartReply.{PartReply}
use Rattle.eql_parts.specs.declared.ops.PartReply.TheVariants.{Done, Turned, Idle, Found, Cut, Memory}

-- what no call changes: how many stages a sequence goes through, and the span in nanoseconds
pub record Rules : Type 0 where
  pub stages : ℕ
  pub span : Option ℤ

-- what a part holds: the pending sequences by key and stage, the delivered events that weren't played yet, the matches found
-- since they were last collected, the last delivered mark all of whose events were played, the last delivered mark, and the
-- timestamp of the last event that was played
pub record PartState : Type 0 where
  pub held : List Holder
  pub inbox : List Item
  pub found : List Match
  pub done : Mark
  pub last : Mark
  pub processed : Option ℤ

-- a part as contracts see it
pub record PartView : Type 0 where
  pub rules : Rules
  pub state : PartState

-- the timestamp of the last of these events, and this one where there are none
abbrev pub last_time : Option ℤ → List Item → Option ℤ
last_time time [] = time
last_time time (item ∷ items) = last_time (Some item.order.ts) items

-- the time of a mark that has one
abbrev pub mark_time : Mark → Option ℤ
mark_time Start = None
mark_time (At t) = Some t
mark_time End = None

-- the pending sequences that are alive at a time, where there is one, and else all
abbrev pub alive_by : Option ℤ → Option ℤ → List Holder → List Holder
alive_by span None holders = holders
alive_by span (Some t) holders = alive_holders span t holders

-- the pending sequences but those that aren't alive at the timestamp last played, or at the mark that is done
abbrev pub still_held : Option ℤ → (processed : Option ℤ) (done : Mark) → List Holder → List Holder
still_held span processed done holders = alive_by span (mark_time done) (alive_by span processed holders)

-- the mark that is done: the last delivered one where no event waits, and else the one that was
abbrev pub done_by : (inbox : List Item) (old last : Mark) → Mark
done_by [] old last = last
done_by (item ∷ items) old last = old

-- the pending sequence can still match at a time, where there is one
abbrev pub IsAliveBy : Option ℤ → Option ℤ → Holder → Type 0
IsAliveBy span None h = Unit {0}
IsAliveBy span (Some t) h = IsTrue (in_time span h.chain t)

-- each pending sequence can still match at the timestamp last played, and at the mark that is done
pub record HasNothingStale (rules : Rules) (state : PartState) : Type 0 where
  pub by_event : All (IsAliveBy rules.span state.processed) state.held
  pub by_mark : All (IsAliveBy rules.span (mark_time state.done)) state.held

-- n events left the inbox at its front and were played
pub record Plays (rules : Rules) (old : PartState) (n : ℕ) (new : PartState) : Type 0 where
  pub played : List Item
  pub count : length played ≡ n
  pub inbox : old.inbox ≡ played ++ new.inbox
  pub held : new.held ≡ still_held rules.span new.processed new.done (after rules.stages rules.span old.held played)
  pub found : new.found ≡ old.found ++ matches rules.stages rules.span old.held played
  pub processed : new.processed ≡ last_time old.processed played
  pub done : new.done ≡ done_by new.inbox old.done old.last
  pub last : new.last ≡ old.last

-- the events were put at the end of the inbox, and the mark is delivered
pub record Delivers (rules : Rules) (old : PartState) (items : List Item) (mark : Mark) (new : PartState) : Type 0 where
  pub inbox : new.inbox ≡ old.inbox ++ items
  pub held : new.held ≡ still_held rules.span new.processed new.done old.held
  pub found : new.found ≡ old.found
  pub processed : new.processed ≡ old.processed
  pub done : new.done ≡ done_by new.inbox old.done mark
  pub last : new.last ≡ mark

-- a delivery is done, or handed back with nothing changed
abbrev pub IsDeliverStep : Rules → PartState → List Item → Mark → PartReply → PartState → Type 0
IsDeliverStep rules old items mark Done new = Delivers rules old items mark new
IsDeliverStep rules old items mark (Memory back n) new = (back ≡ items) × (n ≡ 0) × (new ≡ old)
IsDeliverStep rules old items mark (Turned n) new = ⊥
IsDeliverStep rules old items mark Idle new = ⊥
IsDeliverStep rules old items mark (Found matches done) new = ⊥
IsDeliverStep rules old items mark (Cut holders) new = ⊥

-- a turn plays as many events as wait, at most max; none wait; or memory ran out at an event, which is still the first
abbrev pub IsTurnStep : Rules → PartState → ℕ → PartReply → PartState → Type 0
IsTurnStep rules old max (Turned n) new = Plays rules old n new × (n ≡ min max (length old.inbox)) × (0 < n)
IsTurnStep rules old max Idle new = (old.inbox ≡ []) × (new ≡ old)
IsTurnStep rules old max (Memory back n) new = (back ≡ []) × Plays rules old n new × (n < min max (length old.inbox))
IsTurnStep rules old max Done new = ⊥
IsTurnStep rules old max (Found matches done) new = ⊥
IsTurnStep rules old max (Cut holders) new = ⊥

-- a collection hands out all matches found, and the mark that is done
abbrev pub IsCollectStep : PartState → PartReply → PartState → Type 0
IsCollectStep old (Found found done) new = (found ≡ old.found) × (done ≡ old.done) × (new ≡ record old { found = [] })
IsCollectStep old Done new = ⊥
IsCollectStep old (Turned n) new = ⊥
IsCollectStep old Idle new = ⊥
IsCollectStep old (Cut holders) new = ⊥
IsCollectStep old (Memory back n) new = ⊥

-- a copy of the pending sequences by key and stage, or memory ran out
abbrev pub IsSnapStep : PartState → PartReply → PartState → Type 0
IsSnapStep old (Cut holders) new = (holders ≡ old.held) × HoldersAreInOrder holders × (new ≡ old)
IsSnapStep old (Memory back n) new = (back ≡ []) × (n ≡ 0) × (new ≡ old)
IsSnapStep old Done new = ⊥
IsSnapStep old (Turned n) new = ⊥
IsSnapStep old Idle new = ⊥
IsSnapStep old (Found found done) new = ⊥

-- a call of a part: its operation, its reply, and the state before and after
abbrev pub IsPartStep : Rules → PartState → PartOp → PartReply → PartState → Type 0
IsPartStep rules old (Deliver items mark) reply new = IsDeliverStep rules old items mark reply new
IsPartStep rules old (Turn max) reply new = IsTurnStep rules old max reply new
IsPartStep rules old Collect reply new = IsCollectStep old reply new
IsPartStep rules old Snap reply new = IsSnapStep old reply new

-- events that may be delivered after a mark, up to another that isn't less
pub record CanDeliver (from : Mark) (items : List Item) (mark : Mark) : Type 0 where
  pub rises : IsAtMost from mark
  pub ascends : Ascend items
  pub not_below : NoneIsBelow from items
  pub below : AllAreBelow mark items

-- which operations may be played in a state
abbrev pub PartAllows : PartState → PartOp → Type 0
PartAllows state (Deliver items mark) = CanDeliver state.last items mark
PartAllows state (Turn max) = (1 ≤ max) × (max ≤ 4096)
PartAllows state Collect = Unit {0}
PartAllows state Snap = Unit {0}

-- What a run knows of a part between its calls.
use Rattle.std.specs.Prelude.{◌≡◌, ◌≤◌, ◌++◌, ℕ, ℤ, ◌≤ℤ◌, List, [], Option, Some, None, length}
use Rattle.eql_values.specs.declared.item.Item.{Item}
use Rattle.eql_values.specs.declared.found.Match.{Match}
use Rattle.eql_values.specs.declared.found.Holder.{Holder}
use Rattle.eql_values.specs.declared.order.Mark.{Mark}
use Rattle.eql_values.specs.declared.order.Mark.TheVariants.{Start, At, End}
use Rattle.eql_values.specs.Ascending.{Ascend}
use Rattle.eql_values.specs.Matching.{after, matches}
use Rattle.eql_laws.specs.Alive.{HoldersAreInOrder, IsSpan, ItemsComeFrom}
use Rattle.eql_laws.specs.Lateness.{IsAtMost}
use Rattle.eql_laws.specs.Together.{AllAreBelow, NoneIsBelow}
use Rattle.eql_parts.specs.declared.ops.PartReply.{PartReply}
use Rattle.eql_parts.specs.declared.ops.PartReply.TheVariants.{Done, Found}
use Rattle.eql_parts.specs.PartSteps.{Rules, PartState, IsDeliverStep, IsTurnStep, IsCollectStep, alive_by, mark_time}

-- the events come at a time or later, where there is one
abbrev pub ComeFrom : Option ℤ → List Item → Type 0
ComeFrom None items = Unit {0}
ComeFrom (Some t) items = ItemsComeFrom t items

-- the one time is at most the other, where there is one
abbrev pub TimeIsAtMost : Option ℤ → Option ℤ → Type 0
TimeIsAtMost None other = Unit {0}
TimeIsAtMost (Some t) None = ⊥
TimeIsAtMost (Some t) (Some u) = t ≤ℤ u

-- events that aren't below the mark come at the time or later
abbrev pub ReachesTo : Option ℤ → Mark → Type 0
ReachesTo reach Start = reach ≡ None
ReachesTo reach (At t) = TimeIsAtMost reach (Some t)
ReachesTo reach End = Unit {0}

-- of what was delivered a part played a beginning. It found the matches from its own pending sequences on, and has what is pending then but
-- for some that are dead at a time, at which or later all that waits comes
pub record PartIs (rules : Rules) (own : List Holder) (delivered : List Item) (mark : Mark) (x : PartState) : Type 0 where
  pub played : List Item
  pub split : delivered ≡ played ++ x.inbox
  pub found : x.found ≡ matches rules.stages rules.span own played
  pub order : HoldersAreInOrder x.held
  pub reach : Option ℤ
  pub alike : alive_by rules.span reach x.held ≡ alive_by rules.span reach (after rules.stages rules.span own played)
  pub ascends : Ascend x.inbox
  pub below : AllAreBelow mark x.inbox
  pub waits : ComeFrom reach x.inbox
  pub to : ReachesTo reach mark
  pub processed : TimeIsAtMost x.processed reach
  pub done_to : TimeIsAtMost (mark_time x.done) reach
  pub done : x.inbox ≡ [] → x.done ≡ mark
  pub fresh : alive_by rules.span (mark_time x.done) x.held ≡ x.held
  pub last : x.last ≡ mark

-- each turn keeps it, and no event comes to the inbox
pub record TurnKeeps (rules : Rules) (own : List Holder) (delivered : List Item) (mark : Mark) (old new : PartState) : Type 0 where
  pub is : PartIs rules own delivered mark new
  pub fewer : length new.inbox ≤ length old.inbox

abbrev pub TurnKeepsPart : Type 0
TurnKeepsPart = (rules : Rules) (own : List Holder) (delivered : List Item) (mark : Mark) (old : PartState) (max : ℕ) (reply : PartReply) (new : PartState)
    → IsSpan rules.span → IsTurnStep rules old max reply new → PartIs rules own delivered mark old → TurnKeeps rules own delivered mark old new

-- a delivery of events from the mark on and below a greater one puts them behind what was delivered
abbrev pub DeliverMovesPart : Type 0
DeliverMovesPart = (rules : Rules) (own : List Holder) (delivered items : List Item) (from to : Mark) (old new : PartState)
    → IsAtMost from to → Ascend items → NoneIsBelow from items → AllAreBelow to items
    → IsDeliverStep rules old items to Done new → PartIs rules own delivered from old → PartIs rules own (delivered ++ items) to new

-- a collection where nothing waits gives all matches of what was delivered; what is pending after it is the part's own then
pub record CollectsAll (rules : Rules) (own : List Holder) (delivered : List Item) (mark : Mark) (found : List Match) (new : PartState) : Type 0 where
  pub found_is : found ≡ matches rules.stages rules.span own delivered
  pub is : PartIs rules (after rules.stages rules.span own delivered) [] mark new

abbrev pub CollectMovesPart : Type 0
CollectMovesPart = (rules : Rules) (own : List Holder) (delivered : List Item) (mark done : Mark) (old : PartState) (found : List Match) (new : PartState)
    → old.inbox ≡ [] → IsCollectStep old (Found found done) new → PartIs rules own delivered mark old → CollectsAll rules own delivered mark found new

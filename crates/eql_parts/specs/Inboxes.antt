-- Pending sequences, and the events that wait to be played after them.
use Rattle.std.specs.Prelude.{◌≡◌, ◌++◌, ℕ, ℤ, Bool, List, [], Option, All, length}
use Rattle.eql_values.specs.declared.order.OrderKey.{OrderKey}
use Rattle.eql_values.specs.declared.order.Mark.{Mark}
use Rattle.eql_values.specs.declared.item.Item.{Item}
use Rattle.eql_values.specs.declared.found.Match.{Match}
use Rattle.eql_values.specs.declared.found.Holder.{Holder}
use Rattle.eql_values.specs.Ascending.{Ascend}
use Rattle.eql_values.specs.Marks.{is_below}
use Rattle.eql_values.specs.Matching.{after, matches}
use Rattle.eql_laws.specs.Alive.{HoldersAreInOrder}
use Rattle.eql_laws.specs.Shapes.{EventsPass, HasStageBefore}
use Rattle.eql_laws.specs.Together.{AllAreBelow}
use Rattle.eql_part.specs.KeyTables.{ComesAfterAll}
use Rattle.eql_parts.specs.PartSteps.{last_time}

-- the pending sequences, the events that wait, the matches found, and the timestamp of the last event that was played
pub record WaitingView : Type 0 where
  pub stages : ℕ
  pub span : Option ℤ
  pub held : List Holder
  pub inbox : List Item
  pub found : List Match
  pub processed : Option ℤ

-- the event comes after all events of the pending sequences
abbrev pub IsLater : List Holder → Item → Type 0
IsLater held item = ComesAfterAll item.order held

-- the events that wait ascend, and each comes after all that is pending
pub record IsNext (held : List Holder) (inbox : List Item) : Type 0 where
  pub ascends : Ascend inbox
  pub later : All (IsLater held) inbox

-- the pending sequences stand by key and stage, each at a stage before the last, and the events that wait come after them
pub record IsWaiting (stages : ℕ) (held : List Holder) (inbox : List Item) : Type 0 where
  pub in_order : HoldersAreInOrder held
  pub before : All (HasStageBefore stages) held
  pub next : IsNext held inbox

-- n events left at the front and were played
pub record PlaysFirst (old : WaitingView) (n : ℕ) (new : WaitingView) : Type 0 where
  pub played : List Item
  pub count : length played ≡ n
  pub stages : new.stages ≡ old.stages
  pub span : new.span ≡ old.span
  pub inbox : old.inbox ≡ played ++ new.inbox
  pub held : new.held ≡ after old.stages old.span old.held played
  pub found : new.found ≡ old.found ++ matches old.stages old.span old.held played
  pub processed : new.processed ≡ last_time old.processed played

-- the event of a chain lies below the mark
abbrev pub below_mark : Mark → OrderKey → Bool
below_mark mark event = is_below mark (record { order = event; routes = [] })

-- the events of the pending sequence lie below the mark
abbrev pub HolderIsBelow : Mark → Holder → Type 0
HolderIsBelow mark h = EventsPass (below_mark mark) h.chain

-- all that a part has lies below the last delivered mark
pub record LiesBelow (mark : Mark) (held : List Holder) (inbox : List Item) : Type 0 where
  pub held_below : All (HolderIsBelow mark) held
  pub inbox_below : AllAreBelow mark inbox

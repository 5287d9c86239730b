-- What an event of one route does to the machine of its key, and to the list.
use Rattle.std.specs.Prelude.{◌≡◌, ◌≤◌, ◌<◌, ◌++◌, ℕ, List, [], Option, All, length}
use Rattle.std.specs.Option.{option_to_list}
use Rattle.eql_values.specs.declared.order.OrderKey.{OrderKey}
use Rattle.eql_values.specs.declared.item.Route.{Route}
use Rattle.eql_values.specs.Matching.{key_event_by}
use Rattle.eql_auto.specs.Machine.{Machine, slot_after, slot_at, tags_of}
use Rattle.eql_span_list.specs.declared.node.Ticket.{Ticket}
use Rattle.eql_span_list.specs.Entries.{HasDistinctTickets, HasTicket}
use Rattle.eql_part.specs.Links.{Differ, LeaveList, Listed, begun_by}

-- whatever ticket the event's sequence gets, it and those of the machine are on the list, and differ
abbrev pub Joins : OrderKey → Route → Machine Ticket → List Listed → Type 0
Joins order route machine list = (tag : Option Ticket) → HasDistinctTickets (list ++ begun_by order route tag)
    → All (HasTicket (list ++ begun_by order route tag)) (option_to_list tag ++ tags_of machine.slots) × Differ (option_to_list tag ++ tags_of machine.slots)

-- the machine's sequences moved by the event, and the list has what the event began and lacks what ceased
pub record IsPlayed (m : ℕ) (order : OrderKey) (route : Route) (old new : Machine Ticket) (list after : List Listed) : Type 0 where
  pub begun : Option Ticket
  pub span : new.span ≡ old.span
  pub stages : length new.slots ≡ length old.slots
  pub read : new.gone ≡ []
  pub sequences : (k : ℕ) → 1 ≤ k → k < m → slot_at new.slots k ≡ slot_after old.span begun (key_event_by order route) old.slots k
  pub distinct : HasDistinctTickets (list ++ begun_by order route begun)
  pub left : LeaveList (option_to_list begun ++ tags_of old.slots) (tags_of new.slots) (list ++ begun_by order route begun) after

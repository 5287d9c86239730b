-- A hub may be shared by threads, and a hand may go to one, where sources, readers and parts may.
use denote.RattleType.{RattleType}
use denote.Param.Send.{IsSend, IsSync, sendable}
use Rattle.std.proofs.Crossing.{crosses}
use Rattle.std.proofs.MapsCrossing.{crosses as maps}
use Rattle.std.specs.declared.sync.ledger.Ledger as ledger
use Rattle.eql_turn_lock.specs.declared.turned.Turned.{Ghosts}
use Rattle.eql_turn_lock.proofs.Sends.{pass_send, lock_sync}
use Rattle.eql_lock_row.specs.contracts.row.LockRow as LockRow
use Rattle.eql_lock_row.specs.contracts.row.PassRow as PassRow
use Rattle.eql_hub.specs.contracts.wrapped.TurnedPart as TurnedPart
use Rattle.eql_hub.specs.contracts.bell.Bell as Bell
use Rattle.eql_hub.specs.contracts.hub.Hub as Hub
use Rattle.eql_hub.specs.contracts.hub.Hand as Hand
use Rattle.eql_outside.specs.declared.source.Source as source
use Rattle.eql_values.specs.declared.reader.LineReader as reader
use Rattle.eql_lane.specs.contracts.lane.Lane as Lane
use Rattle.eql_hub.specs.contracts.wrapped.TurnedLane as TurnedLane
use Rattle.eql_values.specs.contracts.text.Text as Text
use Rattle.eql_values.specs.contracts.cut.Counts as Counts
use Rattle.eql_values.specs.contracts.cut.Reason as Reason
use Rattle.eql_values.specs.contracts.cut.FirstBad as FirstBad
use Rattle.eql_values.specs.contracts.order.Mark as Mark
use Rattle.eql_values.specs.contracts.order.OrderKey as OrderKey
use Rattle.eql_values.specs.contracts.value.Value as Value
use Rattle.eql_values.specs.contracts.value.Key as Key
use Rattle.eql_values.specs.contracts.item.Route as Route
use Rattle.eql_values.specs.contracts.item.Routes as Routes
use Rattle.eql_values.specs.contracts.item.Item as Item
use Rattle.eql_values.specs.contracts.item.Items as Items
use Rattle.eql_values.specs.contracts.places.Places as Places
use Rattle.eql_lane.specs.contracts.buffer.LineBuffer as LineBuffer
use Rattle.eql_lane.specs.contracts.held.Held as Held
use Rattle.eql_lane.specs.contracts.kept.Kept as Kept

pub text_send : IsSend Text.the_row
text_send = search (sendable, crosses) depth 30

pub text_sync : IsSync Text.the_row
text_sync = search (sendable, crosses) depth 30

pub value_send : IsSend Value.the_row
value_send = search (sendable, crosses, text_send) depth 30

pub value_sync : IsSync Value.the_row
value_sync = search (sendable, crosses, text_sync) depth 30

pub key_send : IsSend Key.the_row
key_send = search (sendable, crosses, text_send, value_send) depth 30

pub key_sync : IsSync Key.the_row
key_sync = search (sendable, crosses, text_sync, value_sync) depth 30

pub route_send : IsSend Route.the_row
route_send = search (sendable, crosses, text_send, value_send, key_send) depth 30

pub route_sync : IsSync Route.the_row
route_sync = search (sendable, crosses, text_sync, value_sync, key_sync) depth 30

pub routes_send : IsSend Routes.the_row
routes_send = search (sendable, crosses, text_send, value_send, key_send, route_send) depth 30

pub routes_sync : IsSync Routes.the_row
routes_sync = search (sendable, crosses, text_sync, value_sync, key_sync, route_sync) depth 30

pub item_send : IsSend Item.the_row
item_send = search (sendable, crosses, text_send, value_send, key_send, route_send, routes_send) depth 30

pub item_sync : IsSync Item.the_row
item_sync = search (sendable, crosses, text_sync, value_sync, key_sync, route_sync, routes_sync) depth 30

pub items_send : IsSend Items.the_row
items_send = search (sendable, crosses, text_send, value_send, key_send, route_send, routes_send, item_send) depth 30

pub items_sync : IsSync Items.the_row
items_sync = search (sendable, crosses, text_sync, value_sync, key_sync, route_sync, routes_sync, item_sync) depth 30

pub places_send : IsSend Places.the_row
places_send = search (sendable, crosses, text_send, value_send, key_send, route_send, routes_send, item_send, items_send) depth 30

pub places_sync : IsSync Places.the_row
places_sync = search (sendable, crosses, text_sync, value_sync, key_sync, route_sync, routes_sync, item_sync, items_sync) depth 30

pub linebuffer_send : IsSend LineBuffer.the_row
linebuffer_send = search (sendable, crosses, text_send, value_send, key_send, route_send, routes_send, item_send, items_send, places_send) depth 30

pub linebuffer_sync : IsSync LineBuffer.the_row
linebuffer_sync = search (sendable, crosses, text_sync, value_sync, key_sync, route_sync, routes_sync, item_sync, items_sync, places_sync) depth 30

pub held_send : IsSend Held.the_row
held_send = search (sendable, crosses, maps, text_send, value_send, key_send, route_send, routes_send, item_send, items_send, places_send, linebuffer_send) depth 30

pub held_sync : IsSync Held.the_row
held_sync = search (sendable, crosses, maps, text_sync, value_sync, key_sync, route_sync, routes_sync, item_sync, items_sync, places_sync, linebuffer_sync) depth 30

pub reason_send : IsSend Reason.the_row
reason_send = search (sendable) depth 30

pub firstbad_send : IsSend FirstBad.the_row
firstbad_send = search (sendable, reason_send) depth 30

pub counts_send : IsSend Counts.the_row
counts_send = search (sendable, firstbad_send) depth 30

pub orderkey_send : IsSend OrderKey.the_row
orderkey_send = search (sendable) depth 30

pub mark_send : IsSend Mark.the_row
mark_send = search (sendable, orderkey_send) depth 30

pub counts_in_send : IsSend (Counts.the_field).row
counts_in_send = search (sendable, firstbad_send) depth 30

pub kept_send : IsSend Kept.the_row
kept_send = search (sendable, counts_in_send, counts_send, held_send) depth 20

pub reason_sync : IsSync Reason.the_row
reason_sync = search (sendable) depth 30

pub firstbad_sync : IsSync FirstBad.the_row
firstbad_sync = search (sendable, reason_sync) depth 30

pub counts_sync : IsSync Counts.the_row
counts_sync = search (sendable, firstbad_sync) depth 30

pub orderkey_sync : IsSync OrderKey.the_row
orderkey_sync = search (sendable) depth 30

pub mark_sync : IsSync Mark.the_row
mark_sync = search (sendable, orderkey_sync) depth 30

pub counts_in_sync : IsSync (Counts.the_field).row
counts_in_sync = search (sendable, firstbad_sync) depth 30

pub kept_sync : IsSync Kept.the_row
kept_sync = search (sendable, counts_in_sync, counts_sync, held_sync) depth 20

pub lane_send : (S L : RattleType) (s : source.Ghosts S.Denot) (r : reader.Ghosts L.Denot) → IsSend S → IsSend L → IsSend (Lane.the_row S L s r)
lane_send S L s r a b = search (sendable, mark_send, linebuffer_send, kept_send, places_send) depth 30

pub turned_lane_send : (S L : RattleType) (s : source.Ghosts S.Denot) (r : reader.Ghosts L.Denot) → IsSend S → IsSend L → IsSend (TurnedLane.the_row S L s r)
turned_lane_send S L s r a b = search (sendable, lane_send) depth 30

pub lane_sync : (S L : RattleType) (s : source.Ghosts S.Denot) (r : reader.Ghosts L.Denot) → IsSync S → IsSync L → IsSync (Lane.the_row S L s r)
lane_sync S L s r a b = search (sendable, mark_sync, linebuffer_sync, kept_sync, places_sync) depth 30

pub turned_lane_sync : (S L : RattleType) (s : source.Ghosts S.Denot) (r : reader.Ghosts L.Denot) → IsSync S → IsSync L → IsSync (TurnedLane.the_row S L s r)
turned_lane_sync S L s r a b = search (sendable, lane_sync) depth 30

pub passes_send : (T O R : RattleType) (g : Ghosts T.Denot O.Denot R.Denot) → IsSend T → IsSend (PassRow.the_row T O R g)
passes_send T O R g t = search (sendable, crosses, pass_send) depth 20

pub locks_sync : (T O R : RattleType) (g : Ghosts T.Denot O.Denot R.Denot) → IsSend T → IsSync T → IsSync (LockRow.the_row T O R g)
locks_sync T O R g t y = search (sendable, crosses, lock_sync) depth 20

pub hand_send : (S L G : RattleType) (s : source.Ghosts S.Denot) (r : reader.Ghosts L.Denot) (l : ledger.Ghosts G.Denot) → IsSend S → IsSend L
    → IsSend (TurnedPart.the_row G l) → IsSend (Hand.the_row S L G s r l)
hand_send S L G s r l a b c = search (sendable, crosses, passes_send, turned_lane_send) depth 20

pub hub_sync : (S L G : RattleType) (s : source.Ghosts S.Denot) (r : reader.Ghosts L.Denot) (l : ledger.Ghosts G.Denot) → IsSend S → IsSend L → IsSync S → IsSync L
    → IsSend (TurnedPart.the_row G l) → IsSync (TurnedPart.the_row G l) → IsSync (Hub.the_row S L G s r l)
hub_sync S L G s r l a b y z c d = search (sendable, crosses, locks_sync, turned_lane_send, turned_lane_sync, lane_sync) depth 20

pub bell_sync : IsSync Bell.the_row
bell_sync = search (sendable, crosses) depth 20

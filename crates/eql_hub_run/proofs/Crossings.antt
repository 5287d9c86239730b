-- Which of what a run is made of may go to another thread, and which threads may share.
use mathlib.Core.List.{[], ◌∷◌}
use mir.Syntax.{Sym}
use denote.RattleType.{RattleType}
use denote.Builtin.{u32}
use denote.Struct.Tuple.{TupleAt}
use denote.Param.Send.{IsSend, IsSync, part_keyless, sendable, view_send}
use denote.Param.SendFields.{declared_send}
use Rattle.std.proofs.Crossing.{Vec-send, crosses}
use Rattle.std.proofs.MapsCrossing.{crosses as maps}
use Rattle.std.specs.declared.sync.ledger.Ledger as ledger
use Rattle.std.specs.contracts.sync.ledger.Share as Share
use Rattle.std.proofs.sync.ledger.Share.TheSendSync.{the_send as share_send}
use Rattle.std.specs.contracts.alloc.Global as Heap
use Rattle.std.specs.contracts.impls.GlobalAllocator.TheImpl as heap
use Rattle.std.specs.contracts.option.Option as Option
use Rattle.std.specs.contracts.vec.Vec as Vec
use Rattle.eql_values.specs.declared.reader.LineReader as reader
use Rattle.eql_values.specs.contracts.found.Chain as Chain
use Rattle.eql_values.specs.contracts.found.Match as Match
use Rattle.eql_outside.specs.declared.source.Source as source
use Rattle.eql_auto.specs.contracts.count.Count as Count
use Rattle.eql_auto.specs.contracts.steps.Steps as Steps
use Rattle.eql_auto.specs.contracts.table.Pending as Pending
use Rattle.eql_auto.specs.contracts.table.SlotTable as SlotTable
use Rattle.eql_auto.specs.contracts.auto.Auto as Auto
use Rattle.eql_auto.proofs.count.Count.TheSendSync.{the_send as count_send}
use Rattle.eql_span_list.specs.contracts.links.Links as Links
use Rattle.eql_span_list.specs.contracts.list.SpanList as SpanList
use Rattle.eql_span_list.proofs.store.NodeStore.TheSendSync.{the_send as store_send, the_sync as store_sync}
use Rattle.eql_span_list.proofs.node.Ticket.TheSendSync.{the_send as ticket_send, the_sync as ticket_sync}
use Rattle.eql_part.specs.contracts.machine.KeyMachine as KeyMachine
use Rattle.eql_part.specs.contracts.table.Room as Room
use Rattle.eql_part.specs.contracts.table.KeyTable as KeyTable
use Rattle.eql_part.specs.contracts.listing.Start as Start
use Rattle.eql_part.specs.contracts.keys.Keys as Keys
use Rattle.eql_parts.specs.contracts.waiting.Waiting as Waiting
use Rattle.eql_parts.specs.contracts.part.Part as Part
use Rattle.eql_hub.specs.contracts.step.HandFault as HandFault
use Rattle.eql_hub.specs.contracts.wrapped.TurnedPart as TurnedPart
use Rattle.eql_hub.specs.contracts.hub.Hand as Hand
use Rattle.eql_hub.specs.contracts.hub.Hub as Hub
use Rattle.eql_hub.proofs.Sends.{hand_send, hub_sync, item_send, item_sync, key_send, key_sync}
use Rattle.eql_hub_run.specs.contracts.workers.Worker as Worker

-- ---- values
chain_send : IsSend Chain.the_row
chain_send = search (sendable, crosses) depth 30

chain_sync : IsSync Chain.the_row
chain_sync = search (sendable, crosses) depth 30

match_send : IsSend Match.the_row
match_send = search (sendable, crosses, key_send, chain_send) depth 30

match_sync : IsSync Match.the_row
match_sync = search (sendable, crosses, key_sync, chain_sync) depth 30

-- ---- a count of probes, which nobody reads
pub count_sync : IsSync Count.the_row
count_sync = record { shared = λ d b o κ q. part_keyless Count.the_row count_send q d b o }

pub share_sync : (G : RattleType) (l : ledger.Ghosts G.Denot) → IsSync (Share.the_row G l)
share_sync G l = record { shared = λ d b o κ q. part_keyless (Share.the_row G l) (share_send G l) q d b o }

pub steps_send : (G : RattleType) (l : ledger.Ghosts G.Denot) → IsSend (Steps.the_row G l)
steps_send G l = search (sendable, crosses, share_send, count_send) depth 20

pub steps_sync : (G : RattleType) (l : ledger.Ghosts G.Denot) → IsSync (Steps.the_row G l)
steps_sync G l = search (sendable, crosses, share_sync, count_sync) depth 20

-- ---- the list of first timestamps
start_send : IsSend Start.the_row
start_send = search (sendable, key_send) depth 30

start_sync : IsSync Start.the_row
start_sync = search (sendable, key_sync) depth 30

links_send : (T : RattleType) → IsSend T → IsSend (Links.the_field T).row
links_send T s = search (sendable, store_send, ticket_send) depth 30

links_sync : (T : RattleType) → IsSync T → IsSync (Links.the_field T).row
links_sync T s = search (sendable, store_sync, ticket_sync) depth 30

list_send : (T : RattleType) → IsSend T → IsSend (SpanList.the_row T)
list_send T s = search (sendable, crosses, links_send) depth 30

list_sync : (T : RattleType) → IsSync T → IsSync (SpanList.the_row T)
list_sync T s = search (sendable, crosses, links_sync) depth 30

-- ---- machines
pending_send : (T : RattleType) → IsSend T → IsSend (Pending.the_row T)
pending_send T s = search (sendable, crosses) depth 30

pending_sync : (T : RattleType) → IsSync T → IsSync (Pending.the_row T)
pending_sync T s = search (sendable, crosses) depth 30

slots_send : (T G : RattleType) (l : ledger.Ghosts G.Denot) → IsSend T → IsSend (SlotTable.the_row T G l)
slots_send T G l s = search (sendable, crosses, pending_send) depth 30

slots_sync : (T G : RattleType) (l : ledger.Ghosts G.Denot) → IsSync T → IsSync (SlotTable.the_row T G l)
slots_sync T G l s = search (sendable, crosses, pending_sync) depth 30

auto_send : (T G : RattleType) (l : ledger.Ghosts G.Denot) → IsSend T → IsSend (Auto.the_row T G l)
auto_send T G l s = search (sendable, crosses, slots_send) depth 30

auto_sync : (T G : RattleType) (l : ledger.Ghosts G.Denot) → IsSync T → IsSync (Auto.the_row T G l)
auto_sync T G l s = search (sendable, crosses, slots_sync) depth 30

module _ (G : RattleType) (l : ledger.Ghosts G.Denot) where
  machine_send : IsSend (KeyMachine.the_row G l)
  machine_send = search (sendable, auto_send, ticket_send) depth 30

  machine_sync : IsSync (KeyMachine.the_row G l)
  machine_sync = search (sendable, auto_sync, ticket_sync) depth 30

  room_send : IsSend (Room.the_row G l)
  room_send = search (sendable, key_send, machine_send) depth 30

  room_sync : IsSync (Room.the_row G l)
  room_sync = search (sendable, key_sync, machine_sync) depth 30

  table_send : IsSend (KeyTable.the_field G l).row
  table_send = search (sendable, crosses, maps, key_send, room_send) depth 30

  table_sync : IsSync (KeyTable.the_field G l).row
  table_sync = search (sendable, crosses, maps, key_sync, room_sync) depth 30

  keys_send : IsSend (Keys.the_row G l)
  keys_send = search (sendable, crosses, table_send, start_send, list_send) depth 30

  keys_sync : IsSync (Keys.the_row G l)
  keys_sync = search (sendable, crosses, table_sync, start_sync, list_sync) depth 30

  waiting_send : IsSend (Waiting.the_row G l)
  waiting_send = search (sendable, crosses, keys_send, item_send, match_send) depth 30

  waiting_sync : IsSync (Waiting.the_row G l)
  waiting_sync = search (sendable, crosses, keys_sync, item_sync, match_sync) depth 30

  part_send : IsSend (Part.the_row G l)
  part_send = search (sendable, crosses, waiting_send) depth 30

  part_sync : IsSync (Part.the_row G l)
  part_sync = search (sendable, crosses, waiting_sync) depth 30

  pub turned_part_send : IsSend (TurnedPart.the_row G l)
  turned_part_send = search (sendable, part_send, steps_send) depth 30

  pub turned_part_sync : IsSync (TurnedPart.the_row G l)
  turned_part_sync = search (sendable, part_sync, steps_sync) depth 30

fault_send : IsSend HandFault.the_row
fault_send = search sendable depth 30

option_send : (T : RattleType) → IsSend T → IsSend (Option.the_row T)
option_send T t = search sendable depth 30

met_send : IsSend (Option.the_row HandFault.the_row)
met_send = option_send HandFault.the_row fault_send

-- ---- a hub is shared by all hands, and a worker goes to a thread
module _ (S L G : RattleType) (s : source.Ghosts S.Denot) (r : reader.Ghosts L.Denot) (l : ledger.Ghosts G.Denot) where
  seat_send : IsSend S → IsSend L → IsSend (Option.the_row (Hand.the_row S L G s r l))
  seat_send a b = option_send (Hand.the_row S L G s r l) (hand_send S L G s r l a b (turned_part_send G l))

  inside_send : IsSend S → IsSend L → IsSend (Worker.TheInside.the_row S L G s r l)
  inside_send a b = declared_send (Worker.TheInside.the_type S L G s r l) (seat_send a b, (search sendable, (met_send, tt)))

  pub worker_send : IsSend S → IsSend L → IsSend (Worker.the_row S L G s r l)
  worker_send a b = view_send (Worker.TheInside.the_row S L G s r l) _ _ _ _ (inside_send a b)

  pub hub_shared : IsSend S → IsSend L → IsSync S → IsSync L → IsSync (Hub.the_row S L G s r l)
  hub_shared a b y z = hub_sync S L G s r l a b y z (turned_part_send G l) (turned_part_sync G l)

-- ---- what the closures hold, and what they hand back
pub five_sync : (ν : Sym) (A B C D E : RattleType) → IsSync A → IsSync B → IsSync C → IsSync D → IsSync E → IsSync (TupleAt ν (A ∷ B ∷ C ∷ D ∷ E ∷ []))
five_sync ν A B C D E a b c d e = search sendable depth 20

pub six_send : (ν : Sym) (A B C D E F : RattleType) → IsSend A → IsSend B → IsSend C → IsSend D → IsSend E → IsSend F
    → IsSend (TupleAt ν (A ∷ B ∷ C ∷ D ∷ E ∷ F ∷ []))
six_send ν A B C D E F a b c d e f = search sendable depth 24

pub number_sync : IsSync u32
number_sync = search sendable depth 20

pub number_send : IsSend u32
number_send = search sendable depth 20

module _ (S L G : RattleType) (s : source.Ghosts S.Denot) (r : reader.Ghosts L.Denot) (l : ledger.Ghosts G.Denot) (a : IsSend S) (b : IsSend L) where
  pub workers_send : IsSend (Vec.the_row (Worker.the_row S L G s r l) Heap.the_row heap.ghosts)
  workers_send = Vec-send (Worker.the_row S L G s r l) (worker_send S L G s r l a b)

  pub crew_send : IsSend (Option.the_row (Vec.the_row (Worker.the_row S L G s r l) Heap.the_row heap.ghosts))
  crew_send = option_send (Vec.the_row (Worker.the_row S L G s r l) Heap.the_row heap.ghosts) workers_send

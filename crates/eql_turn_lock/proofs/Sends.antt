-- A lock and its passes may cross threads where the value may.
use denote.RattleType.{RattleType}
use denote.Param.Send.{IsSend, IsSync, Frees, sendable, part_keyless, struct_send, struct_sync}
use mathlib.Core.List.{[], ◌∷◌}
use mir.Syntax.{Sym}
use denote.Struct.Tuple.{TupleAt}
use denote.Struct.Struct.{Struct}
use denote.Struct.Declared.{shape}
use Rattle.std.proofs.Crossing.{crosses, frees, send as heap_send, sync as heap_sync}
use Rattle.atomic_table.proofs.send_lease.SendLease.TheSendSync.{the_send as lease_send, the_sync as lease_sync}
use Rattle.atomic_table.specs.contracts.owned.Table as Table
use Rattle.atomic_table.specs.contracts.shared.Seat as Seat
use Rattle.atomic_table.specs.declared.shared.TableRule as rule
use Rattle.std.specs.declared.alloc.Allocator as alloc
use Rattle.atomic_table.proofs.shared.Seat.TheSendSync.{the_send as seat_send}
use Rattle.atomic_table.proofs.shared.Shared.TheSendSync.{the_send as shared_send, the_sync as shared_sync}
use Rattle.std.specs.contracts.alloc.Global as Heap
use Rattle.std.specs.contracts.impls.GlobalAllocator.TheImpl as heap
use Rattle.std.specs.contracts.snapshot.Snapshot as Snapshot
use Rattle.std.specs.contracts.sync.atomic.AtomicU64 as AtomicU64
use Rattle.eql_turn_lock.specs.contracts.rule.OneHistory as OneHistory
use Rattle.eql_turn_lock.specs.contracts.rule.OneHistoryTableRuleSlotOpReplyViewOpReplySnapshot.TheImpl as TheRule
use Rattle.eql_turn_lock.specs.contracts.view.View as View
use Rattle.eql_turn_lock.specs.contracts.slot.LastCall as LastCall
use Rattle.eql_turn_lock.specs.contracts.slot.Slot as Slot
use Rattle.eql_turn_lock.specs.contracts.lock.Pass as Pass
use Rattle.eql_turn_lock.specs.contracts.lock.TurnLock as TurnLock
use Rattle.eql_turn_lock.specs.declared.turned.Turned.{Ghosts}

pub last_send : (O R : RattleType) → IsSend (LastCall.the_row O R)
last_send O R = search sendable depth 20

pub slot_send : (T O R : RattleType) → IsSend T → IsSend (Slot.the_row T O R)
slot_send T O R t = search (sendable, last_send) depth 20

pub pass_send : (T O R : RattleType) (g : Ghosts T.Denot O.Denot R.Denot) → IsSend T → IsSend (Pass.the_row T O R g)
pass_send T O R g t = search (sendable, seat_send, slot_send) depth 20

seat_sync : (S V : RattleType) → IsSend S → IsSync (Seat.the_row S V)
seat_sync S V s = record { shared = λ d b o ν q. part_keyless (Seat.the_row S V) (seat_send S V s) q d b o }

pub pass_sync : (T O R : RattleType) (g : Ghosts T.Denot O.Denot R.Denot) → IsSend T → IsSync (Pass.the_row T O R g)
pass_sync T O R g t = search (sendable, seat_sync, slot_send) depth 20

pub table_sync : (S V K P A : RattleType) (g : rule.Ghosts P.Denot S.Denot V.Denot K.Denot) (h : alloc.Ghosts A.Denot) → IsSend S → IsSend A → IsSync A → Frees h h.dealloc_token → IsSync (Table.the_field S V K P A g h).row
table_sync S V K P A g h s a b f = search (sendable, lease_sync, shared_sync) depth 30

pub table_send : (S V K P A : RattleType) (g : rule.Ghosts P.Denot S.Denot V.Denot K.Denot) (h : alloc.Ghosts A.Denot) → IsSend S → IsSend A → Frees h h.dealloc_token → IsSend (Table.the_field S V K P A g h).row
table_send S V K P A g h s a f = search (sendable, lease_send, shared_send) depth 30

atomic_send : IsSend AtomicU64.the_row
atomic_send = search (sendable, crosses) depth 20

atomic_sync : IsSync AtomicU64.the_row
atomic_sync = search (sendable, crosses) depth 20

module _ (T O R : RattleType) (g : Ghosts T.Denot O.Denot R.Denot) where
  pub lock_sync : IsSend T → IsSync (TurnLock.the_row T O R g)
  lock_sync t = let table = table_sync (Slot.the_row T O R) (View.the_row T O R) (Snapshot.the_row T) OneHistory.the_row Heap.the_row (TheRule.ghosts T O R g TheRule.no_dict) heap.ghosts (slot_send T O R t) heap_send heap_sync frees in let s : IsSync (Struct (shape (TurnLock.the_type T O R g))) = struct_sync (shape (TurnLock.the_type T O R g)) (table, (atomic_sync, tt)) in record { shared = λ d. s.shared ((TurnLock.the_type T O R g).to d) }

  pub lock_send : IsSend T → IsSend (TurnLock.the_row T O R g)
  lock_send t = let table = table_send (Slot.the_row T O R) (View.the_row T O R) (Snapshot.the_row T) OneHistory.the_row Heap.the_row (TheRule.ghosts T O R g TheRule.no_dict) heap.ghosts (slot_send T O R t) heap_send frees in let s : IsSend (Struct (shape (TurnLock.the_type T O R g))) = struct_send (shape (TurnLock.the_type T O R g)) (table, (atomic_send, tt)) in search (sendable, s) depth 20

-- what a closure captures: two values
pub two_send : (ν : Sym) (A B : RattleType) → IsSend A → IsSend B → IsSend (TupleAt ν (A ∷ B ∷ []))
two_send ν A B a b = search sendable depth 20

-- The pending sequences of all keys, as contracts see them.
use Rattle.std.specs.Prelude.{◌≡◌, ◌+◌, ◌-◌, ◌≤◌, ℕ, suc, ℤ, if◌then◌else◌, List, [], ◌∷◌, Option, None, Some, All, map, length, IsTrue, IfSome, false}
use Rattle.std.specs.Option.{IsSomeAnd}
use Rattle.std.specs.List.{flat_map}
use Rattle.eql_values.specs.declared.order.OrderKey.{OrderKey}
use Rattle.eql_values.specs.declared.value.Value.{Value}
use Rattle.eql_values.specs.declared.item.Route.{Route}
use Rattle.eql_values.specs.declared.found.Holder.{Holder}
use Rattle.std.specs.Map.{lookup, values_of}
use Rattle.std.specs.BTreeMap.{is_at}
use Rattle.eql_values.specs.Masks.{has_after}
use Rattle.eql_values.specs.Orders.{key_cmp, key_eq}
use Rattle.eql_laws.specs.Slots.{Slots}
use Rattle.eql_auto.specs.Machine.{Machine, Sequence, AllAreBefore, stages_in, stage_chains, chains_of, slot_at, tags_of}
use Rattle.eql_part.specs.Links.{Differ}

-- how many stages a sequence goes through, the span, and the pending sequences by key and stage
pub record Pendings : Type 0 where
  pub stages : ℕ
  pub span : Option ℤ
  pub holders : List Holder

-- the event comes after all events of the pending sequence
abbrev pub ComesAfterHolder : OrderKey → Holder → Type 0
ComesAfterHolder event h = AllAreBefore event h.chain

-- the event comes after all events of these pending sequences
abbrev pub ComesAfterAll : OrderKey → List Holder → Type 0
ComesAfterAll event = All (ComesAfterHolder event)

-- the probes that a route may take: one for each stage that its mask has, and one for each stage before the last where it ends its key
abbrev pub probes_of : ℕ → Route → ℕ
probes_of m route = stages_in route.mask m + (if route.until then m - 1 else 0)

-- the probes that routes may take
abbrev pub probes_of_all : ℕ → List Route → ℕ
probes_of_all m [] = 0
probes_of_all m (route ∷ routes) = probes_of m route + probes_of_all m routes

-- a machine's pending sequences, with its key
abbrev pub holders_of : {T : Type 0} → List Value × Machine T → List Holder
holders_of e = map (λ (s : ℕ × List OrderKey). record { key = e.0; stage = s.0; chain = s.1 }) (stage_chains e.1.slots)

-- the pending sequences of machines by their keys
abbrev pub holders_in : {T : Type 0} → List (List Value × Machine T) → List Holder
holders_in machines = flat_map holders_of machines

-- a machine of these stages and this span, whose tags differ and were all read where their sequences ceased, and whose chains have an event
pub record IsOf {T : Type 0} (m : ℕ) (span : Option ℤ) (machine : Machine T) : Type 0 where
  pub span_is : machine.span ≡ span
  pub stages_are : suc (length machine.slots) ≡ m
  pub read : machine.gone ≡ []
  pub differ : Differ (tags_of machine.slots)
  pub filled : (k : ℕ) (s : Sequence T) → slot_at machine.slots k ≡ Some s → 1 ≤ length s.0

-- each machine is of these stages and this span
abbrev pub AreOf : {T : Type 0} → ℕ → Option ℤ → List (List Value × Machine T) → Type 0
AreOf m span machines = All (IsOf m span) (values_of machines)

-- none of these routes has the key
abbrev pub HaveOtherKeys : List Route → List Value → Type 0
HaveOtherKeys routes key = All (λ (route : Route). key_eq route.key key ≡ false) routes

module _ {T : Type 0} where
  -- the chains of a machine's slots, and nothing where there is no machine
  abbrev pub slots_of : Option (Machine T) → Slots
  slots_of None k = None
  slots_of (Some machine) k = chains_of machine.slots k

  -- the machine of a key
  abbrev pub machine_of : List (List Value × Machine T) → List Value → Option (Machine T)
  machine_of machines key = lookup (is_at (key_cmp key)) machines

  -- the chains of a key
  abbrev pub slots_in : List (List Value × Machine T) → List Value → Slots
  slots_in machines key = slots_of (machine_of machines key)

  -- the sequences of a machine's slots, and nothing where there is no machine
  abbrev pub sequence_of : Option (Machine T) → ℕ → Option (Sequence T)
  sequence_of None k = None
  sequence_of (Some machine) k = slot_at machine.slots k

  -- the sequences of all keys
  abbrev pub sequences_in : List (List Value × Machine T) → List Value → ℕ → Option (Sequence T)
  sequences_in machines key = sequence_of (machine_of machines key)

  -- the key has a machine, which has room for one more chain
  abbrev pub IsReadyIn : List (List Value × Machine T) → List Value → Type 0
  IsReadyIn machines key = IsSomeAnd (machine_of machines key) (λ machine. IsTrue machine.is_ready)

  -- the event comes after all events of the pending sequences of a key
  abbrev pub IsLaterAt : OrderKey → List (List Value × Machine T) → List Value → Type 0
  IsLaterAt order machines key = (k : ℕ) → IfSome (slots_in machines key k) (AllAreBefore order)

  -- the keys but this one have the machines that they had
  abbrev pub KeepsOtherKeys : List Value → List (List Value × Machine T) → List (List Value × Machine T) → Type 0
  KeepsOtherKeys key old new = (q : List Value) → key_eq key q ≡ false → machine_of new q ≡ machine_of old q

  -- the machine of a key, where there is one, has a pending sequence
  abbrev pub IsBusyAt : List (List Value × Machine T) → List Value → Type 0
  IsBusyAt machines key = IfSome (machine_of machines key) (λ machine. 1 ≤ length (tags_of machine.slots))

  -- the machine of a key, where there is one, has no sequence
  abbrev pub IsEmptyAt : List (List Value × Machine T) → List Value → Type 0
  IsEmptyAt machines key = IfSome (machine_of machines key) (λ machine. tags_of machine.slots ≡ [])

  -- the route begins no sequence, and its key has no machine
  abbrev pub IsIdle : List (List Value × Machine T) → Route → Type 0
  IsIdle machines route = (has_after 0 route.mask ≡ false) × (machine_of machines route.key ≡ None)

  -- each machine has a pending sequence
  abbrev pub AreBusy : List (List Value × Machine T) → Type 0
  AreBusy machines = (key : List Value) → IsBusyAt machines key

  -- each machine has a pending sequence, but maybe those of these routes' keys
  abbrev pub AreBusyBut : List Route → List (List Value × Machine T) → Type 0
  AreBusyBut routes machines = (key : List Value) → HaveOtherKeys routes key → IsBusyAt machines key

  -- the keys that none of these routes has have the machines that they had
  abbrev pub KeepsOtherRoutes : List Route → List (List Value × Machine T) → List (List Value × Machine T) → Type 0
  KeepsOtherRoutes routes old new = (key : List Value) → HaveOtherKeys routes key → machine_of new key ≡ machine_of old key

  -- all sequences are as they were
  abbrev pub KeepsSequences : List (List Value × Machine T) → List (List Value × Machine T) → Type 0
  KeepsSequences old new = (q : List Value) (k : ℕ) → sequences_in new q k ≡ sequences_in old q k

  -- a key that had a machine with room for one more chain still has
  abbrev pub KeepsReady : List (List Value × Machine T) → List (List Value × Machine T) → Type 0
  KeepsReady old new = (q : List Value) → IsReadyIn old q → IsReadyIn new q

  -- the key of each route has a machine with room for one more chain
  abbrev pub AreReadyFor : List Route → List (List Value × Machine T) → Type 0
  AreReadyFor routes machines = All (λ (route : Route). IsReadyIn machines route.key) routes

-- How the machines of the keys and the list of first timestamps name the same sequences.
use Rattle.std.specs.Prelude.{◌≡◌, ◌≢◌, ◌⊎◌, ◌<◌, ◌++◌, ℕ, ℤ, pos, ◌-ℤ◌, ◌≤ℤ◌, Bool, true, false, List, [], ◌∷◌, Option, None, Some, All, map, length, slice_index_or, IsPermutation}
use Rattle.std.specs.List.{Contains}
use Rattle.std.specs.Int.Signed.{le_z}
use Rattle.std.specs.Option.{option_map, option_to_list}
use Rattle.eql_values.specs.declared.order.OrderKey.{OrderKey}
use Rattle.eql_values.specs.declared.value.Value.{Value}
use Rattle.eql_values.specs.declared.found.Holder.{Holder}
use Rattle.eql_values.specs.declared.item.Route.{Route}
use Rattle.eql_values.specs.Matching.{Slot}
use Rattle.eql_auto.specs.Machine.{Sequence}
use Rattle.eql_span_list.specs.declared.node.Ticket.{Ticket}
use Rattle.eql_span_list.specs.Entries.{Names}
use Rattle.eql_part.specs.declared.listing.Start.{Start}

-- an entry of the list: a ticket, and the first timestamp and the key of the sequence that it names
abbrev pub Listed : Type 0
Listed = Ticket × Start

-- the pending sequence of each key and stage, where there is one
abbrev pub Sequences : Type 0
Sequences = List Value → ℕ → Option (Sequence Ticket)

-- the timestamp of the first event of a chain
abbrev pub first_time : List OrderKey → ℤ
first_time [] = pos 0
first_time (first ∷ rest) = first.ts

-- the time from a first timestamp is at most the span
abbrev pub is_early : Option ℤ → ℤ → ℤ → Bool
is_early None first now = true
is_early (Some span) first now = le_z (now -ℤ first) span

-- no two of these are the same
abbrev pub Differ : {X : Type 0} → List X → Type 0
Differ {X} xs = (i j : ℕ) (d : X) → i < length xs → j < length xs → slice_index_or xs i d ≡ slice_index_or xs j d → i ≡ j

-- what the list says of a sequence
abbrev pub start_of : List Value → Sequence Ticket → Start
start_of key s = record { time = first_time s.0; key = key }

-- the ticket is that of a pending sequence of this key and first timestamp
abbrev pub IsPending : Sequences → Ticket → Start → Type 0
IsPending at t start = (k : ℕ) × (s : Sequence Ticket) × (at start.key k ≡ Some s) × (s.1 ≡ t) × (start_of start.key s ≡ start)

-- the first timestamps ascend, some of them maybe equal
abbrev pub TimesAscend : List Listed → Type 0
TimesAscend [] = Unit {0}
TimesAscend (e ∷ es) = All (λ (f : Listed). e.1.time ≤ℤ f.1.time) es × TimesAscend es

-- the list names the pending sequences, and besides them those that are begun and in no machine yet, each once; and the first timestamps ascend
pub record IsLinked (begun : List Listed) (at : Sequences) (list : List Listed) : Type 0 where
  pub pending_listed : (key : List Value) (k : ℕ) (s : Sequence Ticket) → at key k ≡ Some s → Names list s.1 (start_of key s)
  pub begun_listed : All (λ (e : Listed). Names list e.0 e.1) begun
  pub no_other : (t : Ticket) (start : Start) → Names list t start → IsPending at t start ⊎ Contains begun (t, start)
  pub apart : (key : List Value) (k : ℕ) (s : Sequence Ticket) → at key k ≡ Some s → All (λ (e : Listed). e.0 ≢ s.1) begun
  pub begun_differ : Differ (map (λ (e : Listed). e.0) begun)
  pub ascends : TimesAscend list

-- the list is the old one without the entries of these tickets
pub record IsWithout (old : List Listed) (gone : List Ticket) (new : List Listed) : Type 0 where
  pub was : (t : Ticket) (start : Start) → Names new t start → Names old t start
  pub left : (t : Ticket) (start : Start) → Names new t start → Contains gone t → ⊥
  pub stays : (t : Ticket) (start : Start) → Names old t start → (Contains gone t → ⊥) → Names new t start
  pub order : TimesAscend old → TimesAscend new

-- of the tickets before, those that aren't there now have left the list
abbrev pub LeaveList : List Ticket → List Ticket → List Listed → List Listed → Type 0
LeaveList before now old new = (gone : List Ticket) × IsPermutation (gone ++ now) before × IsWithout old gone new

-- what one of these tickets named
abbrev pub IsOneOf : List Ticket → List Listed → Start → Type 0
IsOneOf gone list start = (t : Ticket) × Contains gone t × Names list t start

-- what an event puts on the list for a route of it, where it begins a sequence there
abbrev pub begun_by : OrderKey → Route → Option Ticket → List Listed
begun_by order route tag = option_to_list (option_map (λ (t : Ticket). (t, record { time = order.ts; key = route.key })) tag)

-- the list begins with a sequence from whose first timestamp the time is more than the span
abbrev pub BeginsStale : Option ℤ → ℤ → List Listed → Type 0
BeginsStale span now list = (t : Ticket) × (start : Start) × (rest : List Listed) × (list ≡ (t, start) ∷ rest) × (is_early span start.time now ≡ false)

-- the key and the stage of a pending sequence
abbrev pub slot_of : Holder → Slot
slot_of h = (h.key, h.stage)

-- the first timestamps of pending sequences ascend, some of them maybe equal
abbrev pub StartsRise : List Holder → Type 0
StartsRise [] = Unit {0}
StartsRise (h ∷ holders) = All (λ (later : Holder). first_time h.chain ≤ℤ first_time later.chain) holders × StartsRise holders

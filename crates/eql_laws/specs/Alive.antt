-- Pending sequences that can still match by their span.
use Rattle.std.specs.Prelude.{◌≡◌, if◌then◌else◌, List, [], ◌∷◌, Option, Some, None, ℕ, ℤ, ◌≤ℤ◌, pos, filter, map, IsTrue}
use Rattle.std.specs.FinMap.Entries.{is_sorted}
use Rattle.eql_values.specs.Matching.{slot_cmp, opening_of, matches, after}
use Rattle.eql_values.specs.declared.item.Item.{Item}
use Rattle.eql_values.specs.declared.found.Holder.{Holder}
use Rattle.eql_values.specs.Chains.{in_time}
use Rattle.eql_values.specs.declared.order.OrderKey.{OrderKey}
use Rattle.eql_values.specs.declared.value.Value.{Value}
use Rattle.eql_values.specs.declared.item.KeyEvent.{KeyEvent}
use Rattle.eql_laws.specs.Slots.{Slots, slots_after}
use Rattle.eql_laws.specs.Merging.{by_slot}

-- a span is no negative time
abbrev pub IsSpan : Option ℤ → Type 0
IsSpan None = Unit {0}
IsSpan (Some span) = pos 0 ≤ℤ span

-- each item comes at this time or later
abbrev pub ItemsComeFrom : ℤ → List Item → Type 0
ItemsComeFrom t [] = Unit {0}
ItemsComeFrom t (item ∷ items) = (t ≤ℤ item.order.ts) × ItemsComeFrom t items

-- the holders that are alive at a time: the time from their first event is at most the span
abbrev pub alive_holders : Option ℤ → ℤ → List Holder → List Holder
alive_holders span t = filter (λ (h : Holder). in_time span h.chain t)

-- a pending sequence where it is alive at a time
abbrev pub alive_at : Option ℤ → ℤ → Option (List OrderKey) → Option (List OrderKey)
alive_at span t None = None
alive_at span t (Some chain) = if in_time span chain t then Some chain else None

-- the holders ascend strictly by key and stage
abbrev pub HoldersAreInOrder : List Holder → Type 0
HoldersAreInOrder holders = IsTrue (is_sorted slot_cmp (map by_slot holders))

-- the dead at a time may be left out before items from that time on: no match changes
abbrev pub DeadMakeNoMatch : Type 0
DeadMakeNoMatch = (m : ℕ) (span : Option ℤ) (t : ℤ) (holders : List Holder) (items : List Item)
    → IsSpan span → HoldersAreInOrder holders → ItemsComeFrom t items
    → matches m span (alive_holders span t holders) items ≡ matches m span holders items

-- and those that are alive then are the same after the items
abbrev pub AliveAreSameAfter : Type 0
AliveAreSameAfter = (m : ℕ) (span : Option ℤ) (t : ℤ) (holders : List Holder) (items : List Item)
    → IsSpan span → HoldersAreInOrder holders → ItemsComeFrom t items
    → after m span (alive_holders span t holders) items ≡ alive_holders span t (after m span holders items)

-- a look-up in the living of holders in order finds what a look-up in all finds, where it is alive
abbrev pub AliveLooksUp : Type 0
AliveLooksUp = (span : Option ℤ) (t : ℤ) (holders : List Holder) → HoldersAreInOrder holders → (key : List Value) (stage : ℕ)
    → opening_of (alive_holders span t holders) key stage ≡ alive_at span t (opening_of holders key stage)

-- leaving out the dead before an item that comes from that time on is leaving them out after it
abbrev pub SlotsLeaveOutDead : Type 0
SlotsLeaveOutDead = (span : Option ℤ) (t : ℤ) (slots : Slots) (item : KeyEvent) (k : ℕ) → IsSpan span → t ≤ℤ item.order.ts
    → slots_after span (λ j. alive_at span t (slots j)) item k ≡ alive_at span t (slots_after span slots item k)

-- who is dead stays dead
abbrev pub DeadStayDead : Type 0
DeadStayDead = (span : Option ℤ) (t later : ℤ) (holders : List Holder) → t ≤ℤ later
    → alive_holders span later (alive_holders span t holders) ≡ alive_holders span later holders

-- what is pending after items stands in order
abbrev pub AfterIsInOrder : Type 0
AfterIsInOrder = (m : ℕ) (span : Option ℤ) (holders : List Holder) (items : List Item) → HoldersAreInOrder (after m span holders items)

-- the living of holders in order stand in order
abbrev pub AliveAreInOrder : Type 0
AliveAreInOrder = (span : Option ℤ) (t : ℤ) (holders : List Holder) → HoldersAreInOrder holders → HoldersAreInOrder (alive_holders span t holders)

-- holders that differ by dead ones alone find the same from then on, and go on differing by dead ones alone
abbrev pub DeadChangeNothing : Type 0
DeadChangeNothing = (m : ℕ) (span : Option ℤ) (t : ℤ) (a b : List Holder) (items : List Item)
    → IsSpan span → HoldersAreInOrder a → HoldersAreInOrder b → alive_holders span t a ≡ alive_holders span t b → ItemsComeFrom t items
    → (matches m span a items ≡ matches m span b items) × (alive_holders span t (after m span a items) ≡ alive_holders span t (after m span b items))

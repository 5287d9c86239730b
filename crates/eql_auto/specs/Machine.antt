-- The machine of one key, as contracts see it.
use Rattle.std.specs.Prelude.{◌≡◌, ◌<◌, ◌≤◌, ◌+◌, ℕ, zero, suc, ℤ, Bool, if◌then◌else◌, not, ◌&&◌, ◌||◌, List, [], ◌∷◌, ◌++◌, Option, Some, None, All, IfSome, slice_index_or, length}
use Rattle.std.specs.List.{filter_map}
use Rattle.std.specs.Option.{option_map}
use Rattle.std.specs.declared.cmp.Ordering.TheVariants.{Less}
use Rattle.eql_values.specs.declared.order.OrderKey.{OrderKey}
use Rattle.eql_values.specs.declared.item.KeyEvent.{KeyEvent}
use Rattle.eql_values.specs.declared.item.Mask.{Mask}
use Rattle.eql_values.specs.Chains.{fits_after, in_time, chain, holder}
use Rattle.eql_laws.specs.Slots.{Slots}
use Rattle.eql_values.specs.Masks.{has_after}
use Rattle.eql_values.specs.Matching.{stages_to}
use Rattle.eql_values.specs.OrderKeys.{order_cmp}
use Rattle.eql_values.specs.Ordered.{found_or}

-- a pending sequence: its events, and its tag
abbrev pub Sequence : Type 0 → Type 0
Sequence T = List OrderKey × T

-- all events of the chain come before this one
abbrev pub AllAreBefore : OrderKey → List OrderKey → Type 0
AllAreBefore event chain = All (λ (before : OrderKey). order_cmp before event ≡ Less) chain

-- how many of the stages from 1 to n the mask has
abbrev pub stages_in : Mask → ℕ → ℕ
stages_in mask zero = 0
stages_in mask (suc n) = stages_in mask n + (if has_after n mask then 1 else 0)

-- the machine: the span, the slots from stage 1 to the one before the last, the tags of sequences that ceased and weren't read yet, and whether
-- it has room for one more chain
pub record Machine (T : Type 0) : Type 0 where
  pub span : Option ℤ
  pub slots : List (Option (Sequence T))
  pub gone : List T
  pub is_ready : Bool

-- what an event says to the key
abbrev pub key_event_of : OrderKey → Mask → Bool → KeyEvent
key_event_of order mask until = record { order = order; mask = mask; until = until }

-- the machine has a slot for each stage but the last
abbrev pub stages : {T : Type 0} → Machine T → ℕ
stages machine = suc (length machine.slots)

module _ {T : Type 0} where
  -- what the slot of a stage has
  abbrev pub slot_at : List (Option (Sequence T)) → ℕ → Option (Sequence T)
  slot_at slots zero = None
  slot_at slots (suc k) = slice_index_or slots k None

  -- the tags of the pending sequences
  abbrev pub tags_of : List (Option (Sequence T)) → List T
  tags_of [] = []
  tags_of (None ∷ slots) = tags_of slots
  tags_of (Some s ∷ slots) = s.1 ∷ tags_of slots

  -- the event comes after all events of the sequence
  abbrev pub ComesAfter : OrderKey → Option (Sequence T) → Type 0
  ComesAfter event slot = IfSome slot (λ s. AllAreBefore event s.0)

  -- a sequence that an event moves on, where it is in time
  abbrev pub went_on : Option ℤ → OrderKey → Option (Sequence T) → Option (Sequence T)
  went_on span event None = None
  went_on span event (Some s) = if in_time span s.0 event.ts then Some (s.0 ++ event ∷ [], s.1) else None

  -- a sequence that is alive at a time
  abbrev pub alive_in : Option ℤ → ℤ → Option (Sequence T) → Option (Sequence T)
  alive_in span t None = None
  alive_in span t (Some s) = if in_time span s.0 t then Some s else None

  -- the chains of the slots, by stage
  abbrev pub chains_of : List (Option (Sequence T)) → ℕ → Option (List OrderKey)
  chains_of slots k = option_map (λ s. s.0) (slot_at slots k)

  -- the pending sequences of the stages up to n, with their stages
  abbrev pub chains_to : List (Option (Sequence T)) → ℕ → List (ℕ × List OrderKey)
  chains_to slots n = filter_map (λ k. option_map (λ c. (k, c)) (chains_of slots k)) (stages_to n)

  -- the pending sequences with their stages, by stage
  abbrev pub stage_chains : List (Option (Sequence T)) → List (ℕ × List OrderKey)
  stage_chains slots = chains_to slots (length slots)

  -- what comes to a stage with an key_event: to stage 1 a new sequence with the tag given, to a later one the sequence of the stage before, moved on,
  -- unless the key_event ends the key
  abbrev pub arrived_at : Option ℤ → Option T → KeyEvent → List (Option (Sequence T)) → ℕ → Option (Sequence T)
  arrived_at span tag key_event slots zero = None
  arrived_at span tag key_event slots (suc zero) = if fits_after 0 key_event then option_map (λ t. (key_event.order ∷ [], t)) tag else None
  arrived_at span tag key_event slots (suc (suc k)) = if fits_after (suc k) key_event && not key_event.until then went_on span key_event.order (slot_at slots (suc k)) else None

  -- the slot of a stage after the key_event: what came; else what was there, unless the key_event fits the next stage, to which it went, or ends the key
  abbrev pub slot_after : Option ℤ → Option T → KeyEvent → List (Option (Sequence T)) → ℕ → Option (Sequence T)
  slot_after span tag key_event slots k = found_or (arrived_at span tag key_event slots k) (if fits_after k key_event || key_event.until then None else slot_at slots k)

  -- the machine has in its slots what the look-back finds pending after a past, from these opening chains
  abbrev pub IsAfter : Slots → List KeyEvent → Machine T → Type 0
  IsAfter opening past machine = (k : ℕ) → 1 ≤ k → k < stages machine → chains_of machine.slots k ≡ holder machine.span opening k past

  -- after any past that a machine stood after, the turn takes it on by one key_event, and returns the chain that the look-back finds of the last stage
  abbrev pub IsAfterTurn : Slots → Machine T → KeyEvent → Machine T → Option (List OrderKey) → Type 0
  IsAfterTurn opening before key_event now answer = (past : List KeyEvent) → IsAfter opening past before
      → IsAfter opening (key_event ∷ past) now × (answer ≡ chain before.span opening (stages before) (key_event ∷ past))

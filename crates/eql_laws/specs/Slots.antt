-- The slots of the machine of one key, and what an item does to all of them at once.
use Rattle.std.specs.Prelude.{ℕ, zero, suc, ℤ, if◌then◌else◌, not, ◌&&◌, ◌||◌, List, [], ◌∷◌, ◌++◌, Option, Some, None}
use Rattle.eql_values.specs.declared.order.OrderKey.{OrderKey}
use Rattle.eql_values.specs.declared.item.KeyEvent.{KeyEvent}
use Rattle.eql_values.specs.Chains.{fits_after, in_time}
use Rattle.eql_values.specs.Ordered.{found_or}

-- the pending sequence of each stage, where there is one
abbrev pub Slots : Type 0
Slots = ℕ → Option (List OrderKey)

module _ (span : Option ℤ) where
  -- a sequence that the item moves on, where it is in time
  abbrev pub chain_moved_on : Option (List OrderKey) → KeyEvent → Option (List OrderKey)
  chain_moved_on None item = None
  chain_moved_on (Some chain) item = if in_time span chain item.order.ts then Some (chain ++ item.order ∷ []) else None

  -- what comes to a stage with the item: to stage 1 the item alone, to a later one the sequence of the stage before, unless the item ends the key
  abbrev pub chain_coming : Slots → KeyEvent → Slots
  chain_coming slots item zero = None
  chain_coming slots item (suc zero) = if fits_after 0 item then Some (item.order ∷ []) else None
  chain_coming slots item (suc (suc k)) = if fits_after (suc k) item && not item.until then chain_moved_on (slots (suc k)) item else None

  -- the slots after the item: what came; else what was there, unless the item fits the next stage, to which it went, or ends the key
  abbrev pub slots_after : Slots → KeyEvent → Slots
  slots_after slots item k = found_or (chain_coming slots item k) (if fits_after k item || item.until then None else slots k)

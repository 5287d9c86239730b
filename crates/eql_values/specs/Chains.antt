-- How sequences are matched: what the machine of one key has after some items, by looking back over them.
-- A past is a list of items with the latest first, so that a place i in a list of items is the past of length i.
-- Times are in nanoseconds since the epoch, and a span is in nanoseconds.
use Rattle.std.specs.Prelude.{ℕ, zero, suc, ℤ, ◌-ℤ◌, Bool, true, if◌then◌else◌, not, ◌&&◌, List, [], ◌∷◌, ◌++◌, Option, Some, None}
use Rattle.std.specs.List.{list_any}
use Rattle.std.specs.Int.Signed.{le_z}
use Rattle.eql_values.specs.declared.order.OrderKey.{OrderKey}
use Rattle.eql_values.specs.declared.item.KeyEvent.{KeyEvent}
use Rattle.eql_values.specs.Masks.{has_after}

-- the item fits the stage after this many stages
abbrev pub fits_after : ℕ → KeyEvent → Bool
fits_after k a = has_after k a.mask

-- the item ends the key
abbrev pub ends : KeyEvent → Bool
ends a = a.until

-- the time from the first event of the chain is at most the span
abbrev pub in_time : Option ℤ → List OrderKey → ℤ → Bool
in_time None chain now = true
in_time (Some span) [] now = true
in_time (Some span) (first ∷ rest) now = le_z (now -ℤ first.ts) span

-- a chain, and the items that came after its place, latest first
abbrev pub Placed : Type 0
Placed = List OrderKey × List KeyEvent

-- the chain of this place, else the one found before it, which this item came after
abbrev pub here_or : Option (List OrderKey) → KeyEvent → Option Placed → Option Placed
here_or (Some chain) item before = Some (chain, [])
here_or None item None = None
here_or None item (Some before) = Some (before.0, item ∷ before.1)

-- the chain of the place 0, which nothing came after
abbrev pub at_start : Option (List OrderKey) → Option Placed
at_start None = None
at_start (Some chain) = Some (chain, [])

-- the chain at the greatest place of the past at which there is one
abbrev pub latest : (List KeyEvent → Option (List OrderKey)) → List KeyEvent → Option Placed
latest chain_at [] = at_start (chain_at [])
latest chain_at (item ∷ past) = here_or (chain_at (item ∷ past)) item (latest chain_at past)

-- the chain before, followed by the item: where no item between fits the item's stage, none after the chain's place ends, and it is in time
abbrev pub chain_with : Option ℤ → ℕ → KeyEvent → Option Placed → Option (List OrderKey)
chain_with span k item None = None
chain_with span k item (Some before) =
    if not (list_any (fits_after k) before.1) && not (list_any ends (item ∷ before.1)) && in_time span before.0 item.order.ts
    then Some (before.0 ++ item.order ∷ [])
    else None

-- the chain found, where no later item fits the next stage or ends
abbrev pub held_of : ℕ → Option Placed → Option (List OrderKey)
held_of k None = None
held_of k (Some before) = if not (list_any (fits_after k) before.1) && not (list_any ends before.1) then Some before.0 else None

module _ (span : Option ℤ) (opening : ℕ → Option (List OrderKey)) where
  -- the chain of a stage at the end of a past, with opening chains at the place 0
  abbrev pub chain : ℕ → List KeyEvent → Option (List OrderKey)
  chain zero past = None
  chain (suc k) [] = opening (suc k)
  chain (suc zero) (item ∷ past) = if fits_after 0 item then Some (item.order ∷ []) else None
  chain (suc (suc k)) (item ∷ past) = if fits_after (suc k) item then chain_with span (suc k) item (latest (chain (suc k)) past) else None

  -- the pending sequence of a stage after a past
  abbrev pub holder : ℕ → List KeyEvent → Option (List OrderKey)
  holder k past = held_of k (latest (chain k) past)

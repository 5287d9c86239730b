-- Matches merged by their last events, and then by their keys; and pending sequences by key and stage.
use Rattle.std.specs.Prelude.{List, [], ◌∷◌, map}
use Rattle.std.specs.Ordering.{on, then_cmp}
use Rattle.std.specs.Cmp.Lexicographic.{slice_cmp}
use Rattle.std.specs.declared.cmp.Ordering.{Ordering}
use Rattle.eql_values.specs.declared.order.OrderKey.{OrderKey}
use Rattle.eql_values.specs.declared.value.Value.{Value}
use Rattle.eql_values.specs.declared.found.Match.{Match}
use Rattle.eql_values.specs.declared.found.Holder.{Holder}
use Rattle.eql_values.specs.Orders.{key_cmp}
use Rattle.eql_values.specs.OrderKeys.{order_cmp}
use Rattle.eql_values.specs.Ordered.{in_order}
use Rattle.eql_values.specs.Matching.{Slot, slot_cmp}

-- the last event of a chain, as a list of at most one
abbrev pub last_of : List OrderKey → List OrderKey
last_of [] = []
last_of (event ∷ []) = event ∷ []
last_of (event ∷ next ∷ rest) = last_of (next ∷ rest)

-- a last event and a key
abbrev pub Ending : Type 0
Ending = List OrderKey × List Value

-- by last event, then by key
abbrev pub ending_cmp : Ending → Ending → Ordering
ending_cmp = then_cmp (on (λ e. e.0) (slice_cmp order_cmp)) (on (λ e. e.1) key_cmp)

-- a match with its ending
abbrev pub by_ending : Match → Ending × List OrderKey
by_ending m = ((last_of m.chain, m.key), m.chain)

-- the match of an ending and a chain
abbrev pub match_of : Ending × List OrderKey → Match
match_of e = record { key = e.0.1; chain = e.1 }

-- the matches by last event, then by key
abbrev pub in_match_order : List Match → List Match
in_match_order matches = map match_of (in_order ending_cmp (map by_ending matches))

-- a pending sequence with its slot
abbrev pub by_slot : Holder → Slot × List OrderKey
by_slot h = ((h.key, h.stage), h.chain)

-- the pending sequence of a slot and a chain
abbrev pub holder_of : Slot × List OrderKey → Holder
holder_of e = record { key = e.0.0; stage = e.0.1; chain = e.1 }

-- the pending sequences by key, then by stage
abbrev pub in_slot_order : List Holder → List Holder
in_slot_order holders = map holder_of (in_order slot_cmp (map by_slot holders))

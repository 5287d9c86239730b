-- Worked examples of the definitions of the laws, computed. Each event is its line, and its time is as many seconds.
use Rattle.std.specs.Prelude.{◌≡◌, ℕ, zero, suc, ◌*◌, ℤ, pos, false, List, [], ◌∷◌, Some, None, refl}
use Rattle.std.specs.List.{flat_map}
use Rattle.eql_values.specs.declared.order.OrderKey.{OrderKey}
use Rattle.eql_values.specs.declared.value.Value.{Value}
use Rattle.eql_values.specs.declared.value.Value.TheVariants as value
use Rattle.eql_values.specs.declared.item.KeyEvent.{KeyEvent}
use Rattle.eql_values.specs.declared.item.Item.{Item}
use Rattle.eql_values.specs.declared.found.Match.{Match}
use Rattle.eql_values.specs.declared.found.Holder.{Holder}
use Rattle.eql_values.specs.Matching.{matches, after}
use Rattle.eql_values.specs.Ordered.{numbers}
use Rattle.eql_values.specs.Routing.{routed_items}
use Rattle.eql_laws.specs.Alive.{alive_holders}
use Rattle.eql_laws.specs.Lateness.{accepted_by}
use Rattle.eql_laws.specs.Merging.{in_match_order, in_slot_order}
use Rattle.eql_laws.specs.Slots.{Slots, slots_after}

abbrev seconds : ℕ → ℤ
seconds n = pos (n * 1000000000)

abbrev at : ℕ → OrderKey
at line = record { ts = seconds line; tie = None; shard = 0; line = line; at = 0 }

-- the key of a number, and the part of such a key, which is the number
abbrev key_of : ℕ → List Value
key_of n = value.Long (pos n) ∷ []

abbrev part_of : List Value → ℕ
part_of (value.Long (pos n) ∷ []) = n
part_of _ = 0

abbrev says : ℕ → ℕ → ℕ → Item
says line n mask = record { order = at line; routes = record { key = key_of n; mask = record { low = mask; high = 0 }; until = false } ∷ [] }

abbrev six : List Item
six = says 1 0 1 ∷ says 2 1 1 ∷ says 3 1 2 ∷ says 4 0 2 ∷ says 5 1 1 ∷ says 6 0 1 ∷ []

abbrev pair_of : ℕ → ℕ → ℕ → Match
pair_of n first last = record { key = key_of n; chain = at first ∷ at last ∷ [] }

abbrev holds : ℕ → ℕ → Holder
holds n line = record { key = key_of n; stage = 1; chain = at line ∷ [] }

-- the second part's match comes first
both_parts : matches 2 None [] six ≡ pair_of 1 2 3 ∷ pair_of 0 1 4 ∷ []
both_parts = refl

first_part : matches 2 None [] (routed_items part_of 0 six) ≡ pair_of 0 1 4 ∷ []
first_part = refl

parts_merged : in_match_order (flat_map (λ p. matches 2 None [] (routed_items part_of p six)) (numbers 2)) ≡ pair_of 1 2 3 ∷ pair_of 0 1 4 ∷ []
parts_merged = refl

-- what is pending comes by key
parts_gathered : in_slot_order (after 2 None [] (routed_items part_of 1 six)) ≡ holds 1 5 ∷ []
parts_gathered = refl

gathered_by_key : in_slot_order (holds 1 5 ∷ holds 0 6 ∷ []) ≡ holds 0 6 ∷ holds 1 5 ∷ []
gathered_by_key = refl

-- with a span of ten seconds a sequence from second 1 is alive at second 11 and dead at second 12
alive_at_the_end : alive_holders (Some (seconds 10)) (seconds 11) (holds 0 1 ∷ holds 1 5 ∷ []) ≡ holds 0 1 ∷ holds 1 5 ∷ []
alive_at_the_end = refl

dead_after_the_end : alive_holders (Some (seconds 10)) (seconds 12) (holds 0 1 ∷ holds 1 5 ∷ []) ≡ holds 1 5 ∷ []
dead_after_the_end = refl

-- with a slack of five seconds, after second 20 an event of second 14 is late and one of second 15 isn't
kept_time : accepted_by (Some (seconds 5)) (Some (seconds 20)) (says 14 0 1 ∷ says 15 0 1 ∷ []) ≡ says 15 0 1 ∷ []
kept_time = refl

-- an event that fits stages 1 and 2 moves the sequence of stage 1 on and takes its place
abbrev pending_one : Slots
pending_one (suc zero) = Some (at 1 ∷ [])
pending_one _ = None

abbrev fits_both : KeyEvent
fits_both = record { order = at 2; mask = record { low = 3; high = 0 }; until = false }

new_at_one : slots_after None pending_one fits_both 1 ≡ Some (at 2 ∷ [])
new_at_one = refl

moved_to_two : slots_after None pending_one fits_both 2 ≡ Some (at 1 ∷ at 2 ∷ [])
moved_to_two = refl

-- The definitions of a part's steps, computed on worked rows. Times are in nanoseconds.
use Rattle.std.specs.Prelude.{◌≡◌, refl, [], ◌∷◌, None, Some, pos, codes}
use Rattle.eql_values.specs.declared.order.OrderKey.{OrderKey}
use Rattle.eql_values.specs.declared.order.Mark.TheVariants.{Start, At}
use Rattle.eql_values.specs.declared.item.Item.{Item}
use Rattle.eql_values.specs.declared.found.Holder.{Holder}
use Rattle.eql_values.specs.declared.value.Value.TheVariants.{Null, Long, Text}
use Rattle.eql_parts.specs.PartSteps.{done_by, last_time, still_held}
use Rattle.eql_parts.specs.Spreading.{part_number}

abbrev first : OrderKey
first = record { ts = pos 0; tie = None; shard = 0; line = 1; at = 0 }

abbrev second : OrderKey
second = record { ts = pos 7; tie = None; shard = 0; line = 2; at = 40 }

abbrev item_at : OrderKey → Item
item_at event = record { order = event; routes = [] }

-- a sequence that began at 0
abbrev first_holder : Holder
first_holder = record { key = []; stage = 1; chain = first ∷ [] }

-- with a span of 10 it is alive at 10, and not at 11
alive_at_ten : still_held (Some (pos 10)) None (At (pos 10)) (first_holder ∷ []) ≡ first_holder ∷ []
alive_at_ten = refl

dead_at_eleven : still_held (Some (pos 10)) None (At (pos 11)) (first_holder ∷ []) ≡ []
dead_at_eleven = refl

-- an event played at 11 drops it too, whatever mark is done, and without a span nothing does
dead_by_event : still_held (Some (pos 10)) (Some (pos 11)) Start (first_holder ∷ []) ≡ []
dead_by_event = refl

alive_without_span : still_held None (Some (pos 11)) (At (pos 11)) (first_holder ∷ []) ≡ first_holder ∷ []
alive_without_span = refl

-- the last event that was played gives the time, and no event leaves it
time_of_last : last_time None (item_at first ∷ item_at second ∷ []) ≡ Some (pos 7)
time_of_last = refl

time_of_none : last_time (Some (pos 7)) [] ≡ Some (pos 7)
time_of_none = refl

-- a mark is done once nothing waits
done_with_all : done_by [] Start (At (pos 5)) ≡ At (pos 5)
done_with_all = refl

not_done_yet : done_by (item_at first ∷ []) Start (At (pos 5)) ≡ Start
not_done_yet = refl

-- the parts of some keys, by the same hash in another language
part_of_root : part_number (Text (codes "root") ∷ []) ≡ 8
part_of_root = refl

part_of_elkbee : part_number (Text (codes "elkbee") ∷ []) ≡ 11
part_of_elkbee = refl

part_of_seven : part_number (Long (pos 7) ∷ []) ≡ 1
part_of_seven = refl

part_of_null : part_number (Null ∷ []) ≡ 0
part_of_null = refl

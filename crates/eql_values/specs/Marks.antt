-- The order of bounds in time, what lies below one, and the bounds that are safe.
-- Times are in nanoseconds since the epoch, and a slack is in nanoseconds.
use Rattle.std.specs.Prelude.{ℕ, ℤ, pos, ◌-ℤ◌, Bool, true, false, List, Option, Some, None}
use Rattle.std.specs.List.{list_all}
use Rattle.std.specs.Int.Signed.{lt_z}
use Rattle.std.specs.Ordering.{on, then_cmp, eq_by_cmp, is_le, nat_cmp, int_cmp}
use Rattle.std.specs.declared.cmp.Ordering.{Ordering}
use Rattle.eql_values.specs.declared.item.Item.{Item}
use Rattle.eql_values.specs.declared.order.Mark.{Mark}
use Rattle.eql_values.specs.declared.order.Mark.TheVariants.{Start, At, End}

-- the marks in their order: the start, the times, the end
abbrev pub mark_rank : Mark → ℕ
mark_rank Start = 0
mark_rank (At t) = 1
mark_rank End = 2

-- the time of a mark that has one
abbrev pub time_in : Mark → ℤ
time_in (At t) = t
time_in _ = pos 0

abbrev pub mark_cmp : Mark → Mark → Ordering
mark_cmp = then_cmp (on mark_rank nat_cmp) (on time_in int_cmp)

abbrev pub mark_eq : Mark → Mark → Bool
mark_eq = eq_by_cmp mark_cmp

-- the item lies below the mark: it has a lesser timestamp; every item is below the end, and none below the start
abbrev pub is_below : Mark → Item → Bool
is_below Start item = false
is_below (At t) item = lt_z item.order.ts t
is_below End item = true

-- the low of a shard, below which no further item of it can come: the end, once it is closed; else the greatest timestamp read less the
-- slack, where there are both; else the start
abbrev pub low_of : (closed : Bool) (slack best : Option ℤ) → Mark
low_of true slack best = End
low_of false (Some slack) (Some best) = At (best -ℤ slack)
low_of false (Some slack) None = Start
low_of false None best = Start

-- a mark is safe where it is at most every shard's low
abbrev pub is_safe : Mark → List Mark → Bool
is_safe mark lows = list_all (λ low. is_le (mark_cmp mark low)) lows

-- The order of events. Times are in nanoseconds since the epoch.
use Rattle.std.specs.Prelude.{ℤ, Bool, true, ◌&&◌, List, [], ◌∷◌, Option, Some, None, IsTrue}
use Rattle.std.specs.Ordering.{on, then_cmp, eq_by_cmp, is_lt, nat_cmp, int_cmp}
use Rattle.std.specs.declared.cmp.Ordering.{Ordering}
use Rattle.std.specs.declared.cmp.Ordering.TheVariants.{Less, Equal, Greater}
use Rattle.eql_values.specs.declared.order.OrderKey.{OrderKey}

-- two tiebreakers: by number, and an event with none comes last
abbrev pub tie_cmp : Option ℤ → Option ℤ → Ordering
tie_cmp (Some x) (Some y) = int_cmp x y
tie_cmp (Some x) None = Less
tie_cmp None (Some y) = Greater
tie_cmp None None = Equal

-- by time, then by tiebreaker, then by shard, line and place
abbrev pub order_cmp : OrderKey → OrderKey → Ordering
order_cmp =
    then_cmp (on (λ k. k.ts) int_cmp)
    (then_cmp (on (λ k. k.tie) tie_cmp) (then_cmp (on (λ k. k.shard) nat_cmp) (then_cmp (on (λ k. k.line) nat_cmp) (on (λ k. k.at) nat_cmp))))

abbrev pub order_eq : OrderKey → OrderKey → Bool
order_eq = eq_by_cmp order_cmp

-- the event stands before each of these
abbrev pub before_all : OrderKey → List OrderKey → Bool
before_all event [] = true
before_all event (next ∷ rest) = is_lt (order_cmp event next) && before_all event rest

-- the events ascend strictly
abbrev pub events_ascend : List OrderKey → Bool
events_ascend [] = true
events_ascend (event ∷ rest) = before_all event rest && events_ascend rest

abbrev pub EventsAscend : List OrderKey → Type 0
EventsAscend events = IsTrue (events_ascend events)

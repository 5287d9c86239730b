-- Routes that are gathered stage by stage.
use Rattle.std.specs.Prelude.{◌≡◌, ℕ, Bool, ◌||◌, List, [], ◌∷◌, insert, slice_set, slice_index_or}
use Rattle.std.specs.Int.Bits.{bit_or}
use Rattle.std.specs.FinMap.Entries.{by_order}
use Rattle.eql_values.specs.declared.value.Value.{Value}
use Rattle.eql_values.specs.declared.item.Mask.{Mask}
use Rattle.eql_values.specs.declared.item.Route.{Route}
use Rattle.eql_values.specs.Orders.{key_cmp}

-- the stages of both
abbrev pub union : Mask → Mask → Mask
union a b = record { low = bit_or a.low b.low; high = bit_or a.high b.high }

-- the route with further stages
abbrev pub joined_route : Mask → Bool → Route → Route
joined_route mask until route = record { key = route.key; mask = union route.mask mask; until = route.until || until }

-- routes in order, to which stages of a key are added
abbrev pub said_routes : List Value → Mask → Bool → List Route → List Route
said_routes key mask until [] = record { key = key; mask = mask; until = until } ∷ []
said_routes key mask until (route ∷ routes) =
    by_order (key_cmp key route.key)
    (record { key = key; mask = mask; until = until } ∷ route ∷ routes)
    (joined_route mask until route ∷ routes)
    (route ∷ said_routes key mask until routes)

-- the key's route stands at this place
abbrev pub IsAt : List Value → List Route → ℕ → Type 0
IsAt key routes i = (mask : Mask) (until : Bool) (d : Route)
    → said_routes key mask until routes ≡ slice_set routes i (joined_route mask until (slice_index_or routes i d))

-- the key has no route yet, and one comes at this place
abbrev pub ComesAt : List Value → List Route → ℕ → Type 0
ComesAt key routes i = (mask : Mask) (until : Bool)
    → said_routes key mask until routes ≡ insert routes i (record { key = key; mask = mask; until = until })

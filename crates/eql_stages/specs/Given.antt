-- What an event says, key by key, where each stage is given a key or none.
use Rattle.std.specs.Prelude.{ℕ, ◌+◌, ◌*◌, Bool, false, if◌then◌else◌, List, [], ◌∷◌, ◌++◌, map, take, drop, Option, Some, None}
use Rattle.std.specs.List.{filter_map}
use Rattle.eql_values.specs.declared.value.Value.{Value}
use Rattle.eql_values.specs.declared.item.Mask.{Mask}
use Rattle.eql_values.specs.declared.item.Route.{Route}
use Rattle.eql_values.specs.Orders.{key_cmp, key_eq}
use Rattle.eql_values.specs.Ordered.{in_order}

-- the key that an event gives to a stage, where it gives one
abbrev pub Given : Type 0
Given = Option (List Value)

abbrev pub is_this : List Value → Given → Bool
is_this key None = false
is_this key (Some other) = key_eq key other

-- the stages of a key as a number: bit k is set where the stage after k stages is given this key
abbrev pub bits_of : List Value → List Given → ℕ
bits_of key [] = 0
bits_of key (given ∷ more) = (if is_this key given then 1 else 0) + 2 * bits_of key more

-- the stages of a key: the lower half has the first 128
abbrev pub mask_of : List Value → List Given → Mask
mask_of key given = record { low = bits_of key (take 128 given); high = bits_of key (drop 128 given) }

-- the keys that are given, each once, in order
abbrev pub keys_among : List Given → List (List Value)
keys_among given =
    map (λ (e : List Value × ℕ). e.0)
    (in_order key_cmp (map (λ (key : List Value). (key, 0)) (filter_map (λ (one : Given). one) given)))

abbrev pub route_by : List Given → Given → List Value → Route
route_by given until key = record { key = key; mask = mask_of key given; until = is_this key until }

-- what the event says to each key that it gives to a stage or to the item that ends sequences
abbrev pub routes_by : List Given → Given → List Route
routes_by given until = map (route_by given until) (keys_among (given ++ until ∷ []))

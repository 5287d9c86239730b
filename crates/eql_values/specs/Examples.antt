-- Worked examples of matching, computed. Each event is its line, and its time is as many seconds after the epoch, in nanoseconds.
use Rattle.std.specs.Prelude.{◌≡◌, ℕ, ◌*◌, ◌^◌, pos, Bool, true, false, List, [], ◌∷◌, map, Some, None, refl, codes}
use Rattle.eql_values.specs.declared.order.OrderKey.{OrderKey}
use Rattle.eql_values.specs.declared.value.Value.{Value}
use Rattle.eql_values.specs.declared.value.Value.TheVariants as value
use Rattle.eql_values.specs.declared.item.Item.{Item}
use Rattle.eql_values.specs.declared.found.Holder.{Holder}
use Rattle.eql_values.specs.Matching.{matches, after, stages_to}

abbrev at : ℕ → OrderKey
at line = record { ts = pos (line * 1000000000); tie = None; shard = 0; line = line; at = 0 }

abbrev says : ℕ → List Value → ℕ → Bool → Item
says line key mask until = record { order = at line; routes = record { key = key; mask = record { low = mask; high = 0 }; until = until } ∷ [] }

abbrev root : List Value
root = value.Text (codes "root") ∷ []

abbrev elkbee : List Value
elkbee = value.Text (codes "elkbee") ∷ []

abbrev eleven : List Item
eleven =
    says 1 root 1 false ∷ says 2 root 1 false ∷ says 3 elkbee 2 false ∷ says 4 root 2 false ∷ says 5 root 2 false
    ∷ says 6 elkbee 1 false ∷ says 7 root 1 false ∷ says 8 elkbee 2 false ∷ says 9 root 4 false ∷ says 10 elkbee 4 false
    ∷ says 11 root 4 false ∷ []

-- the reference's example
reference_example : matches 3 None [] eleven
    ≡ record { key = root; chain = at 2 ∷ at 4 ∷ at 9 ∷ [] } ∷ record { key = elkbee; chain = at 6 ∷ at 8 ∷ at 10 ∷ [] } ∷ []
unfolding lib.Utf8.encode
reference_example = refl

-- what stays pending
reference_example_after : after 3 None [] eleven ≡ record { key = root; stage = 1; chain = at 7 ∷ [] } ∷ []
unfolding lib.Utf8.encode
reference_example_after = refl

-- three of a kind, then another: the latest three
runs : matches 4 None [] (says 1 [] 7 false ∷ says 2 [] 7 false ∷ says 3 [] 7 false ∷ says 4 [] 7 false ∷ says 5 [] 8 false ∷ [])
    ≡ record { key = []; chain = at 2 ∷ at 3 ∷ at 4 ∷ at 5 ∷ [] } ∷ []
runs = refl

-- the span, of ten seconds, is inclusive
maxspan_inclusive : matches 2 (Some (pos 10000000000)) [] (says 1 [] 1 false ∷ says 11 [] 2 false ∷ [])
    ≡ record { key = []; chain = at 1 ∷ at 11 ∷ [] } ∷ []
maxspan_inclusive = refl

maxspan_inclusive_late : matches 2 (Some (pos 10000000000)) [] (says 1 [] 1 false ∷ says 12 [] 2 false ∷ []) ≡ []
maxspan_inclusive_late = refl

-- an until event between, after, and with the last stage
until_between : matches 2 None [] (says 1 [] 1 false ∷ says 2 [] 0 true ∷ says 3 [] 2 false ∷ []) ≡ []
until_between = refl

until_later : matches 2 None [] (says 1 [] 1 false ∷ says 2 [] 2 false ∷ says 3 [] 0 true ∷ [])
    ≡ record { key = []; chain = at 1 ∷ at 2 ∷ [] } ∷ []
until_later = refl

until_at_once : matches 2 None [] (says 1 [] 1 false ∷ says 2 [] 2 true ∷ []) ≡ []
until_at_once = refl

-- an event may stand for both stages, and not twice in one match
event_on_two_stages : matches 2 None [] (says 1 [] 3 false ∷ says 2 [] 3 false ∷ says 3 [] 3 false ∷ [])
    ≡ record { key = []; chain = at 1 ∷ at 2 ∷ [] } ∷ record { key = []; chain = at 2 ∷ at 3 ∷ [] } ∷ []
event_on_two_stages = refl

abbrev holds : ℕ → List Value → List OrderKey → Holder
holds stage key chain = record { key = key; stage = stage; chain = chain }

-- a pending sequence from before goes on with its own key, and stays where no event fits
opening_holders : matches 2 None (holds 1 elkbee (at 1 ∷ []) ∷ holds 1 root (at 2 ∷ []) ∷ []) (says 3 root 2 false ∷ [])
    ≡ record { key = root; chain = at 2 ∷ at 3 ∷ [] } ∷ []
unfolding lib.Utf8.encode
opening_holders = refl

opening_holders_after : after 2 None (holds 1 elkbee (at 1 ∷ []) ∷ holds 1 root (at 2 ∷ []) ∷ []) (says 3 root 2 false ∷ [])
    ≡ holds 1 elkbee (at 1 ∷ []) ∷ []
unfolding lib.Utf8.encode
opening_holders_after = refl

-- an event that ends the key empties what was pending
opening_holders_until : matches 2 None (holds 1 [] (at 1 ∷ []) ∷ []) (says 2 [] 0 true ∷ says 3 [] 2 false ∷ []) ≡ []
opening_holders_until = refl

-- an event that fits stage 256 alone completes what is pending at stage 255, and nothing where nothing is
abbrev says_256 : ℕ → Item
says_256 line = record { order = at line; routes = record { key = []; mask = record { low = 0; high = 2 ^ 127 }; until = false } ∷ [] }

stage_256 : matches 256 None (holds 255 [] (map at (stages_to 255)) ∷ []) (says_256 256 ∷ []) ≡ record { key = []; chain = map at (stages_to 256) } ∷ []
stage_256 = refl

stage_256_after : after 256 None (holds 255 [] (map at (stages_to 255)) ∷ []) (says_256 256 ∷ []) ≡ []
stage_256_after = refl

stage_256_alone : matches 256 None [] (says_256 256 ∷ []) ≡ []
stage_256_alone = refl

-- Which events of a text count, and the events of all texts below a mark.
-- Times are in nanoseconds since the epoch, and a slack is in nanoseconds.
use Rattle.std.specs.Prelude.{◌≡◌, ℕ, ◌+◌, ℤ, pos, ◌-ℤ◌, Bool, false, if◌then◌else◌, List, [], ◌∷◌, ◌++◌, map, filter, Option, Some, None, refl}
use Rattle.std.specs.List.{list_any, filter_map}
use Rattle.std.specs.Int.Signed.{lt_z}
use Rattle.eql_values.specs.declared.order.OrderKey.{OrderKey}
use Rattle.eql_values.specs.declared.order.Mark.{Mark}
use Rattle.eql_values.specs.declared.order.Mark.TheVariants.{End}
use Rattle.eql_values.specs.declared.item.Route.{Route}
use Rattle.eql_values.specs.declared.item.Item.{Item}
use Rattle.eql_values.specs.declared.reader.LineGot.{LineGot}
use Rattle.eql_values.specs.declared.reader.LineGot.TheVariants as got
use Rattle.eql_values.specs.Lines.{Line, lines_in}
use Rattle.eql_values.specs.Marks.{is_below}
use Rattle.eql_values.specs.OrderKeys.{order_cmp}
use Rattle.eql_values.specs.Ordered.{in_order}

-- what lines give, by shard, number and bytes
abbrev pub Reads : Type 0
Reads = ℕ → ℕ → List ℕ → LineGot

-- the event at this place
abbrev pub placed_at : ℕ → Item → Item
placed_at at item =
    record { order = record { ts = item.order.ts; tie = item.order.tie; shard = item.order.shard; line = item.order.line; at = at }; routes = item.routes }

-- the event that a line gives, at the place of the line
abbrev pub event_at : ℕ → LineGot → Option Item
event_at at (got.Item item) = Some (placed_at at item)
event_at at got.Blank = None
event_at at (got.Bad reason) = None

-- the events of the readable lines among these, in line order
abbrev pub readable : Reads → ℕ → List Line → List Item
readable reads shard lines = filter_map (λ (line : Line). event_at line.at (reads shard line.number line.bytes)) lines

-- an event is late where an earlier one of its text has a timestamp more than the slack greater; with no slack none is
abbrev pub is_late : Option ℤ → List Item → Item → Bool
is_late None earlier item = false
is_late (Some slack) earlier item = list_any (λ (e : Item). lt_z slack (e.order.ts -ℤ item.order.ts)) earlier

-- the events that aren't late, after these earlier ones
abbrev pub accepted_after : Option ℤ → List Item → List Item → List Item
accepted_after slack earlier [] = []
accepted_after slack earlier (item ∷ items) =
    if is_late slack earlier item
    then accepted_after slack (item ∷ earlier) items
    else item ∷ accepted_after slack (item ∷ earlier) items

-- the accepted events of a text, in line order
abbrev pub accepted_items : Reads → Option ℤ → ℕ → List ℕ → List Item
accepted_items reads slack shard text = accepted_after slack [] (readable reads shard (lines_in text))

-- the accepted events of texts, of which the first is this shard
abbrev pub accepted_from : Reads → Option ℤ → ℕ → List (List ℕ) → List Item
accepted_from reads slack shard [] = []
accepted_from reads slack shard (text ∷ texts) = accepted_items reads slack shard text ++ accepted_from reads slack (shard + 1) texts

-- events in the order of their places
abbrev pub sorted_items : List Item → List Item
sorted_items items =
    map (λ (e : OrderKey × List Route). record { order = e.0; routes = e.1 })
    (in_order order_cmp (map (λ (item : Item). (item.order, item.routes)) items))

-- the accepted events of all texts that lie below the mark, in ascending order
abbrev pub below : Reads → Option ℤ → List (List ℕ) → Mark → List Item
below reads slack texts mark = sorted_items (filter (is_below mark) (accepted_from reads slack 0 texts))

-- all accepted events, in ascending order
abbrev pub all_events : Reads → Option ℤ → List (List ℕ) → List Item
all_events reads slack texts = below reads slack texts End

-- a reader for the examples: the first byte is the time, and a second one the tiebreaker; a line of no bytes, or of three or more, is blank
abbrev event_of : ℤ → Option ℤ → ℕ → ℕ → LineGot
event_of ts tie shard line =
    got.Item (record { order = record { ts = ts; tie = tie; shard = shard; line = line; at = 0 }; routes = record { key = []; mask = record { low = 1; high = 0 }; until = false } ∷ [] })

abbrev by_bytes : Reads
by_bytes shard line [] = got.Blank
by_bytes shard line (ts ∷ []) = event_of (pos ts) None shard line
by_bytes shard line (ts ∷ tie ∷ []) = event_of (pos ts) (Some (pos tie)) shard line
by_bytes shard line (a ∷ b ∷ c ∷ rest) = got.Blank

abbrev item_at : ℤ → Option ℤ → ℕ → ℕ → ℕ → Item
item_at ts tie shard line at =
    record { order = record { ts = ts; tie = tie; shard = shard; line = line; at = at }; routes = record { key = []; mask = record { low = 1; high = 0 }; until = false } ∷ [] }

-- with a slack of 5 nanoseconds the second event, 7 before the first, is late, and the third, 4 before it, isn't
late_lines : all_events by_bytes (Some (pos 5)) ((20 ∷ 10 ∷ 13 ∷ 10 ∷ 16 ∷ 10 ∷ []) ∷ []) ≡ item_at (pos 16) None 0 3 4 ∷ item_at (pos 20) None 0 1 0 ∷ []
late_lines = refl

-- of equal times an event without a tiebreaker comes last
tiebreaker : all_events by_bytes None ((20 ∷ []) ∷ (20 ∷ 1 ∷ []) ∷ []) ≡ item_at (pos 20) (Some (pos 1)) 1 1 0 ∷ item_at (pos 20) None 0 1 0 ∷ []
tiebreaker = refl

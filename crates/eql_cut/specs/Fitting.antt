-- Which cuts fit a run, and the tests that tell it.
use Rattle.std.specs.Prelude.{◌≡◌, ◌≤◌, ◌<◌, ℕ, zero, suc, ◌+◌, ◌-◌, ◌*◌, ℤ, pos, neg_ℤ, ◌-ℤ◌, Bool, true, false, not, ◌&&◌, ◌||◌, ◌==◌, nat_lt, nat_le, List, [], ◌∷◌, length, Option, Some, None}
use Rattle.std.specs.List.{list_all}
use Rattle.std.specs.Int.{bit_at}
use Rattle.std.specs.Int.Signed.{lt_z, le_z}
use Rattle.std.specs.Ordering.{is_lt}
use Rattle.eql_values.specs.declared.order.OrderKey.{OrderKey}
use Rattle.eql_values.specs.declared.item.Mask.{Mask}
use Rattle.eql_values.specs.declared.item.Route.{Route}
use Rattle.eql_values.specs.declared.item.Item.{Item}
use Rattle.eql_values.specs.declared.found.Holder.{Holder}
use Rattle.eql_values.specs.declared.found.Numbered.{Numbered}
use Rattle.eql_values.specs.declared.cut.BookCut.{BookCut}
use Rattle.eql_values.specs.declared.cut.Counts.{Counts}
use Rattle.eql_values.specs.declared.cut.FirstBad.{FirstBad}
use Rattle.eql_values.specs.declared.cut.LaneCut.{LaneCut}
use Rattle.eql_values.specs.declared.cut.Pipe.{Pipe}
use Rattle.eql_values.specs.declared.cut.Pipe.TheVariants as pipe
use Rattle.eql_values.specs.declared.cut.PipeState.{PipeState}
use Rattle.eql_values.specs.declared.cut.PipeState.TheVariants as state
use Rattle.eql_values.specs.Masks.{has_stage}
use Rattle.eql_values.specs.Orders.{key_eq}
use Rattle.eql_values.specs.OrderKeys.{order_cmp, events_ascend}
use Rattle.eql_values.specs.Reading.{time_bound}
use Rattle.eql_laws.specs.Belows.{greatest_slack}
use Rattle.eql_laws.specs.Books.{greatest_found}
use Rattle.eql_laws.specs.Counting.{greatest_lines, greatest_bytes}
use Rattle.eql_laws.specs.Fitting.{Run, Fits}
use Rattle.eql_cut.specs.declared.cut.Cut.{Cut}
use Rattle.eql_cut.specs.Domain.{kept_by}
use Rattle.eql_cut.specs.Values.{routes_stand, items_ascend}
use Rattle.eql_cut.specs.CutValues.{is_full, holders_ascend}

-- what a cut depends on of a run of m stages, keys of so many values, these pipes and a slack in milliseconds. It depends on no span
abbrev pub run_of : (m values : ℕ) → List Pipe → (slack : ℕ) → Run
run_of m values pipes slack = record { stages = m; span = None; values = values; pipes = pipes; slack = pos (slack * 1000000) }

-- the cut fits the run of these stages, keys and pipes that goes on from it, with the slack and the shards that the cut says
abbrev pub FitsRun : (m values : ℕ) → List Pipe → Cut → Type 0
FitsRun m values pipes cut = Fits (run_of m values pipes cut.head.slack) cut.head.shards (kept_by cut)

abbrev pub is_time : ℤ → Bool
is_time t = le_z (neg_ℤ time_bound) t && le_z t time_bound

abbrev pub is_mark_time : ℤ → Bool
is_mark_time t = le_z (neg_ℤ time_bound -ℤ greatest_slack) t && le_z t time_bound

-- none of the n stages above this one
abbrev pub none_of_next : Mask → (m n : ℕ) → Bool
none_of_next mask m zero = true
none_of_next mask m (suc n) = not (has_stage mask (suc m)) && none_of_next mask (suc m) n

-- no stage above this one
abbrev pub none_above : ℕ → Mask → Bool
none_above m mask = none_of_next mask m (256 - m)

-- an open shard has a greatest timestamp, which less the slack is at least the mark
abbrev pub best_fits : (slack t : ℤ) (closed : Bool) → Option ℤ → Bool
best_fits slack t closed None = closed
best_fits slack t closed (Some best) = is_time best && (closed || le_z t (best -ℤ slack))

-- there is a first bad line exactly when some are rejected
abbrev pub first_fits : Option FirstBad → (rejected : ℕ) → Bool
first_fits None rejected = rejected == 0
first_fits (Some bad) rejected = not (rejected == 0)

abbrev pub counts_fit : Counts → Bool
counts_fit counts =
    nat_le (counts.accepted + counts.late + counts.rejected) counts.lines && first_fits counts.first counts.rejected && nat_le counts.lines greatest_lines

-- an event of a pending sequence
abbrev pub event_fits : (t : ℤ) (shards : ℕ) → OrderKey → Bool
event_fits t shards event = nat_lt event.shard shards && lt_z event.ts t && is_time event.ts

-- an event of a match that is kept
abbrev pub found_fits : (shards : ℕ) → OrderKey → Bool
found_fits shards event = nat_lt event.shard shards && is_time event.ts

-- no bit of the number is set from this one on
abbrev pub HasNoneFrom : ℕ → ℕ → Type 0
HasNoneFrom bits bit = (k : ℕ) → bit ≤ k → k < 128 → bit_at bits k ≡ 0

-- an event that a shard of so many lines keeps
abbrev pub order_fits : (t : ℤ) (shard lines : ℕ) → OrderKey → Bool
order_fits t shard lines order =
    (order.shard == shard) && nat_le 1 order.line && nat_le order.line lines && is_time order.ts && not (lt_z order.ts t)

module _ (m values : ℕ) where
  abbrev pub route_fits : Route → Bool
  route_fits route = (length route.key == values) && none_above m route.mask

  abbrev pub item_fits : (t : ℤ) (shard lines : ℕ) → Item → Bool
  item_fits t shard lines item =
      order_fits t shard lines item.order && routes_stand item.routes && list_all route_fits item.routes

  abbrev pub lane_fits : (slack t : ℤ) (shard : ℕ) → LaneCut → Bool
  lane_fits slack t shard lane =
      best_fits slack t lane.closed lane.best && counts_fit lane.counts && nat_le lane.offset greatest_bytes
      && nat_le (length lane.items) lane.counts.accepted && items_ascend lane.items && list_all (item_fits t shard lane.counts.lines) lane.items

  -- of lanes, of which the first is this shard's
  abbrev pub lanes_fit : (slack t : ℤ) (shard : ℕ) → List LaneCut → Bool
  lanes_fit slack t shard [] = true
  lanes_fit slack t shard (lane ∷ lanes) = lane_fits slack t shard lane && lanes_fit slack t (shard + 1) lanes

  abbrev pub holder_fits : (t : ℤ) (shards : ℕ) → Holder → Bool
  holder_fits t shards h =
      nat_le 1 h.stage && nat_lt h.stage m && (length h.key == values) && is_full h && events_ascend h.chain && list_all (event_fits t shards) h.chain

  abbrev pub kept_fits : (shards found : ℕ) → Numbered → Bool
  kept_fits shards found n =
      nat_le 1 n.number && nat_le n.number found && (length n.found.chain == m) && (length n.found.key == values) && list_all (found_fits shards) n.found.chain

  abbrev pub state_fits : (shards found : ℕ) → Pipe → PipeState → Bool
  state_fits shards found (pipe.Head count) (state.Head passed) = nat_le passed count
  state_fits shards found (pipe.Head count) (state.Tail kept) = false
  state_fits shards found (pipe.Tail count) (state.Head passed) = false
  state_fits shards found (pipe.Tail count) (state.Tail kept) = nat_le (length kept) count && list_all (kept_fits shards found) kept

  abbrev pub states_fit : (shards found : ℕ) → List Pipe → List PipeState → Bool
  states_fit shards found [] [] = true
  states_fit shards found [] (s ∷ states) = false
  states_fit shards found (p ∷ pipes) [] = false
  states_fit shards found (p ∷ pipes) (s ∷ states) = state_fits shards found p s && states_fit shards found pipes states

  abbrev pub book_fits : (shards : ℕ) → List Pipe → BookCut → Bool
  book_fits shards pipes book = nat_le book.listed book.found && nat_le book.found greatest_found && states_fit shards book.found pipes book.pipes

-- the first event of the one chain comes before that of the other
abbrev pub first_before : List OrderKey → List OrderKey → Bool
first_before [] other = false
first_before (event ∷ chain) [] = false
first_before (event ∷ chain) (first ∷ other) = is_lt (order_cmp event first)

-- the next one, where it is of the same key, has a lesser first event
abbrev pub falls_to : Holder → List Holder → Bool
falls_to h [] = true
falls_to h (next ∷ holders) = not (key_eq h.key next.key) || first_before next.chain h.chain

abbrev pub firsts_fall : List Holder → Bool
firsts_fall [] = true
firsts_fall (h ∷ holders) = falls_to h holders && firsts_fall holders

abbrev pub cut_fits : (m values : ℕ) → List Pipe → Cut → Bool
cut_fits m values pipes cut =
    is_mark_time cut.mark && (length cut.lanes == cut.head.shards) && lanes_fit m values (pos (cut.head.slack * 1000000)) cut.mark 0 cut.lanes
    && list_all (holder_fits m values cut.mark cut.head.shards) cut.holders && holders_ascend cut.holders && firsts_fall cut.holders
    && book_fits m values cut.head.shards pipes cut.book

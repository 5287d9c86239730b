-- The lines that a cut names, and a cut with the places of its lines.
use Rattle.std.specs.Prelude.{◌≡◌, ◌==◌, ◌++◌, ℕ, zero, suc, if◌then◌else◌, List, [], ◌∷◌, map, filter, All, Contains, IsTrue}
use Rattle.std.specs.List.{flat_map, list_all}
use Rattle.std.specs.FinMap.Entries.{is_sorted}
use Rattle.std.specs.Ordering.{nat_cmp}
use Rattle.eql_values.specs.declared.order.OrderKey.{OrderKey}
use Rattle.eql_values.specs.declared.item.Item.{Item}
use Rattle.eql_values.specs.declared.found.Match.{Match}
use Rattle.eql_values.specs.declared.found.Numbered.{Numbered}
use Rattle.eql_values.specs.declared.found.Holder.{Holder}
use Rattle.eql_values.specs.declared.cut.BookCut.{BookCut}
use Rattle.eql_values.specs.declared.cut.LaneCut.{LaneCut}
use Rattle.eql_values.specs.declared.cut.PipeState.{PipeState}
use Rattle.eql_values.specs.declared.cut.PipeState.TheVariants as state
use Rattle.eql_laws.specs.Books.{kept_of}
use Rattle.eql_cut.specs.declared.cut.Cut.{Cut}

-- where the events stand that a lane keeps
abbrev pub lane_orders : LaneCut → List OrderKey
lane_orders lane = map (λ (item : Item). item.order) lane.items

-- and those of the matches that a pipe keeps
abbrev pub state_orders : PipeState → List OrderKey
state_orders s = flat_map (λ (n : Numbered). n.found.chain) (kept_of s)

-- where the events stand that a cut has: those of lanes, of pending sequences, and of the matches that pipes keep
abbrev pub orders_in : Cut → List OrderKey
orders_in cut = flat_map lane_orders cut.lanes ++ (flat_map (λ (h : Holder). h.chain) cut.holders ++ flat_map state_orders cut.book.pipes)

-- the lines of the events of a shard
abbrev pub lines_at : ℕ → List OrderKey → List ℕ
lines_at shard orders = map (λ (o : OrderKey). o.line) (filter (λ (o : OrderKey). o.shard == shard) orders)

-- an event of the cut stands at this line of the shard
abbrev pub NamesLine : Cut → (shard line : ℕ) → Type 0
NamesLine cut shard line = Contains (lines_at shard (orders_in cut)) line

-- no event has a place
abbrev pub IsUnplaced : List OrderKey → Type 0
IsUnplaced orders = All (λ (o : OrderKey). o.at ≡ 0) orders

-- the place of a line: that of the first of these lines which is it, or 0 where none is
abbrev pub place_in : List (ℕ × ℕ) → ℕ → ℕ
place_in [] line = 0
place_in (p ∷ places) line = if p.0 == line then p.1 else place_in places line

-- the place of a line of a shard, by a list for each shard
abbrev pub listed_place : List (List (ℕ × ℕ)) → (shard line : ℕ) → ℕ
listed_place [] shard line = 0
listed_place (places ∷ lists) zero line = place_in places line
listed_place (places ∷ lists) (suc shard) line = listed_place lists shard line

-- in each list the lines ascend strictly
abbrev pub LinesAscend : List (List (ℕ × ℕ)) → Type 0
LinesAscend lists = IsTrue (list_all (is_sorted nat_cmp) lists)

-- the cut with the place of each event set by its shard and line
module _ (place : (shard line : ℕ) → ℕ) where
  abbrev pub lifted_order : OrderKey → OrderKey
  lifted_order o = record { ts = o.ts; tie = o.tie; shard = o.shard; line = o.line; at = place o.shard o.line }

  abbrev pub lifted_chain : List OrderKey → List OrderKey
  lifted_chain = map lifted_order

  abbrev pub lifted_item : Item → Item
  lifted_item item = record { order = lifted_order item.order; routes = item.routes }

  abbrev pub lifted_lane : LaneCut → LaneCut
  lifted_lane lane = record { offset = lane.offset; digest = lane.digest; closed = lane.closed; best = lane.best; counts = lane.counts; items = map lifted_item lane.items }

  abbrev pub lifted_holder : Holder → Holder
  lifted_holder h = record { key = h.key; stage = h.stage; chain = lifted_chain h.chain }

  abbrev pub lifted_match : Match → Match
  lifted_match found = record { key = found.key; chain = lifted_chain found.chain }

  abbrev pub lifted_kept : Numbered → Numbered
  lifted_kept n = record { number = n.number; found = lifted_match n.found }

  abbrev pub lifted_state : PipeState → PipeState
  lifted_state (state.Head passed) = state.Head passed
  lifted_state (state.Tail kept) = state.Tail (map lifted_kept kept)

  abbrev pub lifted_book : BookCut → BookCut
  lifted_book book = record { found = book.found; listed = book.listed; pipes = map lifted_state book.pipes }

  abbrev pub lifted_cut : Cut → Cut
  lifted_cut cut = record { head = cut.head; mark = cut.mark; lanes = map lifted_lane cut.lanes; holders = map lifted_holder cut.holders; book = lifted_book cut.book }

-- A test of a text and an event that each accepted event passes, each event of a cut passes.
use Rattle.std.proofs.Common.{◌≡◌, ◌≤◌, ◌+◌, ◌-◌, ◌++◌, Bool, false, not, ℕ, zero, suc, ℤ, List, [], ◌∷◌, map, filter, Option, Some, sym, subst, arith}
use Rattle.std.specs.Prelude.{All, IsTrue}
use Rattle.std.specs.List.{flat_map, list_all}
use Rattle.std.proofs.lemmas.Bool.{and_parts}
use Rattle.std.proofs.lemmas.List.Elements.{All-nil, All-cons, All-append, All-filter, All-map, All-weaker}
use Rattle.eql_values.specs.declared.order.OrderKey.{OrderKey}
use Rattle.eql_values.specs.declared.order.Mark.{Mark}
use Rattle.eql_values.specs.declared.order.Mark.TheVariants.{At}
use Rattle.eql_values.specs.declared.item.Item.{Item}
use Rattle.eql_values.specs.declared.found.Holder.{Holder}
use Rattle.eql_values.specs.declared.found.Match.{Match}
use Rattle.eql_values.specs.declared.found.Numbered.{Numbered}
use Rattle.eql_values.specs.declared.cut.LaneCut.{LaneCut}
use Rattle.eql_values.specs.declared.cut.PipeState.{PipeState}
use Rattle.eql_values.specs.Accepted.{Reads, accepted_items, accepted_from, below}
use Rattle.eql_values.specs.Marks.{is_below}
use Rattle.eql_values.specs.Matching.{matches, after}
use Rattle.eql_laws.specs.Books.{KeptPass, kept_of, book_of}
use Rattle.eql_laws.specs.Cuts.{pending_at}
use Rattle.eql_laws.specs.Fitting.{Run, Kept}
use Rattle.eql_laws.specs.Lanes.{lane_at, lanes_from}
use Rattle.eql_laws.specs.Places.{ReadTo, whole}
use Rattle.eql_laws.specs.Shapes.{EventsPass, EventsStay}
use Rattle.eql_laws.proofs.BelowLemmas.{All-sorted}
use Rattle.eql_laws.proofs.Elements.{All-flat_map}
use Rattle.eql_cut.specs.declared.cut.Cut.{Cut}
use Rattle.eql_cut.specs.Placing.{lane_orders, state_orders, orders_in}
use Rattle.eql_cut.specs.Placed.{IsCutOf}

-- the event passes the test by the text of this shard
abbrev pub along : (List ℕ → OrderKey → Bool) → List (List ℕ) → (shard : ℕ) → OrderKey → Bool
along test [] shard o = false
along test (text ∷ texts) zero o = test text o
along test (text ∷ texts) (suc shard) o = along test texts shard o

-- by the text of its shard, of which the first is this one
abbrev pub PassesFrom : (List ℕ → OrderKey → Bool) → (shard : ℕ) → List (List ℕ) → OrderKey → Type 0
PassesFrom test shard texts o = (shard ≤ o.shard) × IsTrue (along test texts (o.shard - shard) o)

abbrev pub PassesAt : (List ℕ → OrderKey → Bool) → (shard : ℕ) → List ℕ → Item → Type 0
PassesAt test shard text item = (item.order.shard ≡ shard) × IsTrue (test text item.order)

module _ (test : List ℕ → OrderKey → Bool) where
  first_passes : (shard : ℕ) (text : List ℕ) (texts : List (List ℕ)) (item : Item) → PassesAt test shard text item → PassesFrom test shard (text ∷ texts) item.order
  first_passes shard text texts item h = (
    omega (arith, h.0),
    subst (λ (n : ℕ). IsTrue (along test (text ∷ texts) n item.order)) (sub item.order.shard h.0) h.1,
  )
    where
      sub : (s : ℕ) → s ≡ shard → 0 ≡ s - shard
      sub s is = omega (arith, is)

  later_passes : (shard : ℕ) (text : List ℕ) (texts : List (List ℕ)) (item : Item) → PassesFrom test (shard + 1) texts item.order → PassesFrom test shard (text ∷ texts) item.order
  later_passes shard text texts item h = (
    omega (arith, h.0),
    subst (λ (n : ℕ). IsTrue (along test (text ∷ texts) n item.order)) (sub item.order.shard h.0) h.1,
  )
    where
      sub : (s : ℕ) → shard + 1 ≤ s → suc (s - (shard + 1)) ≡ s - shard
      sub s le = omega (arith, le)

  -- by the text of its shard, of all texts
  pub passes_whole : (texts : List (List ℕ)) (o : OrderKey) → PassesFrom test 0 texts o → IsTrue (along test texts o.shard o)
  passes_whole texts o h = subst (λ (n : ℕ). IsTrue (along test texts n o)) (sub o.shard) h.1
    where
      sub : (s : ℕ) → s - 0 ≡ s
      sub s = omega arith

  module _ (reads : Reads) (slack : Option ℤ) where
    -- of the accepted events of texts
    pub all_pass : ((shard : ℕ) (text : List ℕ) → All (PassesAt test shard text) (accepted_items reads slack shard text)) → (shard : ℕ) (texts : List (List ℕ))
        → All (λ (item : Item). PassesFrom test shard texts item.order) (accepted_from reads slack shard texts)
    all_pass each shard [] = All-nil _
    all_pass each shard (text ∷ texts) =
        All-append (λ (item : Item). PassesFrom test shard (text ∷ texts) item.order) (accepted_items reads slack shard text) (accepted_from reads slack (shard + 1) texts)
        (All-weaker (PassesAt test shard text) (λ (item : Item). PassesFrom test shard (text ∷ texts) item.order) (first_passes shard text texts) (accepted_items reads slack shard text) (each shard text))
        (All-weaker (λ (item : Item). PassesFrom test (shard + 1) texts item.order) (λ (item : Item). PassesFrom test shard (text ∷ texts) item.order) (later_passes shard text texts)
        (accepted_from reads slack (shard + 1) texts) (all_pass each (shard + 1) texts))

    pub below_pass : ((shard : ℕ) (text : List ℕ) → All (PassesAt test shard text) (accepted_items reads slack shard text)) → (texts : List (List ℕ)) (mark : Mark)
        → All (λ (item : Item). IsTrue (along test texts item.order.shard item.order)) (below reads slack texts mark)
    below_pass each texts mark =
        All-sorted (λ (item : Item). IsTrue (along test texts item.order.shard item.order)) (filter (is_below mark) (accepted_from reads slack 0 texts))
        (All-filter (is_below mark) (λ (item : Item). IsTrue (along test texts item.order.shard item.order)) (accepted_from reads slack 0 texts)
        (All-weaker (λ (item : Item). PassesFrom test 0 texts item.order) (λ (item : Item). IsTrue (along test texts item.order.shard item.order)) (λ item h. passes_whole texts item.order h) (accepted_from reads slack 0 texts)
        (all_pass each 0 texts)))

    -- of those that lanes hold back, by a text of each shard
    module _ (text_of : ReadTo → List ℕ) (each : (shard : ℕ) (r : ReadTo) → All (PassesAt test shard (text_of r)) (accepted_items reads slack shard r.first)) (mark : Mark) where
      abbrev LanePasses : ℕ → List ReadTo → LaneCut → Type 0
      LanePasses shard shards lane = All (λ (item : Item). PassesFrom test shard (map text_of shards) item.order) lane.items

      lane_passes : (shard : ℕ) (r : ReadTo) (shards : List ReadTo) → LanePasses shard (r ∷ shards) (lane_at reads slack shard mark r)
      lane_passes shard r shards =
          All-sorted (λ (item : Item). PassesFrom test shard (map text_of (r ∷ shards)) item.order) (filter (λ item. not (is_below mark item)) (accepted_items reads slack shard r.first))
          (All-filter (λ item. not (is_below mark item)) (λ (item : Item). PassesFrom test shard (map text_of (r ∷ shards)) item.order) (accepted_items reads slack shard r.first)
          (All-weaker (PassesAt test shard (text_of r)) (λ (item : Item). PassesFrom test shard (map text_of (r ∷ shards)) item.order) (first_passes shard (text_of r) (map text_of shards))
          (accepted_items reads slack shard r.first) (each shard r)))

      pub lanes_pass : (shard : ℕ) (shards : List ReadTo) → All (LanePasses shard shards) (lanes_from reads slack shard mark shards)
      lanes_pass shard [] = All-nil _
      lanes_pass shard (r ∷ shards) =
          All-cons (LanePasses shard (r ∷ shards)) (lane_at reads slack shard mark r) (lanes_from reads slack (shard + 1) mark shards) (lane_passes shard r shards)
          (All-weaker (LanePasses (shard + 1) shards) (LanePasses shard (r ∷ shards))
          (λ lane h. All-weaker (λ (item : Item). PassesFrom test (shard + 1) (map text_of shards) item.order) (λ (item : Item). PassesFrom test shard (map text_of (r ∷ shards)) item.order)
          (later_passes shard (text_of r) (map text_of shards)) lane.items h)
          (lanes_from reads slack (shard + 1) mark shards) (lanes_pass (shard + 1) shards))

-- what is said of each event of a cut
module _ (stay : EventsStay) (keep : KeptPass) (test : OrderKey → Bool) where
  abbrev P : OrderKey → Type 0
  P o = IsTrue (test o)

  chain_passes : (chain : List OrderKey) → EventsPass test chain → All P chain
  chain_passes [] h = All-nil P
  chain_passes (o ∷ chain) h = let parts = and_parts (test o) (list_all test chain) h in All-cons P o chain parts.0 (chain_passes chain parts.1)

  lane_events : (lane : LaneCut) → All (λ (item : Item). P item.order) lane.items → All P (lane_orders lane)
  lane_events lane h = All-map P (λ (item : Item). item.order) lane.items h

  holder_events : (h : Holder) → EventsPass test h.chain → All P h.chain
  holder_events h is = chain_passes h.chain is

  state_events : (s : PipeState) → All (λ (n : Numbered). EventsPass test n.found.chain) (kept_of s) → All P (state_orders s)
  state_events s h =
      All-flat_map (λ (n : Numbered). EventsPass test n.found.chain) P (λ (n : Numbered). n.found.chain) (λ n is. chain_passes n.found.chain is) (kept_of s) h

  -- where the events of kept parts stand
  abbrev orders_of : Kept → List OrderKey
  orders_of kept = flat_map lane_orders kept.lanes ++ (flat_map (λ (h : Holder). h.chain) kept.holders ++ flat_map state_orders kept.book.pipes)

  module _ (run : Run) (reads : Reads) (t : ℤ) (shards : List ReadTo) where
    abbrev items : List Item
    items = below reads (Some run.slack) (map whole shards) (At t)

    pub events_pass : (cut : Cut) → IsCutOf run reads t shards cut → All (λ (item : Item). P item.order) items
        → All (λ (lane : LaneCut). All (λ (item : Item). P item.order) lane.items) (lanes_from reads (Some run.slack) 0 (At t) shards)
        → All P (orders_in cut)
    events_pass cut is each lanes =
        let kept = stay run.stages run.span test [] items (All-nil _) each in
        let found : List Match = matches run.stages run.span [] items in
        let holders : List Holder = pending_at run.stages run.span t reads (Some run.slack) (map whole shards) (At t) in
        let pipes : List PipeState = (book_of run.pipes found).pipes in
        subst (λ (k : Kept). All P (orders_of k)) (sym is)
        (All-append P (flat_map lane_orders (lanes_from reads (Some run.slack) 0 (At t) shards)) (flat_map (λ (h : Holder). h.chain) holders ++ flat_map state_orders pipes)
        (All-flat_map (λ (lane : LaneCut). All (λ (item : Item). P item.order) lane.items) P lane_orders lane_events (lanes_from reads (Some run.slack) 0 (At t) shards) lanes)
        (All-append P (flat_map (λ (h : Holder). h.chain) holders) (flat_map state_orders pipes)
        (All-flat_map (λ (h : Holder). EventsPass test h.chain) P (λ (h : Holder). h.chain) holder_events holders
        (All-filter _ (λ (h : Holder). EventsPass test h.chain) (after run.stages run.span [] items) kept.after))
        (All-flat_map (λ (s : PipeState). All (λ (n : Numbered). EventsPass test n.found.chain) (kept_of s)) P state_orders state_events pipes
        (keep (λ (m : Match). list_all test m.chain) run.pipes found kept.matches))))

-- Bounds of what is read are bounds of what is kept.
use Rattle.std.proofs.Common.{◌≡◌, ℕ, ℤ, ◌≤ℤ◌, neg_ℤ, eqb, Bool, true, List, [], Option, length, arith}
use Rattle.std.specs.Prelude.{All, IsTrue, ◌&&◌}
use Rattle.std.specs.Int.Signed.{le_z}
use Rattle.std.proofs.lemmas.Bool.{eqb-true, eq-eqb}
use Rattle.std.proofs.lemmas.Int.{ints}
use Rattle.std.proofs.lemmas.List.Elements.{All-nil, All-filter, All-weaker}
use Rattle.std.proofs.lemmas.List.Sums.{list_all-from_AllPass, AllPass-from_list_all}
use Rattle.eql_values.specs.declared.value.Value.{Value}
use Rattle.eql_values.specs.declared.order.OrderKey.{OrderKey}
use Rattle.eql_values.specs.declared.item.Route.{Route}
use Rattle.eql_values.specs.declared.item.Item.{Item}
use Rattle.eql_values.specs.declared.found.Match.{Match}
use Rattle.eql_values.specs.declared.found.Holder.{Holder}
use Rattle.eql_values.specs.Accepted.{below}
use Rattle.eql_values.specs.Chains.{in_time}
use Rattle.eql_values.specs.Matching.{matches, after}
use Rattle.eql_values.specs.Reading.{IsTime, time_bound}
use Rattle.eql_laws.specs.Belows.{IsBelow}
use Rattle.eql_laws.specs.Bounds.{KeysHave, KeysFit, HasStagesTo, MasksFit, HasTimes, TimesFit}
use Rattle.eql_laws.specs.Shapes.{RoutesPass, KeysKeep, EventsPass, EventsKeep}
use Rattle.eql_laws.proofs.BelowLemmas.{below_are}
use Rattle.eql_laws.proofs.CutLemmas.{held_back_pass, below_pass}
use Rattle.eql_laws.proofs.Facts.{both_true, true_both}
use Rattle.eql_laws.proofs.Shaping.{keys_stay, events_stay}

-- whether a key has this number of values
abbrev has : ℕ → List Value → Bool
has values key = eqb (length key) values

routes_pass : (values : ℕ) (item : Item) → KeysHave values item → RoutesPass (has values) item
routes_pass values item h =
    list_all-from_AllPass (λ (r : Route). has values r.key) item.routes
    (All-weaker (λ (r : Route). length r.key ≡ values) (λ (r : Route). has values r.key ≡ true) (λ r e. eq-eqb (length r.key) values e) item.routes h)

-- the keys of what is pending and of what was found
keys_keep : (values m : ℕ) (span : Option ℤ) (items : List Item) → All (KeysHave values) items → KeysKeep m span (has values) [] items
keys_keep values m span items h =
    keys_stay m span (has values) [] items (All-nil (λ (h : Holder). IsTrue (has values h.key))) (All-weaker (KeysHave values) (RoutesPass (has values)) (routes_pass values) items h)

pub keys_fit : KeysFit
keys_fit values m span t reads slack texts mark reading =
    let items : List Item = below reads slack texts mark in
    let kept : KeysKeep m span (has values) [] items =
    keys_keep values m span items (below_pass reads slack (λ routes. All (λ (r : Route). length r.key ≡ values) routes) reading texts mark) in
    record {
      held_back = λ shard text. held_back_pass reads slack (λ routes. All (λ (r : Route). length r.key ≡ values) routes) reading shard text mark;
      pending = All-filter (λ (h : Holder). in_time span h.chain t) (λ (h : Holder). length h.key ≡ values) (after m span [] items)
          (All-weaker (λ (h : Holder). IsTrue (has values h.key)) (λ (h : Holder). length h.key ≡ values) (λ h e. eqb-true (length h.key) values e) (after m span [] items) kept.after);
      found = All-weaker (λ (found : Match). IsTrue (has values found.key)) (λ (found : Match). length found.key ≡ values) (λ found e. eqb-true (length found.key) values e)
          (matches m span [] items) kept.matches;
    }

pub masks_fit : MasksFit
masks_fit m reads slack shard text mark reading =
    held_back_pass reads slack (λ routes. All (λ (r : Route). HasStagesTo m r.mask) routes) reading shard text mark

-- whether an event's time lies within the bound
abbrev has_time : OrderKey → Bool
has_time event = le_z (neg_ℤ time_bound) event.ts && le_z event.ts time_bound

le_tests : (x y : ℤ) → x ≤ℤ y → le_z x y ≡ true
le_tests x y h = grind (arith, ints)

le_tested : (x y : ℤ) → le_z x y ≡ true → x ≤ℤ y
le_tested x y e = grind (arith, ints)

time_tests : (event : OrderKey) → IsTime event.ts → IsTrue (has_time event)
time_tests event h = true_both _ _ (le_tests (neg_ℤ time_bound) event.ts h.0) (le_tests event.ts time_bound h.1)

time_tested : (event : OrderKey) → has_time event ≡ true → IsTime event.ts
time_tested event e =
    let both = both_true (le_z (neg_ℤ time_bound) event.ts) (le_z event.ts time_bound) e in
    (le_tested (neg_ℤ time_bound) event.ts both.0, le_tested event.ts time_bound both.1)

chain_times : (chain : List OrderKey) → EventsPass has_time chain → HasTimes chain
chain_times chain h =
    All-weaker (λ (event : OrderKey). has_time event ≡ true) (λ (event : OrderKey). IsTime event.ts) time_tested chain (AllPass-from_list_all has_time chain h)

pub times_fit : TimesFit
times_fit m span t reads slack texts mark reading =
    let items : List Item = below reads slack texts mark in
    let kept : EventsKeep m span has_time [] items =
    events_stay m span has_time [] items (All-nil (λ (h : Holder). EventsPass has_time h.chain))
    (All-weaker (IsBelow (length texts) mark) (λ (item : Item). IsTrue (has_time item.order)) (λ item h. time_tests item.order h.in_range) items (below_are reads slack texts mark reading)) in
    record {
      pending = All-filter (λ (h : Holder). in_time span h.chain t) (λ (h : Holder). HasTimes h.chain) (after m span [] items)
          (All-weaker (λ (h : Holder). EventsPass has_time h.chain) (λ (h : Holder). HasTimes h.chain) (λ h k. chain_times h.chain k) (after m span [] items) kept.after);
      found = All-weaker (λ (found : Match). EventsPass has_time found.chain) (λ (found : Match). HasTimes found.chain) (λ found k. chain_times found.chain k)
          (matches m span [] items) kept.matches;
    }

-- What a cut keeps fits the run.
use Rattle.std.proofs.Common.{◌≡◌, ◌≤◌, ◌+◌, ℕ, suc, ℤ, List, [], ◌∷◌, map, length, Option, Some, refl, ap, sym, subst}
use Rattle.std.specs.Prelude.{All}
use Rattle.std.proofs.lemmas.List.{length-map}
use Rattle.std.proofs.lemmas.List.Elements.{All-nil, All-cons, All-weaker}
use Rattle.eql_values.specs.declared.order.Mark.{Mark}
use Rattle.eql_values.specs.declared.order.Mark.TheVariants.{At}
use Rattle.eql_values.specs.declared.cut.LaneCut.{LaneCut}
use Rattle.eql_values.specs.declared.item.Item.{Item}
use Rattle.eql_values.specs.declared.found.Holder.{Holder}
use Rattle.eql_values.specs.declared.found.Match.{Match}
use Rattle.eql_values.specs.Accepted.{Reads, below}
use Rattle.eql_values.specs.Ascending.{Ascend}
use Rattle.eql_values.specs.Matching.{matches}
use Rattle.eql_values.specs.OrderKeys.{EventsAscend}
use Rattle.eql_values.specs.Routes.{RoutesStand}
use Rattle.eql_laws.specs.Books.{book_of, BookFits, greatest_shards, greatest_found}
use Rattle.eql_laws.specs.Counting.{front}
use Rattle.eql_laws.specs.Bounds.{KeysHave, HasMasksTo, HasTimes}
use Rattle.eql_laws.specs.Cuts.{held_back, IsHeldBack, pending_at, IsPending, PendingAre}
use Rattle.eql_laws.specs.Fitting.{CutsFit, CutsStand}
use Rattle.eql_laws.specs.Lanes.{lane_at, lanes_from}
use Rattle.eql_laws.specs.Places.{ReadTo, whole}
use Rattle.eql_laws.proofs.CutLemmas.{held_back_fits, pending_fits}
use Rattle.eql_laws.proofs.KeptBooks.{book_of_fits, book_of_stands, kept_of_found, found_is_few}
use Rattle.eql_laws.proofs.KeptBounds.{keys_fit, masks_fit, times_fit}
use Rattle.eql_laws.proofs.KeptLanes.{lanes_of_fit}
use Rattle.eql_laws.proofs.SafePlaces.{late}

module _ (reads : Reads) (slack : Option ℤ) (mark : Mark) where
  length-lanes : (shard : ℕ) (shards : List ReadTo) → length (lanes_from reads slack shard mark shards) ≡ length shards
  length-lanes shard [] = refl
  length-lanes shard (r ∷ shards) = ap suc (length-lanes (shard + 1) shards)

  -- what holds of what is kept of each shard holds of each lane
  all_lanes : (P : LaneCut → Type 0) → ((shard : ℕ) (r : ReadTo) → P (lane_at reads slack shard mark r)) → (shard : ℕ) (shards : List ReadTo) → All P (lanes_from reads slack shard mark shards)
  all_lanes P each shard [] = All-nil P
  all_lanes P each shard (r ∷ shards) =
      All-cons P (lane_at reads slack shard mark r) (lanes_from reads slack (shard + 1) mark shards) (each shard r) (all_lanes P each (shard + 1) shards)

pub cuts_fit : CutsFit
cuts_fit run reads t shards for places texts few safe range =
    let slack : Option ℤ = Some run.slack in
    let whole_texts : List (List ℕ) = map whole shards in
    let as_many : length whole_texts ≡ length shards = length-map shards whole in
    let found : List Match = matches run.stages run.span [] (below reads slack whole_texts (At t)) in
    let holders : List Holder = pending_at run.stages run.span t reads slack whole_texts (At t) in
    let keys = keys_fit run.values run.stages run.span t reads slack whole_texts (At t) (λ shard line bytes item e. (for.each shard line bytes item e).keys) in
    let times = times_fit run.stages run.span t reads slack whole_texts (At t) for.reading in
    record {
      time_in_range = range;
      lane_for_each = length-lanes reads slack (At t) 0 shards;
      lanes = lanes_of_fit reads run.slack t shards for.reading texts safe;
      lane_masks = all_lanes reads slack (At t) (λ (lane : LaneCut). All (HasMasksTo run.stages) lane.items)
          (λ shard r. masks_fit run.stages reads slack shard r.first (At t) (λ s line bytes item e. (for.each s line bytes item e).masks)) 0 shards;
      lane_keys = all_lanes reads slack (At t) (λ (lane : LaneCut). All (KeysHave run.values) lane.items) (λ shard r. keys.held_back shard r.first) 0 shards;
      holders = subst (λ (n : ℕ). PendingAre run.stages n (At t) holders) as_many (pending_fits run.stages run.span t reads slack whole_texts (At t) for.reading);
      holder_times = times.pending;
      holder_keys = keys.pending;
      book = subst (λ (n : ℕ). BookFits run.stages n run.pipes (book_of run.pipes found)) as_many
          (book_of_fits run.stages run.span reads slack whole_texts (At t) run.pipes for.reading);
      found_to = subst (λ (items : List Item). length (matches run.stages run.span [] items) ≤ greatest_found) (sym (late reads slack (At t) shards places safe))
          (found_is_few run.stages run.span reads slack (map front shards) (At t) (λ shard line bytes item e. (for.each shard line bytes item e).once) texts
          (subst (λ (n : ℕ). n ≤ greatest_shards) (sym (length-map shards front)) few));
      book_times = kept_of_found (λ (m : Match). HasTimes m.chain) run.pipes found times.found;
      book_keys = kept_of_found (λ (m : Match). length m.key ≡ run.values) run.pipes found keys.found;
    }

pub cuts_stand : CutsStand
cuts_stand run reads t shards reading =
    let slack : Option ℤ = Some run.slack in
    let whole_texts : List (List ℕ) = map whole shards in
    let pending = pending_fits run.stages run.span t reads slack whole_texts (At t) reading in
    record {
      lane_for_each = length-lanes reads slack (At t) 0 shards;
      items = all_lanes reads slack (At t) (λ (lane : LaneCut). Ascend lane.items × All (λ (item : Item). RoutesStand item.routes) lane.items)
          (λ shard r. let held = held_back_fits reads slack shard r.first (At t) reading in
          (held.ascending, All-weaker (IsHeldBack shard r.first (At t)) (λ (item : Item). RoutesStand item.routes) (λ item h. h.accepted.routes_stand) (held_back reads slack shard r.first (At t)) held.all)) 0 shards;
      holders = pending.in_order;
      chains = All-weaker (IsPending run.stages (length whole_texts) (At t)) (λ (h : Holder). (length h.chain ≡ h.stage) × EventsAscend h.chain) (λ h is. (is.full, is.ascends))
          (pending_at run.stages run.span t reads slack whole_texts (At t)) pending.all;
      book = (book_of_stands run.stages run.span reads slack whole_texts (At t) run.pipes reading).in_order;
    }

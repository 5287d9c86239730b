-- What is kept of shards with the digests of texts: nothing but the digests changes.
use Rattle.std.proofs.Common.{◌≡◌, ◌+◌, ℕ, ℤ, zero, suc, List, [], ◌∷◌, ◌++◌, Some, refl, ap, sym, ◌∙◌, subst, length}
use Rattle.std.specs.Prelude.{take, All}
use Rattle.std.specs.List.{slice_get, flat_map}
use Rattle.std.proofs.lemmas.List.Elements.{All-nil, All-cons, All-head, All-tail}
use Rattle.std.proofs.lemmas.Option.{none-some, same_Some}
use Rattle.eql_values.specs.declared.cut.LaneCut.{LaneCut}
use Rattle.eql_values.specs.declared.item.Item.{Item}
use Rattle.eql_values.specs.Ascending.{Ascend}
use Rattle.eql_values.specs.Routes.{RoutesStand}
use Rattle.eql_laws.specs.Bounds.{HasMasksTo, KeysHave}
use Rattle.eql_laws.specs.Fitting.{Fits, Kept, Run, StandsInOrder}
use Rattle.eql_laws.specs.Lanes.{LaneFits, LanesFit}
use Rattle.eql_lane.specs.Noting.{retraced_cut}
use Rattle.eql_cut.specs.Placing.{lane_orders}
use Rattle.eql_runs.specs.Starts.{lanes_over}

-- ---- each lane
-- lanes that are the same but for their digests
pub record IsSameBut (a b : LaneCut) : Type 0 where
  pub offset : a.offset ≡ b.offset
  pub closed : a.closed ≡ b.closed
  pub best : a.best ≡ b.best
  pub counts : a.counts ≡ b.counts
  pub items : a.items ≡ b.items

-- the lane of a list at this place, which is the same as this one but for its digest
pub record SameAt (lanes : List LaneCut) (shard : ℕ) (lane : LaneCut) : Type 0 where
  pub other : LaneCut
  pub there : slice_get lanes shard ≡ Some other
  pub is_same : IsSameBut lane other

pub retraced_is_same : (text : List ℕ) (lane : LaneCut) → IsSameBut (retraced_cut text lane) lane
retraced_is_same text lane = record { offset = refl; closed = refl; best = refl; counts = refl; items = refl }

same_as : (a b : LaneCut) → a ≡ b → IsSameBut b a
same_as a b e = subst (λ (x : LaneCut). IsSameBut x a) e (record { offset = refl; closed = refl; best = refl; counts = refl; items = refl })

next_of : (first : LaneCut) (lanes : List LaneCut) (shard : ℕ) (lane : LaneCut) → SameAt lanes shard lane → SameAt (first ∷ lanes) (suc shard) lane
next_of first lanes shard lane h = record { other = h.other; there = h.there; is_same = h.is_same }

pub over_length : (texts : List (List ℕ)) (lanes : List LaneCut) → length (lanes_over texts lanes) ≡ length lanes
over_length texts [] = refl
over_length [] (lane ∷ lanes) = refl
over_length (bytes ∷ texts) (lane ∷ lanes) = ap suc (over_length texts lanes)

-- the lane that had another digest
pub lane_under : (texts : List (List ℕ)) (lanes : List LaneCut) (shard : ℕ) (lane : LaneCut) → slice_get (lanes_over texts lanes) shard ≡ Some lane
    → SameAt lanes shard lane
lane_under texts [] shard lane is = absurd (none-some lane is)
lane_under [] (first ∷ lanes) shard lane is =
    record { other = lane; there = is; is_same = record { offset = refl; closed = refl; best = refl; counts = refl; items = refl } }
lane_under (bytes ∷ texts) (first ∷ lanes) zero lane is =
    let e = same_Some (retraced_cut (take first.offset bytes) first) lane is in
    record {
      other = first;
      there = refl;
      is_same = subst (λ (x : LaneCut). IsSameBut x first) e (retraced_is_same (take first.offset bytes) first);
    }
lane_under (bytes ∷ texts) (first ∷ lanes) (suc shard) lane is = next_of first lanes shard lane (lane_under texts lanes shard lane is)

-- and the lane that has the digest of its text
pub lane_over : (texts : List (List ℕ)) (lanes : List LaneCut) (shard : ℕ) (bytes : List ℕ) (lane : LaneCut) → slice_get texts shard ≡ Some bytes
    → slice_get lanes shard ≡ Some lane → slice_get (lanes_over texts lanes) shard ≡ Some (retraced_cut (take lane.offset bytes) lane)
lane_over texts [] shard bytes lane there is = absurd (none-some lane is)
lane_over [] (first ∷ lanes) shard bytes lane there is = absurd (none-some bytes there)
lane_over (text ∷ texts) (first ∷ lanes) zero bytes lane there is =
    ap Some (ap (λ (x : LaneCut). retraced_cut (take x.offset text) x) (same_Some first lane is)
    ∙ ap (λ (x : List ℕ). retraced_cut (take lane.offset x) lane) (same_Some text bytes there))
lane_over (text ∷ texts) (first ∷ lanes) (suc shard) bytes lane there is = lane_over texts lanes shard bytes lane there is

-- a lane stands for each, whether it has a text or none
pub lane_above : (texts : List (List ℕ)) (lanes : List LaneCut) (shard : ℕ) (lane : LaneCut) → slice_get lanes shard ≡ Some lane
    → SameAt (lanes_over texts lanes) shard lane
lane_above texts [] shard lane is = absurd (none-some lane is)
lane_above [] (first ∷ lanes) shard lane is =
    record { other = lane; there = is; is_same = record { offset = refl; closed = refl; best = refl; counts = refl; items = refl } }
lane_above (text ∷ texts) (first ∷ lanes) zero lane is =
    let e = same_Some first lane is in
    record {
      other = retraced_cut (take first.offset text) first;
      there = refl;
      is_same = subst (λ (x : LaneCut). IsSameBut x (retraced_cut (take first.offset text) first)) e
          (record { offset = refl; closed = refl; best = refl; counts = refl; items = refl });
    }
lane_above (text ∷ texts) (first ∷ lanes) (suc shard) lane is =
    next_of (retraced_cut (take first.offset text) first) (lanes_over texts lanes) shard lane (lane_above texts lanes shard lane is)

-- where lanes are those over texts, each is the same but for its digest
pub same_but : (texts : List (List ℕ)) (lanes under : List LaneCut) (shard : ℕ) (lane : LaneCut) → lanes ≡ lanes_over texts under
    → slice_get lanes shard ≡ Some lane → SameAt under shard lane
same_but texts lanes under shard lane e is =
    lane_under texts under shard lane (ap (λ (x : List LaneCut). slice_get x shard) (sym e) ∙ is)

-- the events of lanes stand where they did
pub orders_over : (texts : List (List ℕ)) (lanes : List LaneCut) → flat_map lane_orders (lanes_over texts lanes) ≡ flat_map lane_orders lanes
orders_over texts [] = refl
orders_over [] (lane ∷ lanes) = refl
orders_over (bytes ∷ texts) (lane ∷ lanes) = ap (λ orders. lane_orders lane ++ orders) (orders_over texts lanes)

-- ---- what depends on no digest
-- what holds of each lane whatever its digest is
all_over : (P : LaneCut → Type 0) → ((text : List ℕ) (lane : LaneCut) → P lane → P (retraced_cut text lane)) → (texts : List (List ℕ)) (lanes : List LaneCut)
    → All P lanes → All P (lanes_over texts lanes)
all_over P keeps texts [] h = All-nil P
all_over P keeps [] (lane ∷ lanes) h = h
all_over P keeps (bytes ∷ texts) (lane ∷ lanes) h =
    All-cons P (retraced_cut (take lane.offset bytes) lane) (lanes_over texts lanes) (keeps (take lane.offset bytes) lane (All-head P lane lanes h))
    (all_over P keeps texts lanes (All-tail P lane lanes h))

all_under : (P : LaneCut → Type 0) → ((text : List ℕ) (lane : LaneCut) → P (retraced_cut text lane) → P lane) → (texts : List (List ℕ)) (lanes : List LaneCut)
    → All P (lanes_over texts lanes) → All P lanes
all_under P keeps texts [] h = All-nil P
all_under P keeps [] (lane ∷ lanes) h = h
all_under P keeps (bytes ∷ texts) (lane ∷ lanes) h =
    let first = retraced_cut (take lane.offset bytes) lane in
    All-cons P lane lanes (keeps (take lane.offset bytes) lane (All-head P first (lanes_over texts lanes) h))
    (all_under P keeps texts lanes (All-tail P first (lanes_over texts lanes) h))

lane_fits_over : (slack t : ℤ) (shard : ℕ) (text : List ℕ) (lane : LaneCut) → LaneFits slack t shard lane → LaneFits slack t shard (retraced_cut text lane)
lane_fits_over slack t shard text lane h = record {
  best_in_range = h.best_in_range;
  open_best = h.open_best;
  items = h.items;
  ascending = h.ascending;
  no_more_items = h.no_more_items;
  counts_stand = h.counts_stand;
  lines_to = h.lines_to;
  offset_to = h.offset_to;
}

lane_fits_under : (slack t : ℤ) (shard : ℕ) (text : List ℕ) (lane : LaneCut) → LaneFits slack t shard (retraced_cut text lane) → LaneFits slack t shard lane
lane_fits_under slack t shard text lane h = record {
  best_in_range = h.best_in_range;
  open_best = h.open_best;
  items = h.items;
  ascending = h.ascending;
  no_more_items = h.no_more_items;
  counts_stand = h.counts_stand;
  lines_to = h.lines_to;
  offset_to = h.offset_to;
}

lanes_fit_over : (slack t : ℤ) (shard : ℕ) (texts : List (List ℕ)) (lanes : List LaneCut) → LanesFit slack t shard lanes
    → LanesFit slack t shard (lanes_over texts lanes)
lanes_fit_over slack t shard texts [] h = tt
lanes_fit_over slack t shard [] (lane ∷ lanes) h = h
lanes_fit_over slack t shard (bytes ∷ texts) (lane ∷ lanes) h =
    (lane_fits_over slack t shard (take lane.offset bytes) lane h.0, lanes_fit_over slack t (shard + 1) texts lanes h.1)

lanes_fit_under : (slack t : ℤ) (shard : ℕ) (texts : List (List ℕ)) (lanes : List LaneCut) → LanesFit slack t shard (lanes_over texts lanes)
    → LanesFit slack t shard lanes
lanes_fit_under slack t shard texts [] h = tt
lanes_fit_under slack t shard [] (lane ∷ lanes) h = h
lanes_fit_under slack t shard (bytes ∷ texts) (lane ∷ lanes) h =
    (lane_fits_under slack t shard (take lane.offset bytes) lane h.0, lanes_fit_under slack t (shard + 1) texts lanes h.1)

-- what fits a run does so with the digests of any texts
pub fits_over : (run : Run) (shards : ℕ) (texts : List (List ℕ)) (kept : Kept) → Fits run shards kept
    → Fits run shards (record kept { lanes = lanes_over texts kept.lanes })
fits_over run shards texts kept f = record {
  time_in_range = f.time_in_range;
  lane_for_each = over_length texts kept.lanes ∙ f.lane_for_each;
  lanes = lanes_fit_over run.slack kept.time 0 texts kept.lanes f.lanes;
  lane_masks = all_over (λ (lane : LaneCut). All (HasMasksTo run.stages) lane.items) (λ text lane h. h) texts kept.lanes f.lane_masks;
  lane_keys = all_over (λ (lane : LaneCut). All (KeysHave run.values) lane.items) (λ text lane h. h) texts kept.lanes f.lane_keys;
  holders = f.holders;
  holder_times = f.holder_times;
  holder_keys = f.holder_keys;
  book = f.book;
  found_to = f.found_to;
  book_times = f.book_times;
  book_keys = f.book_keys;
}

-- and the other way
pub fits_under : (run : Run) (shards : ℕ) (texts : List (List ℕ)) (kept : Kept) → Fits run shards (record kept { lanes = lanes_over texts kept.lanes })
    → Fits run shards kept
fits_under run shards texts kept f = record {
  time_in_range = f.time_in_range;
  lane_for_each = sym (over_length texts kept.lanes) ∙ f.lane_for_each;
  lanes = lanes_fit_under run.slack kept.time 0 texts kept.lanes f.lanes;
  lane_masks = all_under (λ (lane : LaneCut). All (HasMasksTo run.stages) lane.items) (λ text lane h. h) texts kept.lanes f.lane_masks;
  lane_keys = all_under (λ (lane : LaneCut). All (KeysHave run.values) lane.items) (λ text lane h. h) texts kept.lanes f.lane_keys;
  holders = f.holders;
  holder_times = f.holder_times;
  holder_keys = f.holder_keys;
  book = f.book;
  found_to = f.found_to;
  book_times = f.book_times;
  book_keys = f.book_keys;
}

abbrev LaneStands : LaneCut → Type 0
LaneStands lane = Ascend lane.items × All (λ (item : Item). RoutesStand item.routes) lane.items

-- what stands in the orders and counts of a text does so with the digests of any texts
pub stands_over : (shards : ℕ) (texts : List (List ℕ)) (kept : Kept) → StandsInOrder shards kept
    → StandsInOrder shards (record kept { lanes = lanes_over texts kept.lanes })
stands_over shards texts kept s = record {
  lane_for_each = over_length texts kept.lanes ∙ s.lane_for_each;
  items = all_over LaneStands (λ text lane h. h) texts kept.lanes s.items;
  holders = s.holders;
  chains = s.chains;
  book = s.book;
}

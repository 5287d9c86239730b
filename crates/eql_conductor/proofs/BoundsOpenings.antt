-- Lanes begin of a size that a shard may have, and stay so.
use Rattle.std.proofs.Common.{ℕ, ℤ, List, arith}
use Rattle.std.proofs.lemmas.List.{length-map}
use Rattle.eql_values.specs.declared.cut.LaneCut.{LaneCut}
use Rattle.eql_laws.specs.Lanes.{LaneFits}
use Rattle.eql_lane.specs.Lanes.{Setting, LaneState, beginning_lane, fresh_cut}
use Rattle.eql_lane.specs.Noting.{placed_cut, placed_item}
use Rattle.eql_lane.specs.Starts.{MayBegin, MayLift}
use Rattle.eql_conductor.specs.Benches.{Known, ComesByFeeds}
use Rattle.eql_conductor.specs.Bounds.{AreSized, IsSized}
use Rattle.eql_conductor.specs.Going.{LanesGo}
use Rattle.eql_conductor.proofs.Onward.{fed_onward}
use Rattle.eql_conductor.proofs.Resting.{was_lane}

pub fresh_is_sized : (faults : ℕ) → IsSized (beginning_lane fresh_cut faults)
fresh_is_sized faults = record { few = omega arith; read = omega arith; lines = omega arith; bytes = omega arith }

pub cut_is_sized : (cut : LaneCut) (faults : ℕ) → MayBegin cut → IsSized (beginning_lane cut faults)
cut_is_sized cut faults may = record {
  few = let a = may.few in let b = may.counts in omega (arith, a, b);
  read = omega arith;
  lines = may.lines;
  bytes = may.bytes;
}

pub lift_is_sized : (text : List ℕ) (cut : LaneCut) (wanted : List ℕ) (faults : ℕ) → MayLift cut wanted → IsSized (beginning_lane (placed_cut text cut) faults)
lift_is_sized text cut wanted faults may = record {
  few = let a = may.begin.few in let b = may.begin.counts in let c = length-map cut.items (placed_item text) in omega (arith, a, b, c);
  read = omega arith;
  lines = may.begin.lines;
  bytes = may.begin.bytes;
}

pub fit_is_sized : (slack t : ℤ) (shard : ℕ) (cut : LaneCut) (faults : ℕ) → LaneFits slack t shard cut → IsSized (beginning_lane cut faults)
fit_is_sized slack t shard cut faults fits = record {
  few = let a = fits.no_more_items in let b = fits.counts_stand.fewer in omega (arith, a, b);
  read = omega arith;
  lines = fits.lines_to;
  bytes = fits.offset_to;
}

-- others may feed
pub fed_is_sized : (set : Setting) (x y : LaneState) → ComesByFeeds set x y → IsSized x → IsSized y
fed_is_sized set x y fed sized = (fed_onward set x y fed).sized sized

-- and the conductor may play: no lane ever has more bytes than a shard may have
pub sized_on : (a b : Known) → LanesGo a b → AreSized a → AreSized b
sized_on a b go sized = record {
  each = λ s l y here.
      let was = was_lane a b s go.same l in
      let x = go.each s was y here in
      x.2.sized (sized.each s was x.0 x.1);
}

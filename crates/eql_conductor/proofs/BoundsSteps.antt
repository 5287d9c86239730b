-- No step of a lane takes it back.
use Rattle.std.proofs.Common.{◌≡◌, ℕ, suc, ◌+◌, ◌≤◌, ◌<◌, ℤ, Bool, true, false, cond, List, [], ◌∷◌, ◌++◌, length, Option, Some, sym, ap, ◌∙◌, arith, subst, length-append}
use Rattle.std.specs.Prelude.{filter, not}
use Rattle.eql_values.specs.declared.item.Item.{Item}
use Rattle.eql_values.specs.declared.cut.LaneCut.{LaneCut}
use Rattle.eql_values.specs.declared.order.Mark.{Mark}
use Rattle.eql_values.specs.Accepted.{readable, sorted_items}
use Rattle.eql_values.specs.Lines.{Line, lines_of, numbered_lines}
use Rattle.eql_values.specs.Marks.{is_below}
use Rattle.eql_laws.specs.Counting.{greatest_lines}
use Rattle.eql_laws.specs.Lateness.{accepted_by, larger, late_by}
use Rattle.eql_laws.proofs.BelowLemmas.{fewer_readable}
use Rattle.eql_laws.proofs.Counted.{lines_by_bytes}
use Rattle.eql_laws.proofs.CutLemmas.{filter_fewer, sorted_fewer}
use Rattle.eql_lane.specs.Lanes.{Setting, LaneState, ReadsOn, Takes}
use Rattle.eql_conductor.specs.Bounds.{Gains, IsSized, held_count, work_done}

-- ---- steps put together
pub gains_self : (x : LaneState) → Gains 0 x x
gains_self x = omega arith

pub gains_on : (n m : ℕ) (x y z : LaneState) → Gains n x y → Gains m y z → Gains (n + m) x z
gains_on n m x y z h k = omega (arith, h, k)

-- ---- lines that are read
fewer_one : (late : Bool) (item : Item) (items : List Item) (n : ℕ) → length items ≤ n → length (cond late items (item ∷ items)) ≤ suc n
fewer_one true item items n h = omega (arith, h)
fewer_one false item items n h = omega (arith, h)

fewer_accepted : (slack best : Option ℤ) (items : List Item) → length (accepted_by slack best items) ≤ length items
fewer_accepted slack best [] = omega arith
fewer_accepted slack best (item ∷ items) =
    fewer_one (late_by slack best item) item (accepted_by slack (Some (larger item.order.ts best)) items) (length items)
    (fewer_accepted slack (Some (larger item.order.ts best)) items)

as_many_lines : (number at : ℕ) (lines : List (List ℕ)) → length (numbered_lines number at lines) ≡ length lines
as_many_lines number at [] = omega arith
as_many_lines number at (bytes ∷ lines) = ap suc (as_many_lines (number + 1) (at + length bytes + 1) lines)

-- the held events after some were added are no more than both
held_to : (held more : List Item) (n : ℕ) → length more ≤ n → length (sorted_items (held ++ more)) ≤ length held + n
held_to held more n h = let a = sorted_fewer (held ++ more) in let b = length-append held more in omega (arith, a, b, h)

module _ (set : Setting) (x : LaneState) (n : ℕ) (y : LaneState) (r : ReadsOn set x n y) where
  abbrev next : List Line
  next = numbered_lines (1 + x.cut.counts.lines) x.cut.offset (lines_of r.more)

  -- an event comes to be held for each line at most
  read_held : held_count y ≤ held_count x + n
  read_held =
      let fresh = accepted_by set.slack x.cut.best (readable set.reads set.shard next) in
      let few : length fresh ≤ n =
      (let a = fewer_accepted set.slack x.cut.best (readable set.reads set.shard next) in
      let b = fewer_readable set.reads set.shard (1 + x.cut.counts.lines) x.cut.offset (lines_of r.more) in
      let c = r.count in omega (arith, a, b, c)) in
      subst (λ (cut : LaneCut). length cut.items ≤ held_count x + n) (sym r.cut) (held_to x.cut.items fresh n few)

  read_lines : y.cut.counts.lines ≡ x.cut.counts.lines + n
  read_lines =
      ap (λ (cut : LaneCut). cut.counts.lines) r.cut
      ∙ ap (λ (k : ℕ). x.cut.counts.lines + k) (as_many_lines (1 + x.cut.counts.lines) x.cut.offset (lines_of r.more) ∙ r.count)

  read_bytes : y.cut.offset ≡ x.cut.offset + length r.more
  read_bytes = ap (λ (cut : LaneCut). cut.offset) r.cut

  -- there are no more lines than bytes
  read_few : n ≤ length r.more
  read_few = let a = lines_by_bytes r.more in let b = r.count in omega (arith, a, b)

  pub reads_gain : Gains 0 x y
  reads_gain =
      let a = read_held in let b = read_bytes in let c = read_few in let d = r.taken in let e = r.is.offset in
      omega (arith, a, b, c, d, e)

  -- where a line was read, or a byte was taken, it is a step
  pub reads_step : 0 < n → Gains 1 x y
  reads_step some =
      let a = read_held in let b = read_bytes in let c = read_few in let d = r.taken in let e = r.is.offset in
      omega (arith, a, b, c, d, e, some)

  pub takes_step : x.taken < y.taken → Gains 1 x y
  takes_step some =
      let a = read_held in let b = read_bytes in let c = read_few in let e = r.is.offset in
      omega (arith, a, b, c, e, some)

  pub reads_sized : IsSized x → IsSized y
  reads_sized h = record {
    few = let a = read_held in let b = read_lines in let c = h.few in omega (arith, a, b, c);
    read = r.is.offset;
    lines = r.is.lines;
    bytes = r.is.bytes;
  }

-- ---- events that are handed out
parted_one : (p : Bool) (item : Item) (below above : List Item) (n : ℕ) → length above + length below ≡ n
    → length (cond (not p) (item ∷ above) above) + length (cond p (item ∷ below) below) ≡ suc n
parted_one true item below above n h = omega (arith, h)
parted_one false item below above n h = omega (arith, h)

-- each event is below the mark or stays
parted : (p : Item → Bool) (items : List Item) → length (filter (λ item. not (p item)) items) + length (filter p items) ≡ length items
parted p [] = omega arith
parted p (item ∷ items) = parted_one (p item) item (filter p items) (filter (λ i. not (p i)) items) (length items) (parted p items)

module _ (x : LaneState) (mark : Mark) (items : List Item) (y : LaneState) (step : Takes x mark items y) where
  take_reached : work_done y ≡ work_done x
  take_reached =
      let a : y.cut.offset ≡ x.cut.offset = ap (λ (cut : LaneCut). cut.offset) step.cut in
      let b = step.taken in
      omega (arith, a, b)

  take_held : held_count y ≡ length (filter (λ item. not (is_below mark item)) x.cut.items)
  take_held = ap (λ (cut : LaneCut). length cut.items) step.cut

  pub take_gains : (n : ℕ) → n ≤ length (filter (is_below mark) x.cut.items) → Gains n x y
  take_gains n some =
      let a = take_reached in let b = take_held in let c = parted (is_below mark) x.cut.items in
      omega (arith, a, b, c, some)

  pub take_sized : IsSized x → IsSized y
  take_sized h = record {
    few = let a = take_held in let b = filter_fewer (λ item. not (is_below mark item)) x.cut.items in let c = h.few in
        let d : y.cut.counts.lines ≡ x.cut.counts.lines = ap (λ (cut : LaneCut). cut.counts.lines) step.cut in omega (arith, a, b, c, d);
    read = let a : y.cut.offset ≡ x.cut.offset = ap (λ (cut : LaneCut). cut.offset) step.cut in let b = step.taken in let c = h.read in omega (arith, a, b, c);
    lines = subst (λ (cut : LaneCut). cut.counts.lines ≤ greatest_lines) (sym step.cut) h.lines;
    bytes = let a = step.taken in let b = h.bytes in omega (arith, a, b);
  }

-- What each step of a lane does to its faults and to its limits, whoever played it.
use Rattle.std.proofs.Common.{◌≡◌, ◌⊎◌, inl, inr, ◌≤◌, ◌<◌, ◌+◌, ℕ, zero, suc, Bool, true, false, List, [], ◌∷◌, length, refl, sym, ap, arith, subst}
use Rattle.std.specs.Prelude.{◌==◌, if◌then◌else◌}
use Rattle.eql_values.specs.declared.cut.LaneCut.{LaneCut}
use Rattle.eql_values.specs.declared.item.Item.{Item}
use Rattle.eql_values.specs.declared.order.Mark.{Mark}
use Rattle.eql_values.specs.Lines.{begin_with, lines_of, numbered_lines}
use Rattle.eql_outside.specs.Outside.{Rose}
use Rattle.eql_laws.specs.Counting.{greatest_bytes}
use Rattle.eql_lane.specs.declared.ops.LaneOp.{LaneOp}
use Rattle.eql_lane.specs.declared.ops.LaneOp.TheVariants as op
use Rattle.eql_lane.specs.declared.ops.LaneReply.{LaneReply}
use Rattle.eql_lane.specs.declared.ops.LaneReply.TheVariants as reply
use Rattle.eql_lane.specs.declared.ops.ShardLimit.TheVariants as limit
use Rattle.eql_lane.specs.Lanes.{IsFeedStep, IsLaneStep, IsLookStep, IsOutOfLines, IsSnapStep, IsTakeStep, LaneState, ReadsOn, Setting, Takes}
use Rattle.eql_lane.proofs.FeedLines.{length_numbered}
use Rattle.eql_conductor.specs.Benches.{ComesByFeeds, FeedsTimes}

-- ---- a text without lines has no bytes
begun_lines : (byte : ℕ) (lines : List (List ℕ)) → 0 < length (begin_with byte lines)
begun_lines byte [] = omega arith
begun_lines byte (line ∷ lines) = omega arith

one_line : (b : Bool) (byte : ℕ) (lines : List (List ℕ)) → 0 < length (if b then [] ∷ lines else begin_with byte lines)
one_line true byte lines = omega arith
one_line false byte lines = begun_lines byte lines

no_lines : (text : List ℕ) → length (lines_of text) ≡ 0 → length text ≡ 0
no_lines [] e = refl
no_lines (byte ∷ bytes) e = absurd (let a = one_line (byte == 10) byte (lines_of bytes) in omega (arith, a, e))

-- ---- one step
-- no fault is taken back, and none comes but by a rise; and a limit that is come to stays
pub record Moves (set : Setting) (x y : LaneState) : Type 0 where
  pub faults : x.faults ≤ y.faults
  pub rise : (y.faults ≡ x.faults) ⊎ Rose x.faults y.faults
  pub lines : IsOutOfLines set x → IsOutOfLines set y
  pub bytes : x.taken ≡ greatest_bytes → y.taken ≡ greatest_bytes

rise_on : (a b c : ℕ) → a ≤ b → (b ≡ a) ⊎ Rose a b → (c ≡ b) ⊎ Rose b c → (c ≡ a) ⊎ Rose a c
rise_on a b c le (inl e) (inl f) = inl (omega (arith, e, f))
rise_on a b c le (inl e) (inr (inl f)) = inr (inl (omega (arith, e, f)))
rise_on a b c le (inl e) (inr (inr f)) = inr (inr f)
rise_on a b c le (inr (inl e)) (inl f) = inr (inl (omega (arith, e, f)))
rise_on a b c le (inr (inr e)) (inl f) = inr (inr (omega (arith, e, f)))
rise_on a b c le (inr r) (inr (inl f)) = inr (inl (omega (arith, le, f)))
rise_on a b c le (inr r) (inr (inr f)) = inr (inr f)

-- a rise stays one, whatever comes before and behind it
pub rose_before : (a b c : ℕ) → a ≤ b → Rose b c → Rose a c
rose_before a b c le (inl l) = inl (omega (arith, le, l))
rose_before a b c le (inr e) = inr e

pub rose_behind : (a b c : ℕ) → a ≤ b → Rose a b → (c ≡ b) ⊎ Rose b c → Rose a c
rose_behind a b c le (inl l) (inl e) = inl (omega (arith, l, e))
rose_behind a b c le (inr f) (inl e) = inr (omega (arith, f, e))
rose_behind a b c le r (inr (inl l)) = inl (omega (arith, le, l))
rose_behind a b c le r (inr (inr e)) = inr e

module _ (set : Setting) where
  pub moves_self : (x : LaneState) → Moves set x x
  moves_self x = record { faults = omega arith; rise = inl refl; lines = λ h. h; bytes = λ h. h }

  pub moves_on : (x y z : LaneState) → Moves set x y → Moves set y z → Moves set x z
  moves_on x y z h k = record {
    faults = let a = h.faults in let b = k.faults in omega (arith, a, b);
    rise = rise_on x.faults y.faults z.faults h.faults h.rise k.rise;
    lines = λ out. k.lines (h.lines out);
    bytes = λ out. k.bytes (h.bytes out);
  }

  moves_same : (x y : LaneState) → y ≡ x → Moves set x y
  moves_same x y e = subst (Moves set x) (sym e) (moves_self x)

  out_reads : (x : LaneState) (n : ℕ) (y : LaneState) → ReadsOn set x n y → IsOutOfLines set x → IsOutOfLines set y
  out_reads x n y r out =
      let a : y.cut.counts.lines ≡ x.cut.counts.lines + length (numbered_lines (1 + x.cut.counts.lines) x.cut.offset (lines_of r.more)) = ap (λ (cut : LaneCut). cut.counts.lines) r.cut in
      let b = length_numbered (1 + x.cut.counts.lines) x.cut.offset (lines_of r.more) in
      let c = out.lines in
      let d = r.is.lines in
      let none : length (lines_of r.more) ≡ 0 = omega (arith, a, b, c, d) in
      let e = no_lines r.more none in
      let f : y.cut.offset ≡ x.cut.offset + length r.more = ap (λ (cut : LaneCut). cut.offset) r.cut in
      let g = r.taken in
      let h = out.byte in
      record { lines = omega (arith, a, b, c, none); byte = omega (arith, e, f, g, h) }

  moves_reads : (x : LaneState) (n : ℕ) (y : LaneState) → ReadsOn set x n y → (y.faults ≡ x.faults) ⊎ Rose x.faults y.faults → Moves set x y
  moves_reads x n y r rise = record {
    faults = r.counts;
    rise = rise;
    lines = out_reads x n y r;
    bytes = λ e. let a = r.taken in let b = r.is.bytes in omega (arith, a, b, e);
  }

  feed_moves : (x : LaneState) (max : ℕ) (answer : LaneReply) (y : LaneState) → IsFeedStep set x max answer y → Moves set x y
  feed_moves x max (reply.Fed n) y step = moves_reads x n y step.feeds.reads (inl step.faults)
  feed_moves x max (reply.Held k) y step = moves_same x y step.2
  feed_moves x max reply.Closed y step = moves_reads x 0 y step.reads (inl step.faults)
  feed_moves x max (reply.Failed n) y step = moves_reads x n y step.feeds.reads (inr step.faults)
  feed_moves x max (reply.Limit (limit.Lines shard)) y step = moves_reads x step.1.n y step.1.feeds.reads (inl step.1.faults)
  feed_moves x max (reply.Limit (limit.Bytes shard)) y step = moves_reads x step.1.n y step.1.feeds.reads (inl step.1.faults)
  feed_moves x max (reply.Memory n) y step = moves_reads x n y step.feeds.reads (inl step.faults)
  feed_moves x max (reply.Taken items) y step = absurd step
  feed_moves x max (reply.Low mark) y step = absurd step
  feed_moves x max (reply.Cut cut) y step = absurd step

  moves_takes : (x : LaneState) (mark : Mark) (items : List Item) (y : LaneState) → Takes x mark items y → Moves set x y
  moves_takes x mark items y step = record {
    faults = let e = step.faults in omega (arith, e);
    rise = inl step.faults;
    lines = λ out.
        let a : y.cut.counts.lines ≡ x.cut.counts.lines = ap (λ (cut : LaneCut). cut.counts.lines) step.cut in
        let b : y.cut.offset ≡ x.cut.offset = ap (λ (cut : LaneCut). cut.offset) step.cut in
        let c = step.taken in
        let d = out.lines in
        let e = out.byte in
        record { lines = omega (arith, a, d); byte = omega (arith, b, c, e) };
    bytes = λ e. let c = step.taken in omega (arith, c, e);
  }

  take_moves : (x : LaneState) (mark : Mark) (answer : LaneReply) (y : LaneState) → IsTakeStep set x mark answer y → Moves set x y
  take_moves x mark (reply.Taken items) y step = moves_takes x _ items y step
  take_moves x mark (reply.Memory n) y step = moves_same x y step.1
  take_moves x mark (reply.Fed n) y step = absurd step
  take_moves x mark (reply.Held k) y step = absurd step
  take_moves x mark reply.Closed y step = absurd step
  take_moves x mark (reply.Failed n) y step = absurd step
  take_moves x mark (reply.Limit of) y step = absurd step
  take_moves x mark (reply.Low m) y step = absurd step
  take_moves x mark (reply.Cut cut) y step = absurd step

  look_moves : (x : LaneState) (answer : LaneReply) (y : LaneState) → IsLookStep set x answer y → Moves set x y
  look_moves x (reply.Low mark) y step = moves_same x y step.1
  look_moves x (reply.Taken items) y step = absurd step
  look_moves x (reply.Memory n) y step = absurd step
  look_moves x (reply.Fed n) y step = absurd step
  look_moves x (reply.Held k) y step = absurd step
  look_moves x reply.Closed y step = absurd step
  look_moves x (reply.Failed n) y step = absurd step
  look_moves x (reply.Limit of) y step = absurd step
  look_moves x (reply.Cut cut) y step = absurd step

  snap_moves : (x : LaneState) (answer : LaneReply) (y : LaneState) → IsSnapStep x answer y → Moves set x y
  snap_moves x (reply.Cut cut) y step = moves_same x y step.1
  snap_moves x (reply.Memory n) y step = moves_same x y step.1
  snap_moves x (reply.Low mark) y step = absurd step
  snap_moves x (reply.Taken items) y step = absurd step
  snap_moves x (reply.Fed n) y step = absurd step
  snap_moves x (reply.Held k) y step = absurd step
  snap_moves x reply.Closed y step = absurd step
  snap_moves x (reply.Failed n) y step = absurd step
  snap_moves x (reply.Limit of) y step = absurd step

  pub step_moves : (x : LaneState) (o : LaneOp) (answer : LaneReply) (y : LaneState) → IsLaneStep set x o answer y → Moves set x y
  step_moves x (op.Feed max) answer y step = feed_moves x max answer y step
  step_moves x (op.Take mark) answer y step = take_moves x mark answer y step
  step_moves x op.Look answer y step = look_moves x answer y step
  step_moves x op.Snap answer y step = snap_moves x answer y step

  -- ---- feeds of others
  fed_times : (n : ℕ) (x y : LaneState) → FeedsTimes set n x y → Moves set x y
  fed_times zero x y h = moves_same x y h
  fed_times (suc n) x y (mid, max, answer, step, rest) = moves_on x mid y (feed_moves x max answer mid step) (fed_times n mid y rest)

  pub fed_moves : (x y : LaneState) → ComesByFeeds set x y → Moves set x y
  fed_moves x y h = fed_times h.0 x y h.1

  -- ---- what an answer tells
  -- a feed that failed
  pub step_failed : (x : LaneState) (o : LaneOp) (n : ℕ) (y : LaneState) → IsLaneStep set x o (reply.Failed n) y → Rose x.faults y.faults
  step_failed x (op.Feed max) n y step = step.faults
  step_failed x (op.Take mark) n y step = absurd step
  step_failed x op.Look n y step = absurd step
  step_failed x op.Snap n y step = absurd step

  pub step_lines : (x : LaneState) (o : LaneOp) (shard : ℕ) (y : LaneState) → IsLaneStep set x o (reply.Limit (limit.Lines shard)) y → (shard ≡ set.shard) × IsOutOfLines set y
  step_lines x (op.Feed max) shard y step = (step.0, step.2)
  step_lines x (op.Take mark) shard y step = absurd step
  step_lines x op.Look shard y step = absurd step
  step_lines x op.Snap shard y step = absurd step

  pub step_bytes : (x : LaneState) (o : LaneOp) (shard : ℕ) (y : LaneState) → IsLaneStep set x o (reply.Limit (limit.Bytes shard)) y → (shard ≡ set.shard) × (y.taken ≡ greatest_bytes)
  step_bytes x (op.Feed max) shard y step = (step.0, step.2)
  step_bytes x (op.Take mark) shard y step = absurd step
  step_bytes x op.Look shard y step = absurd step
  step_bytes x op.Snap shard y step = absurd step

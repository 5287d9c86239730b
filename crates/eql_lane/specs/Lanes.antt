-- Lanes: what no step of a lane changes, their states, and their steps.
use Rattle.std.specs.Prelude.{◌≡◌, ◌⊎◌, ◌≤◌, ◌<◌, ◌+◌, ℕ, ℤ, Bool, true, false, not, if◌then◌else◌, List, [], ◌++◌, length, take, drop, filter, Option, None, IfSome, IsTrue}
use Rattle.std.specs.Ordering.{is_le}
use Rattle.eql_digest.specs.Digests.{start as digest_of_none, with_bytes, IsDigestOf}
use Rattle.eql_values.specs.declared.item.Item.{Item}
use Rattle.eql_values.specs.declared.order.Mark.{Mark}
use Rattle.eql_values.specs.declared.order.Mark.TheVariants.{Start}
use Rattle.eql_values.specs.declared.cut.LaneCut.{LaneCut}
use Rattle.eql_values.specs.Accepted.{Reads, readable, sorted_items}
use Rattle.eql_values.specs.Lines.{Line, lines_of, numbered_lines}
use Rattle.eql_values.specs.Marks.{mark_cmp, is_below, low_of}
use Rattle.eql_outside.specs.Outside.{Rose}
use Rattle.eql_laws.specs.Counting.{counts_from, greatest_lines, greatest_bytes}
use Rattle.eql_laws.specs.Lateness.{best_from, accepted_by}
use Rattle.eql_laws.specs.Places.{ends_line}
use Rattle.eql_lane.specs.declared.ops.LaneOp.{LaneOp}
use Rattle.eql_lane.specs.declared.ops.LaneOp.TheVariants as op
use Rattle.eql_lane.specs.declared.ops.LaneReply.{LaneReply}
use Rattle.eql_lane.specs.declared.ops.LaneReply.TheVariants as reply
use Rattle.eql_lane.specs.declared.ops.ShardLimit.TheVariants as limit

-- what no step of a lane changes: its text, where it is told, its shard, its slack in nanoseconds, and what its lines give
pub record Setting : Type 0 where
  pub text : Option (List ℕ)
  pub shard : ℕ
  pub slack : Option ℤ
  pub reads : Reads

-- a lane as data: what a cut keeps of it, the bytes that were taken of its source, the mark up to which it handed out, and the faults of its source
pub record LaneState : Type 0 where
  pub cut : LaneCut
  pub taken : ℕ
  pub given : Mark
  pub faults : ℕ

-- a lane of which nothing was read
abbrev pub fresh_cut : LaneCut
fresh_cut = record { offset = 0; digest = digest_of_none; closed = false; best = None; counts = record { lines = 0; accepted = 0; late = 0; rejected = 0; first = None }; items = [] }

-- a lane that begins with what a cut keeps of it: what was read of its source was taken, and nothing was handed out
abbrev pub beginning_lane : LaneCut → (faults : ℕ) → LaneState
beginning_lane cut faults = record { cut = cut; taken = cut.offset; given = Start; faults = faults }

-- the lane's low
abbrev pub low : Setting → LaneState → Mark
low set x = low_of x.cut.closed set.slack x.cut.best

-- the held events below the lane's own low
abbrev pub ready : Setting → LaneState → ℕ
ready set x = length (filter (is_below (low set x)) x.cut.items)

-- the lesser and the greater of two marks
abbrev pub lesser : Mark → Mark → Mark
lesser a b = if is_le (mark_cmp a b) then a else b

abbrev pub greater : Mark → Mark → Mark
greater a b = if is_le (mark_cmp a b) then b else a

-- what is kept once these lines, which are these bytes with their line ends, were read too
abbrev pub lines_on : Setting → LaneCut → List (List ℕ) → List ℕ → LaneCut
lines_on set cut lines bytes =
    let next : List Line = numbered_lines (1 + cut.counts.lines) cut.offset lines in
    record {
      offset = cut.offset + length bytes;
      digest = with_bytes cut.digest bytes;
      closed = cut.closed;
      best = best_from cut.best (readable set.reads set.shard next);
      counts = counts_from set.reads set.slack set.shard cut.best cut.counts next;
      items = sorted_items (cut.items ++ accepted_by set.slack cut.best (readable set.reads set.shard next));
    }

-- what is kept once these bytes were read too
abbrev pub read_on : Setting → LaneCut → List ℕ → LaneCut
read_on set cut more = lines_on set cut (lines_of more) more

-- the text goes on with these bytes at this place, and is at its end behind them where the lane is closed there
pub record GoesOn (text : List ℕ) (at : ℕ) (more : List ℕ) (closed : Bool) : Type 0 where
  pub rest : List ℕ
  pub parts : drop at text ≡ more ++ rest
  pub at_end : closed ≡ true → rest ≡ []

-- the digest is that of the text's bytes before the offset, where the text is told
abbrev pub HasDigest : Option (List ℕ) → LaneCut → Type 0
HasDigest text cut = IfSome text (λ t. IsDigestOf cut.digest (take cut.offset t))

-- what holds of each state: the held items stand in order, the digest is that of the bytes that were read, no more was read than was taken, no more was taken than a shard may have or there is, and no more lines were read than a shard may have
pub record IsState (set : Setting) (x : LaneState) : Type 0 where
  pub digest : HasDigest set.text x.cut
  pub offset : x.cut.offset ≤ x.taken
  pub bytes : x.taken ≤ greatest_bytes
  pub within : IfSome set.text (λ text. x.taken ≤ length text)
  pub lines : x.cut.counts.lines ≤ greatest_lines
  pub order : sorted_items x.cut.items ≡ x.cut.items
  pub ended : x.cut.closed ≡ true → x.cut.offset ≡ x.taken

-- n further lines were read
pub record ReadsOn (set : Setting) (old : LaneState) (n : ℕ) (new : LaneState) : Type 0 where
  pub more : List ℕ
  pub count : length (lines_of more) ≡ n
  pub ended : IsTrue (ends_line more) ⊎ (new.cut.closed ≡ true)
  pub told : IfSome set.text (λ text. GoesOn text old.cut.offset more new.cut.closed)
  pub cut : new.cut ≡ record (read_on set old.cut more) { closed = new.cut.closed }
  pub given : new.given ≡ old.given
  pub taken : old.taken ≤ new.taken
  pub counts : old.faults ≤ new.faults
  pub is : IsState set new

-- a feed takes at most so many bytes, and ends early once it took them
abbrev pub early_bytes : ℕ
early_bytes = 4194304

-- the source wasn't closed, the held events weren't too many, and no more lines were read than asked for
pub record Feeds (set : Setting) (old : LaneState) (max n : ℕ) (new : LaneState) : Type 0 where
  pub was_open : old.cut.closed ≡ false
  pub not_full : ready set old < 65536
  pub most : n ≤ max
  pub reads : ReadsOn set old n new
  pub bytes : new.taken ≤ old.taken + early_bytes

-- a feed read lines
pub record FeedsLines (set : Setting) (old : LaneState) (max n : ℕ) (new : LaneState) : Type 0 where
  pub feeds : Feeds set old max n new
  pub fewer : n < max → (new.cut.closed ≡ true) ⊎ (new.taken ≡ old.taken + early_bytes)
  pub none : n ≡ 0 → new.taken ≡ old.taken + early_bytes
  pub faults : new.faults ≡ old.faults

-- no line was left: the lane was closed, or it is now
pub record WasClosed (set : Setting) (old new : LaneState) : Type 0 where
  pub not_full : ready set old < 65536
  pub reads : ReadsOn set old 0 new
  pub bytes : new.taken ≤ old.taken + early_bytes
  pub closed : new.cut.closed ≡ true
  pub same : old.cut.closed ≡ true → new ≡ old
  pub faults : new.faults ≡ old.faults

-- the source failed after lines
pub record FailsAfter (set : Setting) (old : LaneState) (max n : ℕ) (new : LaneState) : Type 0 where
  pub feeds : Feeds set old max n new
  pub closed : new.cut.closed ≡ false
  pub faults : Rose old.faults new.faults

-- memory ran out after lines
pub record LacksAfter (set : Setting) (old : LaneState) (max n : ℕ) (new : LaneState) : Type 0 where
  pub feeds : Feeds set old max n new
  pub closed : new.cut.closed ≡ false
  pub faults : new.faults ≡ old.faults

-- a feed came to a limit, after lines
pub record ComesToLimit (set : Setting) (old : LaneState) (max : ℕ) (new : LaneState) : Type 0 where
  pub n : ℕ
  pub fewer : n < max
  pub early : new.taken < old.taken + early_bytes
  pub feeds : Feeds set old max n new
  pub closed : new.cut.closed ≡ false
  pub faults : new.faults ≡ old.faults

-- there are no more lines that may be read, and a byte of a further one was taken
pub record IsOutOfLines (set : Setting) (new : LaneState) : Type 0 where
  pub lines : new.cut.counts.lines ≡ greatest_lines
  pub byte : new.cut.offset < new.taken

abbrev pub IsFeedStep : Setting → LaneState → ℕ → LaneReply → LaneState → Type 0
IsFeedStep set old max (reply.Fed n) new = FeedsLines set old max n new
IsFeedStep set old max (reply.Held k) new = (k ≡ ready set old) × (65536 ≤ k) × (new ≡ old)
IsFeedStep set old max reply.Closed new = WasClosed set old new
IsFeedStep set old max (reply.Failed n) new = FailsAfter set old max n new
IsFeedStep set old max (reply.Limit (limit.Lines shard)) new = (shard ≡ set.shard) × ComesToLimit set old max new × IsOutOfLines set new
IsFeedStep set old max (reply.Limit (limit.Bytes shard)) new = (shard ≡ set.shard) × ComesToLimit set old max new × (new.taken ≡ greatest_bytes)
IsFeedStep set old max (reply.Taken items) new = ⊥
IsFeedStep set old max (reply.Low mark) new = ⊥
IsFeedStep set old max (reply.Cut cut) new = ⊥
IsFeedStep set old max (reply.Memory n) new = LacksAfter set old max n new

-- all held events below the mark were handed out
pub record Takes (old : LaneState) (mark : Mark) (items : List Item) (new : LaneState) : Type 0 where
  pub items_are : items ≡ filter (is_below mark) old.cut.items
  pub cut : new.cut ≡ record old.cut { items = filter (λ item. not (is_below mark item)) old.cut.items }
  pub given : new.given ≡ greater old.given mark
  pub taken : new.taken ≡ old.taken
  pub faults : new.faults ≡ old.faults

abbrev pub IsTakeStep : Setting → LaneState → Mark → LaneReply → LaneState → Type 0
IsTakeStep set old mark (reply.Taken items) new = Takes old (lesser mark (low set old)) items new
IsTakeStep set old mark (reply.Memory n) new = (n ≡ 0) × (new ≡ old)
IsTakeStep set old mark answer new = ⊥

abbrev pub IsLookStep : Setting → LaneState → LaneReply → LaneState → Type 0
IsLookStep set old (reply.Low mark) new = (mark ≡ low set old) × (new ≡ old)
IsLookStep set old answer new = ⊥

abbrev pub IsSnapStep : LaneState → LaneReply → LaneState → Type 0
IsSnapStep old (reply.Cut cut) new = (cut ≡ old.cut) × (new ≡ old)
IsSnapStep old (reply.Memory n) new = (n ≡ 0) × (new ≡ old)
IsSnapStep old answer new = ⊥

-- what an operation with this result does to a lane
abbrev pub IsLaneStep : Setting → LaneState → LaneOp → LaneReply → LaneState → Type 0
IsLaneStep set old (op.Feed max) answer new = IsFeedStep set old max answer new
IsLaneStep set old (op.Take mark) answer new = IsTakeStep set old mark answer new
IsLaneStep set old op.Look answer new = IsLookStep set old answer new
IsLaneStep set old op.Snap answer new = IsSnapStep old answer new

-- which operations may be played, in every state
abbrev pub LaneAllows : LaneOp → Type 0
LaneAllows (op.Feed max) = (1 ≤ max) × (max ≤ 4096)
LaneAllows (op.Take mark) = Unit {0}
LaneAllows op.Look = Unit {0}
LaneAllows op.Snap = Unit {0}

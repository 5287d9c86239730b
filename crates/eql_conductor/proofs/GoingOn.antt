-- How lanes go on: which of their steps counts a fault, and that each of them keeps to the text.
use Rattle.std.proofs.Common.{◌≡◌, inl, inr, ℕ, ◌+◌, List, [], ◌∷◌, ◌++◌, Option, Some, refl, sym, ap, ◌∙◌, arith, subst, append_assoc, drop, length, length-append}
use Rattle.std.specs.Prelude.{IfSome, IsTrue}
use Rattle.std.proofs.lemmas.List.{append-nil, drop-drop}
use Rattle.eql_values.specs.declared.cut.LaneCut.{LaneCut}
use Rattle.eql_values.specs.declared.order.Mark.{Mark}
use Rattle.eql_values.specs.Lines.{lines_of, numbered_lines}
use Rattle.eql_laws.specs.Places.{ends_line, is_line_end}
use Rattle.eql_lane.specs.declared.ops.LaneOp.{LaneOp}
use Rattle.eql_lane.specs.declared.ops.LaneOp.TheVariants as op
use Rattle.eql_lane.specs.declared.ops.LaneReply.{LaneReply}
use Rattle.eql_lane.specs.declared.ops.LaneReply.TheVariants as reply
use Rattle.eql_lane.specs.declared.ops.ShardLimit.TheVariants as limit
use Rattle.eql_lane.specs.Lanes.{GoesOn, IsFeedStep, IsLaneStep, IsLookStep, IsSnapStep, IsTakeStep, LaneState, ReadsOn, Setting, greater, lesser, low}
use Rattle.eql_lane.specs.Plays.{DidNotFail}
use Rattle.eql_lane.proofs.FeedLines.{length_numbered, lines_both}
use Rattle.eql_lane.proofs.Keeping.{feed_keeps, take_keeps}
use Rattle.eql_conductor.specs.GoingOn.{IsAtPlace, ReadsFurther}

-- ---- only a feed that fails counts a fault
same_faults : (x y : LaneState) → y ≡ x → y.faults ≡ x.faults
same_faults x y e = ap (λ (z : LaneState). z.faults) e

feed_faults : (set : Setting) (x : LaneState) (max : ℕ) (answer : LaneReply) (y : LaneState) → DidNotFail answer → IsFeedStep set x max answer y → y.faults ≡ x.faults
feed_faults set x max (reply.Fed n) y none step = step.faults
feed_faults set x max (reply.Held k) y none step = same_faults x y step.2
feed_faults set x max reply.Closed y none step = step.faults
feed_faults set x max (reply.Failed n) y none step = absurd (none n refl)
feed_faults set x max (reply.Limit (limit.Lines shard)) y none step = step.1.faults
feed_faults set x max (reply.Limit (limit.Bytes shard)) y none step = step.1.faults
feed_faults set x max (reply.Memory n) y none step = step.faults
feed_faults set x max (reply.Taken items) y none step = absurd step
feed_faults set x max (reply.Low mark) y none step = absurd step
feed_faults set x max (reply.Cut cut) y none step = absurd step

take_faults : (set : Setting) (x : LaneState) (mark : Mark) (answer : LaneReply) (y : LaneState) → IsTakeStep set x mark answer y → y.faults ≡ x.faults
take_faults set x mark (reply.Taken items) y step = step.faults
take_faults set x mark (reply.Memory n) y step = same_faults x y step.1
take_faults set x mark (reply.Fed n) y step = absurd step
take_faults set x mark (reply.Held k) y step = absurd step
take_faults set x mark reply.Closed y step = absurd step
take_faults set x mark (reply.Failed n) y step = absurd step
take_faults set x mark (reply.Limit of) y step = absurd step
take_faults set x mark (reply.Low m) y step = absurd step
take_faults set x mark (reply.Cut cut) y step = absurd step

look_faults : (set : Setting) (x : LaneState) (answer : LaneReply) (y : LaneState) → IsLookStep set x answer y → y.faults ≡ x.faults
look_faults set x (reply.Low mark) y step = same_faults x y step.1
look_faults set x (reply.Taken items) y step = absurd step
look_faults set x (reply.Memory n) y step = absurd step
look_faults set x (reply.Fed n) y step = absurd step
look_faults set x (reply.Held k) y step = absurd step
look_faults set x reply.Closed y step = absurd step
look_faults set x (reply.Failed n) y step = absurd step
look_faults set x (reply.Limit of) y step = absurd step
look_faults set x (reply.Cut cut) y step = absurd step

snap_faults : (x : LaneState) (answer : LaneReply) (y : LaneState) → IsSnapStep x answer y → y.faults ≡ x.faults
snap_faults x (reply.Cut cut) y step = same_faults x y step.1
snap_faults x (reply.Memory n) y step = same_faults x y step.1
snap_faults x (reply.Low mark) y step = absurd step
snap_faults x (reply.Taken items) y step = absurd step
snap_faults x (reply.Fed n) y step = absurd step
snap_faults x (reply.Held k) y step = absurd step
snap_faults x reply.Closed y step = absurd step
snap_faults x (reply.Failed n) y step = absurd step
snap_faults x (reply.Limit of) y step = absurd step

pub step_faults : (set : Setting) (x : LaneState) (o : LaneOp) (answer : LaneReply) (y : LaneState) → DidNotFail answer → IsLaneStep set x o answer y → y.faults ≡ x.faults
step_faults set x (op.Feed max) answer y none step = feed_faults set x max answer y none step
step_faults set x (op.Take mark) answer y none step = take_faults set x mark answer y step
step_faults set x op.Look answer y none step = look_faults set x answer y step
step_faults set x op.Snap answer y none step = snap_faults x answer y step

-- ---- a lane that read its text up to a place has done so after each step
module _ (set : Setting) (t : List ℕ) where
  stays_at : (x y : LaneState) → y ≡ x → IsAtPlace set t x → IsAtPlace set t y
  stays_at x y e at = subst (IsAtPlace set t) (sym e) at

  take_at : (x : LaneState) (mark : Mark) (answer : LaneReply) (y : LaneState) → IsTakeStep set x mark answer y → IsAtPlace set t x → IsAtPlace set t y
  take_at x mark (reply.Taken items) y step at = record {
    mark = greater at.mark (lesser mark (low set x));
    is = (take_keeps set t at.mark mark x items y step at.is).is;
  }
  take_at x mark (reply.Memory n) y step at = stays_at x y step.1 at
  take_at x mark (reply.Fed n) y step at = absurd step
  take_at x mark (reply.Held k) y step at = absurd step
  take_at x mark reply.Closed y step at = absurd step
  take_at x mark (reply.Failed n) y step at = absurd step
  take_at x mark (reply.Limit of) y step at = absurd step
  take_at x mark (reply.Low m) y step at = absurd step
  take_at x mark (reply.Cut cut) y step at = absurd step

  look_at : (x : LaneState) (answer : LaneReply) (y : LaneState) → IsLookStep set x answer y → IsAtPlace set t x → IsAtPlace set t y
  look_at x (reply.Low mark) y step at = stays_at x y step.1 at
  look_at x (reply.Taken items) y step at = absurd step
  look_at x (reply.Memory n) y step at = absurd step
  look_at x (reply.Fed n) y step at = absurd step
  look_at x (reply.Held k) y step at = absurd step
  look_at x reply.Closed y step at = absurd step
  look_at x (reply.Failed n) y step at = absurd step
  look_at x (reply.Limit of) y step at = absurd step
  look_at x (reply.Cut cut) y step at = absurd step

  snap_at : (x : LaneState) (answer : LaneReply) (y : LaneState) → IsSnapStep x answer y → IsAtPlace set t x → IsAtPlace set t y
  snap_at x (reply.Cut cut) y step at = stays_at x y step.1 at
  snap_at x (reply.Memory n) y step at = stays_at x y step.1 at
  snap_at x (reply.Low mark) y step at = absurd step
  snap_at x (reply.Taken items) y step at = absurd step
  snap_at x (reply.Fed n) y step at = absurd step
  snap_at x (reply.Held k) y step at = absurd step
  snap_at x reply.Closed y step at = absurd step
  snap_at x (reply.Failed n) y step at = absurd step
  snap_at x (reply.Limit of) y step at = absurd step

  pub step_at : (x : LaneState) (o : LaneOp) (answer : LaneReply) (y : LaneState) → set.text ≡ Some t → IsLaneStep set x o answer y → IsAtPlace set t x → IsAtPlace set t y
  step_at x (op.Feed max) answer y e step at = record { mark = at.mark; is = feed_keeps set t at.mark x max answer y e step at.is }
  step_at x (op.Take mark) answer y e step at = take_at x mark answer y step at
  step_at x op.Look answer y e step at = look_at x answer y step at
  step_at x op.Snap answer y e step at = snap_at x answer y step at

-- ---- texts in two pieces
begins_line : (rest : List ℕ) → IsTrue (is_line_end [] rest)
begins_line [] = refl
begins_line (byte ∷ bytes) = refl

behind : (a b : List ℕ) → drop (length a) (a ++ b) ≡ b
behind [] b = refl
behind (byte ∷ a) b = behind a b

line_end_front : (a b c : List ℕ) → IsTrue (is_line_end a (b ++ c)) → IsTrue (is_line_end a b)
line_end_front a [] c h = refl
line_end_front a (byte ∷ b) c h = h

ends_last : (a : List ℕ) (byte : ℕ) (b : List ℕ) → IsTrue (ends_line (byte ∷ b)) → IsTrue (ends_line (a ++ byte ∷ b))
ends_last [] byte b h = h
ends_last (x ∷ []) byte b h = h
ends_last (x ∷ y ∷ a) byte b h = ends_last (y ∷ a) byte b h

line_end_on : (a b c : List ℕ) → IsTrue (is_line_end a (b ++ c)) → IsTrue (is_line_end b c) → IsTrue (is_line_end (a ++ b) c)
line_end_on a b [] h e = refl
line_end_on a [] (y ∷ c) h e = subst (λ (l : List ℕ). IsTrue (ends_line l)) (sym (append-nil a)) h
line_end_on a (x ∷ b) (y ∷ c) h e = ends_last a x b e

line_ended : (b c : List ℕ) → IsTrue (ends_line b) → IsTrue (is_line_end b c)
line_ended b [] h = refl
line_ended b (byte ∷ c) h = h

lines_join : (a b : List ℕ) → IsTrue (is_line_end a b) → length (lines_of (a ++ b)) ≡ length (lines_of a) + length (lines_of b)
lines_join a [] h = let e = ap (λ (l : List ℕ). length (lines_of l)) (append-nil a) in omega (arith, e)
lines_join a (byte ∷ b) h = ap length (lines_both a (byte ∷ b) h) ∙ length-append (lines_of a) (lines_of (byte ∷ b))

told_at : (set : Setting) (t : List ℕ) (P : List ℕ → Type 0) → set.text ≡ Some t → IfSome set.text P → P t
told_at set t P e h = let Q : Option (List ℕ) → Type 0 = λ o. IfSome o P in subst Q e h

-- ---- a lane that read further lines from a state on has done so after each step
module _ (set : Setting) (t : List ℕ) (told : set.text ≡ Some t) (one : LaneState) where
  abbrev Further : LaneState → Type 0
  Further x = ReadsFurther t one x

  pub further_self : Further one
  further_self = record {
    more = [];
    rest = drop one.cut.offset t;
    parts = refl;
    line_end = begins_line (drop one.cut.offset t);
    offset = omega arith;
    lines = omega arith;
  }

  stays : (x y : LaneState) → y ≡ x → Further x → Further y
  stays x y e was = subst Further (sym e) was

  same_place : (x y : LaneState) → y.cut.offset ≡ x.cut.offset → y.cut.counts.lines ≡ x.cut.counts.lines → Further x → Further y
  same_place x y at lines was = record {
    more = was.more;
    rest = was.rest;
    parts = was.parts;
    line_end = was.line_end;
    offset = at ∙ was.offset;
    lines = lines ∙ was.lines;
  }

  read_more : (x : LaneState) (n : ℕ) (y : LaneState) → ReadsOn set x n y → Further x → Further y
  read_more x n y reads was =
      let goes : GoesOn t x.cut.offset reads.more y.cut.closed = told_at set t (λ u. GoesOn u x.cut.offset reads.more y.cut.closed) told reads.told in
      let rest_is : was.rest ≡ reads.more ++ goes.rest =
      sym (behind was.more was.rest) ∙ ap (drop (length was.more)) (sym was.parts) ∙ drop-drop (length was.more) one.cut.offset t
      ∙ ap (λ (k : ℕ). drop k t) (sym was.offset) ∙ goes.parts in
      let line_end : IsTrue (is_line_end was.more (reads.more ++ goes.rest)) = subst (λ (l : List ℕ). IsTrue (is_line_end was.more l)) rest_is was.line_end in
      let more_end : IsTrue (is_line_end reads.more goes.rest) = elim reads.ended [
        | inl ends ↦ line_ended reads.more goes.rest ends
        | inr closed ↦ subst (λ (l : List ℕ). IsTrue (is_line_end reads.more l)) (sym (goes.at_end closed)) refl
      ] in
      record {
        more = was.more ++ reads.more;
        rest = goes.rest;
        parts = was.parts ∙ ap (λ (l : List ℕ). was.more ++ l) rest_is ∙ sym (append_assoc was.more reads.more goes.rest);
        line_end = line_end_on was.more reads.more goes.rest line_end more_end;
        offset =
            let a : y.cut.offset ≡ x.cut.offset + length reads.more = ap (λ (cut : LaneCut). cut.offset) reads.cut in
            let b = was.offset in
            let c = length-append was.more reads.more in
            omega (arith, a, b, c);
        lines =
            let a : y.cut.counts.lines ≡ x.cut.counts.lines + length (numbered_lines (1 + x.cut.counts.lines) x.cut.offset (lines_of reads.more)) = ap (λ (cut : LaneCut). cut.counts.lines) reads.cut in
            let b = length_numbered (1 + x.cut.counts.lines) x.cut.offset (lines_of reads.more) in
            let c = was.lines in
            let d = lines_join was.more reads.more (line_end_front was.more reads.more goes.rest line_end) in
            omega (arith, a, b, c, d);
      }

  feed_further : (x : LaneState) (max : ℕ) (answer : LaneReply) (y : LaneState) → IsFeedStep set x max answer y → Further x → Further y
  feed_further x max (reply.Fed n) y step was = read_more x n y step.feeds.reads was
  feed_further x max (reply.Held k) y step was = stays x y step.2 was
  feed_further x max reply.Closed y step was = read_more x 0 y step.reads was
  feed_further x max (reply.Failed n) y step was = read_more x n y step.feeds.reads was
  feed_further x max (reply.Limit (limit.Lines shard)) y step was = read_more x step.1.n y step.1.feeds.reads was
  feed_further x max (reply.Limit (limit.Bytes shard)) y step was = read_more x step.1.n y step.1.feeds.reads was
  feed_further x max (reply.Taken items) y step was = absurd step
  feed_further x max (reply.Low mark) y step was = absurd step
  feed_further x max (reply.Cut cut) y step was = absurd step
  feed_further x max (reply.Memory n) y step was = read_more x n y step.feeds.reads was

  take_further : (x : LaneState) (mark : Mark) (answer : LaneReply) (y : LaneState) → IsTakeStep set x mark answer y → Further x → Further y
  take_further x mark (reply.Taken items) y step was =
      same_place x y (ap (λ (cut : LaneCut). cut.offset) step.cut) (ap (λ (cut : LaneCut). cut.counts.lines) step.cut) was
  take_further x mark (reply.Memory n) y step was = stays x y step.1 was
  take_further x mark (reply.Fed n) y step was = absurd step
  take_further x mark (reply.Held k) y step was = absurd step
  take_further x mark reply.Closed y step was = absurd step
  take_further x mark (reply.Failed n) y step was = absurd step
  take_further x mark (reply.Limit of) y step was = absurd step
  take_further x mark (reply.Low m) y step was = absurd step
  take_further x mark (reply.Cut cut) y step was = absurd step

  look_further : (x : LaneState) (answer : LaneReply) (y : LaneState) → IsLookStep set x answer y → Further x → Further y
  look_further x (reply.Low mark) y step was = stays x y step.1 was
  look_further x (reply.Taken items) y step was = absurd step
  look_further x (reply.Memory n) y step was = absurd step
  look_further x (reply.Fed n) y step was = absurd step
  look_further x (reply.Held k) y step was = absurd step
  look_further x reply.Closed y step was = absurd step
  look_further x (reply.Failed n) y step was = absurd step
  look_further x (reply.Limit of) y step was = absurd step
  look_further x (reply.Cut cut) y step was = absurd step

  snap_further : (x : LaneState) (answer : LaneReply) (y : LaneState) → IsSnapStep x answer y → Further x → Further y
  snap_further x (reply.Cut cut) y step was = stays x y step.1 was
  snap_further x (reply.Memory n) y step was = stays x y step.1 was
  snap_further x (reply.Low mark) y step was = absurd step
  snap_further x (reply.Taken items) y step was = absurd step
  snap_further x (reply.Fed n) y step was = absurd step
  snap_further x (reply.Held k) y step was = absurd step
  snap_further x reply.Closed y step was = absurd step
  snap_further x (reply.Failed n) y step was = absurd step
  snap_further x (reply.Limit of) y step was = absurd step

  pub step_further : (x : LaneState) (o : LaneOp) (answer : LaneReply) (y : LaneState) → IsLaneStep set x o answer y → Further x → Further y
  step_further x (op.Feed max) answer y step was = feed_further x max answer y step was
  step_further x (op.Take mark) answer y step was = take_further x mark answer y step was
  step_further x op.Look answer y step was = look_further x answer y step was
  step_further x op.Snap answer y step was = snap_further x answer y step was

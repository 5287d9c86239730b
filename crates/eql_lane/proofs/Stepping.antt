-- What single steps keep of a lane.
use Rattle.std.proofs.Common.{◌≡◌, inl, inr, ℕ, zero, suc, ◌+◌, ◌-◌, ◌<◌, ◌≤◌, ◌^◌, Bool, true, false, List, [], ◌∷◌, ◌++◌, length, take, drop, Option, Some, None, Result, Ok, Err, refl, sym, ap, ◌∙◌, subst, arith, append_assoc, length-append, length-drop}
use Rattle.std.specs.Prelude.{IsTrue, IfSome, OnOk, OnErr, ◌⊎◌, filter, not, min}
use Rattle.eql_digest.specs.declared.digest.Digest.{Digest}
use Rattle.eql_digest.specs.Digests.{with_bytes}
use Rattle.eql_digest.proofs.Taking.{with_bytes_append}
use Rattle.eql_values.specs.Marks.{is_below}
use Rattle.std.proofs.lemmas.List.{append-nil, drop-drop, length-take-le, take-append-drop}
use Rattle.std.proofs.Math.Seq.{take-append_seam}
use Rattle.std.proofs.Math.Numerals.{add-one}
use Rattle.eql_values.specs.declared.order.Mark.{Mark}
use Rattle.eql_values.specs.declared.cut.LaneCut.{LaneCut}
use Rattle.eql_values.specs.declared.reader.LineGot.{LineGot}
use Rattle.eql_values.specs.declared.reader.LineGot.TheVariants as got
use Rattle.eql_values.specs.Accepted.{Reads, sorted_items}
use Rattle.eql_values.specs.declared.item.Item.{Item}
use Rattle.eql_values.specs.Lines.{lines_of}
use Rattle.eql_laws.specs.Counting.{greatest_lines, greatest_bytes}
use Rattle.eql_laws.specs.Places.{ends_line}
use Rattle.eql_lane.specs.declared.buffer.LongLine.{LongLine}
use Rattle.eql_lane.specs.declared.buffer.FillRefused.{FillRefused}
use Rattle.eql_lane.specs.declared.buffer.FillRefused.TheVariants as fill_refused
use Rattle.eql_lane.specs.declared.step.Step.{Step}
use Rattle.eql_lane.specs.declared.step.Step.TheVariants as step
use Rattle.eql_lane.specs.Buffers.{Pending, Stands, HasFeedAt, IsFront, IsOneLine, dropped_of, dropped_part, byte_count, FillsBuffer, IsNextOf}
use Rattle.eql_lane.specs.Judging.{KeptView, kept_on, cut_with, late_got, counts_got, held_got}
use Rattle.eql_lane.specs.Lanes.{Setting, LaneState, HasDigest, IsState, GoesOn, ReadsOn, IsOutOfLines, read_on}
use Rattle.eql_lane.specs.Views.{AreAtHand, IsTextAt, IsLane}
use Rattle.eql_lane.specs.Feeding.{TookBytes, StepIs, line_step, end_step}
use Rattle.eql_lane.proofs.BufferLemmas.{one_on}
use Rattle.eql_laws.proofs.LineLemmas.{lines_are_one}
use Rattle.eql_lane.proofs.Digesting.{none_added, digest_on}
use Rattle.eql_lane.proofs.Reading.{got_on, line_is}
use Rattle.eql_lane.proofs.Joining.{reads_none, read_none, added_none}
use Rattle.eql_laws.proofs.BelowLemmas.{sorted_with_more, sorted_below}

pub front_one : (long : Option LongLine) (front : List ℕ) → IsFront long front → IsOneLine front
front_one None front e = subst IsOneLine (sym e) refl
front_one (Some line) front is = is.one

pub front_count : (digest : Digest) (long : Option LongLine) (front : List ℕ) → IsFront long front → length front ≡ (dropped_of digest long).bytes
front_count digest None front e = ap length e
front_count digest (Some line) front is = is.bytes

pub stands_count : (b : Pending) (p : List ℕ) → Stands b p → length p ≡ byte_count b
stands_count b p s =
    let a = ap length s.parts in let c = length-append s.front b.unread in let d = front_count b.digest b.long s.front s.is_front in omega (arith, a, c, d)

drop_front : (a b : List ℕ) → drop (length a) (a ++ b) ≡ b
drop_front [] b = refl
drop_front (x ∷ a) b = drop_front a b

more_lines : (kept : KeptView) (g : LineGot) (width : ℕ) → (kept_on kept g width).counts.lines ≡ kept.counts.lines + 1
more_lines kept g width = by_got (late_got kept.slack kept.best g) g
  where
    by_got : (late : Bool) (g : LineGot) → (counts_got kept.counts late g).lines ≡ kept.counts.lines + 1
    by_got late got.Blank = refl
    by_got late (got.Bad reason) = refl
    by_got true (got.Item item) = refl
    by_got false (got.Item item) = refl

told_on : (text left : Option (List ℕ)) (offset next taken : ℕ) (pending more rest : List ℕ) → pending ≡ more ++ rest → next ≡ offset + length more
    → IfSome text (λ t. AreAtHand t left offset taken pending) → IfSome text (λ t. AreAtHand t left next taken rest)
told_on None left offset next taken pending more rest parts e told = tt
told_on (Some t) left offset next taken pending more rest parts e told = record {
  parts = ap (λ (n : ℕ). drop n t) e ∙ sym (drop-drop (length more) offset t)
      ∙ ap (drop (length more)) (told.parts ∙ ap (λ (l : List ℕ). l ++ drop taken t) parts ∙ append_assoc more rest (drop taken t)) ∙ drop_front more (rest ++ drop taken t);
  within = told.within;
  left_is = told.left_is;
}

-- what a source has left is none of a text whose end it met
none_left : (t : List ℕ) (left : Option (List ℕ)) (taken : ℕ) → left ≡ Some (drop taken t) → IfSome left (λ l. l ≡ []) → drop taken t ≡ []
none_left t left taken e h = let P : Option (List ℕ) → Type 0 = λ o. IfSome o (λ l. l ≡ []) in subst P e h

goes_on : (text left : Option (List ℕ)) (offset taken : ℕ) (pending more rest : List ℕ) (closed : Bool) → pending ≡ more ++ rest
    → (closed ≡ true → (rest ≡ []) × IfSome left (λ l. l ≡ [])) → IfSome text (λ t. AreAtHand t left offset taken pending) → IfSome text (λ t. GoesOn t offset more closed)
goes_on None left offset taken pending more rest closed parts end told = tt
goes_on (Some t) left offset taken pending more rest closed parts end told = record {
  rest = rest ++ drop taken t;
  parts = told.parts ∙ ap (λ (l : List ℕ). l ++ drop taken t) parts ∙ append_assoc more rest (drop taken t);
  at_end = λ e. (λ i. (end e).0 i ++ none_left t left taken told.left_is (end e).1 i);
}

within_text : (text left : Option (List ℕ)) (offset taken : ℕ) (pending : List ℕ) → IfSome text (λ t. AreAtHand t left offset taken pending) → IfSome text (λ t. taken ≤ length t)
within_text None left offset taken pending told = tt
within_text (Some t) left offset taken pending told = told.within

none_of : (l : List ℕ) → length l ≡ 0 → l ≡ []
none_of [] h = refl
none_of (x ∷ l) h = absurd (omega (arith, h))

closed_offset : (cut : LaneCut) (taken : ℕ) (pending : List ℕ) → cut.offset + length pending ≡ taken → (cut.closed ≡ true → pending ≡ []) → cut.closed ≡ true → cut.offset ≡ taken
closed_offset cut taken pending count closed e = let a = ap length (closed e) in omega (arith, a, count)

-- what a cut keeps, by what was kept and by the buffer
abbrev cut_of : Pending → KeptView → LaneCut
cut_of buffer kept = cut_with buffer.digest kept

-- what a step leaves
pub record Leaves (text left : Option (List ℕ)) (next : Pending) (kept : KeptView) (taken : ℕ) (set : Setting) (old : LaneState) (did : Step) (new : LaneState) : Type 0 where
  pub lane : IsLane text left next (cut_of next kept) taken
  pub step : StepIs set old did new

module _ (text left : Option (List ℕ)) (buffer : Pending) (kept : KeptView) (taken : ℕ) (shard : ℕ) (reads : Reads) (is : IsLane text left buffer (cut_of buffer kept) taken) where
  abbrev pub set : Setting
  set = record { text = text; shard = shard; slack = kept.slack; reads = reads }

  abbrev own : LaneCut
  own = cut_of buffer kept

  pub is_state : (given : Mark) (faults : ℕ) → IsState set (record { cut = own; taken = taken; given = given; faults = faults })
  is_state given faults = record {
    digest = is.digest;
    offset = let a = is.count in omega (arith, a);
    bytes = is.bytes;
    within = within_text text left kept.offset taken is.pending is.told;
    lines = is.lines;
    order = is.order;
    ended = closed_offset own taken is.pending is.count is.closed;
  }

  advance : (more rest : List ℕ) → is.pending ≡ more ++ rest → (next : Pending) → Stands next rest → length next.unread ≤ 1048576 + 65536
      → (cut' : LaneCut) → cut'.offset ≡ kept.offset + length more → cut'.digest ≡ with_bytes buffer.digest more → cut'.counts.lines ≤ greatest_lines → sorted_items cut'.items ≡ cut'.items
      → (cut'.closed ≡ true → (rest ≡ []) × IfSome left (λ l. l ≡ [])) → IsLane text left next cut' taken
  advance more rest parts next stands short cut' offset digest lines order closed = record {
    pending = rest;
    stands = stands;
    count = let a = ap length parts in let b = length-append more rest in let d = is.count in omega (arith, a, b, d, offset);
    told = told_on text left kept.offset cut'.offset taken is.pending more rest parts offset is.told;
    digest = digest_on text left taken is.pending more rest own cut' parts offset digest is.told is.digest;
    bytes = is.bytes;
    lines = lines;
    closed = λ e. (closed e).0;
    at_end = λ e. (closed e).1;
    order = order;
    short = short;
  }

  advanced : (given : Mark) (faults : ℕ) (more rest : List ℕ) → is.pending ≡ more ++ rest → (n : ℕ) → length (lines_of more) ≡ n
      → (cut' : LaneCut) → ◌≡◌ {A = LaneCut} cut' (record (read_on set own more) { closed = cut'.closed }) → IsTrue (ends_line more) ⊎ (cut'.closed ≡ true)
      → (cut'.closed ≡ true → (rest ≡ []) × IfSome left (λ l. l ≡ []))
      → (next : Pending) → IsLane text left next cut' taken
      → ReadsOn set (record { cut = own; taken = taken; given = given; faults = faults }) n (record { cut = cut'; taken = taken; given = given; faults = faults })
  advanced given faults more rest parts n count cut' e ended closed next lane = record {
    more = more;
    count = count;
    ended = ended;
    told = goes_on text left kept.offset taken is.pending more rest cut'.closed parts closed is.told;
    cut = e;
    given = refl;
    taken = omega arith;
    counts = omega arith;
    is = record {
      digest = lane.digest;
      offset = let a = lane.count in omega (arith, a);
      bytes = lane.bytes;
      within = within_text text left cut'.offset taken lane.pending lane.told;
      lines = lane.lines;
      order = lane.order;
      ended = closed_offset cut' taken lane.pending lane.count lane.closed;
    };
  }

  order_after : (g : LineGot) (width : ℕ) → sorted_items (kept_on kept g width).items ≡ (kept_on kept g width).items
  order_after g width =
      let all : List Item = kept.items ++ held_got (late_got kept.slack kept.best g) kept.offset g in
      ap sorted_items (sym (append-nil (sorted_items all))) ∙ sorted_with_more all [] ∙ ap sorted_items (append-nil all)

  swapped : (n : ℕ) → n + 1 ≡ 1 + n
  swapped n = omega arith

  -- the digest once the line at hand was read, with so many of the kept bytes
  pub digest_after : (some : List ℕ) → with_bytes (dropped_part buffer).digest some ≡ with_bytes buffer.digest (is.stands.front ++ some)
  digest_after some = ap (λ (d : Digest). with_bytes d some) is.stands.digest_is ∙ sym (with_bytes_append buffer.digest is.stands.front some)

  -- a buffer of which no line is at hand
  stands_fresh : (next : Pending) (rest : List ℕ) → next.long ≡ None → next.unread ≡ rest → Stands next rest
  stands_fresh next rest long unread = record {
    front = [];
    is_front = subst (λ (o : Option LongLine). IsFront o []) (sym long) refl;
    digest_is = ap (λ (o : Option LongLine). (dropped_of next.digest o).digest) long ∙ none_added next.digest;
    parts = sym unread;
  }

  -- a line with its line feed
  module _ (given : Mark) (faults : ℕ) (is_open : kept.closed ≡ false) (end : ℕ) (feed : HasFeedAt end buffer.unread) (fewer : kept.counts.lines < greatest_lines) where
    abbrev line : List ℕ
    line = is.stands.front ++ take end buffer.unread

    abbrev more : List ℕ
    more = line ++ 10 ∷ []

    abbrev rest : List ℕ
    rest = drop (suc end) buffer.unread

    abbrev width : ℕ
    width = (dropped_part buffer).bytes + end + 1

    abbrev line_from : LaneState
    line_from = record { cut = own; taken = taken; given = given; faults = faults }

    line_parts : is.pending ≡ more ++ rest
    line_parts = is.stands.parts ∙ ap (λ (l : List ℕ). is.stands.front ++ l) feed.parts ∙ sym (append_assoc is.stands.front (take end buffer.unread) (10 ∷ rest)) ∙ sym (append_assoc line (10 ∷ []) rest)

    line_alone : IsOneLine line
    line_alone = one_on is.stands.front (take end buffer.unread) (front_one buffer.long is.stands.front is.stands.is_front) feed.one

    width_is : length more ≡ width
    width_is =
        let a = length-append line (10 ∷ []) in
        let b = length-append is.stands.front (take end buffer.unread) in
        let c = front_count buffer.digest buffer.long is.stands.front is.stands.is_front in
        let d = length-take-le end buffer.unread (omega (arith, feed.within)) in omega (arith, a, b, c, d)

    -- the bytes up to the line feed, and with it
    with_feed : take (end + 1) buffer.unread ≡ take end buffer.unread ++ 10 ∷ []
    with_feed =
        let some : List ℕ = take end buffer.unread ++ 10 ∷ [] in
        let count : end + 1 ≡ length some = let a = length-append (take end buffer.unread) (10 ∷ []) in let d = length-take-le end buffer.unread (omega (arith, feed.within)) in omega (arith, a, d) in
        (λ i. take (count i) ((feed.parts ∙ sym (append_assoc (take end buffer.unread) (10 ∷ []) rest)) i)) ∙ take-append_seam some rest

    line_digest : with_bytes (dropped_part buffer).digest (take (end + 1) buffer.unread) ≡ with_bytes buffer.digest more
    line_digest = digest_after (take (end + 1) buffer.unread)
        ∙ ap (with_bytes buffer.digest) (ap (λ (l : List ℕ). is.stands.front ++ l) with_feed ∙ sym (append_assoc is.stands.front (take end buffer.unread) (10 ∷ [])))

    pub line_read : (next : Pending) (kept' : KeptView) → kept' ≡ kept_on kept (reads shard (kept.counts.lines + 1) line) width
        → next ≡ record { long = None; unread = drop (end + 1) buffer.unread; digest = with_bytes (dropped_part buffer).digest (take (end + 1) buffer.unread) }
        → Leaves text left next kept' taken set line_from step.Line (record { cut = cut_of next kept'; taken = taken; given = given; faults = faults })
    line_read next kept' e f =
        let g : LineGot = reads shard (kept.counts.lines + 1) line in
        let cut' : LaneCut = cut_of next kept' in
        let digest : next.digest ≡ with_bytes buffer.digest more = ap (λ (p : Pending). p.digest) f ∙ line_digest in
        let closed : kept'.closed ≡ false = ap (λ (k : KeptView). k.closed) e ∙ is_open in
        let never : kept'.closed ≡ true → (rest ≡ []) × IfSome left (λ l. l ≡ []) = λ t. let a = sym closed ∙ t in cc in
        let unread_is : next.unread ≡ rest = ap (λ (p : Pending). p.unread) f ∙ ap (λ (n : ℕ). drop n buffer.unread) (add-one end) in
        let lane : IsLane text left next cut' taken =
        advance more rest line_parts next (stands_fresh next rest (ap (λ (p : Pending). p.long) f) unread_is)
        (let a = ap length unread_is in let b = length-drop (suc end) buffer.unread in let c = is.short in omega (arith, a, b, c)) cut'
        (ap (λ (k : KeptView). k.offset) e ∙ ap (λ (n : ℕ). kept.offset + n) (sym width_is)) digest
        (let a = ap (λ (k : KeptView). k.counts.lines) e in let b = more_lines kept g width in omega (arith, a, b, fewer))
        (subst (λ (k : KeptView). sorted_items k.items ≡ k.items) (sym e) (order_after g width)) never in
        record {
          lane = lane;
          step = (
            record {
              reads = advanced given faults more rest line_parts 1 (ap length (lines_are_one line line_alone).with_feed) cut'
                  (ap (cut_with next.digest) e ∙ (λ i. got_on kept.slack own (reads shard (swapped kept.counts.lines i) line) width next.digest)
                  ∙ sym (line_is set own line more width next.digest (lines_are_one line line_alone).with_feed width_is digest)
                  ∙ (λ i. let k : LaneCut = record (read_on set own more) { closed = (is_open ∙ sym closed) i } in k))
                  (inl (lines_are_one line line_alone).next_starts) never next lane;
              closed_is = closed;
              faults = refl;
            },
            refl,
          );
        }

    pub line_done : {A B : Type 0} (r : Result A B) (next : Pending) (kept' : KeptView)
        → OnOk r (kept' ≡ kept_on kept (reads shard (kept.counts.lines + 1) line) width)
        → OnOk r (next ≡ record { long = None; unread = drop (end + 1) buffer.unread; digest = with_bytes (dropped_part buffer).digest (take (end + 1) buffer.unread) })
        → OnErr r ((kept' ≡ kept) × (next ≡ buffer))
        → Leaves text left next kept' taken set line_from (line_step r) (record { cut = cut_of next kept'; taken = taken; given = given; faults = faults })
    line_done (Ok u) next kept' e f same = line_read next kept' e f
    line_done (Err u) next kept' e f same = record {
      lane = subst (λ (p : Pending). IsLane text left p (cut_of p kept') taken) (sym same.1) (subst (λ (k : KeptView). IsLane text left buffer (cut_of buffer k) taken) (sym same.0) is);
      step = λ i. let x : LaneState = record { cut = cut_of (same.1 i) (same.0 i); taken = taken; given = given; faults = faults } in x;
    }

  -- what the buffer stands for isn't more than was taken
  pub few_bytes : (b : Pending) → Stands b is.pending → kept.offset + byte_count b ≤ greatest_bytes
  few_bytes b s = let a = is.count in let c = stands_count b is.pending s in let d = is.bytes in omega (arith, a, c, d)

  pub few_shown : (b : Pending) → Stands b is.pending → byte_count b < 2 ^ 63
  few_shown b s = let a = few_bytes b s in omega (arith, a)

  -- the buffer stands for the same in another way
  pub again : (b : Pending) → Stands b is.pending → length b.unread ≤ 1048576 → b.digest ≡ buffer.digest → IsLane text left b (cut_of b kept) taken
  again b s short same = subst (λ (d : Digest). IsLane text left b (cut_with d kept) taken) (sym same) (record {
    pending = is.pending;
    stands = s;
    count = is.count;
    told = is.told;
    digest = is.digest;
    bytes = is.bytes;
    lines = is.lines;
    closed = is.closed;
    at_end = is.at_end;
    order = is.order;
    short = omega (arith, short);
  })

  -- a byte of a further line is there
  pub out_of_lines : (given : Mark) (faults : ℕ) (b : Pending) → Stands b is.pending → 0 < byte_count b → kept.counts.lines ≡ greatest_lines
      → IsOutOfLines set (record { cut = cut_of b kept; taken = taken; given = given; faults = faults })
  out_of_lines given faults b s some all = record { lines = all; byte = let a = is.count in let c = stands_count b is.pending s in omega (arith, a, c, some) }

  -- nothing was read
  pub none_read : (given : Mark) (faults faults' : ℕ) (b : Pending) → b.digest ≡ buffer.digest → faults ≤ faults' → kept.closed ≡ false
      → ReadsOn set (record { cut = own; taken = taken; given = given; faults = faults }) 0 (record { cut = cut_of b kept; taken = taken; given = given; faults = faults' })
  none_read given faults faults' b same up is_open =
      subst (λ (d : Digest). ReadsOn set (record { cut = own; taken = taken; given = given; faults = faults }) 0 (record { cut = cut_with d kept; taken = taken; given = given; faults = faults' })) (sym same)
      (reads_none set (record { cut = own; taken = taken; given = given; faults = faults }) (record { cut = own; taken = taken; given = given; faults = faults' }) (is_state given faults') is_open refl refl (omega arith) up)

  -- ---- the source's end
  none_pending : byte_count buffer ≡ 0 → is.pending ≡ []
  none_pending e = none_of is.pending (let a = stands_count buffer is.pending is.stands in omega (arith, a, e))

  module _ (given : Mark) (faults : ℕ) (is_open : kept.closed ≡ false) (one : IsOneLine buffer.unread) (gone : IfSome left (λ l. l ≡ [])) where
    abbrev end_from : LaneState
    end_from = record { cut = own; taken = taken; given = given; faults = faults }

    abbrev after : LaneCut → LaneState
    after cut' = record { cut = cut'; taken = taken; given = given; faults = faults }

    ended_none : (next : Pending) (kept' : KeptView) → byte_count buffer ≡ 0 → ◌≡◌ {A = KeptView} kept' (record kept { closed = true }) → next ≡ buffer
        → Leaves text left next kept' taken set end_from (step.End false) (after (cut_of next kept'))
    ended_none next kept' none e same =
        let cut' : LaneCut = cut_of next kept' in
        let empty : is.pending ≡ [] = none_pending none in
        let none_left : kept'.closed ≡ true → ([] ≡ []) × IfSome left (λ l. l ≡ []) = λ _. (refl, gone) in
        let stands : Stands next [] = subst (λ (p : Pending). Stands p []) (sym same) (subst (Stands buffer) empty is.stands) in
        let digest : next.digest ≡ buffer.digest = ap (λ (p : Pending). p.digest) same in
        let lane : IsLane text left next cut' taken =
        advance [] [] empty next stands (subst (λ (p : Pending). length p.unread ≤ 1048576 + 65536) (sym same) is.short) cut'
        (ap (λ (k : KeptView). k.offset) e ∙ added_none kept.offset) (digest ∙ none_added buffer.digest) (let a = ap (λ (k : KeptView). k.counts.lines) e in omega (arith, a, is.lines))
        (subst (λ (k : KeptView). sorted_items k.items ≡ k.items) (sym e) is.order) none_left in
        record {
          lane = lane;
          step = (
            record {
              reads = advanced given faults [] [] empty 0 refl cut'
                  ((λ i. cut_with (digest i) (e i)) ∙ ap (λ (k : LaneCut). let c : LaneCut = record k { closed = true } in c) (read_none set own is.order)
                  ∙ (λ i. let k : LaneCut = record (read_on set own []) { closed = sym (ap (λ (c : KeptView). c.closed) e) i } in k))
                  (inl refl) none_left next lane;
              closed_is = ap (λ (k : KeptView). k.closed) e;
              faults = refl;
            },
            refl,
          );
        }

    ended_last : (next : Pending) (kept' : KeptView) → 0 < byte_count buffer → kept.counts.lines < greatest_lines
        → ◌≡◌ {A = KeptView} kept' (record (kept_on kept (reads shard (kept.counts.lines + 1) (is.stands.front ++ buffer.unread)) (byte_count buffer)) { closed = true })
        → next ≡ record { long = None; unread = []; digest = with_bytes (dropped_part buffer).digest buffer.unread }
        → Leaves text left next kept' taken set end_from (step.End true) (after (cut_of next kept'))
    ended_last next kept' some fewer e f =
        let cut' : LaneCut = cut_of next kept' in
        let all : List ℕ = is.stands.front ++ buffer.unread in
        let parts : is.pending ≡ all ++ [] = is.stands.parts ∙ sym (append-nil all) in
        let count : length all ≡ byte_count buffer = sym (ap length is.stands.parts) ∙ stands_count buffer is.pending is.stands in
        let alone : IsOneLine all = one_on is.stands.front buffer.unread (front_one buffer.long is.stands.front is.stands.is_front) one in
        let line : lines_of all ≡ all ∷ [] = (lines_are_one all alone).without (λ e. let a = ap length e in omega (arith, a, count, some)) in
        let none_left : kept'.closed ≡ true → ([] ≡ []) × IfSome left (λ l. l ≡ []) = λ _. (refl, gone) in
        let g : LineGot = reads shard (kept.counts.lines + 1) all in
        let digest : next.digest ≡ with_bytes buffer.digest all = ap (λ (p : Pending). p.digest) f ∙ digest_after buffer.unread in
        let lane : IsLane text left next cut' taken =
        advance all [] parts next (stands_fresh next [] (ap (λ (p : Pending). p.long) f) (ap (λ (p : Pending). p.unread) f)) (let a = ap (λ (p : Pending). length p.unread) f in omega (arith, a)) cut'
        (ap (λ (k : KeptView). k.offset) e ∙ ap (λ (n : ℕ). kept.offset + n) (sym count)) digest
        (let a = ap (λ (k : KeptView). k.counts.lines) e in let b = more_lines kept g (byte_count buffer) in omega (arith, a, b, fewer))
        (subst (λ (k : KeptView). sorted_items k.items ≡ k.items) (sym e) (order_after g (byte_count buffer))) none_left in
        record {
          lane = lane;
          step = (
            record {
              reads = advanced given faults all [] parts 1 (ap length line) cut'
                  (ap (cut_with next.digest) e ∙ ap (λ (k : LaneCut). let c : LaneCut = record k { closed = true } in c)
                  ((λ i. got_on kept.slack own (reads shard (swapped kept.counts.lines i) all) (byte_count buffer) next.digest) ∙ sym (line_is set own all all (byte_count buffer) next.digest line count digest))
                  ∙ (λ i. let k : LaneCut = record (read_on set own all) { closed = sym (ap (λ (c : KeptView). c.closed) e) i } in k))
                  (inr (ap (λ (k : KeptView). k.closed) e)) none_left next lane;
              closed_is = ap (λ (k : KeptView). k.closed) e;
              faults = refl;
            },
            refl,
          );
        }

    some_lines : (kept.counts.lines < greatest_lines) ⊎ (byte_count buffer ≡ 0) → 0 < byte_count buffer → kept.counts.lines < greatest_lines
    some_lines (inl fewer) some = fewer
    some_lines (inr none) some = absurd (omega (arith, none, some))

    pub end_done : {B : Type 0} (r : Result Bool B) (next : Pending) (kept' : KeptView) → (kept.counts.lines < greatest_lines) ⊎ (byte_count buffer ≡ 0)
        → (r ≡ Ok false → (byte_count buffer ≡ 0) × (◌≡◌ {A = KeptView} kept' (record kept { closed = true })) × (next ≡ buffer))
        → (r ≡ Ok true → ◌≡◌ {A = KeptView} kept' (record (kept_on kept (reads shard (kept.counts.lines + 1) (is.stands.front ++ buffer.unread)) (byte_count buffer)) { closed = true }))
        → (r ≡ Ok true → 0 < byte_count buffer)
        → (r ≡ Ok true → next ≡ record { long = None; unread = []; digest = with_bytes (dropped_part buffer).digest buffer.unread })
        → OnErr r ((kept' ≡ kept) × (next ≡ buffer))
        → Leaves text left next kept' taken set end_from (end_step r) (after (cut_of next kept'))
    end_done (Ok true) next kept' few none last some rest same = ended_last next kept' (some refl) (some_lines few (some refl)) (last refl) (rest refl)
    end_done (Ok false) next kept' few none last some rest same = let n = none refl in ended_none next kept' n.0 n.1 n.2
    end_done (Err u) next kept' few none last some rest same = record {
      lane = subst (λ (p : Pending). IsLane text left p (cut_of p kept') taken) (sym same.1) (subst (λ (k : KeptView). IsLane text left buffer (cut_of buffer k) taken) (sym same.0) is);
      step = λ i. after (cut_of (same.1 i) (same.0 i));
    }

-- ---- bytes that were taken
told_more : (text left now : Option (List ℕ)) (offset taken n : ℕ) (pending piece : List ℕ) → length piece ≡ n
    → IfSome left (λ l. IsNextOf l now piece) → IfSome text (λ t. AreAtHand t left offset taken pending) → IfSome text (λ t. AreAtHand t now offset (taken + n) (pending ++ piece))
told_more None left now offset taken n pending piece count next told = tt
told_more (Some t) left now offset taken n pending piece count next told =
    let P : Option (List ℕ) → Type 0 = λ o. IfSome o (λ l. IsNextOf l now piece) in
    let there : IsNextOf (drop taken t) now piece = subst P told.left_is next in
    let dropped : drop (length piece) (drop taken t) ≡ drop (taken + n) t = drop-drop (length piece) taken t ∙ ap (λ (k : ℕ). drop (taken + k) t) count in
    record {
      parts = told.parts
          ∙ ap (λ (l : List ℕ). pending ++ l) (sym (take-append-drop (length piece) (drop taken t)) ∙ (λ i. sym there.piece_is i ++ dropped i))
          ∙ sym (append_assoc pending piece (drop (taken + n) t));
      within = let a = length-drop taken t in let b = there.there in let c = told.within in omega (arith, a, b, c, count);
      left_is = there.now_is ∙ ap (λ (l : List ℕ). let o : Option (List ℕ) = Some l in o) dropped;
    }

module _ (text left : Option (List ℕ)) (buffer : Pending) (kept : KeptView) (taken : ℕ) (is : IsLane text left buffer (cut_of buffer kept) taken) (is_open : kept.closed ≡ false) where
  not_closed : kept.closed ≡ true → ⊥
  not_closed e = let a = sym is_open ∙ e in cc

  -- the lane once bytes were taken
  pub took_lane : (b next : Pending) (now : Option (List ℕ)) (n : ℕ) → Stands b is.pending → length b.unread ≤ 1048576 → b.digest ≡ buffer.digest → n ≤ 65536 → taken + n ≤ greatest_bytes
      → FillsBuffer left now b.unread next.unread n → next.long ≡ b.long → next.digest ≡ b.digest → IsLane text now next (cut_of next kept) (taken + n)
  took_lane b next now n stands short same few bytes f long digest = subst (λ (d : Digest). IsLane text now next (cut_with d kept) (taken + n)) (sym (digest ∙ same)) (record {
    pending = is.pending ++ f.piece;
    stands = record {
      front = stands.front;
      is_front = subst (λ (o : Option LongLine). IsFront o stands.front) (sym long) stands.is_front;
      digest_is = (λ i. (dropped_of (digest i) (long i)).digest) ∙ stands.digest_is ∙ ap (λ (d : Digest). with_bytes d stands.front) (sym digest);
      parts = ap (λ (l : List ℕ). l ++ f.piece) stands.parts ∙ append_assoc stands.front b.unread f.piece ∙ ap (λ (l : List ℕ). stands.front ++ l) (sym f.after_is);
    };
    count = let a = length-append is.pending f.piece in let c = is.count in omega (arith, a, c, f.count);
    told = told_more text left now kept.offset taken n is.pending f.piece f.count f.told is.told;
    digest = is.digest;
    bytes = bytes;
    lines = is.lines;
    closed = λ e. absurd (not_closed e);
    at_end = λ e. absurd (not_closed e);
    order = is.order;
    short = let a = ap length f.after_is in let c = length-append b.unread f.piece in omega (arith, a, c, f.count, short, few);
  })

  pub took_step : (shard : ℕ) (reads : Reads) (given : Mark) (faults faults' : ℕ) (next : Pending) (now : Option (List ℕ)) (n : ℕ) → next.digest ≡ buffer.digest → 1 ≤ n → faults' ≡ faults → IsLane text now next (cut_of next kept) (taken + n)
      → TookBytes (record { text = text; shard = shard; slack = kept.slack; reads = reads }) (record { cut = cut_of buffer kept; taken = taken; given = given; faults = faults }) n (record { cut = cut_of next kept; taken = taken + n; given = given; faults = faults' })
  took_step shard reads given faults faults' next now n digest some same lane = record {
    some = some;
    reads = record {
      reads = reads_none (record { text = text; shard = shard; slack = kept.slack; reads = reads }) (record { cut = cut_of buffer kept; taken = taken; given = given; faults = faults }) (record { cut = cut_of next kept; taken = taken + n; given = given; faults = faults' })
          (is_state text now next kept (taken + n) shard reads lane given faults')
          is_open (ap (λ (d : Digest). cut_with d kept) digest) refl (omega arith) (omega (arith, same));
      closed_is = is_open;
      faults = same;
    };
    taken = refl;
  }

pub filled_none : (left now : Option (List ℕ)) (before after : List ℕ) (n : ℕ) → FillsBuffer left now before after n → n ≡ 0 → after ≡ before
filled_none left now before after n f e = f.after_is ∙ ap (λ (l : List ℕ). before ++ l) (none_of f.piece (f.count ∙ e)) ∙ append-nil before

drop_nothing : (k : ℕ) (l : List ℕ) → l ≡ [] → drop k l ≡ []
drop_nothing zero l e = e
drop_nothing (suc k) [] e = refl
drop_nothing (suc k) (x ∷ l) e = cc

pub left_none : (left now : Option (List ℕ)) (before after : List ℕ) (n : ℕ) → FillsBuffer left now before after n → (left ≡ None → now ≡ None) → IfSome left (λ l. l ≡ []) → IfSome now (λ l. l ≡ [])
left_none None now before after n f silent none = let P : Option (List ℕ) → Type 0 = λ o. IfSome o (λ l. l ≡ []) in subst P (sym (silent refl)) tt
left_none (Some l) now before after n f silent none =
    let P : Option (List ℕ) → Type 0 = λ o. IfSome o (λ m. m ≡ []) in subst P (sym f.told.now_is) (drop_nothing (length f.piece) l none)

-- ---- events that were handed out
pub kept_lane : (text left : Option (List ℕ)) (buffer : Pending) (kept kept' : KeptView) (taken : ℕ) (mark : Mark) → IsLane text left buffer (cut_of buffer kept) taken
    → ◌≡◌ {A = KeptView} kept' (record kept { items = filter (λ item. not (is_below mark item)) kept.items }) → IsLane text left buffer (cut_of buffer kept') taken
kept_lane text left buffer kept kept' taken mark is e = subst (λ (k : KeptView). IsLane text left buffer (cut_of buffer k) taken) (sym e) (record {
  pending = is.pending;
  stands = is.stands;
  count = is.count;
  told = is.told;
  digest = is.digest;
  bytes = is.bytes;
  lines = is.lines;
  closed = is.closed;
  at_end = is.at_end;
  order = sym (sorted_below mark kept.items).1 ∙ ap (filter (λ item. not (is_below mark item))) is.order;
  short = is.short;
})

-- a closed lane is at its text's end
pub ended_text : (text left : Option (List ℕ)) (buffer : Pending) (cut : LaneCut) (taken : ℕ) → IsLane text left buffer cut taken → cut.closed ≡ true → IfSome text (λ t. drop cut.offset t ≡ [])
ended_text None left buffer cut taken is e = tt
ended_text (Some t) left buffer cut taken is e = is.told.parts ∙ (λ i. is.closed e i ++ none_left t left taken is.told.left_is (is.at_end e) i)

-- ---- the text of a lane
pub of_text : (text left : Option (List ℕ)) (buffer : Pending) (cut : LaneCut) (taken : ℕ) → IsLane None left buffer cut taken → IfSome text (λ t. IsTextAt t left buffer cut taken) → IsLane text left buffer cut taken
of_text None left buffer cut taken is at = is
of_text (Some t) left buffer cut taken is at =
    let a = stands_count buffer at.pending at.stands in
    let b = stands_count buffer is.pending is.stands in
    record {
      pending = at.pending;
      stands = at.stands;
      count = omega (arith, a, b, is.count);
      told = record { parts = at.parts; within = at.within; left_is = at.left_is };
      digest = at.digest;
      bytes = is.bytes;
      lines = is.lines;
      closed = λ e. none_of at.pending (let c = ap length (is.closed e) in omega (arith, a, b, c));
      at_end = is.at_end;
      order = is.order;
      short = is.short;
    }

pub tells : (text left : Option (List ℕ)) (buffer : Pending) (cut : LaneCut) (taken : ℕ) → IsLane text left buffer cut taken → IfSome text (λ t. IsTextAt t left buffer cut taken)
tells None left buffer cut taken is = tt
tells (Some t) left buffer cut taken is = record { digest = is.digest; pending = is.pending; stands = is.stands; parts = is.told.parts; within = is.told.within; left_is = is.told.left_is }

-- ---- the source's end, met by a take of no bytes
no_more : (taken n : ℕ) → n ≡ 0 → taken + n ≡ taken
no_more taken n e = omega (arith, e)

module _ (text left : Option (List ℕ)) (buffer : Pending) (kept : KeptView) (taken : ℕ) (is : IsLane text left buffer (cut_of buffer kept) taken) (is_open : kept.closed ≡ false) (b next : Pending) (now : Option (List ℕ)) (n : ℕ) (e : n ≡ 0)
    (stands : Stands b is.pending) (short : length b.unread ≤ 1048576) (same_digest : b.digest ≡ buffer.digest) (f : FillsBuffer left now b.unread next.unread n) (long : next.long ≡ b.long) (digest : next.digest ≡ b.digest) where
  pub end_lane : IsLane text now next (cut_of next kept) taken
  end_lane = subst (λ (t : ℕ). IsLane text now next (cut_of next kept) t) (no_more taken n e)
      (took_lane text left buffer kept taken is is_open b next now n stands short same_digest (omega (arith, e)) (let a = is.bytes in omega (arith, e, a)) f long digest)

  pub end_over : (shard : ℕ) (reads : Reads) (given : Mark) (faults faults' : ℕ) → faults' ≡ faults → IsOneLine b.unread → (left ≡ None → now ≡ None) → IfSome left (λ l. l ≡ [])
      → {B : Type 0} (r : Result Bool B) (next' : Pending) (kept' : KeptView) → (kept.counts.lines < greatest_lines) ⊎ (byte_count next ≡ 0)
      → (r ≡ Ok false → (byte_count next ≡ 0) × (◌≡◌ {A = KeptView} kept' (record kept { closed = true })) × (next' ≡ next))
      → (r ≡ Ok true → (front : List ℕ) → IsFront next.long front → ◌≡◌ {A = KeptView} kept' (record (kept_on kept (reads shard (kept.counts.lines + 1) (front ++ next.unread)) (byte_count next)) { closed = true }))
      → (r ≡ Ok true → 0 < byte_count next)
      → (r ≡ Ok true → next' ≡ record { long = None; unread = []; digest = with_bytes (dropped_part next).digest next.unread })
      → OnErr r ((kept' ≡ kept) × (next' ≡ next))
      → Leaves text now next' kept' taken (record { text = text; shard = shard; slack = kept.slack; reads = reads }) (record { cut = cut_of buffer kept; taken = taken; given = given; faults = faults }) (end_step r)
      (record { cut = cut_of next' kept'; taken = taken; given = given; faults = faults' })
  end_over shard reads given faults faults' same one silent gone r next' kept' few none last some rest unchanged =
      let done = end_done text now next kept taken shard reads end_lane given faults' is_open
      (subst IsOneLine (sym (filled_none left now b.unread next.unread n f e)) one) (left_none left now b.unread next.unread n f silent gone) r next' kept' few none
      (λ h. last h end_lane.stands.front end_lane.stands.is_front) some rest unchanged in
      record {
        lane = done.lane;
        step = subst (λ (x : ℕ × Digest). StepIs (record { text = text; shard = shard; slack = kept.slack; reads = reads }) (record { cut = cut_with x.1 kept; taken = taken; given = given; faults = x.0 }) (end_step r)
            (record { cut = cut_of next' kept'; taken = taken; given = given; faults = faults' })) (λ i. (same i, (digest ∙ same_digest) i)) done.step;
      }

-- ---- a take that was refused
pub refused_lane : (text left now : Option (List ℕ)) (buffer : Pending) (kept : KeptView) (taken : ℕ) (is : IsLane text left buffer (cut_of buffer kept) taken) (b next : Pending) → Stands b is.pending → length b.unread ≤ 1048576
    → b.digest ≡ buffer.digest → next.unread ≡ b.unread → next.long ≡ b.long → next.digest ≡ b.digest → now ≡ left → IsLane text now next (cut_of next kept) taken
refused_lane text left now buffer kept taken is b next stands short same_digest unread long digest same =
    let there : IsLane text left b (cut_with buffer.digest kept) taken = record {
      pending = is.pending;
      stands = stands;
      count = is.count;
      told = is.told;
      digest = is.digest;
      bytes = is.bytes;
      lines = is.lines;
      closed = is.closed;
      at_end = is.at_end;
      order = is.order;
      short = omega (arith, short);
    } in
    let buffers : b ≡ next = λ i. record { long = sym long i; unread = sym unread i; digest = sym digest i } in
    subst (λ (o : Option (List ℕ)). IsLane text o next (cut_of next kept) taken) (sym same)
    (subst (λ (p : Pending). IsLane text left p (cut_of p kept) taken) buffers (subst (λ (d : Digest). IsLane text left b (cut_with d kept) taken) (sym same_digest) there))

pub not_failed : (e : FillRefused) → e ≡ fill_refused.Memory → ◌≡◌ {A = Result ℕ FillRefused} (Err e) (Err fill_refused.Failed) → ⊥
not_failed e is h = cc

-- no room is left where all bytes that a shard may have were taken
pub all_taken : (room least most taken : ℕ) → 1 ≤ room → least ≡ min room 65536 → most ≡ min least (1099511627776 - taken) → most ≡ 0 → taken ≤ greatest_bytes → taken ≡ greatest_bytes
all_taken room least most taken some a b none le = omega (arith, some, a, b, none, le)

-- ---- the start
pub begun_lane : (left : Option (List ℕ)) (buffer : Pending) (digest : Digest) (kept : KeptView) (taken : ℕ) → buffer ≡ record { long = None; unread = []; digest = digest } → taken ≡ kept.offset
    → kept.counts.lines ≤ greatest_lines → kept.offset ≤ greatest_bytes → (kept.closed ≡ true → IfSome left (λ l. l ≡ [])) → sorted_items kept.items ≡ kept.items → IsLane None left buffer (cut_of buffer kept) taken
begun_lane left buffer digest kept taken e all lines bytes ended order =
    let none : buffer.unread ≡ [] = ap (λ (p : Pending). p.unread) e in
    record {
      pending = [];
      stands = subst (λ (p : Pending). Stands p []) (sym e) (record { front = []; is_front = refl; digest_is = none_added digest; parts = refl });
      count = omega (arith, all);
      told = tt;
      digest = tt;
      bytes = omega (arith, all, bytes);
      lines = lines;
      closed = λ e. refl;
      at_end = ended;
      order = order;
      short = let a = ap length none in omega (arith, a);
    }

-- the text of a lane that begins at an offset
pub begun_text : (left now : Option (List ℕ)) (cut : LaneCut) → IfSome left (λ t. (cut.offset ≤ length t) × (now ≡ Some (drop cut.offset t))) → HasDigest left cut
    → IfSome left (λ t. IsTextAt t now (record { long = None; unread = []; digest = cut.digest }) cut cut.offset)
begun_text None now cut h digest = tt
begun_text (Some t) now cut h digest = record {
  digest = digest;
  pending = [];
  stands = record { front = []; is_front = refl; digest_is = none_added cut.digest; parts = refl };
  parts = refl;
  within = h.0;
  left_is = h.1;
}

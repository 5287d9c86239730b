-- What became of the lanes of a run.
use Rattle.std.proofs.Common.{◌≡◌, ◌≤◌, ◌<◌, ◌+◌, ℕ, suc, ℤ, Bool, true, false, cond, List, [], ◌∷◌, ◌++◌, Option, None, Some, All, length, length-append, length-drop, drop, refl, sym, ap, ◌∙◌, arith, subst}
use Rattle.std.specs.Prelude.{◌==◌, IfSome, IsTrue, slice_get}
use Rattle.std.specs.List.{AllZip}
use Rattle.std.proofs.lemmas.List.{append-nil}
use Rattle.std.proofs.lemmas.Option.{same_Some, slice_get_within}
use Rattle.eql_outside.specs.declared.disk.Disk as disks
use Rattle.eql_outside.specs.declared.sink.Sink as sinks
use Rattle.eql_outside.specs.declared.source.Source as sources
use Rattle.eql_values.specs.Accepted.{Reads}
use Rattle.eql_values.specs.declared.cut.LaneCut.{LaneCut}
use Rattle.eql_values.specs.declared.order.Mark.{Mark}
use Rattle.eql_values.specs.declared.order.Mark.TheVariants.{End}
use Rattle.eql_values.specs.declared.reader.LineReader as readers
use Rattle.eql_values.specs.Lines.{begin_with, lines_of}
use Rattle.eql_values.specs.Marks.{low_of}
use Rattle.eql_laws.specs.Counting.{IsShardText, counts_of, greatest_bytes, greatest_lines}
use Rattle.eql_laws.specs.Lateness.{IsAtMost}
use Rattle.eql_laws.specs.Places.{is_line_end}
use Rattle.eql_laws.proofs.MarkLemmas.{at_most_trans}
use Rattle.eql_lane.specs.Keeps.{LaneIs}
use Rattle.eql_lane.specs.Lanes.{IsOutOfLines, LaneState, Setting, low}
use Rattle.eql_lane.specs.Views.{IsTextOf, LaneView, setting_of}
use Rattle.eql_lane.proofs.FeedLines.{lines_both}
use Rattle.eql_parts.specs.PartSteps.{PartView}
use Rattle.eql_conductor.specs.LaneCalls.{IsOfText}
use Rattle.eql_conductor.specs.declared.plan.Run.{Run}
use Rattle.eql_conductor.specs.Benches.{Known}
use Rattle.eql_conductor.specs.Bounds.{AreSized, IsSized}
use Rattle.eql_conductor.specs.Going.{GoesOnward, RunResult}
use Rattle.eql_conductor.specs.GoingOn.{IsAtPlace}
use Rattle.eql_conductor.specs.LaneRounds.{IsSafeAt, text_at}
use Rattle.eql_conductor.specs.Lists.{HasLane, known_in, set_in}
use Rattle.eql_conductor.specs.Rounds.{BenchIsOfTexts}
use Rattle.eql_conductor.proofs.Lists.{there_or}
use Rattle.eql_conductor.proofs.Onward.{fed_onward, onward_on}
use Rattle.eql_hub_run.specs.Beside.{HubRan}
use Rattle.eql_search.specs.Answers.{CountWhole, IsClosed, RanOutOfBytes, RanOutOfLines, StaysLane, WereRead}
use Rattle.eql_search.specs.Searches.{AreBegunFrom, AreTextsOf}
use Rattle.eql_search.proofs.Places.{all_by, zip_by}
use Rattle.eql_search.proofs.Texts.{all_told, begun_at, of_some, told_again, told_count}

-- only a closed lane has the end as its low
pub closed_low : (closed : Bool) (slack best : Option ℤ) → IsAtMost End (low_of closed slack best) → closed ≡ true
closed_low true slack best h = refl
closed_low false (Some slack) (Some best) h = cc
closed_low false (Some slack) None h = cc
closed_low false None best h = cc

-- ---- more lines
begun_line : (byte : ℕ) (lines : List (List ℕ)) → 1 ≤ length (begin_with byte lines)
begun_line byte [] = omega arith
begun_line byte (line ∷ lines) = omega arith

some_lines : (text : List ℕ) → 1 ≤ length text → 1 ≤ length (lines_of text)
some_lines [] h = absurd (omega (arith, h))
some_lines (byte ∷ bytes) h = one (byte == 10)
  where
    one : (c : Bool) → 1 ≤ length (cond c ([] ∷ lines_of bytes) (begin_with byte (lines_of bytes)))
    one true = omega arith
    one false = begun_line byte (lines_of bytes)

-- behind a place that isn't the end of a text there is a line more
more_lines : (first rest : List ℕ) → IsTrue (is_line_end first rest) → 1 ≤ length rest → length (lines_of first) < length (lines_of (first ++ rest))
more_lines first [] line_end some = absurd (omega (arith, some))
more_lines first (byte ∷ bytes) line_end some =
    let lines = some_lines (byte ∷ bytes) some in
    let both = ap length (lines_both first (byte ∷ bytes) line_end) in
    let count = length-append (lines_of first) (lines_of (byte ∷ bytes)) in
    omega (arith, lines, both, count)

-- lanes of which nothing was played stay
pub all_stay : {S L : Type 0} (left lent_as : S → Option (List ℕ)) (read_of : L → Reads) (lanes : List (LaneView S L)) → AllZip (StaysLane left lent_as read_of) lanes lanes
all_stay left lent_as read_of [] = tt
all_stay left lent_as read_of (lane ∷ lanes) = (
  record {
    same = record { shard = refl; slack = refl; reads = refl; places = refl; named = refl; silent = λ h. h };
    counts = omega arith;
  },
  all_stay left lent_as read_of lanes,
)

-- counts at each place are those of all texts
count_whole : {S L : Type 0} (reads : Reads) (slack : Option ℤ) (shard : ℕ) (texts : List (List ℕ)) (lanes : List (LaneView S L)) → length texts ≡ length lanes
    → ((k : ℕ) (t : List ℕ) (lane : LaneView S L) → slice_get texts k ≡ Some t → slice_get lanes k ≡ Some lane → lane.state.cut.counts ≡ counts_of reads slack (shard + k) t)
    → CountWhole reads slack shard texts lanes
count_whole reads slack shard [] [] e each = tt
count_whole reads slack shard [] (lane ∷ lanes) e each = absurd (omega (arith, e))
count_whole reads slack shard (text ∷ texts) [] e each = absurd (omega (arith, e))
count_whole reads slack shard (text ∷ texts) (lane ∷ lanes) e each =
    let here : shard + 0 ≡ shard = omega arith in (
      each 0 text lane refl refl ∙ ap (λ (n : ℕ). counts_of reads slack n text) here,
      count_whole reads slack (shard + 1) texts lanes (omega (arith, e)) (λ k t one was is.
          let next : shard + suc k ≡ (shard + 1) + k = omega arith in
          each (suc k) t one was is ∙ ap (λ (n : ℕ). counts_of reads slack n t) next),
    )

module _ {S L K D : Type 0} (source : sources.Ghosts S) (reader : readers.Ghosts L) (output : sinks.Ghosts K) (disk : disks.Ghosts D) (reads : Reads) (slack : Option ℤ)
    (told : Option (List (List ℕ))) (olds news : List (LaneView S L)) (parts : List PartView) (sink sink' : K) (carried carried' : Run D)
    (answer : RunResult) (first last : Known) (begun : AreBegunFrom reader.read_of reads slack 0 olds)
    (run : HubRan source reader output disk (text_at told) olds news parts sink sink' first last carried carried' answer)
    (sizes : AreSized (known_in reader.read_of (text_at told) olds parts)) where
  abbrev bench : Known
  bench = known_in reader.read_of (text_at told) olds parts

  -- ---- at its place
  pub as_many : length news ≡ length olds
  as_many = run.hands.on.count

  -- a lane that is there is one of those that were known first, and last
  pub known_first : (s : ℕ) → s < length olds → s < first.lanes
  known_first s l = let e = run.begins.lanes in omega (arith, l, e)

  pub known_last : (s : ℕ) → s < length olds → s < last.lanes
  known_last s l = let e = run.conductor.goes.same.lanes in let m = known_first s l in omega (arith, m, e)

  module _ (s : ℕ) (old new : LaneView S L) (was : slice_get olds s ≡ Some old) (is : slice_get news s ≡ Some new) where
    pub within : s < length olds
    within = slice_get_within olds s old was

    has_then : HasLane olds s old.state
    has_then = record { lane = old; there = was; state_is = refl }

    pub old_is : (x : LaneState) → HasLane olds s x → x ≡ old.state
    old_is x has = has.state_is ∙ ap (λ (lane : LaneView S L). lane.state) (same_Some has.lane old (sym has.there ∙ was))

    pub onward : GoesOnward (first.set s) old.state new.state
    onward =
        let stood = run.hands.lanes s new is in
        let on = run.conductor.goes.each s (known_first s within) stood.0 stood.1 in
        let set : Setting = first.set s in
        let fed : GoesOnward set stood.0 new.state = fed_onward set stood.0 new.state stood.2 in
        subst (λ (x : LaneState). GoesOnward set x new.state) (old_is on.0 (run.begins.lane_from s on.0 on.1)) (onward_on set on.0 stood.0 new.state on.2 fed)

    -- what is so of its low in each state that it might have at the conductor's end is so of it now
    pub low_on : (mark : Mark) → IsSafeAt s mark last → IsAtMost mark (low (first.set s) new.state)
    low_on mark safe =
        let stood = run.hands.lanes s new is in
        let set : Setting = first.set s in
        let at : IsAtMost mark (low set stood.0) = subst (λ (u : Setting). IsAtMost mark (low u stood.0)) (run.conductor.goes.same.set s (known_first s within)) (safe.low_is stood.0 stood.1) in
        at_most_trans mark (low set stood.0) (low set new.state) at (fed_onward set stood.0 new.state stood.2).low_up

    -- and where it is closed in each of them it is closed now
    pub closed_on : ((x : LaneState) → last.lane s x → x.cut.closed ≡ true) → new.state.cut.closed ≡ true
    closed_on closed =
        let stood = run.hands.lanes s new is in
        let set : Setting = first.set s in
        let up : IsAtMost (low set stood.0) (low set new.state) = (fed_onward set stood.0 new.state stood.2).low_up in
        closed_low new.state.cut.closed set.slack new.state.cut.best
        (subst (λ (c : Bool). IsAtMost (low_of c set.slack stood.0.cut.best) (low set new.state)) (closed stood.0 stood.1) up)

    sized : IsSized new.state
    sized = onward.sized (sizes.each s within old.state has_then)

    pub lane_stays : StaysLane source.left source.lent_as reader.read_of old new
    lane_stays = record { same = (run.hands.on.each s old new was is).same; counts = onward.faults }

    -- ---- by a text that is told
    module _ (t : List ℕ) (named : text_at told s ≡ Some t) where
      is_text : IsTextOf source.left (Some t) new
      is_text = subst (λ (o : Option (List ℕ)). IsTextOf source.left o new) named (run.hands.texts.each s new is)

      lines_over : new.state.cut.counts.lines ≡ greatest_lines → new.state.cut.offset < new.state.taken
          → greatest_lines < old.state.cut.counts.lines + length (lines_of (drop old.state.cut.offset t))
      lines_over most byte =
          let on = run.hands.lines.each s old new was is t named in
          let a = on.offset in
          let b = on.lines in
          let c = ap (λ (l : List ℕ). length l) on.parts in
          let d = length-append on.more on.rest in
          let e = is_text.within in
          let f = length-drop old.state.cut.offset t in
          let more = more_lines on.more on.rest on.line_end (omega (arith, a, c, d, e, f, byte)) in
          let g = ap (λ (l : List ℕ). length (lines_of l)) on.parts in
          omega (arith, b, g, more, most)

      bytes_over : new.state.taken ≡ greatest_bytes → greatest_bytes ≤ length t
      bytes_over most = let a = is_text.within in omega (arith, a, most)

      -- where it had read its text up to a place
      module _ (at_then : IsAtPlace (setting_of reader.read_of (Some t) old) t old.state) where
        at_now : IsAtPlace (setting_of reader.read_of (Some t) new) t new.state
        at_now = run.hands.read.each s old new was is t named at_then

        -- what was read of it are so many bytes
        offset_is : new.state.cut.offset ≡ length at_now.is.place.first
        offset_is = ap (λ (cut : LaneCut). cut.offset) at_now.is.cut

        lines_are : new.state.cut.counts.lines ≡ length (lines_of at_now.is.place.first)
        lines_are = ap (λ (cut : LaneCut). cut.counts.lines) at_now.is.cut

        rest_is : new.state.cut.closed ≡ true → at_now.is.place.rest ≡ []
        rest_is closed = at_now.is.is_place.at_end (sym (ap (λ (cut : LaneCut). cut.closed) at_now.is.cut) ∙ closed)

        all_read : new.state.cut.closed ≡ true → at_now.is.place.first ≡ t
        all_read closed =
            sym (append-nil at_now.is.place.first) ∙ ap (λ (l : List ℕ). at_now.is.place.first ++ l) (sym (rest_is closed)) ∙ at_now.is.text_is

        pub counts_are : new.state.cut.closed ≡ true → new.state.cut.counts ≡ counts_of reads slack s t
        counts_are closed =
            let same = (run.hands.on.each s old new was is).same in
            let one = begun_at reader.read_of reads slack olds begun s old was in
            ap (λ (cut : LaneCut). cut.counts) at_now.is.cut
            ∙ (λ i. counts_of ((same.reads ∙ one.reads_are) i) ((same.slack ∙ one.slack_is) i) ((same.shard ∙ one.shard_is) i) (all_read closed i))

        -- a lane that is closed has no more of it than a shard may have
        pub fits_shard : new.state.cut.closed ≡ true → IsShardText t
        fits_shard closed = record {
          lines = let a = lines_are in let b = ap (λ (l : List ℕ). length (lines_of l)) (all_read closed) in let c = sized.lines in omega (arith, a, b, c);
          bytes =
              let a = offset_is in
              let b = ap (λ (l : List ℕ). length l) (all_read closed) in
              let c = ap (λ (l : List ℕ). length l) is_text.parts in
              let d = length-append is_text.pending (drop new.state.taken t) in
              let e = length-drop new.state.cut.offset t in
              let f = length-drop new.state.taken t in
              let h = sized.bytes in
              omega (arith, a, b, c, d, e, f, h);
        }

    -- ---- limits
    pub out_of_lines : (set : Setting) → IsOutOfLines set new.state → RanOutOfLines (text_at told s) old new
    out_of_lines set out = record {
      lines = out.lines;
      byte = out.byte;
      beyond = by (text_at told s) refl;
    }
      where
        by : (o : Option (List ℕ)) → text_at told s ≡ o → IfSome o (λ (t : List ℕ). greatest_lines < old.state.cut.counts.lines + length (lines_of (drop old.state.cut.offset t)))
        by None e = tt
        by (Some t) e = lines_over t e out.lines out.byte

    pub out_of_bytes : new.state.taken ≡ greatest_bytes → RanOutOfBytes (text_at told s) old new
    out_of_bytes most = record { bytes = most; beyond = by (text_at told s) refl }
      where
        by : (o : Option (List ℕ)) → text_at told s ≡ o → IfSome o (λ (t : List ℕ). greatest_bytes ≤ length t)
        by None e = tt
        by (Some t) e = bytes_over t e most

  -- ---- all of them
  pub lanes_stay : AllZip (StaysLane source.left source.lent_as reader.read_of) olds news
  lanes_stay = zip_by (StaysLane source.left source.lent_as reader.read_of) olds news as_many lane_stays

  pub texts_stay : IfSome told (λ (texts : List (List ℕ)). AreTextsOf source.left texts olds) → IfSome told (λ (texts : List (List ℕ)). AreTextsOf source.left texts news)
  texts_stay are = told_again source.left told olds news as_many are run.hands.texts

  -- every lane is closed
  abbrev pub Closed : Type 0
  Closed = (s : ℕ) (new : LaneView S L) → slice_get news s ≡ Some new → new.state.cut.closed ≡ true

  pub all_closed : Closed → All IsClosed news
  all_closed closed = all_by IsClosed news closed

  module _ (texts : List (List ℕ)) (e : told ≡ Some texts) (are : AreTextsOf source.left texts olds) (mark : Mark) (of_texts : BenchIsOfTexts reads slack texts mark bench) where
    -- each lane had read its text up to a place
    was_at : (s : ℕ) (old : LaneView S L) (t : List ℕ) → slice_get olds s ≡ Some old → slice_get texts s ≡ Some t → IsAtPlace (setting_of reader.read_of (Some t) old) t old.state
    was_at s old t was named =
        let at = of_texts.lanes.each s (slice_get_within olds s old was) old.state (record { lane = old; there = was; state_is = refl }) in
        let of : IsOfText (bench.set s) mark old.state t = of_some (slice_get texts s) (IsOfText (bench.set s) mark old.state) t named at.told in
        let set : bench.set s ≡ setting_of reader.read_of (Some t) old =
        ap (set_in reader.read_of (text_at told s)) was ∙ ap (λ (o : Option (List ℕ)). setting_of reader.read_of o old) (ap (λ (o : Option (List (List ℕ))). text_at o s) e ∙ named) in
        record { mark = mark; is = subst (λ (u : Setting). LaneIs u t mark old.state) set of.is }

    named_at : (s : ℕ) (t : List ℕ) → slice_get texts s ≡ Some t → text_at told s ≡ Some t
    named_at s t there = ap (λ (o : Option (List (List ℕ))). text_at o s) e ∙ there

    old_at : (s : ℕ) (new : LaneView S L) → slice_get news s ≡ Some new → (old : LaneView S L) × (slice_get olds s ≡ Some old)
    old_at s new is = there_or olds s (let a = slice_get_within news s new is in let b = as_many in omega (arith, a, b))

    new_at : (s : ℕ) (old : LaneView S L) → slice_get olds s ≡ Some old → (new : LaneView S L) × (slice_get news s ≡ Some new)
    new_at s old was = there_or news s (let a = slice_get_within olds s old was in let b = as_many in omega (arith, a, b))

    -- the texts are of the size that shards may have, where every lane is closed
    pub texts_fit : Closed → All IsShardText texts
    texts_fit closed =
        all_told source.left IsShardText texts olds are (λ s old t was there.
        let one = new_at s old was in
        fits_shard s old one.0 was one.1 t (named_at s t there) (was_at s old t was there) (closed s one.0 one.1))

    pub were_read : Closed → WereRead reads slack texts news
    were_read closed = record {
      counts = count_whole reads slack 0 texts news (told_count source.left texts olds are ∙ sym as_many) (λ s t new there is.
          let one = old_at s new is in
          let here : s ≡ 0 + s = omega arith in
          counts_are s one.0 new one.1 is t (named_at s t there) (was_at s one.0 t one.1 there) (closed s new is)
          ∙ ap (λ (n : ℕ). counts_of reads slack n t) here);
      within = texts_fit closed;
    }

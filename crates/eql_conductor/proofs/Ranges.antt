-- The mark of a round over told texts that counts is in the range of marks: it is the low of an open lane.
use Rattle.std.proofs.Common.{inl, inr, ◌<◌, ℕ, ℤ, ◌-ℤ◌, Bool, true, false, List, [], Option, None, Some, length, get_or, refl, sym, subst}
use Rattle.std.specs.Prelude.{IfSome}
use Rattle.std.proofs.lemmas.Option.{slice_get-get_or}
use Rattle.eql_values.specs.declared.cut.LaneCut.{LaneCut}
use Rattle.eql_values.specs.declared.order.Mark.{Mark}
use Rattle.eql_values.specs.Accepted.{Reads, readable}
use Rattle.eql_values.specs.Lines.{lines_in}
use Rattle.eql_values.specs.Marks.{low_of}
use Rattle.eql_values.specs.Reading.{IsTime}
use Rattle.eql_laws.specs.Belows.{IsReading}
use Rattle.eql_laws.specs.Lateness.{best_of}
use Rattle.eql_laws.proofs.BelowLemmas.{accepted_of_text, open_low}
use Rattle.eql_lane.specs.Keeps.{LaneIs}
use Rattle.eql_lane.specs.Lanes.{LaneState, Setting, low}
use Rattle.eql_conductor.specs.LaneCalls.{IsOfText, LaneIsAt}
use Rattle.eql_conductor.specs.Benches.{Known, Rests}
use Rattle.eql_conductor.specs.Bounds.{IsSomeLow, LaneHadLow}
use Rattle.eql_conductor.specs.LaneRounds.{text_at}
use Rattle.eql_conductor.specs.Rounds.{BenchIsOfTexts, IsInRange}
use Rattle.eql_conductor.proofs.Stays.{texts_stay}
use Rattle.eql_conductor.proofs.Takes.{fed_keeps}

low_of_in_range : (closed : Bool) (slack best : Option ℤ) → IfSome best IsTime → IsInRange (low_of closed slack best) slack
low_of_in_range true slack best h = tt
low_of_in_range false None best h = tt
low_of_in_range false (Some s) None h = tt
low_of_in_range false (Some s) (Some b) h = λ from to. open_low s (Some b) (b -ℤ s) from to h refl

-- the low of a lane that has a text
low_in_range : (set : Setting) (text : List ℕ) (mark : Mark) (x : LaneState) → IsReading set.reads → LaneIs set text mark x → IsInRange (low set x) set.slack
low_in_range set text mark x reading is =
    subst (λ (cut : LaneCut). IsInRange (low_of cut.closed set.slack cut.best) set.slack) (sym is.cut)
    (low_of_in_range is.place.closed set.slack (best_of (readable set.reads set.shard (lines_in is.place.first)))
    (accepted_of_text set.reads None set.shard is.place.first reading).best_in_range)

module _ (last mark : Mark) (reads : Reads) (slack : Option ℤ) (texts : List (List ℕ)) where
  had_in_range : (s : ℕ) (a b : Known) → BenchIsOfTexts reads slack texts last a → LaneHadLow s mark a b → IsInRange mark slack
  had_in_range s a b of low_was =
      let set : Setting = a.set s in
      let l = low_was.lane in
      let x : LaneState = low_was.some.0 in
      let had = low_was.some.3 in
      let z : LaneState = had.state in
      let reading = of.lanes.are.reading s l in
      let text : List ℕ = get_or texts s [] in
      let within : s < length texts = subst (λ (n : ℕ). s < n) (sym of.read.count) l in
      let at : LaneIsAt (text_at (Some texts) s) set last z = fed_keeps (text_at (Some texts) s) set last x z reading had.before (of.lanes.each s l x low_was.some.2) in
      let told : IsOfText set last z text = subst (λ (o : Option (List ℕ)). IfSome o (IsOfText set last z)) (slice_get-get_or texts s [] within) at.told in
      subst (λ (m : Mark). IsInRange m slack) had.low_is
      (subst (λ (o : Option ℤ). IsInRange (low set z) o) (of.read.slack_is s l) (low_in_range set text last z reading told.is))

  -- the least of the lows that were looked at
  pub mark_in_range : (a b c : Known) → Rests a b → IsSomeLow mark b c → BenchIsOfTexts reads slack texts last a → IsInRange mark slack
  mark_in_range a b c rests (inl e) of = subst (λ (m : Mark). IsInRange m slack) (sym e) tt
  mark_in_range a b c rests (inr (s, low_was)) of = had_in_range s b c (texts_stay reads slack texts last a b rests.same rests.lanes of) low_was

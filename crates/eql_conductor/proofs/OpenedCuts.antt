-- What is known of lanes and parts that began with what a cut keeps.
use Rattle.std.proofs.Common.{◌≡◌, ◌+◌, ◌<◌, ◌≤◌, ℕ, zero, suc, ℤ, ◌-ℤ◌, Bool, true, false, List, [], ◌∷◌, map, Option, Some, None, refl, sym, ap, ◌∙◌, arith, subst}
use Rattle.std.specs.Prelude.{All, IfSome, IsTrue, slice_get}
use Rattle.std.specs.List.{AllZip}
use Rattle.std.proofs.lemmas.List.Elements.{All-cons, All-head, All-nil, All-tail, All-weaker}
use Rattle.std.proofs.lemmas.Option.{same_Some}
use Rattle.eql_values.specs.declared.cut.LaneCut.{LaneCut}
use Rattle.eql_values.specs.declared.cut.Pipe.{Pipe}
use Rattle.eql_values.specs.declared.cut.Pipe.TheVariants as pipe
use Rattle.eql_values.specs.declared.cut.PipeState.{PipeState}
use Rattle.eql_values.specs.declared.cut.PipeState.TheVariants as state
use Rattle.eql_values.specs.declared.found.Numbered.{Numbered}
use Rattle.eql_values.specs.declared.item.Item.{Item}
use Rattle.eql_values.specs.declared.order.Mark.{Mark}
use Rattle.eql_values.specs.declared.order.Mark.TheVariants.{At}
use Rattle.eql_values.specs.Accepted.{Reads}
use Rattle.eql_values.specs.Marks.{is_below, is_safe, low_of}
use Rattle.eql_laws.specs.Belows.{IsReading}
use Rattle.eql_laws.specs.Books.{IsKeptMatch, StateFits, StateStands}
use Rattle.eql_laws.specs.Cuts.{IsHeldBack, IsPending, held_back}
use Rattle.eql_laws.specs.Fitting.{Fits, Kept, Run}
use Rattle.eql_laws.specs.Lanes.{IsKeptBy, LaneFits, LanesFit, lane_at, lanes_from}
use Rattle.eql_laws.specs.Lateness.{IsAtMost}
use Rattle.eql_laws.specs.Places.{ArePlaces, IsPlace, ReadTo, lows_from, whole}
use Rattle.eql_laws.specs.Shapes.{HasStageBefore, IsFull}
use Rattle.eql_laws.proofs.CutLemmas.{held_back_fits}
use Rattle.eql_laws.proofs.Facts.{both_true, true_both}
use Rattle.eql_laws.proofs.MarkLemmas.{at_most_end, at_most_times}
use Rattle.eql_lane.specs.Keeps.{LaneIs}
use Rattle.eql_lane.specs.Lanes.{LaneState, Setting, beginning_lane}
use Rattle.eql_lane.proofs.Keeping.{cuts_begin}
use Rattle.eql_parts.specs.PartSteps.{PartState, Rules}
use Rattle.eql_conductor.specs.LaneCalls.{Holds, IsOfShard, IsOfText, LaneIsAt}
use Rattle.eql_conductor.specs.Benches.{Known}
use Rattle.eql_conductor.specs.Bounds.{IsSized}
use Rattle.eql_conductor.specs.LaneRounds.{text_at}
use Rattle.eql_conductor.specs.PartRounds.{IsAtRest, AreAtRest}
use Rattle.eql_conductor.specs.Saving.{BookKeepsNumbers, KeepsNumbers}
use Rattle.eql_conductor.specs.Openings.{BeginsAt, CutRunsBegin, CutRunsHaveTexts, IsCutOfTexts, IsSafeCut, OpensFrom, SuitsBench, TellsTexts}
use Rattle.eql_conductor.specs.RunLaws.{RunCutsAreSafe}
use Rattle.eql_conductor.proofs.BoundsOpenings.{fit_is_sized}
use Rattle.eql_conductor.proofs.Opened.{begun_rests, lanes_begin, may_run_at, parts_begin, sized_begin}

-- the low of a lane of a cut
abbrev low_in : Option ℤ → LaneCut → Mark
low_in slack lane = low_of lane.closed slack lane.best

-- ---- lanes that fit
pub fit_low : (slack t : ℤ) (shard : ℕ) (cut : LaneCut) → LaneFits slack t shard cut → IsAtMost (At t) (low_in (Some slack) cut)
fit_low slack t shard cut fits = by_closed cut.closed refl
  where
    by_closed : (c : Bool) → cut.closed ≡ c → IsAtMost (At t) (low_of c (Some slack) cut.best)
    by_closed true e = at_most_end (At t)
    by_closed false e =
        let best = fits.open_best e in
        subst (λ (o : Option ℤ). IsAtMost (At t) (low_of false (Some slack) o)) (sym best.1) (at_most_times t (best.0 -ℤ slack) best.2)

fits_at : (slack t : ℤ) (shard : ℕ) (lanes : List LaneCut) (s : ℕ) (cut : LaneCut) → LanesFit slack t shard lanes → slice_get lanes s ≡ Some cut
    → LaneFits slack t (shard + s) cut
fits_at slack t shard [] s cut fits e = cc
fits_at slack t shard (lane ∷ lanes) zero cut fits e =
    let first : shard ≡ shard + 0 = omega arith in
    subst (λ (n : ℕ). LaneFits slack t n cut) first (subst (LaneFits slack t shard) (same_Some lane cut e) fits.0)
fits_at slack t shard (lane ∷ lanes) (suc s) cut fits e =
    let next : shard + 1 + s ≡ shard + suc s = omega arith in
    subst (λ (n : ℕ). LaneFits slack t n cut) next (fits_at slack t (shard + 1) lanes s cut fits.1 e)

fit_holds : (set : Setting) (slack t : ℤ) (cut : LaneCut) (faults : ℕ) → set.slack ≡ Some slack → LaneFits slack t set.shard cut → Holds set (At t) (beginning_lane cut faults)
fit_holds set slack t cut faults e fits = record {
  ascends = fits.ascending;
  of_shard = All-weaker (IsKeptBy set.shard cut.counts.lines (At t)) (IsOfShard set.shard) (λ item is. is.shard_is) cut.items fits.items;
  none_below = All-weaker (IsKeptBy set.shard cut.counts.lines (At t)) (λ (item : Item). is_below (At t) item ≡ false) (λ item is. is.not_below) cut.items fits.items;
  safe = subst (λ (o : Option ℤ). IsAtMost (At t) (low_of cut.closed o cut.best)) (sym e) (fit_low slack t set.shard cut fits);
}

-- ---- a book that fits
state_numbers : (m shards found : ℕ) (p : Pipe) (s : PipeState) → StateFits m shards found p s → StateStands s → KeepsNumbers found s
state_numbers m shards found (pipe.Head count) (state.Head passed) fits stands = record { ascend = tt; found_to = All-nil (λ (n : Numbered). n.number ≤ found) }
state_numbers m shards found (pipe.Tail count) (state.Tail kept) fits stands = record {
  ascend = stands.0;
  found_to = All-weaker (IsKeptMatch m shards found) (λ (n : Numbered). n.number ≤ found) (λ n is. is.number_to) kept fits.1;
}
state_numbers m shards found (pipe.Head count) (state.Tail kept) fits stands = absurd fits
state_numbers m shards found (pipe.Tail count) (state.Head passed) fits stands = absurd fits

book_numbers : (m shards found : ℕ) (pipes : List Pipe) (states : List PipeState) → AllZip (StateFits m shards found) pipes states → All StateStands states → All (KeepsNumbers found) states
book_numbers m shards found [] [] fits stands = All-nil (KeepsNumbers found)
book_numbers m shards found [] (s ∷ states) fits stands = absurd fits
book_numbers m shards found (p ∷ pipes) [] fits stands = absurd fits
book_numbers m shards found (p ∷ pipes) (s ∷ states) fits stands =
    All-cons (KeepsNumbers found) s states (state_numbers m shards found p s fits.0 (All-head StateStands s states stands))
    (book_numbers m shards found pipes states fits.1 (All-tail StateStands s states stands))

-- ---- a run from a cut that fits
module _ (b : Known) (lane : ℕ → LaneState) (part : ℕ → PartState) (rules : Rules) (run : Run) (shards : ℕ) (kept : Kept) (opens : OpensFrom b lane part rules kept)
    (suits : SuitsBench run shards rules kept b) where
  lane_fits : (s : ℕ) → s < b.lanes → LaneFits run.slack kept.time (b.set s).shard (lane s).cut
  lane_fits s l =
      let is = opens.opens.are_lanes.shard s l in
      let place : 0 + s ≡ (b.set s).shard = omega (arith, is) in
      subst (λ (n : ℕ). LaneFits run.slack kept.time n (lane s).cut) place (fits_at run.slack kept.time 0 kept.lanes s (lane s).cut suits.fits.lanes (opens.cuts s l))

  lane_begins : (s : ℕ) → s < b.lanes → LaneIsAt None (b.set s) (At kept.time) (lane s)
  lane_begins s l =
      subst (LaneIsAt None (b.set s) (At kept.time)) (sym (opens.lanes s l)) (record {
        holds = fit_holds (b.set s) run.slack kept.time (lane s).cut (lane s).faults (suits.slack s l) (lane_fits s l);
        told = tt;
      })

  have_stages : All (HasStageBefore rules.stages) kept.holders
  have_stages =
      All-weaker (IsPending run.stages shards (At kept.time)) (HasStageBefore rules.stages)
      (λ h is. (is.stage_from, subst (λ (m : ℕ). h.stage < m) (sym suits.stages) is.stage_to)) kept.holders suits.fits.holders.all

  cut_rests : AreAtRest rules kept.holders (At kept.time) b
  cut_rests =
      parts_begin b lane part rules opens.opens kept.holders (At kept.time)
      (λ p l. subst (IsAtRest rules kept.holders (At kept.time) p) (sym (opens.parts p l))
      (begun_rests rules kept.holders (At kept.time) p suits.fits.holders.in_order have_stages))

  cut_begins : BeginsAt rules kept.holders (At kept.time) b
  cut_begins = record {
    lanes = lanes_begin b lane part rules opens.opens None (At kept.time) lane_begins;
    sized = sized_begin b lane part rules opens.opens
        (λ s l. subst IsSized (sym (opens.lanes s l)) (fit_is_sized run.slack kept.time (b.set s).shard (lane s).cut (lane s).faults (lane_fits s l)));
    parts = record {
      rules = rules;
      all = kept.holders;
      is = cut_rests;
      full = All-weaker (IsPending run.stages shards (At kept.time)) IsFull (λ h is. is.full) kept.holders suits.fits.holders.all;
    };
    rests = cut_rests;
  }

  cut_numbers : BookKeepsNumbers kept.book
  cut_numbers = book_numbers run.stages shards kept.book.found run.pipes kept.book.pipes suits.fits.book.states suits.stands.book

pub cut_runs_begin : (b : Known) → CutRunsBegin b
cut_runs_begin b lane part rules run shards kept opens suits = record {
  begins = cut_begins b lane part rules run shards kept opens suits;
  numbers = cut_numbers b lane part rules run shards kept opens suits;
  may_run = λ plan book planned e.
      may_run_at plan (At kept.time) b book rules kept.holders (λ f. cc) planned (cut_begins b lane part rules run shards kept opens suits)
      (subst BookKeepsNumbers (sym e) (cut_numbers b lane part rules run shards kept opens suits));
}

-- ---- safe times
all_safe : (slack t : ℤ) (shard : ℕ) (lanes : List LaneCut) → LanesFit slack t shard lanes → IsTrue (is_safe (At t) (map (low_in (Some slack)) lanes))
all_safe slack t shard [] fits = refl
all_safe slack t shard (lane ∷ lanes) fits = true_both _ _ (fit_low slack t shard lane fits.0) (all_safe slack t (shard + 1) lanes fits.1)

-- a cut that fits is safe
pub fit_is_safe : (run : Run) (shards : ℕ) (kept : Kept) → Fits run shards kept → IsSafeCut (Some run.slack) kept
fit_is_safe run shards kept fits = all_safe run.slack kept.time 0 kept.lanes fits.lanes

same_lows : (reads : Reads) (slack : Option ℤ) (mark : Mark) (shard : ℕ) (shards : List ReadTo) → map (low_in slack) (lanes_from reads slack shard mark shards) ≡ lows_from reads slack shard shards
same_lows reads slack mark shard [] = refl
same_lows reads slack mark shard (r ∷ shards) = ap (λ (lows : List Mark). low_in slack (lane_at reads slack shard mark r) ∷ lows) (same_lows reads slack mark (shard + 1) shards)

pub run_cuts_are_safe : RunCutsAreSafe
run_cuts_are_safe run reads texts from all book cut of =
    subst (λ (lanes : List LaneCut). IsTrue (is_safe (At cut.mark) (map (low_in (Some run.slack)) lanes))) (sym of.lanes.lanes_are)
    (subst (λ (lows : List Mark). IsTrue (is_safe (At cut.mark) lows)) (sym (same_lows reads (Some run.slack) (At cut.mark) 0 of.lanes.shards)) of.lanes.safe)

safe_at : (slack : Option ℤ) (mark : Mark) (lanes : List LaneCut) (s : ℕ) (cut : LaneCut) → IsTrue (is_safe mark (map (low_in slack) lanes)) → slice_get lanes s ≡ Some cut
    → IsAtMost mark (low_in slack cut)
safe_at slack mark [] s cut safe e = cc
safe_at slack mark (lane ∷ lanes) zero cut safe e = subst (λ (c : LaneCut). IsAtMost mark (low_in slack c)) (same_Some lane cut e) (both_true _ _ safe).0
safe_at slack mark (lane ∷ lanes) (suc s) cut safe e = safe_at slack mark lanes s cut (both_true _ _ safe).1 e

-- ---- lanes of told texts
-- the place of a shard up to which a cut has its lane
record PlaceAt (reads : Reads) (slack : Option ℤ) (mark : Mark) (shard : ℕ) (cut : LaneCut) (text : Option (List ℕ)) : Type 0 where
  pub place : ReadTo
  pub is_place : IsPlace place
  pub cut_is : cut ≡ lane_at reads slack shard mark place
  pub text_is : text ≡ Some (whole place)

place_at : (reads : Reads) (slack : Option ℤ) (mark : Mark) (shard : ℕ) (shards : List ReadTo) (s : ℕ) (cut : LaneCut) → ArePlaces shards
    → slice_get (lanes_from reads slack shard mark shards) s ≡ Some cut → PlaceAt reads slack mark (shard + s) cut (slice_get (map whole shards) s)
place_at reads slack mark shard [] s cut places e = cc
place_at reads slack mark shard (r ∷ shards) zero cut places e =
    let first : shard ≡ shard + 0 = omega arith in
    record {
      place = r;
      is_place = places.0;
      cut_is = sym (same_Some (lane_at reads slack shard mark r) cut e) ∙ ap (λ (n : ℕ). lane_at reads slack n mark r) first;
      text_is = refl;
    }
place_at reads slack mark shard (r ∷ shards) (suc s) cut places e =
    let next : shard + 1 + s ≡ shard + suc s = omega arith in
    subst (λ (n : ℕ). PlaceAt reads slack mark n cut (slice_get (map whole shards) s)) next (place_at reads slack mark (shard + 1) shards s cut places.1 e)

module _ (set : Setting) (mark : Mark) (place : ReadTo) (cut : LaneCut) (faults : ℕ) (e : cut ≡ lane_at set.reads set.slack set.shard mark place)
    (safe : IsAtMost mark (low_in set.slack cut)) where
  low_there : IsAtMost mark (low_in set.slack (lane_at set.reads set.slack set.shard mark place))
  low_there = subst (λ (c : LaneCut). IsAtMost mark (low_in set.slack c)) e safe

  text_lane : IsPlace place → LaneIs set (whole place) mark (beginning_lane cut faults)
  text_lane is = subst (λ (c : LaneCut). LaneIs set (whole place) mark (beginning_lane c faults)) (sym e) (cuts_begin set mark place faults is low_there)

  text_holds : IsReading set.reads → Holds set mark (beginning_lane cut faults)
  text_holds reading =
      let held = held_back_fits set.reads set.slack set.shard place.first mark reading in
      let items : List Item = held_back set.reads set.slack set.shard place.first mark in
      subst (λ (c : LaneCut). Holds set mark (beginning_lane c faults)) (sym e) (record {
        ascends = held.ascending;
        of_shard = All-weaker (IsHeldBack set.shard place.first mark) (IsOfShard set.shard) (λ item is. is.accepted.shard_is) items held.all;
        none_below = All-weaker (IsHeldBack set.shard place.first mark) (λ (item : Item). is_below mark item ≡ false) (λ item is. is.not_below) items held.all;
        safe = low_there;
      })

module _ (b : Known) (lane : ℕ → LaneState) (part : ℕ → PartState) (rules : Rules) (run : Run) (reads : Reads) (texts : List (List ℕ)) (kept : Kept)
    (opens : OpensFrom b lane part rules kept) (is : IsCutOfTexts run reads texts kept) (safe : IsSafeCut (Some run.slack) kept) (tells : TellsTexts reads (Some run.slack) texts b) where
  abbrev mark : Mark
  mark = At kept.time

  lane_at_place : (s : ℕ) → s < b.lanes → PlaceAt reads (Some run.slack) mark (0 + s) (lane s).cut (slice_get (map whole is.shards) s)
  lane_at_place s l =
      place_at reads (Some run.slack) mark 0 is.shards s (lane s).cut is.are_places
      (ap (λ (k : Kept). slice_get k.lanes s) (sym is.kept_is) ∙ opens.cuts s l)

  lane_told : (s : ℕ) → s < b.lanes → LaneIsAt (text_at (Some texts) s) (b.set s) mark (lane s)
  lane_told s l =
      let set : Setting = b.set s in
      let at = lane_at_place s l in
      let shard = opens.opens.are_lanes.shard s l in
      let here : 0 + s ≡ set.shard = omega (arith, shard) in
      let cut_is : (lane s).cut ≡ lane_at set.reads set.slack set.shard mark at.place =
      at.cut_is ∙ (λ i. lane_at (sym (tells.read.reads_are s l) i) (sym (tells.read.slack_is s l) i) (here i) mark at.place) in
      let low : IsAtMost mark (low_in set.slack (lane s).cut) =
      subst (λ (o : Option ℤ). IsAtMost mark (low_in o (lane s).cut)) (sym (tells.read.slack_is s l)) (safe_at (Some run.slack) mark kept.lanes s (lane s).cut safe (opens.cuts s l)) in
      let text : text_at (Some texts) s ≡ Some (whole at.place) = ap (λ (ts : List (List ℕ)). slice_get ts s) (sym is.texts_are) ∙ at.text_is in
      subst (LaneIsAt (text_at (Some texts) s) set mark) (sym (opens.lanes s l)) (record {
        holds = text_holds set mark at.place (lane s).cut (lane s).faults cut_is low (opens.opens.are_lanes.reading s l);
        told = subst (λ (o : Option (List ℕ)). IfSome o (IsOfText set mark (beginning_lane (lane s).cut (lane s).faults))) (sym text) (record {
          text_is = tells.have s l ∙ text;
          is = text_lane set mark at.place (lane s).cut (lane s).faults cut_is low at.is_place;
        });
      })

pub cut_runs_have_texts : (b : Known) → CutRunsHaveTexts b
cut_runs_have_texts b lane part rules run reads texts kept opens is safe tells = record {
  read = tells.read;
  lanes = lanes_begin b lane part rules opens.opens (Some texts) (At kept.time) (lane_told b lane part rules run reads texts kept opens is safe tells);
}

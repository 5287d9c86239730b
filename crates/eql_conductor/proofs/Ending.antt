-- How a run goes on from round to round, and how it ends.
use Rattle.std.proofs.Common.{◌≡◌, ◌≢◌, inl, ◌≤◌, ◌<◌, ◌+◌, ◌*◌, ◌^◌, ℕ, suc, ℤ, length, map, Bool, true, false, List, [], ◌∷◌, ◌++◌, Option, None, Some, refl, sym, ap, ◌∙◌, subst, arith, All}
use Rattle.std.specs.Prelude.{IfErr, IfSome, OnErr, OnOk, Result, Ok, Err}
use Rattle.std.specs.Option.{option_to_list}
use Rattle.std.proofs.lemmas.List.{append-nil, map-append}
use Rattle.std.proofs.lemmas.List.Elements.{All-append, All-cons, All-nil, All-weaker}
use Rattle.eql_values.specs.declared.item.Item.{Item}
use Rattle.eql_values.specs.declared.found.Match.{Match}
use Rattle.eql_values.specs.declared.found.Holder.{Holder}
use Rattle.eql_values.specs.declared.order.Mark.{Mark}
use Rattle.eql_values.specs.declared.order.Mark.TheVariants.{At, End}
use Rattle.eql_values.specs.Accepted.{Reads}
use Rattle.eql_values.specs.Marks.{low_of}
use Rattle.eql_laws.specs.Belows.{between}
use Rattle.eql_laws.specs.Lateness.{IsAtMost}
use Rattle.eql_laws.proofs.MarkLemmas.{at_most_end, at_most_self, at_most_trans}
use Rattle.eql_lane.specs.Lanes.{LaneState, Setting, low}
use Rattle.eql_outside.specs.Moments.{History}
use Rattle.eql_outside.specs.Written.{WroteAll, WroteFront}
use Rattle.eql_outside.proofs.WrittenLemmas.{writes_on}
use Rattle.eql_parts.specs.PartSteps.{Rules}
use Rattle.eql_book.specs.Books.{BookState, FitsPipes, book_after, held_back}
use Rattle.eql_book.specs.Laws.{BookIsKept, EndIsWhole}
use Rattle.eql_book.specs.Listing.{listing}
use Rattle.eql_cut.specs.declared.cut.Cut.{Cut}
use Rattle.eql_cut.specs.declared.cut.CutHead.{CutHead}
use Rattle.eql_ckdisk.specs.Putting.{Stands, last_cut}
use Rattle.eql_conductor.specs.declared.plan.Keep.{Keep}
use Rattle.eql_conductor.specs.declared.plan.RunPlan.{RunPlan}
use Rattle.eql_conductor.specs.declared.stop.Stop.{Stop}
use Rattle.eql_conductor.specs.declared.stop.Stop.TheVariants as stop
use Rattle.eql_conductor.specs.Benches.{Known, StaysSame}
use Rattle.eql_conductor.specs.Bounds.{AreSized, RoundsSpend}
use Rattle.eql_conductor.specs.Going.{LanesGo, RunResult}
use Rattle.eql_conductor.specs.LaneRounds.{IsSafe, LanesAreAt}
use Rattle.eql_conductor.specs.Outputs.{Output, KeepsFor}
use Rattle.eql_conductor.specs.PartRounds.{AreAtRest, pending_after}
use Rattle.eql_conductor.specs.Rounds.{BenchIsOfTexts, CountsAreInRange, GoesTo, RoundRests, RoundStops, StopsOut, found_by}
use Rattle.eql_conductor.specs.RoundNotes.{NotesRoundFront, NotesRound}
use Rattle.eql_conductor.specs.RunNotes.{NotesCut, Place, PlaysRound, PlaysRoundsFront, PlaysRounds, NotesSaveFront, NotesSave, cut_after, place_behind, place, start}
use Rattle.eql_conductor.specs.RunBounds.{RunIsBounded}
use Rattle.eql_conductor.specs.Records.{ListsTold, Ran}
use Rattle.eql_conductor.specs.Running.{CountsRound, CutGoes, CutStops, IsAtMark, IsTaken, KeepPuts, KeepStands, KeepStops, KeepsOne, PassesRound, RanAll, RanTo, StepStops, time_of}
use Rattle.eql_conductor.specs.Runs.{cut_time, IsRunCut, KeepGoes, KeptLinesOf, MayKeepIf, MayRun, RanWhole, RunIs, RunStops, RunStopsAt, WroteLinesOf, lines_before_end, lines_by, whole_lines}
use Rattle.eql_conductor.specs.Saving.{IsSavedAt, SavesNoCut, SavesCut}
use Rattle.eql_conductor.proofs.Bounded.{run_bounded}
use Rattle.eql_conductor.proofs.BoundsOpenings.{sized_on}
use Rattle.eql_conductor.proofs.BoundsSpent.{rounds_stay}
use Rattle.eql_conductor.proofs.Broken.{wrote_none}
use Rattle.eql_conductor.proofs.DueCuts.{not_due, put_one}
use Rattle.eql_conductor.proofs.NotedRuns.{broken_in_rounds, cut_self, keep_broke, lanes_in_rounds, round_broke, round_played, rounds_broke, rounds_end, rounds_more, rounds_none}
use Rattle.eql_conductor.proofs.Causes.{err_is, out_not_full}
use Rattle.eql_conductor.proofs.Cutting.{cuts_on, keep_puts_more, keep_puts_none, puts_none, run_put_each, run_puts_on, taken_is}
use Rattle.eql_conductor.proofs.Goings.{goes_join, goes_rests, goes_self, goes_stays, texts_go}
use Rattle.eql_conductor.proofs.Joins.{between_joins, between_self, book_joins, found_joins, lines_by_joins}
use Rattle.eql_conductor.proofs.Numbers.{book_none}
use Rattle.eql_conductor.proofs.Onward.{lanes_go_on, lanes_go_self}
use Rattle.eql_conductor.proofs.Recorded.{run_listed}
use Rattle.eql_conductor.proofs.Resting.{was_lane}
use Rattle.eql_conductor.proofs.Through.{WroteMore, all_stay, both_wrote, front_more, goes_more, keeps_for_on, kept_on, kept_still, lines_at, no_cuts, rise_on, taken_rise, taken_wrote}

-- ---- lanes
pub safe_at : (mark : Mark) (b c : Known) → LanesAreAt None mark b → LanesGo b c → IsSafe mark c
safe_at mark b c at go = record {
  each = λ s l. record {
    low_is = λ y here.
        let was = was_lane b c s go.same l in
        let m = go.each s was y here in
        subst (λ (set : Setting). IsAtMost mark (low set y)) (sym (go.same.set s was))
        (at_most_trans mark (low (b.set s) m.0) (low (b.set s) y) (at.each s was m.0 m.1).holds.safe m.2.low_up);
  };
}

-- only a closed lane has the end as its low
closed_low : (closed : Bool) (slack best : Option ℤ) → IsAtMost End (low_of closed slack best) → closed ≡ true
closed_low true slack best h = refl
closed_low false (Some slack) (Some best) h = cc
closed_low false (Some slack) None h = cc
closed_low false None best h = cc

pub all_closed : (b : Known) → LanesAreAt None End b → (s : ℕ) → s < b.lanes → (x : LaneState) → b.lane s x → x.cut.closed ≡ true
all_closed b at s l x here = closed_low x.cut.closed (b.set s).slack x.cut.best (at.each s l x here).holds.safe

-- ---- lines
module _ (mark : Mark) (book : BookState) (part rest : List Match) (before mid now : Option (List ℕ)) where
  pub front_longer : WroteFront (lines_before_end book part) before now → WroteFront (lines_by mark book (part ++ rest)) before now
  front_longer h =
      subst (λ (bytes : List ℕ). WroteFront bytes before now) (sym (lines_by_joins book part rest mark))
      (writes_on.longer (lines_before_end book part) (lines_by mark (book_after book part) rest) before now h)

  pub front_goes : WroteAll (lines_before_end book part) before mid → WroteFront (lines_by mark (book_after book part) rest) mid now → WroteFront (lines_by mark book (part ++ rest)) before now
  front_goes h k =
      subst (λ (bytes : List ℕ). WroteFront bytes before now) (sym (lines_by_joins book part rest mark))
      (writes_on.front (lines_before_end book part) (lines_by mark (book_after book part) rest) before mid now h k)

-- the matches from a mark to the end, of which those up to another were found
module _ (reads : Reads) (slack : Option ℤ) (texts : List (List ℕ)) (rules : Rules) (all : List Holder) (from to last : Mark) (items : List Item)
    (later : IsAtMost from to) (on : IsAtMost to last) (told : items ≡ between reads slack texts from to) where
  pub found_on : found_by rules all items ++ found_by rules (pending_after rules all items) (between reads slack texts to last) ≡ found_by rules all (between reads slack texts from last)
  found_on =
      sym (found_joins rules all items (between reads slack texts to last))
      ∙ ap (λ (first : List Item). found_by rules all (first ++ between reads slack texts to last)) told
      ∙ ap (found_by rules all) (sym (between_joins reads slack texts from to last later on))

-- ---- a round that stopped
module _ (last : Mark) (b c : Known) (book then : BookState) (before now : Option (List ℕ))
    (at : IsAtMark last b book) (go : LanesGo b c) (fits : FitsPipes book.pipes book.kept) (h : RoundStops last b book then before now) where
  stopped_round : (reads : Reads) (slack : Option ℤ) (texts : List (List ℕ)) (rules : Rules) (all : List Holder) → BenchIsOfTexts reads slack texts last b → AreAtRest rules all last b
      → RunStopsAt rules all reads slack texts last last book then before now
  stopped_round reads slack texts rules all of was =
      let first : List Item = between reads slack texts last h.mark in
      let part : List Match = found_by rules all first in
      let rest : List Match = found_by rules (pending_after rules all first) (between reads slack texts h.mark End) in record {
        front = subst (λ (found : List Match). WroteFront (lines_by last book found) before now)
            (found_on reads slack texts rules all last h.mark End first h.later (at_most_end h.mark) refl)
            (front_longer last book part rest before now now (h.breaks.told reads slack texts rules all of was));
        given = λ e. h.breaks.whole e ∙ sym (ap (λ (items : List Item). book_after book (found_by rules all items)) (between_self reads slack texts last) ∙ book_none book fits);
      }

  pub round_run_stops : RunStops last b c book then before now []
  round_run_stops = record {
    mark = last;
    later = at_most_self last;
    safe = safe_at last b c at.lanes go;
    after_cuts = All-nil (λ (cut : Cut). IsAtMost (At cut.mark) last);
    told = stopped_round;
  }

-- ---- a round that counted, and a cut that stopped
module _ (last mark : Mark) (a b c : Known) (book then : BookState) (before now : Option (List ℕ)) (cuts : List Cut)
    (at : LanesAreAt None last a) (go : LanesGo b c) (goes : GoesTo last mark a b book then before now) (after_cuts : All (λ (cut : Cut). IsAtMost (At cut.mark) mark) cuts) where
  stopped_cut : (reads : Reads) (slack : Option ℤ) (texts : List (List ℕ)) (rules : Rules) (all : List Holder) → BenchIsOfTexts reads slack texts last a → AreAtRest rules all last a
      → RunStopsAt rules all reads slack texts last mark book then before now
  stopped_cut reads slack texts rules all of was =
      let played = goes.played rules all was in
      let told = goes.told reads slack texts of in
      let part : List Match = found_by rules all goes.items in
      let rest : List Match = found_by rules (pending_after rules all goes.items) (between reads slack texts mark End) in record {
        front = subst (λ (found : List Match). WroteFront (lines_by mark book found) before now)
            (found_on reads slack texts rules all last mark End goes.items goes.later (at_most_end mark) told)
            (front_goes mark book part rest before now now played.gave.wrote (wrote_none (lines_by mark (book_after book part) rest) now));
        given = λ e. played.gave.book_is ∙ ap (λ (items : List Item). book_after book (found_by rules all items)) told;
      }

  pub cut_run_stops : RunStops last a c book then before now cuts
  cut_run_stops = record {
    mark = mark;
    later = goes.later;
    safe = safe_at mark b c (goes.lanes None at) go;
    after_cuts = after_cuts;
    told = stopped_cut;
  }

-- ---- a run that was stopped, after rounds
module _ (from later : Mark) (a b c : Known) (book mid then : BookState) (before between_them now : Option (List ℕ)) (cuts more : List Cut)
    (same : StaysSame a b) (goes : GoesTo from later a b book mid before between_them) (at_most : All (λ (cut : Cut). IsAtMost (At cut.mark) later) cuts)
    (h : RunStops later b c mid then between_them now more) where
  stopped_on : (reads : Reads) (slack : Option ℤ) (texts : List (List ℕ)) (rules : Rules) (all : List Holder) → BenchIsOfTexts reads slack texts from a → AreAtRest rules all from a
      → RunStopsAt rules all reads slack texts from h.mark book then before now
  stopped_on reads slack texts rules all of was =
      let played = goes.played rules all was in
      let told = goes.told reads slack texts of in
      let pending : List Holder = pending_after rules all goes.items in
      let part : List Match = found_by rules all goes.items in
      let k = h.told reads slack texts rules pending (texts_go reads slack texts from later a b same goes.lanes of) played.parts in
      let rest : List Match = found_by rules pending (between reads slack texts later End) in
      let given : List Match = found_by rules pending (between reads slack texts later h.mark) in record {
        front = subst (λ (found : List Match). WroteFront (lines_by h.mark book found) before now)
            (found_on reads slack texts rules all from later End goes.items goes.later (at_most_end later) told)
            (front_goes h.mark book part rest before between_them now played.gave.wrote
            (subst (λ (m : BookState). WroteFront (lines_by h.mark m rest) between_them now) played.gave.book_is k.front));
        given = λ e. k.given e ∙ ap (λ (m : BookState). book_after m given) played.gave.book_is ∙ sym (book_joins book part given)
            ∙ ap (book_after book) (found_on reads slack texts rules all from later h.mark goes.items goes.later h.later told);
      }

  pub run_stops_on : RunStops from a c book then before now (cuts ++ more)
  run_stops_on = record {
    mark = h.mark;
    later = at_most_trans from later h.mark goes.later h.later;
    safe = h.safe;
    after_cuts = All-append (λ (cut : Cut). IsAtMost (At cut.mark) h.mark) cuts more
        (All-weaker (λ (cut : Cut). IsAtMost (At cut.mark) later) (λ (cut : Cut). IsAtMost (At cut.mark) h.mark) (λ cut le. at_most_trans (At cut.mark) later h.mark le h.later) cuts at_most)
        h.after_cuts;
    told = stopped_on;
  }

  -- the lines that its cuts count were written
  stopped_more : (reads : Reads) (slack : Option ℤ) (texts : List (List ℕ)) (rules : Rules) (all : List Holder) → BenchIsOfTexts reads slack texts from a → AreAtRest rules all from a → WroteMore between_them now
  stopped_more reads slack texts rules all of was =
      let pending : List Holder = pending_after rules all goes.items in
      let k = h.told reads slack texts rules pending (texts_go reads slack texts from later a b same goes.lanes of) (goes.played rules all was).parts in
      front_more (lines_by h.mark mid (found_by rules pending (between reads slack texts later End))) between_them now k.front

  pub wrote_on : (head : CutHead) → All (WroteLinesOf from a book before between_them) cuts → All (IsRunCut head later b mid) more → All (WroteLinesOf later b mid between_them now) more
      → All (WroteLinesOf from a book before now) (cuts ++ more)
  wrote_on head wrote are also =
      both_wrote from later a b book mid before between_them now same goes head cuts more (all_stay from a book before between_them now stopped_more cuts wrote) are also

-- ---- a run that came to the end
module _ (from : Mark) (a b : Known) (book mid then : BookState) (before between_them now : Option (List ℕ)) (cuts : List Cut)
    (at : IsAtMark from a book) (goes : GoesTo from End a b book mid before between_them) where
  module _ (still : then ≡ mid) (whole : mid.whole ≡ true) (wrote : WroteAll (listing mid.places (held_back mid)) between_them now) where
    wrote_to_end : (reads : Reads) (slack : Option ℤ) (texts : List (List ℕ)) (rules : Rules) (all : List Holder) → BenchIsOfTexts reads slack texts from a → AreAtRest rules all from a
        → WroteAll (whole_lines book (found_by rules all (between reads slack texts from End))) before now
    wrote_to_end reads slack texts rules all of was =
        let played = goes.played rules all was in
        let found : List Match = found_by rules all goes.items in
        subst (λ (items : List Item). WroteAll (whole_lines book (found_by rules all items)) before now) (goes.told reads slack texts of)
        (writes_on.all (lines_before_end book found) (listing book.places (held_back (book_after book found))) before between_them now played.gave.wrote
        (subst (λ (m : BookState). WroteAll (listing m.places (held_back m)) between_them now) played.gave.book_is wrote))

    pub ran_whole : RanWhole from a b book then before now
    ran_whole = record { closed = all_closed b (goes.lanes None at.lanes); lanes = goes.lanes; whole = ap (λ (m : BookState). m.whole) still ∙ whole; told = wrote_to_end }

  -- or stopped there, as it ended the book
  module _ (spoilt : then.whole ≡ false) (wrote : WroteFront (listing mid.places (held_back mid)) between_them now)
      (at_most : All (λ (cut : Cut). IsAtMost (At cut.mark) End) cuts) (go : LanesGo b b) where
    stopped_end : (reads : Reads) (slack : Option ℤ) (texts : List (List ℕ)) (rules : Rules) (all : List Holder) → BenchIsOfTexts reads slack texts from a → AreAtRest rules all from a
        → RunStopsAt rules all reads slack texts from End book then before now
    stopped_end reads slack texts rules all of was =
        let played = goes.played rules all was in
        let found : List Match = found_by rules all goes.items in record {
          front = subst (λ (items : List Item). WroteFront (whole_lines book (found_by rules all items)) before now) (goes.told reads slack texts of)
              (writes_on.front (lines_before_end book found) (listing book.places (held_back (book_after book found))) before between_them now played.gave.wrote
              (subst (λ (m : BookState). WroteFront (listing m.places (held_back m)) between_them now) played.gave.book_is wrote));
          given = λ e. absurd (let k = sym spoilt ∙ e in cc);
        }

    pub end_run_stops : RunStops from a b book then before now cuts
    end_run_stops = record { mark = End; later = goes.later; safe = safe_at End b b (goes.lanes None at.lanes) go; after_cuts = at_most; told = stopped_end }

-- ---- by how it was stopped
was_saved : (head : CutHead) (time : ℤ) (b : Known) (book : BookState) (cut : Cut) → IsSavedAt head time b book cut → IsTaken head (At time) b book cut
was_saved head time b book cut is = record { mark_is = ap At (sym is.mark_is); saved = subst (λ (t : ℤ). IsSavedAt head t b book cut) (sym is.mark_is) is }

-- in the words of the listing
lists_told : BookIsKept → EndIsWhole → (plan : RunPlan) (a c : Known) (book then : BookState) (before now : Option (List ℕ)) (cuts : List Cut) (answer : RunResult)
    → RunIs plan.mark a c book then before now cuts answer → ListsTold plan a c book then before now cuts answer
lists_told kept whole plan a c book then before now cuts answer is = λ rules reads slack texts all began.
    run_listed kept whole rules reads slack texts plan.mark all a c book then before now began cuts answer is

module _ {D : Type 0} (history : D → Option History) (count : D → ℕ) where
  -- ---- cuts
  -- where cuts are kept, the last one stands
  abbrev StandsStill : Option (Keep D) → Type 0
  StandsStill None = Unit {0}
  StandsStill (Some k) = Stands (last_cut k.state) (history k.disk)

  kept_stands : (plan : RunPlan) (b : Known) (keep : Option (Keep D)) → KeepStands history count plan b keep → StandsStill keep
  kept_stands plan b None h = tt
  kept_stands plan b (Some k) h = h.1

  put_stands : (cuts : List Cut) (keep kept : Option (Keep D)) → KeepPuts history count cuts keep kept → StandsStill kept
  put_stands cuts None None h = tt
  put_stands cuts None (Some l) h = absurd h
  put_stands cuts (Some k) None h = tt
  put_stands cuts (Some k) (Some l) h = h.stands

  keeps_none : (head : CutHead) (from : Mark) (a : Known) (book : BookState) (by : Stop) (keep : Option (Keep D)) → by ≢ stop.Generation
      → StandsStill keep → KeepGoes history count head from a book [] (Err by) keep keep
  keeps_none head from a book by None other stands = (refl, λ e. other (err_is by stop.Generation e))
  keeps_none head from a book by (Some k) other stands = record {
    are_cuts = All-nil (IsRunCut head from a book);
    puts = puts_none (last_cut k.state) (history k.disk);
    state_is = tt;
    holds = tt;
    generation_from = omega arith;
    generation_to = omega arith;
    full = λ e. absurd (other (err_is by stop.Generation e));
    stands = λ disk memory. stands;
  }

  keeps_stopped : (head : CutHead) (from : Mark) (a : Known) (book : BookState) (by : Stop) (cuts : List Cut) (keep kept : Option (Keep D)) → All (IsRunCut head from a book) cuts
      → KeepStops history count by cuts keep kept → KeepGoes history count head from a book cuts (Err by) keep kept
  keeps_stopped head from a book by cuts None kept are h = absurd h
  keeps_stopped head from a book by cuts (Some k) None are h = absurd h
  keeps_stopped head from a book by cuts (Some k) (Some l) are h = record {
    are_cuts = are;
    puts = h.puts;
    state_is = tt;
    holds = tt;
    generation_from = let e = ap (λ last. last.generation) h.state_is in omega (arith, e);
    generation_to = let e = ap (λ last. last.generation) h.state_is in omega (arith, e);
    full = λ e. h.full (err_is by stop.Generation e);
    stands = λ disk memory. h.stands (λ e. disk (ap Err e)) (λ e. memory (ap Err e));
  }

  keeps_done : (head : CutHead) (from : Mark) (a : Known) (book : BookState) (cuts : List Cut) (done : Unit {0}) (keep kept : Option (Keep D)) → All (IsRunCut head from a book) cuts
      → KeepPuts history count cuts keep kept → KeepGoes history count head from a book cuts (Ok done) keep kept
  keeps_done head from a book cuts done None None are h = (h, λ e. absurd (let k = e in cc))
  keeps_done head from a book cuts done None (Some l) are h = absurd h
  keeps_done head from a book cuts done (Some k) None are h = absurd h
  keeps_done head from a book cuts done (Some k) (Some l) are h = run_put_each k.state l.state l.state (history k.disk) (history l.disk) (history l.disk) cuts h head from a book done are

  keeps_on : (head : CutHead) (from later : Mark) (a b : Known) (book after : BookState) (cuts more : List Cut) (by : Stop) (keep mid kept : Option (Keep D))
      → All (IsRunCut head from a book) cuts → All (IsRunCut head from a book) more → KeepPuts history count cuts keep mid
      → KeepGoes history count head later b after more (Err by) mid kept → KeepGoes history count head from a book (cuts ++ more) (Err by) keep kept
  keeps_on head from later a b book after cuts more by None None None are also h k = ((λ i. h i ++ k.0 i), k.1)
  keeps_on head from later a b book after cuts more by None None (Some l) are also h k = absurd k
  keeps_on head from later a b book after cuts more by None (Some m) kept are also h k = absurd h
  keeps_on head from later a b book after cuts more by (Some o) None kept are also h k = absurd h
  keeps_on head from later a b book after cuts more by (Some o) (Some m) None are also h k = absurd k
  keeps_on head from later a b book after cuts more by (Some o) (Some m) (Some l) are also h k =
      run_puts_on o.state m.state l.state (history o.disk) (history m.disk) (history l.disk) cuts h head from later a b book after more by are also k

  more_are : (head : CutHead) (later : Mark) (b : Known) (after : BookState) (more : List Cut) (answer : RunResult) (mid kept : Option (Keep D))
      → KeepGoes history count head later b after more answer mid kept → All (IsRunCut head later b after) more
  more_are head later b after more answer None None k = subst (All (IsRunCut head later b after)) (sym k.0) (All-nil (IsRunCut head later b after))
  more_are head later b after more answer None (Some l) k = absurd k
  more_are head later b after more answer (Some m) None k = absurd k
  more_are head later b after more answer (Some m) (Some l) k = k.are_cuts

  -- ---- a cut that was put, or wasn't
  pub saved_goes : {X : Type 0} (r : Result X Stop) (head : CutHead) (time : ℤ) (b c : Known) (book : BookState) (output output' : Output) (k l : Keep D)
      → ((texts : Option (List (List ℕ))) → LanesAreAt texts (At time) b → OnOk r (LanesAreAt texts (At time) c))
      → ((rules : Rules) (all : List Holder) → AreAtRest rules all (At time) b → OnOk r (AreAtRest rules all (At time) c))
      → OnOk r (SavesCut head time b book output output' k.state l.state (history k.disk) (history l.disk)) → OnOk r (NotesSave b c)
      → OnOk r (CutGoes history count head (At time) (Some time) b c book output output' (Some k) (Some l))
  saved_goes (Err by) head time b c book output output' k l lanes parts h noted = tt
  saved_goes (Ok x) head time b c book output output' k l lanes parts h noted = record {
    lanes = lanes;
    parts = parts;
    cut = Some h.cut;
    is = was_saved head time b book h.cut h.is_saved;
    lines_kept = h.lines_kept;
    keeps = record { puts = h.puts; state_is = h.state_is; holds = h.holds; stands = h.stands };
    time_is = ap Some h.is_saved.mark_is;
    noted = record { lanes = noted.lanes; parts = noted.parts };
  }

  pub saved_stops : {X : Type 0} (r : Result X Stop) (head : CutHead) (time : ℤ) (b c : Known) (book : BookState) (output output' : Output) (k l : Keep D)
      → OnErr r (SavesNoCut head time b book output output' k.state l.state (history k.disk) (history l.disk))
      → (r ≡ Err stop.Generation → (last_cut l.state).generation ≡ 2 ^ 63)
      → IfErr r (λ (by : Stop). (by ≢ stop.Disk) → (by ≢ stop.Memory) → Stands (last_cut l.state) (history l.disk)) → OnErr r (NotesSaveFront b c)
      → IfErr r (CutStops history count head (At time) (Some time) b c book output output' (Some k) (Some l))
  saved_stops (Ok x) head time b c book output output' k l h full stands noted = tt
  saved_stops (Err by) head time b c book output output' k l h full stands noted = record {
    cuts = h.cuts;
    are = All-weaker (IsSavedAt head time b book) (IsTaken head (At time) b book) (was_saved head time b book) h.cuts h.are_saved;
    one = h.one;
    lines_kept = h.lines_kept;
    keeps = record { puts = h.puts; state_is = h.state_is; full = λ e. full (ap Err e); stands = stands };
    time = time;
    time_is = refl;
    noted = noted;
  }

  -- none was due
  pub none_goes : (head : CutHead) (mark : Mark) (due : Option ℤ) (b : Known) (book : BookState) (output : Output) (keep : Option (Keep D)) → None ≡ due → CutGoes history count head mark due b b book output output keep keep
  none_goes head mark due b book output keep e = record {
    lanes = λ texts at. at;
    parts = λ rules all rest. rest;
    cut = None;
    is = tt;
    lines_kept = refl;
    keeps = refl;
    time_is = e;
    noted = subst (λ (t : Option ℤ). NotesCut t b b) e (cut_self b);
  }

  -- ---- one step
  module _ (plan : RunPlan) (at : Place) (b c : Known) (book then : BookState) (before now : Output) (keep : Option (Keep D)) (go : LanesGo b c)
      (kept_is : now.kept ≡ before.kept) where
    -- a round stopped
    pub round_stopped : (by : Stop) → IsAtMark at.mark b book → FitsPipes book.pipes book.kept → RoundStops at.mark b book then before.written now.written → NotesRoundFront at.mark plan.batch b c
        → by ≢ stop.Generation → KeepStands history count plan b keep → StepStops history count plan at b c book then before now keep keep by
    round_stopped by is fits h broken other stands = record {
      ran = record {
        cuts = [];
        is = round_run_stops at.mark b c book then before.written now.written is go fits h;
        keeps = keeps_none plan.head at.mark b book by keep other (kept_stands plan b keep stands);
        wrote = All-nil (WroteLinesOf at.mark b book before.written now.written);
        rise = tt;
      };
      lines_kept = kept_is;
      noted = round_broke plan.batch plan.every at b c broken;
    }

    -- it didn't count
    pub passed : RoundRests at.mark b c book then before.written now.written → NotesRound at.mark plan.batch b c None → PassesRound history count plan at b c book then before now keep keep
    passed rests noted = record {
      rests = rests;
      kept_is = kept_is;
      keeps = refl;
      noted = round_played plan.batch plan.every at b c None noted c go.same None (sym (not_due plan.every at.counts)) (cut_self c);
    }

  module _ (plan : RunPlan) (at : Place) (mark : Mark) (a b c : Known) (book then : BookState) (before mid now : Output) (keep kept : Option (Keep D))
      (is_at : IsAtMark at.mark a book) (same : StaysSame a b) (went : GoesTo at.mark mark a b book then before.written mid.written) (in_range : CountsAreInRange at.mark a (Some mark))
      (noted : NotesRound at.mark plan.batch a b (Some mark)) (kept_is : mid.kept ≡ before.kept) (wrote_is : now.written ≡ mid.written) (n : ℕ) (next : n ≡ suc at.counts) where
    -- nothing was written for the cut
    goes : GoesTo at.mark mark a b book then before.written now.written
    goes = subst (λ (written : Option (List ℕ)). GoesTo at.mark mark a b book then before.written written) (sym wrote_is) went

    one_is : (cut : Cut) → IsTaken plan.head mark b then cut → IsRunCut plan.head at.mark a book cut
    one_is cut taken = taken_is plan.head at.mark mark a b book then before.written now.written cut same goes in_range taken

    due_is : cut_after plan.every n (Some mark) ≡ cut_after plan.every (suc at.counts) (Some mark)
    due_is = ap (λ (k : ℕ). cut_after plan.every k (Some mark)) next

    -- it counted, and a cut was kept where one was due
    pub counted : CutGoes history count plan.head mark (cut_after plan.every n (Some mark)) b c then mid now keep kept → CountsRound history count plan at mark a c book then before now keep kept
    counted h = record {
      goes = goes_stays at.mark mark a b c book then before.written now.written h.lanes h.parts goes;
      cut = h.cut;
      is = one_of h.cut h.is;
      lines_kept = keeps_for_on (option_to_list h.cut) before mid now kept_is h.lines_kept;
      keeps = h.keeps;
      noted = round_played plan.batch plan.every at a b (Some mark) noted c same (time_of h.cut) (h.time_is ∙ due_is) (subst (λ (t : Option ℤ). NotesCut t b c) (sym h.time_is) h.noted);
    }
      where
        one_of : (cut : Option Cut) → IfSome cut (IsTaken plan.head mark b then) → IfSome cut (λ c. (mark ≡ At c.mark) × IsRunCut plan.head at.mark a book c)
        one_of None h = tt
        one_of (Some cut) h = (h.mark_is, one_is cut h)

    -- it counted, and a cut stopped
    pub cut_stopped : (by : Stop) → LanesGo b c → CutStops history count plan.head mark (cut_after plan.every n (Some mark)) b c then mid now keep kept by
        → StepStops history count plan at a c book then before now keep kept by
    cut_stopped by go h = record {
      ran = record {
        cuts = h.cuts;
        is = cut_run_stops at.mark mark a b c book then before.written now.written h.cuts is_at.lanes go goes
            (All-weaker (IsTaken plan.head mark b then) (λ (cut : Cut). IsAtMost (At cut.mark) mark) (λ cut taken. subst (λ (m : Mark). IsAtMost m mark) taken.mark_is (at_most_self mark)) h.cuts h.are);
        keeps = keeps_stopped plan.head at.mark a book by h.cuts keep kept (All-weaker (IsTaken plan.head mark b then) (IsRunCut plan.head at.mark a book) one_is h.cuts h.are) h.keeps;
        wrote = taken_wrote at.mark mark a b book then before.written now.written goes plan.head h.cuts h.are;
        rise = taken_rise at.mark mark a b book then before.written now.written goes plan.head h.cuts h.are h.one;
      };
      lines_kept = keeps_for_on h.cuts before mid now kept_is h.lines_kept;
      noted = keep_broke plan.batch plan.every at a b (Some mark) noted c same h.time (sym due_is ∙ h.time_is) (map cut_time h.cuts)
          (put_one plan.head mark b then plan.every n h.time h.time_is h.cuts h.are h.one) h.noted;
    }

  -- ---- step by step
  pub ran_none : (plan : RunPlan) (a : Known) (book : BookState) (w : Output) (keep : Option (Keep D)) → FitsPipes book.pipes book.kept → KeepStands history count plan a keep
      → RanTo history count plan (start plan) 0 a a book book w w keep keep
  ran_none plan a book w keep fits stands = let none = rounds_none plan.batch plan.every (start plan) a in record {
    goes = goes_self plan.mark a book w.written fits;
    cuts = [];
    are_cuts = All-nil (IsRunCut plan.head plan.mark a book);
    at_most = All-nil (λ (cut : Cut). IsAtMost (At cut.mark) plan.mark);
    puts = keep_puts_none history count plan a keep stands;
    wrote = All-nil (WroteLinesOf plan.mark a book w.written w.written);
    lines_kept = All-nil (KeptLinesOf plan.mark a book w w.kept);
    kept_is = λ e. refl;
    rise = tt;
    noted = none.0;
    rounds = none.1;
  }

  -- the notes of rounds, with the times of cuts and a number of rounds
  abbrev PlayedTo : RunPlan → Place → (a c : Known) → ℕ → List ℤ → Type 0
  PlayedTo plan to a c n times = (k : PlaysRounds plan.batch plan.every (start plan) to times a c) × (length k.rounds ≡ n)

  abbrev BrokenAt : RunPlan → (a c : Known) → ℕ → List ℤ → Type 0
  BrokenAt plan a c n times = (k : PlaysRoundsFront plan.batch plan.every (start plan) times a c) × (length k.rounds ≡ n)

  module _ (plan : RunPlan) (at : Place) (n : ℕ) (a b c : Known) (book mid then : BookState) (before between_them now : Output) (keep kept_mid kept : Option (Keep D))
      (same : StaysSame a b) (begins : at.mark ≢ End) (h : RanTo history count plan at n a b book mid before between_them keep kept_mid) where
    abbrev times : List ℤ
    times = map cut_time h.cuts

    more_rounds : (time : Option ℤ) (answer : Option Mark) (all : List ℤ) → times ++ option_to_list time ≡ all → PlaysRound plan.batch plan.every at time b c answer
        → PlayedTo plan (place_behind at answer) a c (n + 1) all
    more_rounds time answer all e noted =
        let k = rounds_more plan.batch plan.every (start plan) at times a b same h.noted c time answer begins noted in
        subst (PlayedTo plan (place_behind at answer) a c (n + 1)) e (k.0, k.1 ∙ ap (λ (m : ℕ). m + 1) h.rounds)

    pub ran_rests : PassesRound history count plan at b c mid then between_them now kept_mid kept → RanTo history count plan at (n + 1) a c book then before now keep kept
    ran_rests passed = let k = more_rounds None None times (append-nil times) passed.noted in record {
      goes = goes_rests plan.mark at.mark a b c book mid then before.written between_them.written now.written h.goes passed.rests;
      cuts = h.cuts;
      are_cuts = h.are_cuts;
      at_most = h.at_most;
      puts = subst (KeepPuts history count h.cuts keep) (sym passed.keeps) h.puts;
      wrote = subst (λ (w : Option (List ℕ)). All (WroteLinesOf plan.mark a book before.written w) h.cuts) (sym passed.rests.wrote_is) h.wrote;
      lines_kept = kept_still plan.mark a book before between_them now h.cuts h.kept_is h.lines_kept passed.kept_is;
      kept_is = λ e. passed.kept_is ∙ h.kept_is e;
      rise = h.rise;
      noted = k.0;
      rounds = k.1;
    }

    wrote_still : (mark : Mark) → GoesTo at.mark mark b c mid then between_them.written now.written → All (WroteLinesOf plan.mark a book before.written now.written) h.cuts
    wrote_still mark goes =
        all_stay plan.mark a book before.written between_them.written now.written (λ reads slack texts rules all of was.
        goes_more at.mark mark b c mid then between_them.written now.written rules (pending_after rules all h.goes.items) goes (h.goes.played rules all was).parts) h.cuts h.wrote

    ran_one : (mark : Mark) (goes : GoesTo at.mark mark b c mid then between_them.written now.written) (cut : Option Cut) → KeepsFor (option_to_list cut) between_them now → IfSome cut (λ c. (mark ≡ At c.mark) × IsRunCut plan.head at.mark b mid c)
        → KeepsOne history count cut kept_mid kept → PlaysRound plan.batch plan.every at (time_of cut) b c (Some mark)
        → RanTo history count plan (place_behind at (Some mark)) (n + 1) a c book then before now keep kept
    ran_one mark goes None lines is keeps noted = let k = more_rounds None (Some mark) times (append-nil times) noted in record {
      goes = goes_join plan.mark at.mark mark a b c book mid then before.written between_them.written now.written same h.goes goes;
      cuts = h.cuts;
      are_cuts = h.are_cuts;
      at_most = All-weaker (λ (cut : Cut). IsAtMost (At cut.mark) at.mark) (λ (cut : Cut). IsAtMost (At cut.mark) mark) (λ cut le. at_most_trans (At cut.mark) at.mark mark le goes.later) h.cuts h.at_most;
      puts = subst (KeepPuts history count h.cuts keep) (sym keeps) h.puts;
      wrote = wrote_still mark goes;
      lines_kept = kept_still plan.mark a book before between_them now h.cuts h.kept_is h.lines_kept lines;
      kept_is = λ e. lines ∙ h.kept_is e;
      rise = h.rise;
      noted = k.0;
      rounds = k.1;
    }
    ran_one mark goes (Some cut) lines is keeps noted =
        let k = more_rounds (Some cut.mark) (Some mark) (map cut_time (h.cuts ++ cut ∷ [])) (sym (map-append cut_time h.cuts (cut ∷ []))) noted in
        let went : GoesTo plan.mark mark a c book then before.written now.written = goes_join plan.mark at.mark mark a b c book mid then before.written between_them.written now.written same h.goes goes in
        let wrote : All (WroteLinesOf plan.mark a book before.written now.written) (h.cuts ++ cut ∷ []) =
        All-append (WroteLinesOf plan.mark a book before.written now.written) h.cuts (cut ∷ []) (wrote_still mark goes)
        (All-cons (WroteLinesOf plan.mark a book before.written now.written) cut []
        (lines_at plan.mark mark a c book then before.written now.written went cut is.0) (All-nil (WroteLinesOf plan.mark a book before.written now.written))) in
        record {
          goes = went;
          cuts = h.cuts ++ cut ∷ [];
          are_cuts = All-append (IsRunCut plan.head plan.mark a book) h.cuts (cut ∷ []) h.are_cuts
              (cuts_on plan.head plan.mark at.mark a b book mid before.written between_them.written same h.goes (cut ∷ []) (All-cons (IsRunCut plan.head at.mark b mid) cut [] is.1 (All-nil (IsRunCut plan.head at.mark b mid))));
          at_most = All-append (λ (cut : Cut). IsAtMost (At cut.mark) mark) h.cuts (cut ∷ [])
              (All-weaker (λ (cut : Cut). IsAtMost (At cut.mark) at.mark) (λ (cut : Cut). IsAtMost (At cut.mark) mark) (λ cut le. at_most_trans (At cut.mark) at.mark mark le goes.later) h.cuts h.at_most)
              (All-cons (λ (cut : Cut). IsAtMost (At cut.mark) mark) cut [] (subst (λ (m : Mark). IsAtMost m mark) is.0 (at_most_self mark)) (All-nil (λ (cut : Cut). IsAtMost (At cut.mark) mark)));
          puts = keep_puts_more history count h.cuts cut keep kept_mid kept h.puts keeps;
          wrote = wrote;
          lines_kept = kept_on plan.mark a book before between_them now h.cuts h.kept_is h.lines_kept (cut ∷ []) lines wrote;
          kept_is = λ e. no_cuts h.cuts cut e;
          rise = rise_on plan.mark at.mark h.cuts (cut ∷ []) h.goes.later h.at_most h.rise (subst (IsAtMost at.mark) is.0 goes.later, tt);
          noted = k.0;
          rounds = k.1;
        }

    pub ran_counted : (mark : Mark) (counts : ℕ) → counts ≡ suc at.counts → CountsRound history count plan at mark b c mid then between_them now kept_mid kept
        → RanTo history count plan (place mark counts) (n + 1) a c book then before now keep kept
    ran_counted mark counts e k =
        subst (λ (m : ℕ). RanTo history count plan (place mark m) (n + 1) a c book then before now keep kept) (sym e) (ran_one mark k.goes k.cut k.lines_kept k.is k.keeps k.noted)

    -- a step stopped
    module _ (book_is_kept : BookIsKept) (end_is_whole : EndIsWhole) (spent : RoundsSpend n a b) (sized : AreSized a) (go : LanesGo a b) (on : LanesGo b c) where
      broken_bound : (times : List ℤ) (k : PlaysRoundsFront plan.batch plan.every (start plan) times a c) → length k.rounds ≡ n → RunIsBounded (suc (length k.rounds)) a c
      broken_bound times k e =
          let both = lanes_go_on a b c go on in
          run_bounded (suc (length k.rounds)) n (4 * suc (length k.rounds)) a c (omega (arith, e)) both.same (rounds_stay n a b c same on spent) (sized_on a c both sized) k.parts
          (broken_in_rounds plan.batch plan.every (start plan) times a c k) k.in_rounds

      pub ran_stops : (by : Stop) → StepStops history count plan at b c mid then between_them now kept_mid kept by → Ran history count plan a c book then before now keep kept (Err by)
      ran_stops by k =
          let more : List Cut = k.ran.cuts in
          let all : List ℤ = map cut_time (h.cuts ++ more) in
          let broke = rounds_broke plan.batch plan.every (start plan) at times a b same h.noted c (map cut_time more) (inl begins) k.noted in
          let broken : BrokenAt plan a c n all = subst (BrokenAt plan a c n) (sym (map-append cut_time h.cuts more)) (broke.0, broke.1 ∙ h.rounds) in
          let stopped : RunStops at.mark b c mid then between_them.written now.written more = k.ran.is in
          let more_cuts : All (IsRunCut plan.head at.mark b mid) more = more_are plan.head at.mark b mid more (Err by) kept_mid kept k.ran.keeps in
          let is : RunStops plan.mark a c book then before.written now.written (h.cuts ++ more) =
          run_stops_on plan.mark at.mark a b c book mid then before.written between_them.written now.written h.cuts more same h.goes h.at_most stopped in
          let wrote : All (WroteLinesOf plan.mark a book before.written now.written) (h.cuts ++ more) =
          wrote_on plan.mark at.mark a b c book mid then before.written between_them.written now.written h.cuts more same h.goes h.at_most stopped plan.head h.wrote more_cuts k.ran.wrote in
          record {
            cuts = h.cuts ++ more;
            is = is;
            listed = lists_told book_is_kept end_is_whole plan a c book then before.written now.written (h.cuts ++ more) (Err by) is;
            keeps = keeps_on plan.head plan.mark at.mark a b book mid h.cuts more by keep kept_mid kept h.are_cuts
                (cuts_on plan.head plan.mark at.mark a b book mid before.written between_them.written same h.goes more more_cuts) h.puts k.ran.keeps;
            wrote = wrote;
            lines_kept = kept_on plan.mark a book before between_them now h.cuts h.kept_is h.lines_kept more k.lines_kept wrote;
            rise = rise_on plan.mark at.mark h.cuts more h.goes.later h.at_most h.rise k.ran.rise;
            notes = broken.0;
            bound = broken_bound all broken.0 broken.1;
          }

  -- ---- the end
  module _ (plan : RunPlan) (a b : Known) (book mid then : BookState) (before between_them now : Output) (keep kept : Option (Keep D)) (kept_is : now.kept ≡ between_them.kept)
      (book_is_kept : BookIsKept) (end_is_whole : EndIsWhole) (at : IsAtMark plan.mark a book) (sized : AreSized a) (go : LanesGo a b) (all : RanAll history count plan a b book mid before between_them keep kept) where
    abbrev h : RanTo history count plan (place End all.counts) (all.n + 1) a b book mid before between_them keep kept
    h = all.ran

    pub ran_done : (done : Unit {0}) → then ≡ mid → mid.whole ≡ true → WroteAll (listing mid.places (held_back mid)) between_them.written now.written
        → Ran history count plan a b book then before now keep kept (Ok done)
    ran_done done still whole wrote = let is = ran_whole plan.mark a b book mid then before.written between_them.written now.written h.cuts at h.goes still whole wrote in record {
      cuts = h.cuts;
      is = is;
      listed = lists_told book_is_kept end_is_whole plan a b book then before.written now.written h.cuts (Ok done) is;
      keeps = keeps_done plan.head plan.mark a book h.cuts done keep kept h.are_cuts h.puts;
      wrote = all_stay plan.mark a book before.written between_them.written now.written (λ reads slack texts rules all of was. (listing mid.places (held_back mid), wrote)) h.cuts h.wrote;
      lines_kept = kept_still plan.mark a book before between_them now h.cuts h.kept_is h.lines_kept kept_is;
      rise = h.rise;
      notes = record { to = place End all.counts; ended = refl; played = h.noted };
      bound = run_bounded (length h.noted.rounds) all.n (4 * length h.noted.rounds) a b (let e = h.rounds in omega (arith, e)) go.same all.spent (sized_on a b go sized) h.noted.parts
          (lanes_in_rounds plan.batch plan.every (start plan) (place End all.counts) (map cut_time h.cuts) a b h.noted) h.noted.in_rounds;
    }

    pub ran_end_stops : (by : Stop) → then.whole ≡ false → WroteFront (listing mid.places (held_back mid)) between_them.written now.written → by ≢ stop.Generation
        → Ran history count plan a b book then before now keep kept (Err by)
    ran_end_stops by spoilt wrote other =
        let times : List ℤ = map cut_time (h.cuts ++ []) in
        let ended = rounds_end plan.batch plan.every (start plan) (place End all.counts) (map cut_time h.cuts) a b go.same h.noted in
        let broken : BrokenAt plan a b (all.n + 1) times = subst (BrokenAt plan a b (all.n + 1)) (sym (map-append cut_time h.cuts [])) (ended.0, ended.1 ∙ h.rounds) in
        let k = broken.0 in
        let e = broken.1 in
        let bound : RunIsBounded (suc (length k.rounds)) a b =
        run_bounded (suc (length k.rounds)) all.n (4 * suc (length k.rounds)) a b (omega (arith, e)) go.same all.spent (sized_on a b go sized) k.parts
        (broken_in_rounds plan.batch plan.every (start plan) times a b k) k.in_rounds in
        let is : RunStops plan.mark a b book then before.written now.written (h.cuts ++ []) =
        end_run_stops plan.mark a b book mid then before.written between_them.written now.written (h.cuts ++ []) at h.goes spoilt wrote
        (All-append (λ (cut : Cut). IsAtMost (At cut.mark) End) h.cuts [] h.at_most (All-nil (λ (cut : Cut). IsAtMost (At cut.mark) End))) (lanes_go_self b) in
        let wrote_cuts : All (WroteLinesOf plan.mark a book before.written now.written) (h.cuts ++ []) =
        All-append (WroteLinesOf plan.mark a book before.written now.written) h.cuts []
        (all_stay plan.mark a book before.written between_them.written now.written (λ reads slack texts rules all of was. front_more (listing mid.places (held_back mid)) between_them.written now.written wrote) h.cuts h.wrote)
        (All-nil (WroteLinesOf plan.mark a book before.written now.written)) in
        record {
          cuts = h.cuts ++ [];
          is = is;
          listed = lists_told book_is_kept end_is_whole plan a b book then before.written now.written (h.cuts ++ []) (Err by) is;
          keeps = keeps_on plan.head plan.mark End a b book mid h.cuts [] by keep kept kept h.are_cuts (All-nil (IsRunCut plan.head plan.mark a book)) h.puts
              (keeps_none plan.head End b mid by kept other (put_stands h.cuts keep kept h.puts));
          wrote = wrote_cuts;
          lines_kept = kept_on plan.mark a book before between_them now h.cuts h.kept_is h.lines_kept [] kept_is wrote_cuts;
          rise = rise_on plan.mark End h.cuts [] h.goes.later h.at_most h.rise tt;
          notes = k;
          bound = bound;
        }

    -- as the book was ended or not
    pub book_ended : (r : RunResult) → mid.whole ≡ true → OnOk r (then ≡ mid) → OnOk r (WroteAll (listing mid.places (held_back mid)) between_them.written now.written)
        → OnErr r (then.whole ≡ false) → OnErr r (WroteFront (listing mid.places (held_back mid)) between_them.written now.written) → IfErr r StopsOut
        → Ran history count plan a b book then before now keep kept r
    book_ended (Ok done) whole still wrote spoilt front out = ran_done done still whole wrote
    book_ended (Err by) whole still wrote spoilt front out = ran_end_stops by spoilt front (out_not_full by out)

  -- ---- by its plan
  pub may_start : (plan : RunPlan) (a : Known) (book : BookState) → MayRun plan a book → IsAtMark plan.mark a book
  may_start plan a book may = record { lanes = may.lanes; parts = may.parts; whole = may.whole; numbers = may.numbers }

  pub may_keep : (plan : RunPlan) (a : Known) (keep : Option (Keep D)) → MayKeepIf history count plan a keep → KeepStands history count plan a keep
  may_keep plan a None h = h
  may_keep plan a (Some k) h = (h.1.head, h.1.stands)

  pub may_count : (plan : RunPlan) (a : Known) (keep : Option (Keep D)) → MayKeepIf history count plan a keep → IfSome plan.every (λ n. 1 ≤ n)
  may_count plan a None h = subst (λ (every : Option ℕ). IfSome every (λ n. 1 ≤ n)) (sym h) tt
  may_count plan a (Some k) h = h.1.every

-- What a run wrote, in the words of the listing.
use Rattle.std.proofs.Common.{◌≡◌, ◌^◌, ◌-◌, ◌++◌, ℕ, ℤ, true, List, [], drop, length, Option, Some, Ok, Err, All, refl, sym, ap, ◌∙◌, arith, subst, append_assoc}
use Rattle.std.specs.Prelude.{OnErr, OnOk, slice_get}
use Rattle.std.proofs.lemmas.List.{append-nil, drop_at, take-append-drop}
use Rattle.std.proofs.lemmas.List.Concat.{flat_map-append}
use Rattle.std.proofs.lemmas.Option.{slice_get_within}
use Rattle.eql_outside.specs.declared.disk.Disk as disks
use Rattle.eql_outside.specs.declared.sink.Sink as sinks
use Rattle.eql_outside.specs.declared.source.Source as sources
use Rattle.eql_outside.specs.Written.{WroteAll, WroteFront}
use Rattle.eql_outside.proofs.WrittenLemmas.{writes_on}
use Rattle.eql_values.specs.declared.cut.BookCut.{BookCut}
use Rattle.eql_values.specs.declared.cut.Pipe.{Pipe}
use Rattle.eql_values.specs.declared.found.Holder.{Holder}
use Rattle.eql_values.specs.declared.found.Match.{Match}
use Rattle.eql_values.specs.declared.found.Numbered.{Numbered}
use Rattle.eql_values.specs.declared.order.Mark.{Mark}
use Rattle.eql_values.specs.declared.order.Mark.TheVariants.{Start, At, End}
use Rattle.eql_values.specs.declared.reader.LineReader as readers
use Rattle.eql_values.specs.Accepted.{Reads, below}
use Rattle.eql_values.specs.Matching.{after, matches}
use Rattle.eql_values.specs.Numbering.{early_output, numbered_matches, pipe_output}
use Rattle.eql_laws.specs.Alive.{IsSpan}
use Rattle.eql_laws.specs.Belows.{between}
use Rattle.eql_laws.specs.Books.{book_of}
use Rattle.eql_laws.specs.Counting.{IsShardText}
use Rattle.eql_laws.specs.Resuming.{emitted_from, numbered_after}
use Rattle.eql_laws.proofs.BelowLemmas.{below_grows}
use Rattle.eql_laws.proofs.LeftOut.{after_in_order, dead_matches}
use Rattle.eql_laws.proofs.MarkLemmas.{at_most_end}
use Rattle.eql_laws.proofs.PieceLemmas.{times_between}
use Rattle.eql_laws.proofs.Resumed.{emitted_goes_on}
use Rattle.eql_laws.proofs.Splitting.{matches_split}
use Rattle.eql_lane.specs.Views.{LaneView}
use Rattle.eql_parts.specs.PartSteps.{PartView, Rules as PartRules, alive_by, mark_time}
use Rattle.eql_book.specs.Books.{BookState, countable_matches, held_back, let_out}
use Rattle.eql_book.specs.Listing.{listing, match_line}
use Rattle.eql_book.proofs.Wholes.{end_is_whole}
use Rattle.eql_cut.specs.declared.cut.Cut.{Cut}
use Rattle.eql_conductor.specs.declared.plan.Run.{Run}
use Rattle.eql_conductor.specs.declared.plan.RunPlan.{RunPlan}
use Rattle.eql_conductor.specs.Benches.{Known}
use Rattle.eql_conductor.specs.Going.{RunResult}
use Rattle.eql_conductor.specs.LaneRounds.{IsSafe, text_at}
use Rattle.eql_conductor.specs.Lists.{known_in}
use Rattle.eql_conductor.specs.PartRounds.{AreAtRest}
use Rattle.eql_conductor.specs.Outputs.{output_of}
use Rattle.eql_conductor.specs.Records.{Ran}
use Rattle.eql_conductor.specs.Rounds.{BenchIsOfTexts, found_by}
use Rattle.eql_conductor.specs.RunLaws.{BeginsTold, HavePlayed, StopsListed, found_below}
use Rattle.eql_conductor.specs.Runs.{RunStops, lines_before_end, lines_by}
use Rattle.eql_conductor.proofs.Broken.{wrote_none}
use Rattle.eql_conductor.proofs.Lists.{there_or}
use Rattle.eql_hub_run.specs.Beside.{HubRan, IsSameBench}
use Rattle.eql_search.specs.Answers.{IsClosed, WereRead}
use Rattle.eql_search.specs.Beginnings.{BeginsOn, cuts_of, start_at}
use Rattle.eql_search.specs.Searches.{AreBegunFrom, AreTextsOf, HasNumbers, Rules, rest_of}
use Rattle.eql_search.proofs.Begun.{same_rests, same_texts}
use Rattle.eql_search.proofs.Lanes.{all_closed, as_many, closed_low, closed_on, known_last, low_on, texts_fit, were_read}
use Rattle.eql_search.proofs.Opened.{BeginsSo}
use Rattle.eql_search.proofs.Texts.{named}
use Rattle.eql_search.proofs.Told.{done_then}

-- ---- before the end
module _ (pipes : List Pipe) (found more : List Match) where
  -- of the further matches those that have a number
  abbrev few : List Match
  few = countable_matches (book_of pipes found) more

  abbrev others : List Match
  others = drop (2 ^ 64 - 1 - (book_of pipes found).found) more

  abbrev out : List Numbered
  out = let_out pipes (book_of pipes found) more

  abbrev later : List Numbered
  later = emitted_from pipes (book_of pipes (found ++ few)).pipes (numbered_after (book_of pipes (found ++ few)) others)

  abbrev held : List Numbered
  held = held_back (record { pipes = pipes; places = true; kept = book_of pipes (found ++ more); whole = true })

  all_are : (found ++ few) ++ others ≡ found ++ more
  all_are = append_assoc found few others ∙ ap (λ (l : List Match). found ++ l) (take-append-drop (2 ^ 64 - 1 - (book_of pipes found).found) more)

  -- what pipes let out of further matches before the end begins what they let through of all behind that of the first ones, whatever their number
  begins_rest : (rest : List Numbered) × (drop (book_of pipes found).listed (pipe_output pipes (numbered_matches (found ++ more))) ≡ out ++ rest)
  begins_rest =
      let before : List Numbered = early_output pipes (numbered_matches found) in
      let first : early_output pipes (numbered_matches (found ++ few)) ≡ before ++ out = emitted_goes_on pipes found few in
      let goes : early_output pipes (numbered_matches (found ++ more)) ≡ (before ++ out) ++ later =
      subst (λ (l : List Match). early_output pipes (numbered_matches l) ≡ (before ++ out) ++ later) all_are
      (emitted_goes_on pipes (found ++ few) others ∙ ap (λ (l : List Numbered). l ++ later) first) in
      let all : pipe_output pipes (numbered_matches (found ++ more)) ≡ before ++ (out ++ (later ++ held)) =
      end_is_whole pipes true true (found ++ more)
      ∙ ap (λ (l : List Numbered). l ++ held) goes
      ∙ append_assoc (before ++ out) later held
      ∙ append_assoc before out (later ++ held) in
      (later ++ held, ap (drop (length before)) all ∙ drop_at before (out ++ (later ++ held)) (length before) refl)

before_end : (book : BookState) (found more : List Match) (before now : Option (List ℕ)) → book.kept ≡ book_of book.pipes found
    → WroteFront (lines_before_end book more) before now → WroteFront (listing book.places (drop book.kept.listed (pipe_output book.pipes (numbered_matches (found ++ more))))) before now
before_end book found more before now e wrote =
    let out : List Numbered = let_out book.pipes (book_of book.pipes found) more in
    let all = begins_rest book.pipes found more in
    let so : WroteFront (listing book.places out) before now =
    subst (λ (k : BookCut). WroteFront (listing book.places (let_out book.pipes k more)) before now) e wrote in
    let longer : WroteFront (listing book.places (out ++ all.0)) before now =
    subst (λ (l : List ℕ). WroteFront l before now) (sym (flat_map-append (match_line book.places) out all.0))
    (writes_on.longer (listing book.places out) (listing book.places all.0) before now so) in
    subst (λ (k : BookCut). WroteFront (listing book.places (drop k.listed (pipe_output book.pipes (numbered_matches (found ++ more))))) before now) (sym e)
    (subst (λ (l : List Numbered). WroteFront (listing book.places l) before now) (sym all.1) longer)

-- ---- from a mark on
module _ (rules : PartRules) (reads : Reads) (slack : Option ℤ) (texts : List (List ℕ)) (is : IsSpan rules.span) where
  abbrev pending : Mark → List Holder
  pending mark = after rules.stages rules.span [] (below reads slack texts mark)

  -- the pending sequences that are dead at a mark may be left out
  alive_matches : (from : Mark) → matches rules.stages rules.span (alive_by rules.span (mark_time from) (pending from)) (between reads slack texts from End)
      ≡ matches rules.stages rules.span (pending from) (between reads slack texts from End)
  alive_matches Start = refl
  alive_matches (At t) =
      dead_matches rules.stages rules.span t (pending (At t)) (between reads slack texts (At t) End) is
      (after_in_order rules.stages rules.span [] (below reads slack texts (At t))) (times_between reads slack texts t End)
  alive_matches End = refl

  -- so all matches are those below the mark, followed by those that are found from there on
  found_on : (from : Mark) (all : List Holder) (book : BookState) → HavePlayed rules reads slack texts from all book
      → found_below rules reads slack texts End ≡ found_below rules reads slack texts from ++ found_by rules all (between reads slack texts from End)
  found_on from all book played =
      ap (matches rules.stages rules.span []) (below_grows reads slack texts from End (at_most_end from))
      ∙ matches_split rules.stages rules.span [] (below reads slack texts from) (between reads slack texts from End)
      ∙ ap (λ (more : List Match). found_below rules reads slack texts from ++ more)
      (sym (ap (λ (h : List Holder). matches rules.stages rules.span h (between reads slack texts from End)) played.pending ∙ alive_matches from))

-- who wrote all of a text wrote a front of it
front_of_all : (bytes : List ℕ) (before now : Option (List ℕ)) → WroteAll bytes before now → WroteFront bytes before now
front_of_all bytes before now wrote =
    subst (λ (l : List ℕ). WroteFront l before now) (append-nil bytes) (writes_on.front bytes [] before now now wrote (wrote_none [] now))

-- ---- a run
module _ {S L K D : Type 0} (source : sources.Ghosts S) (reader : readers.Ghosts L) (output : sinks.Ghosts K) (disk : disks.Ghosts D) (reads : Reads) (slack : Option ℤ)
    (stages : ℕ) (span : Option ℤ) (told : Option (List (List ℕ))) (olds news : List (LaneView S L)) (holders : List Holder) (parts : List PartView)
    (sink sink' : K) (carried carried' : Run D) (first last : Known) (begun : AreBegunFrom reader.read_of reads slack 0 olds) (is_span : IsSpan span)
    (begins : BeginsSo source.left reader.read_of reads slack stages span (text_at told) olds holders parts carried.plan carried.book carried.plan.mark)
    (same : IsSameBench (known_in reader.read_of (text_at told) olds parts) first) where
  abbrev rules : PartRules
  rules = record { stages = stages; span = span }

  abbrev by : Rules
  by = record { reads = reads; slack = slack; stages = stages; span = span }

  abbrev plan : RunPlan
  plan = carried.plan

  abbrev book : BookState
  book = carried.book

  abbrev then : BookState
  then = carried'.book

  abbrev before : Option (List ℕ)
  before = output.written sink

  abbrev now : Option (List ℕ)
  now = output.written sink'

  abbrev bench : Known
  bench = known_in reader.read_of (text_at told) olds parts

  abbrev Beside : RunResult → Type 0
  Beside r = HubRan source reader output disk (text_at told) olds news parts sink sink' first last carried carried' r

  abbrev RanTo : RunResult → Type 0
  RanTo ended = Ran disk.history disk.fault_count plan first last book then (output_of output sink) (output_of output sink') carried.keep carried'.keep ended

  abbrev On : List (List ℕ) → Type 0
  On texts = BeginsOn by book.pipes texts (start_at plan.mark (cuts_of olds) holders book.kept)

  -- an answer without a stop is that of a run to its end
  done_ran : (a : Unit {0}) → Beside (Ok a) → RanTo (Ok a)
  done_ran a run = subst RanTo (done_then run.ended a run.hands.told) run.conductor.ran

  abbrev Closed : Type 0
  Closed = (s : ℕ) (new : LaneView S L) → slice_get news s ≡ Some new → new.state.cut.closed ≡ true

  old_of : (r : RunResult) → Beside r → (s : ℕ) (new : LaneView S L) → slice_get news s ≡ Some new → (old : LaneView S L) × (slice_get olds s ≡ Some old)
  old_of r run s new is =
      there_or olds s (let a = slice_get_within news s new is in let b = as_many source reader output disk reads slack told olds news parts sink sink' carried carried' r first last begun run begins.begins.sized in omega (arith, a, b))

  -- at the end every lane is closed
  closed_by : (r : RunResult) (a : Unit {0}) → Beside r → RanTo (Ok a) → Closed
  closed_by r a run ran s new is =
      let one = old_of r run s new is in
      closed_on source reader output disk reads slack told olds news parts sink sink' carried carried' r first last begun run begins.begins.sized s one.0 new one.1 is
      (λ x has. ran.is.closed s (known_last source reader output disk reads slack told olds news parts sink sink' carried carried' r first last begun run begins.begins.sized s (slice_get_within olds s one.0 one.1)) x has)

  -- and so it is where the end is safe
  closed_at : (r : RunResult) → Beside r → IsSafe End last → Closed
  closed_at r run safe s new is =
      let one = old_of r run s new is in
      let inside = slice_get_within olds s one.0 one.1 in
      closed_low new.state.cut.closed (first.set s).slack new.state.cut.best
      (low_on source reader output disk reads slack told olds news parts sink sink' carried carried' r first last begun run begins.begins.sized s one.0 new one.1 is End
      (safe.each s (known_last source reader output disk reads slack told olds news parts sink sink' carried carried' r first last begun run begins.begins.sized s inside)))

  module _ (texts : List (List ℕ)) (e : told ≡ Some texts) (are : AreTextsOf source.left texts olds) (on : On texts) where
    played : HavePlayed rules reads slack texts plan.mark holders book
    played = begins.played texts on

    of_bench : BenchIsOfTexts reads slack texts plan.mark bench
    of_bench = begins.of_texts texts (named told texts e) are on

    of_first : BenchIsOfTexts reads slack texts plan.mark first
    of_first = same_texts bench first same reads slack texts plan.mark of_bench

    rests_first : AreAtRest rules holders plan.mark first
    rests_first = same_rests bench first same rules holders plan.mark begins.begins.rests

    -- where each match has a number, the run began so over the texts
    pub begins_told : HasNumbers by texts → BeginsTold rules reads slack texts plan.mark holders first book
    begins_told numbers = record {
      texts_are = of_first;
      rests = rests_first;
      played = played;
      numbers = numbers;
    }

    pub wrote_whole : (r : RunResult) → Beside r → OnOk r (HasNumbers by texts → WroteAll (rest_of by book.pipes book.places book.kept.listed texts) before now)
    wrote_whole (Ok done) run = λ numbers. (done_ran done run).listed rules reads slack texts holders (begins_told numbers)
    wrote_whole (Err stopped) run = tt

    -- ---- a stop
    -- where every lane is closed the texts are of the size that shards may have
    fit : (r : RunResult) → Beside r → Closed → All IsShardText texts
    fit r run closed =
        texts_fit source reader output disk reads slack told olds news parts sink sink' carried carried' r first last begun run begins.begins.sized
        texts e are plan.mark of_bench closed

    early : WroteFront (lines_before_end book (found_by rules holders (between reads slack texts plan.mark End))) before now → WroteFront (rest_of by book.pipes book.places book.kept.listed texts) before now
    early wrote =
        subst (λ (found : List Match). WroteFront (listing book.places (drop book.kept.listed (pipe_output book.pipes (numbered_matches found)))) before now)
        (sym (found_on rules reads slack texts is_span plan.mark holders book played))
        (before_end book (found_below rules reads slack texts plan.mark) (found_by rules holders (between reads slack texts plan.mark End)) before now played.counted wrote)

    module _ (few_then : All IsShardText texts → HasNumbers by texts) (r : RunResult) (run : Beside r) where
      -- by the mark at which the conductor stopped
      front_at : (cuts : List Cut) → (HasNumbers by texts → StopsListed rules reads slack texts plan.mark last book then before now cuts) → (mark : Mark) → IsSafe mark last
          → WroteFront (lines_by mark book (found_by rules holders (between reads slack texts plan.mark End))) before now
          → WroteFront (rest_of by book.pipes book.places book.kept.listed texts) before now
      front_at cuts listed Start safe wrote = early wrote
      front_at cuts listed (At t) safe wrote = early wrote
      front_at cuts listed End safe wrote = (listed (few_then (fit r run (closed_at r run safe)))).so.front

      stopped_front : (cuts : List Cut) → RunStops plan.mark first last book then before now cuts
          → (HasNumbers by texts → StopsListed rules reads slack texts plan.mark last book then before now cuts)
          → WroteFront (rest_of by book.pipes book.places book.kept.listed texts) before now
      stopped_front cuts stops listed =
          front_at cuts listed stops.mark stops.safe (stops.told reads slack texts rules holders of_first rests_first).front

      -- by the end of the conductor, whichever is told
      front_by : (ended : RunResult) → RanTo ended → WroteFront (rest_of by book.pipes book.places book.kept.listed texts) before now
      front_by (Ok done) ran =
          front_of_all (rest_of by book.pipes book.places book.kept.listed texts) before now
          (ran.listed rules reads slack texts holders (begins_told (few_then (fit r run (closed_by r done run ran)))))
      front_by (Err of) ran = stopped_front ran.cuts ran.is (λ numbers. ran.listed rules reads slack texts holders (begins_told numbers))

    pub wrote_front : (r : RunResult) → Beside r
        → OnErr r ((All IsShardText texts → HasNumbers by texts) → WroteFront (rest_of by book.pipes book.places book.kept.listed texts) before now)
    wrote_front (Ok done) run = tt
    wrote_front (Err of) run = λ few_then. front_by few_then (Err of) run run.ended run.conductor.ran

  -- ---- the end
  pub lanes_closed : (r : RunResult) → Beside r → OnOk r (All IsClosed news)
  lanes_closed (Ok a) run =
      let r : RunResult = Ok a in
      all_closed source reader output disk reads slack told olds news parts sink sink' carried carried' r first last begun run begins.begins.sized
      (closed_by r a run (done_ran a run))
  lanes_closed (Err of) run = tt

  pub texts_read : (texts : List (List ℕ)) → told ≡ Some texts → AreTextsOf source.left texts olds → On texts → (r : RunResult) → Beside r → OnOk r (WereRead reads slack texts news)
  texts_read texts e are on (Ok a) run =
      let r : RunResult = Ok a in
      were_read source reader output disk reads slack told olds news parts sink sink' carried carried' r first last begun run begins.begins.sized
      texts e are plan.mark (begins.of_texts texts (named told texts e) are on) (closed_by r a run (done_ran a run))
  texts_read texts e are on (Err of) run = tt

-- What the record of a run says in the words of the listing.
use Rattle.std.proofs.Common.{◌≡◌, ◌<◌, ◌^◌, ◌++◌, ℕ, ℤ, true, List, [], ◌∷◌, drop, take, length, map, Option, Some, refl, sym, ap, ◌∙◌, arith, subst, length-append, append_assoc}
use Rattle.std.specs.Prelude.{All, filter}
use Rattle.std.proofs.lemmas.List.{drop_at, length-map, take_at}
use Rattle.std.proofs.lemmas.List.Concat.{flat_map-append}
use Rattle.eql_values.specs.declared.cut.BookCut.{BookCut}
use Rattle.eql_values.specs.declared.cut.Pipe.{Pipe}
use Rattle.eql_values.specs.declared.found.Holder.{Holder}
use Rattle.eql_values.specs.declared.found.Match.{Match}
use Rattle.eql_values.specs.declared.found.Numbered.{Numbered}
use Rattle.eql_values.specs.declared.item.Item.{Item}
use Rattle.eql_values.specs.declared.order.Mark.{Mark}
use Rattle.eql_values.specs.declared.order.Mark.TheVariants.{Start, At, End}
use Rattle.eql_values.specs.Accepted.{Reads, accepted_from, below, sorted_items}
use Rattle.eql_values.specs.Marks.{is_below}
use Rattle.eql_values.specs.Matching.{after, matches}
use Rattle.eql_values.specs.Numbering.{early_output, numbered_matches, pipe_output}
use Rattle.eql_laws.specs.Alive.{IsSpan, alive_holders}
use Rattle.eql_laws.specs.Belows.{between}
use Rattle.eql_laws.specs.Books.{book_of}
use Rattle.eql_laws.specs.Counting.{IsShardText}
use Rattle.eql_laws.specs.Fitting.{Fits, Kept, Run, cut_of}
use Rattle.eql_laws.specs.Lateness.{IsAtMost}
use Rattle.eql_laws.specs.Places.{ReadTo, whole}
use Rattle.eql_laws.specs.Resuming.{rest_from}
use Rattle.eql_laws.proofs.BelowLemmas.{below_grows}
use Rattle.eql_laws.proofs.Counted.{fronts_fit}
use Rattle.eql_laws.proofs.KeptCuts.{cuts_fit}
use Rattle.eql_laws.proofs.LeftOut.{after_in_order, dead_after, dead_for_good, dead_matches}
use Rattle.eql_laws.proofs.MarkLemmas.{at_most_end, times_le}
use Rattle.eql_laws.proofs.PieceLemmas.{times_between}
use Rattle.eql_laws.proofs.Resumed.{piped_goes_on}
use Rattle.eql_laws.proofs.Splitting.{after_split, matches_split}
use Rattle.eql_outside.specs.Written.{WroteFront}
use Rattle.eql_outside.proofs.WrittenLemmas.{writes_on}
use Rattle.eql_book.specs.Books.{BookState, book_after, held_back, kept_after, let_out}
use Rattle.eql_book.specs.Listing.{listing, match_line}
use Rattle.eql_book.specs.Laws.{BookIsKept, EndIsWhole, FreshIsOfNone, fresh_cut as fresh_book}
use Rattle.eql_cut.specs.declared.cut.Cut.{Cut}
use Rattle.eql_cut.specs.Domain.{kept_by}
use Rattle.eql_parts.specs.PartSteps.{Rules, alive_by, mark_time}
use Rattle.eql_conductor.specs.Openings.{IsCutOfTexts}
use Rattle.eql_conductor.specs.PartRounds.{pending_after}
use Rattle.eql_conductor.specs.Rounds.{found_by}
use Rattle.eql_conductor.specs.Runs.{IsCutOf, lines_before_end, lines_by, whole_lines}
use Rattle.eql_conductor.specs.RunLaws.{HaveNumbers, HavePlayed, RunCutsAreOfTexts, RunCutsFit, RunsStopInLines, RunsWriteLines, WereGiven, found_below, lines_after, listed_by, rules_of}

-- ---- what pipes let out from a book on
module _ (book_is_kept : BookIsKept) (end_is_whole : EndIsWhole) (pipes : List Pipe) (found more : List Match) (few : length (found ++ more) < 2 ^ 64) where
  abbrev counted_then : BookCut
  counted_then = kept_after pipes (book_of pipes found) more

  rest_is : let_out pipes (book_of pipes found) more ++ rest_from pipes counted_then [] ≡ drop (book_of pipes found).listed (pipe_output pipes (numbered_matches (found ++ more)))
  rest_is =
      let is = book_is_kept pipes found more few in
      let out : List Numbered = let_out pipes (book_of pipes found) more in
      let before : List Numbered = early_output pipes (numbered_matches found) in
      let all : pipe_output pipes (numbered_matches (found ++ more)) ≡ before ++ (out ++ rest_from pipes counted_then []) =
      end_is_whole pipes true true (found ++ more)
      ∙ (λ i. is.lines_are i ++ rest_from pipes (sym is.cut_is i) [])
      ∙ append_assoc before out (rest_from pipes counted_then []) in
      sym (ap (drop (length before)) all ∙ drop_at before (out ++ rest_from pipes counted_then []) (length before) refl)

  -- and those that it counts then, where further matches are found behind these
  listed_is : (rest : List Match)
      → let_out pipes (book_of pipes found) more ≡ drop (book_of pipes found).listed (take counted_then.listed (pipe_output pipes (numbered_matches ((found ++ more) ++ rest))))
  listed_is rest =
      let is = book_is_kept pipes found more few in
      let out : List Numbered = let_out pipes (book_of pipes found) more in
      let before : List Numbered = early_output pipes (numbered_matches found) in
      let behind : List Numbered = rest_from pipes (book_of pipes (found ++ more)) rest in
      let count : counted_then.listed ≡ length (before ++ out) = ap (λ (k : BookCut). k.listed) is.cut_is ∙ ap length is.lines_are in
      let all : pipe_output pipes (numbered_matches ((found ++ more) ++ rest)) ≡ (before ++ out) ++ behind =
      piped_goes_on pipes (found ++ more) rest ∙ ap (λ (l : List Numbered). l ++ behind) is.lines_are in
      let taken : take counted_then.listed (pipe_output pipes (numbered_matches ((found ++ more) ++ rest))) ≡ before ++ out =
      (λ i. take (count i) (all i)) ∙ take_at (before ++ out) behind (length (before ++ out)) refl in
      sym (ap (drop (length before)) taken ∙ drop_at before out (length before) refl)

-- the same of any book that counts the first matches
whole_is : BookIsKept → EndIsWhole → (book : BookState) (found more : List Match) → length (found ++ more) < 2 ^ 64 → book.kept ≡ book_of book.pipes found
    → whole_lines book more ≡ listing book.places (drop book.kept.listed (pipe_output book.pipes (numbered_matches (found ++ more))))
whole_is book_is_kept end_is_whole book found more few e =
    sym (flat_map-append (match_line book.places) (let_out book.pipes book.kept more) (held_back (book_after book more)))
    ∙ ap (λ (k : BookCut). listing book.places (let_out book.pipes k more ++ rest_from book.pipes (kept_after book.pipes k more) [])) e
    ∙ ap (listing book.places) (rest_is book_is_kept end_is_whole book.pipes found more few)
    ∙ ap (λ (k : BookCut). listing book.places (drop k.listed (pipe_output book.pipes (numbered_matches (found ++ more))))) (sym e)

counted_is : BookIsKept → EndIsWhole → (book : BookState) (found more rest : List Match) → length (found ++ more) < 2 ^ 64 → book.kept ≡ book_of book.pipes found
    → lines_before_end book more ≡ listing book.places (drop book.kept.listed (take (kept_after book.pipes book.kept more).listed (pipe_output book.pipes (numbered_matches ((found ++ more) ++ rest)))))
counted_is book_is_kept end_is_whole book found more rest few e =
    ap (λ (k : BookCut). listing book.places (let_out book.pipes k more)) e
    ∙ ap (listing book.places) (listed_is book_is_kept end_is_whole book.pipes found more few rest)
    ∙ ap (λ (k : BookCut). listing book.places (drop k.listed (take (kept_after book.pipes k more).listed (pipe_output book.pipes (numbered_matches ((found ++ more) ++ rest)))))) (sym e)

-- ---- from a mark on
module _ (rules : Rules) (reads : Reads) (slack : Option ℤ) (texts : List (List ℕ)) where
  abbrev stages : ℕ
  stages = rules.stages

  abbrev span : Option ℤ
  span = rules.span

  abbrev events : Mark → List Item
  events mark = below reads slack texts mark

  abbrev later_events : Mark → Mark → List Item
  later_events from to = between reads slack texts from to

  abbrev pending : Mark → List Holder
  pending mark = after stages span [] (events mark)

  -- the dead at a mark may be left out
  alive_matches : IsSpan span → (from to : Mark) → matches stages span (alive_by span (mark_time from) (pending from)) (later_events from to) ≡ matches stages span (pending from) (later_events from to)
  alive_matches is Start to = refl
  alive_matches is (At t) to =
      dead_matches stages span t (pending (At t)) (later_events (At t) to) is (after_in_order stages span [] (events (At t))) (times_between reads slack texts t to)
  alive_matches is End to = refl

  alive_after : IsSpan span → (from : Mark) (t : ℤ) → IsAtMost from (At t)
      → alive_holders span t (after stages span (alive_by span (mark_time from) (pending from)) (later_events from (At t))) ≡ alive_holders span t (after stages span (pending from) (later_events from (At t)))
  alive_after is Start t le = refl
  alive_after is (At u) t le =
      ap (alive_holders span t) (dead_after stages span u (pending (At u)) (later_events (At u) (At t)) is (after_in_order stages span [] (events (At u))) (times_between reads slack texts u (At t)))
      ∙ dead_for_good span u t (after stages span (pending (At u)) (later_events (At u) (At t))) (times_le u t le)
  alive_after is End t le = refl

  -- the matches below the greater of two marks
  found_grows : (from to : Mark) → IsAtMost from to → found_below rules reads slack texts to ≡ found_below rules reads slack texts from ++ matches stages span (pending from) (later_events from to)
  found_grows from to le = ap (matches stages span []) (below_grows reads slack texts from to le) ∙ matches_split stages span [] (events from) (later_events from to)

  few_below : HaveNumbers rules reads slack texts → (mark : Mark) → length (found_below rules reads slack texts mark) < 2 ^ 64
  few_below few mark =
      let all = ap length (found_grows mark End (at_most_end mark)) ∙ length-append (found_below rules reads slack texts mark) (matches stages span (pending mark) (later_events mark End)) in
      omega (arith, all, few)

  module _ (book_is_kept : BookIsKept) (end_is_whole : EndIsWhole) (from : Mark) (all : List Holder) (book : BookState) (is_span : IsSpan span) (played : HavePlayed rules reads slack texts from all book) where
    -- what is found from there on
    found_from : (to : Mark) → found_by rules all (later_events from to) ≡ matches stages span (pending from) (later_events from to)
    found_from to = ap (λ (h : List Holder). matches stages span h (later_events from to)) played.pending ∙ alive_matches is_span from to

    found_on : (to : Mark) → IsAtMost from to → found_below rules reads slack texts to ≡ found_below rules reads slack texts from ++ found_by rules all (later_events from to)
    found_on to le = found_grows from to le ∙ ap (λ (more : List Match). found_below rules reads slack texts from ++ more) (sym (found_from to))

    few_on : HaveNumbers rules reads slack texts → (to : Mark) → IsAtMost from to → length (found_below rules reads slack texts from ++ found_by rules all (later_events from to)) < 2 ^ 64
    few_on few to le = subst (λ (found : List Match). length found < 2 ^ 64) (found_on to le) (few_below few to)

    pub lines_are : HaveNumbers rules reads slack texts → whole_lines book (found_by rules all (later_events from End)) ≡ lines_after rules reads slack texts book
    lines_are few =
        whole_is book_is_kept end_is_whole book (found_below rules reads slack texts from) (found_by rules all (later_events from End)) (few_on few End (at_most_end from)) played.counted
        ∙ ap (λ (found : List Match). listing book.places (drop book.kept.listed (pipe_output book.pipes (numbered_matches found)))) (sym (found_on End (at_most_end from)))

    -- what a book keeps once these were given to it
    pub kept_on : HaveNumbers rules reads slack texts → (to : Mark) → IsAtMost from to
        → kept_after book.pipes book.kept (found_by rules all (later_events from to)) ≡ book_of book.pipes (found_below rules reads slack texts to)
    kept_on few to le =
        ap (λ (k : BookCut). kept_after book.pipes k (found_by rules all (later_events from to))) played.counted
        ∙ (book_is_kept book.pipes (found_below rules reads slack texts from) (found_by rules all (later_events from to)) (few_on few to le)).cut_is
        ∙ ap (book_of book.pipes) (sym (found_on to le))

    -- the lines that are written up to a mark are those of the listing after the ones that the book counts, up to those that it counts then
    pub lines_to : HaveNumbers rules reads slack texts → (to : Mark) → IsAtMost from to → (then : BookCut) → then ≡ kept_after book.pipes book.kept (found_by rules all (later_events from to))
        → lines_before_end book (found_by rules all (later_events from to)) ≡ listing book.places (drop book.kept.listed (take then.listed (listed_by rules reads slack texts book.pipes)))
    lines_to few to le then e =
        let first : List Match = found_below rules reads slack texts from in
        let more : List Match = found_by rules all (later_events from to) in
        let rest : List Match = matches stages span (pending to) (later_events to End) in
        let whole : (first ++ more) ++ rest ≡ found_below rules reads slack texts End =
        ap (λ (found : List Match). found ++ rest) (sym (found_on to le)) ∙ sym (found_grows to End (at_most_end to)) in
        counted_is book_is_kept end_is_whole book first more rest (few_on few to le) played.counted
        ∙ ap (λ (found : List Match). listing book.places (drop book.kept.listed (take (kept_after book.pipes book.kept more).listed (pipe_output book.pipes (numbered_matches found))))) whole
        ∙ ap (λ (k : BookCut). listing book.places (drop book.kept.listed (take k.listed (listed_by rules reads slack texts book.pipes)))) (sym e)

    pub pending_on : (t : ℤ) → IsAtMost from (At t) → alive_holders span t (pending_after rules all (later_events from (At t))) ≡ alive_holders span t (pending (At t))
    pending_on t le =
        ap (λ (h : List Holder). alive_holders span t (after stages span h (later_events from (At t)))) played.pending
        ∙ alive_after is_span from t le
        ∙ ap (alive_holders span t) (sym (ap (after stages span []) (below_grows reads slack texts from (At t) le) ∙ after_split stages span [] (events from) (later_events from (At t))))

    pub were_given : HaveNumbers rules reads slack texts → (mark : Mark) → IsAtMost from mark → (then : BookState) → then ≡ book_after book (found_by rules all (later_events from mark))
        → WereGiven rules reads slack texts from mark book then
    were_given few mark le then e = record {
      given = found_by rules all (later_events from mark);
      book_is = e;
      found_is = found_on mark le;
      counted = ap (λ (s : BookState). s.kept) e ∙ kept_on few mark le;
    }

-- ---- how a run begins
none_below : (items : List Item) → filter (is_below Start) items ≡ []
none_below [] = refl
none_below (item ∷ items) = none_below items

-- a fresh book counts the matches below the start, which are none
pub fresh_have_played : FreshIsOfNone → (rules : Rules) (reads : Reads) (slack : Option ℤ) (texts : List (List ℕ)) (book : BookState)
    → book.kept ≡ fresh_book book.pipes → HavePlayed rules reads slack texts Start [] book
fresh_have_played fresh_is_of_none rules reads slack texts book e =
    let none : below reads slack texts Start ≡ [] = ap sorted_items (none_below (accepted_from reads slack 0 texts)) in
    record {
      pending = sym (ap (after rules.stages rules.span []) none);
      counted = e ∙ fresh_is_of_none book.pipes ∙ ap (λ (items : List Item). book_of book.pipes (matches rules.stages rules.span [] items)) (sym none);
    }

-- a cut of texts has what is pending then, and a book that begins with it counts the matches below its time
pub cut_have_played : (run : Run) (reads : Reads) (texts : List (List ℕ)) (kept : Kept) (book : BookState)
    → IsCutOfTexts run reads texts kept → book.pipes ≡ run.pipes → book.kept ≡ kept.book
    → HavePlayed (rules_of run) reads (Some run.slack) texts (At kept.time) kept.holders book
cut_have_played run reads texts kept book is pipes kept_is =
    let at : List (List ℕ) → Kept = λ ts. record {
      time = kept.time;
      lanes = [];
      holders = alive_holders run.span kept.time (after run.stages run.span [] (below reads (Some run.slack) ts (At kept.time)));
      book = book_of run.pipes (matches run.stages run.span [] (below reads (Some run.slack) ts (At kept.time)));
    } in
    record {
      pending = ap (λ (k : Kept). k.holders) is.kept_is ∙ ap (λ (ts : List (List ℕ)). (at ts).holders) is.texts_are;
      counted = kept_is ∙ ap (λ (k : Kept). k.book) is.kept_is ∙ ap (λ (ts : List (List ℕ)). (at ts).book) is.texts_are
          ∙ ap (λ (p : List Pipe). book_of p (found_below (rules_of run) reads (Some run.slack) texts (At kept.time))) (sym pipes);
    }

-- ---- what a run wrote
pub runs_write_lines : BookIsKept → EndIsWhole → RunsWriteLines
runs_write_lines kept end rules reads slack texts from all book span played few = lines_are rules reads slack texts kept end from all book span played few

-- a front of what is written before the end is one of all lines
by_whole : (mark : Mark) (book : BookState) (found : List Match) (before now : Option (List ℕ)) → WroteFront (lines_by mark book found) before now
    → WroteFront (whole_lines book found) before now
by_whole Start book found before now h = writes_on.longer (lines_before_end book found) (listing book.places (held_back (book_after book found))) before now h
by_whole (At time) book found before now h = writes_on.longer (lines_before_end book found) (listing book.places (held_back (book_after book found))) before now h
by_whole End book found before now h = h

pub runs_stop_in_lines : BookIsKept → EndIsWhole → RunsStopInLines
runs_stop_in_lines kept end rules reads slack texts from mark all book then before now span played few le stopped = record {
  front = subst (λ (bytes : List ℕ). WroteFront bytes before now) (lines_are rules reads slack texts kept end from all book span played few)
      (by_whole mark book (found_by rules all (between reads slack texts from End)) before now stopped.front);
  given = λ whole. were_given rules reads slack texts kept end from all book span played few mark le then (stopped.given whole);
}

-- ---- which cuts it puts
run_cut_is : (kept : BookIsKept) (end : EndIsWhole) (run : Run) (reads : Reads) (texts : List (List ℕ)) (from : Mark) (all : List Holder) (book : BookState) (cut : Cut)
    → IsSpan run.span → HavePlayed (rules_of run) reads (Some run.slack) texts from all book → HaveNumbers (rules_of run) reads (Some run.slack) texts
    → book.pipes ≡ run.pipes → IsAtMost from (At cut.mark) → (of : IsCutOf (rules_of run) all reads (Some run.slack) texts from book cut)
    → kept_by cut ≡ cut_of run reads cut.mark of.lanes.shards
run_cut_is kept end run reads texts from all book cut span played few pipes later of =
    let rules : Rules = rules_of run in
    let slack : Option ℤ = Some run.slack in
    let t : ℤ = cut.mark in
    let shards : List ReadTo = of.lanes.shards in
    let holders_at : List (List ℕ) → List Holder = λ ts. alive_holders run.span t (after run.stages run.span [] (below reads slack ts (At t))) in
    let book_at : List (List ℕ) → BookCut = λ ts. book_of run.pipes (matches run.stages run.span [] (below reads slack ts (At t))) in
    let holders_are : cut.holders ≡ holders_at (map whole shards) =
    of.holders ∙ pending_on rules reads slack texts kept end from all book span played t later ∙ ap holders_at (sym of.lanes.texts_are) in
    let book_is : cut.book ≡ book_at (map whole shards) =
    of.book_is ∙ kept_on rules reads slack texts kept end from all book span played few (At t) later
    ∙ ap (λ (p : List Pipe). book_of p (found_below rules reads slack texts (At t))) pipes
    ∙ ap book_at (sym of.lanes.texts_are) in
    λ i. record { time = t; lanes = of.lanes.lanes_are i; holders = holders_are i; book = book_is i }

pub run_cuts_are_of_texts : BookIsKept → EndIsWhole → RunCutsAreOfTexts
run_cuts_are_of_texts kept end run reads texts from all book cut span played few pipes later of = record {
  shards = of.lanes.shards;
  are_places = of.lanes.are_places;
  texts_are = of.lanes.texts_are;
  kept_is = run_cut_is kept end run reads texts from all book cut span played few pipes later of;
}

pub run_cuts_fit : BookIsKept → EndIsWhole → RunCutsFit
run_cuts_fit kept end run reads texts from all book cut span played few pipes later of reads_for sized count slack_from slack_to =
    let shards : List ReadTo = of.lanes.shards in
    let as_many : length shards ≡ length texts = sym (length-map shards whole) ∙ ap length of.lanes.texts_are in
    let fits : Fits run (length shards) (cut_of run reads cut.mark shards) =
    cuts_fit run reads cut.mark shards reads_for of.lanes.are_places (fronts_fit shards (subst (All IsShardText) (sym of.lanes.texts_are) sized))
    (omega (arith, as_many, count)) of.lanes.safe (of.in_range slack_from slack_to) in
    subst (λ (n : ℕ). Fits run n (kept_by cut)) as_many
    (subst (Fits run (length shards)) (sym (run_cut_is kept end run reads texts from all book cut span played few pipes later of)) fits)

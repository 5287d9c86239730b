-- A run over lanes: with what its search may begin, and how that ended.
use native.Mathlib.Omega.{arith}
use Rattle.std.proofs.Common.{◌≡◌, ◌≤◌, ℕ, List, Option, ap, sym, ◌∙◌, subst, length, map}
use Rattle.std.specs.Prelude.{IfSome, OnErr, OnOk, Result}
use Rattle.std.specs.List.{AllZip}
use Rattle.std.proofs.lemmas.List.{length-map}
use Rattle.eql_outside.specs.Written.{WroteAll, WroteFront}
use Rattle.eql_outside.specs.declared.disk.Disk as disks
use Rattle.eql_outside.specs.declared.sink.Sink as sinks
use Rattle.eql_outside.specs.declared.source.Source as sources
use Rattle.eql_values.specs.Accepted.{Reads}
use Rattle.eql_values.specs.declared.found.Holder.{Holder}
use Rattle.eql_values.specs.declared.reader.LineReader as readers
use Rattle.eql_laws.specs.Alive.{IsSpan}
use Rattle.eql_laws.specs.Books.{greatest_shards}
use Rattle.eql_check.specs.Kinds.{kind_at}
use Rattle.eql_check.specs.Typing.{IsChecked}
use Rattle.eql_query.specs.QueryTree.{query_tree}
use Rattle.eql_stages.specs.Planned.{line_of, planned_query}
use Rattle.eql_stages.specs.Stages.{span_in, stages_in}
use Rattle.eql_words.specs.declared.commands.Find.{Find}
use Rattle.eql_words.specs.Bounds.{FindIsBounded}
use Rattle.eql_lane.specs.Slacks.{nanos_of}
use Rattle.eql_lane.specs.Views.{LaneView}
use Rattle.eql_book.specs.Books.{BookState, FitsPipes}
use Rattle.eql_cut.specs.declared.cut.Cut.{Cut}
use Rattle.eql_cut.specs.declared.cut.CutHead.{CutHead}
use Rattle.eql_conductor.specs.declared.plan.Keep.{Keep}
use Rattle.eql_conductor.specs.declared.plan.Run.{Run}
use Rattle.eql_conductor.specs.declared.plan.RunPlan.{RunPlan}
use Rattle.eql_conductor.specs.declared.stop.Stop.{Stop}
use Rattle.eql_resume.specs.Beginnings.{Rest}
use Rattle.eql_runs.specs.RunLaws.{MatchesAreFew}
use Rattle.eql_runs.specs.Searches.{plan_of, rest_of}
use Rattle.eql_search.specs.declared.rules.Rules.{Rules as Asked}
use Rattle.eql_search.specs.Answers.{StaysLane, WereRead}
use Rattle.eql_search.specs.Beginnings.{MayBegin, MayKeepOn, cuts_of}
use Rattle.eql_search.specs.Keeping.{KeepsOn}
use Rattle.eql_search.specs.Outcomes.{AreCutsFrom, AreInBounds, LanesEnd, MaySearch, WritesListing, beginning_of}
use Rattle.eql_search.specs.Searches.{AreBegun, AreTextsOf, Rules, reads_by, rules_of, slack_by}
use Rattle.eql_find.specs.declared.plan.PlannedQuery.{PlannedQuery}
use Rattle.eql_find.specs.Running.{BeginsAs, BeginsRun, plan_in, rest_over}
use Rattle.eql_find.specs.Searching.{StartsOn, bare, rules_in, search_in}
use Rattle.eql_find.specs.Starting.{pipes_of}
use Rattle.eql_find.proofs.AllowingLemmas.{BeginLaws}
use Rattle.eql_find.proofs.KeepLemmas.{keeps_weaker}
use Rattle.eql_find.proofs.RunLemmas.{fits_may, keeps_on, may_begin, taken_begun, taken_reads, taken_slack, texts_taken}
use Rattle.eql_find.proofs.SearchLemmas.{AreSearched}
use Rattle.eql_find.proofs.SearchLemmas as searching

-- ---- with what its search begins, and how that ended
-- lanes of the shards, by the reading and the slack of the run, with what is pending; and a disk for its cuts. The texts of the lanes are told or not
pub record MaySearchLanes {S L D : Type 0} (source : sources.Ghosts S) (read_of : L → Reads) (disk : disks.Ghosts D)
    (known_texts : Option (List (List ℕ))) (find : Find) (p : PlannedQuery) (lanes : List (LaneView S L)) (rest : Rest) (head : CutHead)
    (keep : Option (Keep D)) : Type 0 where
  pub many : length lanes ≡ length find.shards
  pub texts_are : IfSome known_texts (λ texts. AreTextsOf source.left texts lanes)
  pub begun : AreBegun read_of lanes
  pub reads_are : reads_by read_of lanes ≡ line_of (planned_query p.plan)
  pub slack_is : slack_by read_of lanes ≡ nanos_of find.slack
  pub plan_is : planned_query p.plan ≡ plan_of (search_in find p)
  pub checked : IfSome known_texts (λ texts. IsChecked (kind_at p.mapping) (query_tree p.plan.checked.query))
  pub pipes_fit : FitsPipes (pipes_of p) rest.book
  pub begins : MayBegin (rules_in (search_in find p)) (pipes_of p) rest.mark (cuts_of lanes) rest.holders rest.book
  pub keeps : MayKeepOn disk.history (plan_in find head rest.mark) (length lanes) keep

-- what lanes and what is pending are of these texts: nothing, or a cut of them
abbrev StartsRest : {S L : Type 0} → Find → PlannedQuery → List (LaneView S L) → Rest → List (List ℕ) → Type 0
StartsRest find p lanes rest texts = StartsOn (search_in find p) texts rest.mark (cuts_of lanes) rest.holders rest.book

module _ {K : Type 0} (output : sinks.Ghosts K) where
  -- what was written and read, over told texts with which it may begin so; which cuts were put; and what stays of the lanes
  pub record SearchesLanes {A S L D : Type 0} (source : sources.Ghosts S) (read_of : L → Reads) (disk : disks.Ghosts D)
      (known_texts : Option (List (List ℕ))) (find : Find) (p : PlannedQuery) (lanes lanes' : List (LaneView S L)) (rest : Rest) (head : CutHead)
      (out out' : K) (keep keep' : Option (Keep D)) (answer : Result A Stop) : Type 0 where
    pub whole : OnOk answer (IfSome known_texts (λ texts. StartsRest find p lanes rest texts
        → WroteAll (rest_of (search_in find p) rest.book.listed texts) (output.written out) (output.written out')))
    pub front : OnErr answer (IfSome known_texts (λ texts. StartsRest find p lanes rest texts
        → WroteFront (rest_of (search_in find p) rest.book.listed texts) (output.written out) (output.written out')))
    pub read : OnOk answer (IfSome known_texts (λ texts. StartsRest find p lanes rest texts
        → WereRead (line_of (planned_query p.plan)) (nanos_of find.slack) texts lanes'))
    pub keeps : KeepsOn disk.history head rest.mark (λ (cuts : List Cut). IfSome known_texts (λ texts. StartsRest find p lanes rest texts
        → AreSearched (search_in find p) texts rest.book.listed (output.written out) (output.written out') (output.kept out) (output.kept out') cuts))
        keep keep' answer
    pub stay : AllZip (StaysLane source.left source.lent_as read_of) lanes lanes'

-- ---- with what it begins
-- lanes whose places were taken, with what is pending at its places
pub may_lanes : {S L D : Type 0} (source : sources.Ghosts S) (read_of : L → Reads) (disk : disks.Ghosts D) (laws : BeginLaws) (find : Find) (p : PlannedQuery)
    (known : Option (List (List ℕ))) (lanes mids : List (LaneView S L)) (rest placed : Rest) (head : CutHead) (keep : Option (Keep D)) → FindIsBounded find
    → BeginsRun source.left read_of disk.history known find p lanes rest head keep → mids ≡ map bare lanes → placed ≡ rest_over lanes rest
    → MaySearchLanes source read_of disk known find p mids placed head keep
may_lanes source read_of disk laws find p known lanes mids rest placed head keep bounds b taken placed_is =
    let many : length mids ≡ length find.shards = ap length taken ∙ length-map lanes bare ∙ b.many in
    let least = bounds.count.0 in
    let some : 1 ≤ length mids = omega (arith, least, many) in
    let begins : MayBegin (rules_in (search_in find p)) (pipes_of p) placed.mark (cuts_of mids) placed.holders placed.book =
    may_begin laws find p bounds lanes rest b.many mids placed taken placed_is known b.begun b.own b.began b.rest_is in
    record {
      many = many;
      texts_are = texts_taken source.left known lanes mids taken b.texts_of;
      begun = taken_begun read_of (line_of (planned_query p.plan)) (nanos_of find.slack) lanes mids taken some b.are_begun;
      reads_are = taken_reads read_of (line_of (planned_query p.plan)) (nanos_of find.slack) lanes mids taken some b.are_begun;
      slack_is = taken_slack read_of (line_of (planned_query p.plan)) (nanos_of find.slack) lanes mids taken some b.are_begun;
      plan_is = b.plan_is;
      checked = b.checked;
      pipes_fit = fits_may laws.may_begin (rules_in (search_in find p)) (pipes_of p) placed.mark (cuts_of mids) placed.holders placed.book begins;
      begins = begins;
      keeps = keeps_on disk.history find p bounds placed.mark head keep (length mids) b.head_is b.names many b.keeps;
    }

-- a search by these rules that carries this run is that of the words, from what is pending
pub record IsAsked {D : Type 0} (find : Find) (p : PlannedQuery) (rest : Rest) (head : CutHead) (rules : Asked) (holders : List Holder) (run : Run D) : Type 0 where
  pub stages_are : rules.stages ≡ length (stages_in (planned_query p.plan).query.body)
  pub span_is : rules.span ≡ span_in (planned_query p.plan).query.body
  pub plan_is : run.plan ≡ plan_in find head run.plan.mark
  pub begins : BeginsAs find p rest run.plan.mark holders run.book

module _ {S L K D : Type 0} (source : sources.Ghosts S) (reader : readers.Ghosts L) (output : sinks.Ghosts K) (disk : disks.Ghosts D) (few : MatchesAreFew)
    (find : Find) (p : PlannedQuery) (known : Option (List (List ℕ))) (lanes : List (LaneView S L)) (rest : Rest) (head : CutHead) (rules : Asked)
    (holders : List Holder) (run : Run D) (bounds : FindIsBounded find) (may : MaySearchLanes source reader.read_of disk known find p lanes rest head run.keep)
    (asked : IsAsked find p rest head rules holders run) where
  abbrev by : Rules
  by = rules_of reader.read_of rules lanes

  count : length lanes ≤ greatest_shards
  count = let most = bounds.count.1 in let many = may.many in omega (arith, most, many)

  by_is : by ≡ rules_in (search_in find p)
  by_is = searching.rules_are reader.read_of find p lanes rules may.plan_is may.reads_are may.slack_is asked.stages_are asked.span_is

  -- the plan of the search from the mark of what is pending
  planned : run.plan ≡ plan_in find head rest.mark
  planned = asked.plan_is ∙ ap (plan_in find head) asked.begins.mark_is

  pub in_bounds : 1 ≤ rules.stages → rules.stages ≤ 256 → IsSpan rules.span → AreInBounds run.plan rules find.hands
  in_bounds from to span =
      let batch : run.plan.batch ≡ find.batch = ap (λ (x : RunPlan). x.batch) planned in
      let least = bounds.batch.0 in
      let most = bounds.batch.1 in
      let hands = bounds.hands in
      record {
        batch_from = omega (arith, batch, least);
        batch_to = omega (arith, batch, most);
        stages_from = from;
        stages_to = to;
        is_span = span;
        hands_to = omega (arith, hands);
      }

  pub may_search : MaySearch source reader disk known rules lanes holders run
  may_search = record {
    some = let least = bounds.count.0 in let many = may.many in omega (arith, least, many);
    few = count;
    begun = may.begun;
    texts_are = may.texts_are;
    whole = ap (λ (b : BookState). b.whole) asked.begins.book_is;
    begins =
        searching.may_begin source.left few find p known lanes by rest run.plan.mark holders run.book may.checked may.texts_are count by_is
        asked.begins.mark_is asked.begins.holders_are asked.begins.book_is may.begins;
    keeps = subst (λ (x : RunPlan). MayKeepOn disk.history x (length lanes) run.keep) (sym planned) may.keeps;
  }

  -- ---- how it ended
  module _ (news : List (LaneView S L)) (sink sink' : K) (run' : Run D) (r : Result (Unit {0}) Stop)
      (wrote : WritesListing output known (beginning_of reader rules lanes holders run) sink sink' r)
      (keeps : KeepsOn disk.history run.plan.head run.plan.mark (AreCutsFrom output known (beginning_of reader rules lanes holders run) sink sink') run.keep run'.keep r)
      (ends : LanesEnd source reader known (beginning_of reader rules lanes holders run) lanes news r) where
    abbrev Are : List Cut → Type 0
    Are cuts = IfSome known (λ texts. StartsRest find p lanes rest texts
        → AreSearched (search_in find p) texts rest.book.listed (output.written sink) (output.written sink') (output.kept sink) (output.kept sink') cuts)

    pub searches : SearchesLanes output source reader.read_of disk known find p lanes news rest head sink sink' run.keep run'.keep r
    searches = record {
      whole =
          searching.whole_written source.left few find p known lanes by rest run.plan.mark holders run.book may.checked may.texts_are count by_is
          asked.begins.mark_is asked.begins.holders_are asked.begins.book_is news (output.written sink) (output.written sink') r ends.read wrote.whole;
      front =
          searching.front_written source.left few find p known lanes by rest run.plan.mark holders run.book may.checked may.texts_are count by_is
          asked.begins.mark_is asked.begins.holders_are asked.begins.book_is news (output.written sink) (output.written sink') r wrote.front;
      read =
          searching.were_read source.left few find p known lanes by rest run.plan.mark holders run.book may.checked may.texts_are count by_is
          asked.begins.mark_is asked.begins.holders_are asked.begins.book_is r news (line_of (planned_query p.plan)) (nanos_of find.slack) may.reads_are may.slack_is ends.read;
      keeps =
          subst (λ (x : RunPlan). KeepsOn disk.history x.head x.mark Are run.keep run'.keep r) planned
          (keeps_weaker disk.history run.plan.head run.plan.mark _ Are
          (searching.are_searched source.left few find p known lanes by rest run.plan.mark holders run.book may.checked may.texts_are count by_is
          asked.begins.mark_is asked.begins.holders_are asked.begins.book_is (output.written sink) (output.written sink') (output.kept sink) (output.kept sink'))
          run.keep run'.keep r keeps);
      stay = ends.stay;
    }

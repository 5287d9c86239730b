-- The cuts that a run put on its disk, in the words of runs.
use Rattle.std.proofs.Common.{◌≡◌, ◌≢◌, ◌<◌, ◌==◌, ◌^◌, ℕ, Bool, List, [], ◌∷◌, Option, Some, None, refl, sym, ap, ◌∙◌, subst, length}
use Rattle.std.specs.Prelude.{All, IfSome, Result}
use Rattle.std.proofs.lemmas.List.Elements.{All-cons, All-head, All-nil, All-tail}
use Rattle.eql_outside.specs.DiskLaws.{ImagesAreThere}
use Rattle.eql_outside.specs.Moments.{History, DiskTells}
use Rattle.eql_values.specs.declared.order.Mark.{Mark}
use Rattle.eql_words.specs.declared.commands.Checkpoint.{Checkpoint}
use Rattle.eql_words.specs.declared.commands.Find.{Find}
use Rattle.eql_words.specs.Bounds.{FindIsBounded}
use Rattle.eql_lane.specs.Views.{LaneView}
use Rattle.eql_cut.specs.declared.cut.Cut.{Cut}
use Rattle.eql_cut.specs.declared.cut.CutHead.{CutHead}
use Rattle.eql_cut.specs.Rising.{RiseFrom}
use Rattle.eql_ckdisk.specs.Found.{LastCut}
use Rattle.eql_ckdisk.specs.Going.{Goes}
use Rattle.eql_ckdisk.specs.Keeping.{KeepsAll, LeavesNoMore}
use Rattle.eql_ckdisk.specs.Laws.{PutsGoOn}
use Rattle.eql_ckdisk.specs.Putting.{Stands, StandsAt, last_cut}
use Rattle.eql_conductor.specs.declared.plan.Keep.{Keep}
use Rattle.eql_conductor.specs.Saving.{PutsCuts}
use Rattle.eql_runs.specs.Files.{Files}
use Rattle.eql_runs.specs.RunLaws.{DiskHoldsOne, SearchIsOne}
use Rattle.eql_runs.specs.Runs.{IsPut, KeepsCuts, KeptCounted, Searches, Trusts, WroteCounted}
use Rattle.eql_runs.specs.Searches.{Search, matches_of}
use Rattle.eql_runs.specs.Starts.{DiskHolds, IsCutOf, IsHeadOf, IsTrusted, OnDisk, generation_on, listed_on, mark_on}
use Rattle.eql_resume.specs.Beginnings.{Rest, rest_by}
use Rattle.eql_resume.specs.Finding.{disk_holding}
use Rattle.eql_search.specs.Keeping.{IsLaterCut}
use Rattle.eql_find.specs.declared.error.FindError.{FindError}
use Rattle.eql_find.specs.declared.plan.PlannedQuery.{PlannedQuery}
use Rattle.eql_find.specs.Running.{KeepsIfAsked, StartsOver}
use Rattle.eql_find.specs.Searching.{AreCutsOf, KeepsAs, head_in, search_in, slack_told}
use Rattle.eql_find.specs.Starting.{Begun, IsFound, IsFreshKeep, disk_after, pipes_of}
use Rattle.eql_find.proofs.DiskLemmas.{recovered_keeps, recovered_puts}
use Rattle.eql_find.proofs.EndingLemmas.{began_by}
use Rattle.eql_find.proofs.FoundLemmas.{Runs, TheRun}
use Rattle.eql_find.proofs.EarlyErrors.{same_no_more}
use Rattle.eql_find.proofs.MadeLemmas.{begun_is}
use Rattle.eql_find.proofs.TextLemmas.{asked_slack, begins_asked, head_is, texts_long}

-- all of a disk that was kept is no more than was there
pub kept_no_more : (before now : Option History) → DiskTells KeepsAll before now → DiskTells (Goes LeavesNoMore) before now
kept_no_more None None kept = tt
kept_no_more None (Some k) kept = absurd kept
kept_no_more (Some h) None kept = absurd kept
kept_no_more (Some h) (Some k) kept = kept.going

-- from which mark a run goes on, by what its disk holds
mark_is : (p : PlannedQuery) (u : Bool) (format generation : ℕ) (o : Option Cut) (rest : Rest) → rest ≡ rest_by (pipes_of p) u o
    → rest.mark ≡ mark_on (disk_holding format generation o)
mark_is p u format generation None rest is = ap Rest.mark is
mark_is p u format generation (Some cut) rest is = ap Rest.mark is

-- what the cuts of a run are, of the search that is made
module _ (find : Find) (p : PlannedQuery) (bounds : FindIsBounded find) (asked : find.checkpoint ≢ None) (head : CutHead) (own : head ≡ head_in find p)
    (texts : List (List ℕ)) (many : length texts ≡ length find.shards) (from : Mark) (listed : ℕ) (out out' safe safe' : Option (List ℕ)) where
  abbrev IsOwnCut : Cut → Type 0
  IsOwnCut cut = IsCutOf (search_in find p) (slack_told find.slack) texts cut

  abbrev Wrote : Cut → Type 0
  Wrote cut = WroteCounted (search_in find p) texts listed out out' cut

  abbrev Kept : Cut → Type 0
  Kept cut = KeptCounted (search_in find p) texts listed out safe safe' cut

  one_put : (cut : Cut) → IsLaterCut head from cut → IsOwnCut cut → Wrote cut → Kept cut
      → IsPut (search_in find p) texts listed out out' safe safe' cut
  one_put cut later is wrote keeps =
      let same : cut.head ≡ head_in find p = later.head_is ∙ own in
      record {
        head = subst (λ (h : CutHead). IsHeadOf (search_in find p) (length texts) h) (sym same) (head_is find p (length texts) bounds asked many);
        is_cut = subst (λ (slack : ℕ). IsCutOf (search_in find p) slack texts cut) (sym (ap CutHead.slack same)) is;
        wrote = wrote;
        keeps = keeps;
      }

  all_put : (cuts : List Cut) → All (IsLaterCut head from) cuts → All (λ (cut : Cut). IsOwnCut cut) cuts → All Wrote cuts → All Kept cuts
      → All (IsPut (search_in find p) texts listed out out' safe safe') cuts
  all_put [] later are wrote keeps = All-nil (IsPut (search_in find p) texts listed out out' safe safe')
  all_put (cut ∷ cuts) later are wrote keeps =
      All-cons (IsPut (search_in find p) texts listed out out' safe safe') cut cuts
      (one_put cut (All-head (IsLaterCut head from) cut cuts later) (All-head (λ (cut : Cut). IsOwnCut cut) cut cuts are) (All-head Wrote cut cuts wrote)
      (All-head Kept cut cuts keeps))
      (all_put cuts (All-tail (IsLaterCut head from) cut cuts later) (All-tail (λ (cut : Cut). IsOwnCut cut) cut cuts are) (All-tail Wrote cut cuts wrote)
      (All-tail Kept cut cuts keeps))

module _ {S L : Type 0} (go_on : PutsGoOn) (images : ImagesAreThere) (one : DiskHoldsOne) (search_one : SearchIsOne) (find : Find) (p : PlannedQuery)
    (bounds : FindIsBounded find) (disk : Option History) (files : Option Files) (told : Option (List (List ℕ))) (lanes : List (LaneView S L)) (rest : Rest)
    (begun : Begun) (found_so : IsFound find disk begun) (rest_is : rest ≡ rest_by (pipes_of p) (begun.format == 1) begun.cut)
    (runs : Runs find p told lanes rest disk files) (head : CutHead) (own : head ≡ head_in find p) (out out' safe safe' : Option (List ℕ)) where
  -- what the search says of its cuts
  abbrev AreOwn : Option (List (List ℕ)) → List Cut → Type 0
  AreOwn o cuts = AreCutsOf (search_in find p) o rest.book.listed out out' safe safe' (StartsOver told find p lanes rest) cuts

  -- a search that is trusted on the disk is trusted
  trusts_by : (fs : Files) (on : OnDisk) (search : Search) (texts : List (List ℕ)) → find.checkpoint ≢ None → Searches find fs search texts
      → IsTrusted search texts on → Trusts find fs on
  trusts_by fs on search texts asked searches trusted = λ other others also.
      let same = search_one find fs search other texts others searches also in
      subst (λ (d : OnDisk). IsTrusted other others d) (sym (begins_asked find.checkpoint on asked))
      (subst (λ (s : Search). IsTrusted s others on) same.0 (subst (λ (ts : List (List ℕ)). IsTrusted search ts on) same.1 trusted))

  are_put : (cuts : List Cut) (fs : Files) (on : OnDisk) (search : Search) (texts : List (List ℕ)) → find.checkpoint ≢ None
      → TheRun find p told lanes rest fs on → All (IsLaterCut head rest.mark) cuts → AreOwn told cuts
      → Searches find fs search texts → IsTrusted search texts on → length (matches_of search texts) < 2 ^ 64
      → All (IsPut search texts (listed_on on) out out' safe safe') cuts
  are_put cuts fs on search texts asked run later are searches trusted few =
      let same = search_one find fs (search_in find p) search run.texts texts run.searches searches in
      let own_few : length (matches_of (search_in find p) run.texts) < 2 ^ 64 =
      subst (λ (s : Search). length (matches_of s run.texts) < 2 ^ 64) (sym same.0)
      (subst (λ (ts : List (List ℕ)). length (matches_of search ts) < 2 ^ 64) (sym same.1) few) in
      let these = subst (λ (o : Option (List (List ℕ))). AreOwn o cuts) run.told_is are in
      let all = these (run.started (trusts_by fs on search texts asked searches trusted)) own_few (slack_told find.slack) (asked_slack find bounds asked) in
      let many = texts_long find.shards fs run.texts run.searches.there in
      let put = all_put find p bounds asked head own run.texts many rest.mark rest.book.listed out out' safe safe' cuts later all.0 all.1 all.2 in
      let listed : rest.book.listed ≡ listed_on on = run.listed ∙ ap listed_on (begins_asked find.checkpoint on asked) in
      subst (λ (n : ℕ). All (IsPut search texts n out out' safe safe') cuts) listed
      (subst (λ (s : Search). All (IsPut s texts rest.book.listed out out' safe safe') cuts) same.0
      (subst (λ (ts : List (List ℕ)). All (IsPut (search_in find p) ts rest.book.listed out out' safe safe') cuts) same.1 put))

  are_of : (cuts : List Cut) (h : History) → disk ≡ Some h → find.checkpoint ≢ None → All (IsLaterCut head rest.mark) cuts → AreOwn told cuts
      → IfSome files (λ fs. (on : OnDisk) (search : Search) (texts : List (List ℕ)) → DiskHolds (Some h) on
      → Searches find fs search texts → IsTrusted search texts on → length (matches_of search texts) < 2 ^ 64
      → All (IsPut search texts (listed_on on) out out' safe safe') cuts)
  are_of cuts h is asked later are = by files runs
    where
      by : (o : Option Files) → Runs find p told lanes rest disk o → IfSome o (λ fs. (on : OnDisk) (search : Search) (texts : List (List ℕ)) → DiskHolds (Some h) on
          → Searches find fs search texts → IsTrusted search texts on → length (matches_of search texts) < 2 ^ 64
          → All (IsPut search texts (listed_on on) out out' safe safe') cuts)
      by None r = tt
      by (Some fs) r = λ on search texts holds searches trusted few.
          let own_holds = subst (λ (o : Option History). DiskHolds o on) (sym is) holds in
          are_put cuts fs on search texts asked (r on (λ also. own_holds)) later are searches trusted few

  -- the cuts go on from what was found
  going_on : (last : LastCut) (cuts : List Cut) (h j : History) → disk ≡ Some h → find.checkpoint ≢ None → KeepsAll h j → StandsAt last j.now
      → RiseFrom rest.mark cuts → (on : OnDisk) → DiskHolds (Some h) on → (last.generation ≡ generation_on on) × RiseFrom (mark_on on) cuts
  going_on last cuts h j is asked kept stands rise on holds =
      let own_found = subst (λ (o : Option History). IsFound find o begun) is found_so in
      let mark : rest.mark ≡ mark_on on = mark_is p (begun.format == 1) begun.format begun.generation begun.cut rest rest_is
      ∙ ap mark_on (begun_is one find (Some h) begun on own_found asked holds) in
      (began_by images one find begun asked last h j on own_found kept stands holds, subst (λ (m : Mark). RiseFrom m cuts) mark rise)

  by_cuts : (last : LastCut) (cuts : List Cut) (before start now : Option History) → disk ≡ start → find.checkpoint ≢ None
      → DiskTells KeepsAll start before → Stands last before → PutsCuts last cuts before now → All (IsLaterCut head rest.mark) cuts → RiseFrom rest.mark cuts
      → AreOwn told cuts → DiskTells (KeepsCuts find files out out' safe safe') start now
  by_cuts last cuts None None None is asked kept stands puts later rise are = tt
  by_cuts last cuts None None (Some k) is asked kept stands puts later rise are = absurd puts
  by_cuts last cuts (Some j) None now is asked kept stands puts later rise are = absurd kept
  by_cuts last cuts None (Some h) now is asked kept stands puts later rise are = absurd kept
  by_cuts last cuts (Some j) (Some h) None is asked kept stands puts later rise are = absurd puts
  by_cuts last cuts (Some j) (Some h) (Some k) is asked kept stands puts later rise are = record {
    last = last;
    cuts = cuts;
    puts = recovered_puts go_on last cuts (Some h) (Some j) (Some k) (kept_no_more (Some h) (Some j) kept) puts;
    goes_on = λ on holds some. going_on last cuts h j is asked kept stands rise on holds;
    are_of = are_of cuts h is asked later are;
  }

  module _ {D : Type 0} (history : D → Option History) (count : D → ℕ) (r : Result (Unit {0}) FindError) where
    pub keeps_cuts : (keep kept : Option (Keep D)) → find.checkpoint ≢ None → KeepsIfAsked history find.checkpoint keep
        → IsFreshKeep history count disk keep
        → KeepsAs history head rest.mark (AreOwn told) keep kept r
        → DiskTells (KeepsCuts find files out out' safe safe') disk (disk_after history disk kept)
    keeps_cuts None None asked may fresh keeps = absurd (no_keep find.checkpoint asked may)
      where
        no_keep : (c : Option Checkpoint) → c ≢ None → KeepsIfAsked history c None → ⊥
        no_keep None asked h = asked refl
        no_keep (Some c) asked h = h
    keeps_cuts None (Some l) asked may fresh keeps = absurd keeps
    keeps_cuts (Some k) None asked may fresh keeps = absurd keeps
    keeps_cuts (Some k) (Some l) asked may fresh keeps =
        by_cuts (last_cut k.state) keeps.cuts (history k.disk) disk (history l.disk) refl asked fresh.2 fresh.1 keeps.puts keeps.are_later keeps.rise
        keeps.are_cuts

-- a run that put none
pub none_put : {D : Type 0} (history : D → Option History) (count : D → ℕ) → PutsGoOn → (find : Find) (files : Option Files)
    (out out' safe safe' : Option (List ℕ)) (disk : Option History) (keep : Option (Keep D)) → find.checkpoint ≢ None
    → KeepsIfAsked history find.checkpoint keep → IsFreshKeep history count disk keep
    → DiskTells (KeepsCuts find files out out' safe safe') disk (disk_after history disk keep)
none_put history count go_on find files out out' safe safe' disk None asked may fresh = absurd (no_keep find.checkpoint asked may)
  where
    no_keep : (c : Option Checkpoint) → c ≢ None → KeepsIfAsked history c None → ⊥
    no_keep None asked h = asked refl
    no_keep (Some c) asked h = h
none_put history count go_on find files out out' safe safe' disk (Some k) asked may fresh =
    recovered_keeps go_on find files out out' safe safe' disk (history k.disk) (kept_no_more disk (history k.disk) fresh.2)

-- nor changed what the disk stands for
pub none_changed : {D : Type 0} (history : D → Option History) (count : D → ℕ) (disk : Option History) (keep : Option (Keep D))
    → IsFreshKeep history count disk keep → DiskTells (Goes LeavesNoMore) disk (disk_after history disk keep)
none_changed history count disk None fresh = same_no_more disk disk refl
none_changed history count disk (Some k) fresh = kept_no_more disk (history k.disk) fresh.2

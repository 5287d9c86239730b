-- A run whose lanes were made, in the words of runs: what it writes, and why it stops.
use Rattle.std.proofs.Common.{◌≡◌, ◌≢◌, ◌==◌, inr, ℕ, Bool, List, Option, Some, None, refl, sym, ap, ◌∙◌, subst}
use Rattle.std.specs.Prelude.{IfSome}
use Rattle.std.proofs.lemmas.Option.{none-some}
use Rattle.eql_values.specs.declared.cut.Counts.{Counts}
use Rattle.eql_outside.specs.Moments.{History}
use Rattle.eql_outside.specs.Written.{WroteAll, WroteFront}
use Rattle.eql_words.specs.declared.commands.Checkpoint.{Checkpoint}
use Rattle.eql_words.specs.declared.commands.Find.{Find}
use Rattle.eql_lane.specs.Views.{LaneView}
use Rattle.eql_cut.specs.declared.cut.Cut.{Cut}
use Rattle.eql_resume.specs.Beginnings.{Rest, rest_by}
use Rattle.eql_resume.specs.Finding.{disk_holding}
use Rattle.eql_runs.specs.CutRefusals.{IsTested}
use Rattle.eql_runs.specs.Files.{Files}
use Rattle.eql_runs.specs.RunLaws.{SearchIsOne, TestedIsAccepted}
use Rattle.eql_runs.specs.Runs.{Finds, IsFindAccepted, Searches, Trusts}
use Rattle.eql_runs.specs.Searches.{Search, rest_of, report_lines, report_of, shard_counts_from}
use Rattle.eql_runs.specs.Starts.{BeginsWith, DiskHolds, OnDisk, listed_on, start_asked, start_for}
use Rattle.eql_find.specs.declared.plan.PlannedQuery.{PlannedQuery}
use Rattle.eql_find.specs.Finding.{FindsAll, FindsListing, FindsSome, IsReportOf}
use Rattle.eql_find.specs.Running.{StartsOver}
use Rattle.eql_find.specs.Searching.{BeganWith, search_in}
use Rattle.eql_find.specs.Starting.{Begun, IsOwn, on_begun, pipes_of}
use Rattle.eql_find.proofs.TextLemmas.{begins_asked}

-- a run that is accepted and trusted begins with what its disk holds
begins_so : SearchIsOne → (find : Find) (p : PlannedQuery) (fs : Files) (on : OnDisk) (texts : List (List ℕ))
    → Searches find fs (search_in find p) texts → IsFindAccepted find fs on → Trusts find fs on
    → BeginsWith (search_in find p) texts (start_for find on)
begins_so search_one find p fs on texts searches accepted trusts =
    let finds = (accepted.writes trusts).2 in
    let same = search_one find fs finds.search (search_in find p) finds.texts texts finds.searches searches in
    subst (λ (s : Search). BeginsWith s texts (start_for find on)) same.0
    (subst (λ (ts : List (List ℕ)). BeginsWith finds.search ts (start_for find on)) same.1 finds.begins)

-- with what a run begins, by its words and its disk
pub start_is : (find : Find) (format generation : ℕ) (o : Option Cut) (on : OnDisk) → IfSome o (λ cut. find.checkpoint ≢ None)
    → (find.checkpoint ≢ None → disk_holding format generation o ≡ on) → start_for find on ≡ disk_holding format generation o
start_is find format generation (Some cut) on asked same = begins_asked find.checkpoint on asked ∙ sym (same asked)
start_is find format generation None on asked same = by find.checkpoint same
  where
    by : (c : Option Checkpoint) → (c ≢ None → disk_holding format generation None ≡ on) → start_asked c on ≡ disk_holding format generation None
    by None same = refl
    by (Some c) same = sym (same (λ gone. none-some c (sym gone)))

-- how many lines of the listing were written before
listed_is : (p : PlannedQuery) (u : Bool) (format generation : ℕ) (o : Option Cut) (rest : Rest) → rest ≡ rest_by (pipes_of p) u o
    → rest.book.listed ≡ listed_on (disk_holding format generation o)
listed_is p u format generation None rest is = ap (λ (r : Rest). r.book.listed) is
listed_is p u format generation (Some cut) rest is = ap (λ (r : Rest). r.book.listed) is

-- a run over these files and this disk
pub record TheRun {S L : Type 0} (find : Find) (p : PlannedQuery) (told : Option (List (List ℕ))) (lanes : List (LaneView S L)) (rest : Rest)
    (fs : Files) (on : OnDisk) : Type 0 where
  pub texts : List (List ℕ)
  pub told_is : told ≡ Some texts
  pub searches : Searches find fs (search_in find p) texts
  pub accepted : IsFindAccepted find fs on
  pub begins : Trusts find fs on → BeginsWith (search_in find p) texts (start_for find on)
  pub started : Trusts find fs on → StartsOver told find p lanes rest texts
  pub listed : rest.book.listed ≡ listed_on (start_for find on)

module _ {S L : Type 0} (law : TestedIsAccepted) (search_one : SearchIsOne) (find : Find) (p : PlannedQuery) (told : Option (List (List ℕ))) (lanes : List (LaneView S L)) (rest : Rest)
    (begun : Begun) (own : IsOwn find p begun) (began : BeganWith told begun.format begun.cut lanes)
    (rest_is : rest ≡ rest_by (pipes_of p) (begun.format == 1) begun.cut) where
  pub the_run : (fs : Files) (on : OnDisk) (texts : List (List ℕ)) → told ≡ Some texts → Searches find fs (search_in find p) texts
      → (find.checkpoint ≢ None → on_begun begun ≡ on) → IsTested (search_in find p) texts (start_for find on) → TheRun find p told lanes rest fs on
  the_run fs on texts told_is searches same tested =
      let start = start_is find begun.format begun.generation begun.cut on own.asked same in
      let accepted = law find fs on (search_in find p) texts searches tested in
      let begins : Trusts find fs on → BeginsWith (search_in find p) texts (start_for find on) =
      λ trusts. begins_so search_one find p fs on texts searches accepted trusts in
      record {
        texts = texts;
        told_is = told_is;
        searches = searches;
        accepted = accepted;
        begins = begins;
        started = λ trusts. record {
          begun = begun;
          own = own;
          began = began;
          rest_is = rest_is;
          begins = subst (λ (o : OnDisk). BeginsWith (search_in find p) texts o) start (begins trusts);
        };
        listed = listed_is p (begun.format == 1) begun.format begun.generation begun.cut rest rest_is ∙ ap listed_on (sym start);
      }

-- ---- what it writes
abbrev Wrote : {S L : Type 0} → (find : Find) (p : PlannedQuery) (told : Option (List (List ℕ))) (lanes : List (LaneView S L)) (rest : Rest)
    → (List ℕ → List ℕ → Type 0) → Type 0
Wrote find p told lanes rest Got =
    IfSome told (λ ts. StartsOver told find p lanes rest ts
    → Got (rest_of (search_in find p) rest.book.listed ts) (report_of (search_in find p) ts))

module _ {S L : Type 0} (find : Find) (p : PlannedQuery) (told : Option (List (List ℕ))) (lanes : List (LaneView S L)) (rest : Rest)
    (disk : Option History) where
  -- a search of these files, with the bytes that were got
  found_by : (Got : List ℕ → List ℕ → Type 0) (fs : Files) (on : OnDisk) → Wrote find p told lanes rest Got → TheRun find p told lanes rest fs on
      → Trusts find fs on → (bytes : List ℕ) × (report : List ℕ) × Finds find fs on bytes report × Got bytes report
  found_by Got fs on wrote run trusts =
      let own = subst (λ (o : Option (List (List ℕ))). IfSome o (λ ts. StartsOver told find p lanes rest ts
      → Got (rest_of (search_in find p) rest.book.listed ts) (report_of (search_in find p) ts))) run.told_is wrote in (
        rest_of (search_in find p) (listed_on (start_for find on)) run.texts,
        report_of (search_in find p) run.texts,
        record {
          search = search_in find p;
          texts = run.texts;
          searches = run.searches;
          begins = run.begins trusts;
          bytes_are = refl;
          report_is = refl;
        },
        subst (λ (n : ℕ). Got (rest_of (search_in find p) n run.texts) (report_of (search_in find p) run.texts)) run.listed (own (run.started trusts)),
      )

  abbrev pub Runs : Option Files → Type 0
  Runs files = IfSome files (λ fs. (on : OnDisk) → (find.checkpoint ≢ None → DiskHolds disk on) → TheRun find p told lanes rest fs on)

  pub found_all : (files : Option Files) (out out' err err' : Option (List ℕ)) → Runs files
      → Wrote find p told lanes rest (λ bytes report. WroteAll bytes out out' × WroteAll report err err') → FindsAll find files disk out out' err err'
  found_all None out out' err err' runs wrote = tt
  found_all (Some fs) out out' err err' runs wrote = λ on holds trusts.
      let f = found_by (λ bytes report. WroteAll bytes out out' × WroteAll report err err') fs on wrote (runs on holds) trusts in
      (f.0, f.1, f.2, f.3.0, f.3.1)

  pub found_listing : (files : Option Files) (out out' : Option (List ℕ)) → Runs files
      → Wrote find p told lanes rest (λ bytes report. WroteAll bytes out out') → FindsListing find files disk out out'
  found_listing None out out' runs wrote = tt
  found_listing (Some fs) out out' runs wrote = λ on holds trusts. found_by (λ bytes report. WroteAll bytes out out') fs on wrote (runs on holds) trusts

  pub found_some : (files : Option Files) (out out' : Option (List ℕ)) → Runs files
      → Wrote find p told lanes rest (λ bytes report. WroteFront bytes out out') → FindsSome find files disk out out'
  found_some None out out' runs wrote = tt
  found_some (Some fs) None out' runs wrote = λ on holds trusts. tt
  found_some (Some fs) (Some w) out' runs wrote = λ on holds trusts.
      inr (found_by (λ bytes report. WroteFront bytes (Some w) out') fs on wrote (runs on holds) trusts)

  -- ---- a report of which a front was written
  pub report_is : (report : List ℕ) (counts : List Counts) (fs : Files) (on : OnDisk) → report ≡ report_lines 0 counts
      → IfSome told (λ ts. StartsOver told find p lanes rest ts → counts ≡ shard_counts_from (search_in find p) 0 ts)
      → TheRun find p told lanes rest fs on → IsReportOf find report fs on
  report_is report counts fs on lines counted run = record {
    accepted = run.accepted;
    reported = λ trusts.
        let own = subst (λ (o : Option (List (List ℕ))). IfSome o (λ ts. StartsOver told find p lanes rest ts
        → counts ≡ shard_counts_from (search_in find p) 0 ts)) run.told_is counted (run.started trusts) in (
          rest_of (search_in find p) (listed_on (start_for find on)) run.texts,
          record {
            search = search_in find p;
            texts = run.texts;
            searches = run.searches;
            begins = run.begins trusts;
            bytes_are = refl;
            report_is = lines ∙ ap (report_lines 0) own;
          },
        );
  }

-- What a run of `find` writes, and the causes for which it stops.
use Rattle.std.specs.Prelude.{◌≡◌, ◌≢◌, ◌<◌, ◌⊎◌, ℕ, List, [], ◌∷◌, length, Option, None, Some, IfSome}
use Rattle.eql_values.specs.declared.cut.Counts.{Counts}
use Rattle.eql_outside.specs.Written.{WroteAll, WroteFront}
use Rattle.eql_words.specs.declared.commands.Find.{Find}
use Rattle.eql_runs.specs.Files.{Files}
use Rattle.eql_runs.specs.Refusals.{Names}
use Rattle.eql_outside.specs.Moments.{History}
use Rattle.eql_runs.specs.Runs.{Finds, GenerationsEnd, IfFound, IsFindAccepted, RefusesCut, Searches, SearchesBeyond, Trusts, shard_of}
use Rattle.eql_runs.specs.Runs as runs
use Rattle.eql_runs.specs.Searches.{Search, report_lines}
use Rattle.eql_runs.specs.Starts.{OnDisk}
use Rattle.eql_inputs.specs.Errors as inputs
use Rattle.eql_inputs.specs.Steps.{GotChecked}
use Rattle.eql_query.specs.QueryTree.{query_tree}
use Rattle.eql_check.specs.Kinds.{kind_at}
use Rattle.eql_check.specs.Used.{used_fields}
use Rattle.eql_outside.specs.Outside.{AppendsSome, file_named}
use Rattle.eql_find.specs.declared.plan.PlannedQuery.{PlannedQuery}
use Rattle.eql_find.specs.declared.error.FindError.{FindError}
use Rattle.eql_find.specs.declared.error.FindError.TheVariants as run
use Rattle.eql_find.specs.Errors.{cut_refusal_of, limit_of}

-- the files that a search names
abbrev pub names_in : Find → Names
names_in find = record { query = find.query; fields = find.fields; shards = find.shards }

-- where files and disk are told, and the disk is trusted, the run was one that writes a listing and a report, and where the sinks
-- tell too they got just these
abbrev pub FindsAll : Find → Option Files → Option History → (out out' err err' : Option (List ℕ)) → Type 0
FindsAll find files disk out out' err err' =
    IfFound find files disk (λ fs on. Trusts find fs on
    → (bytes : List ℕ) × (report : List ℕ) × Finds find fs on bytes report
    × WroteAll bytes out out' × WroteAll report err err')

-- where they are told, and so is the output, it got nothing, or a front of the listing
abbrev pub FindsSome : Find → Option Files → Option History → (out out' : Option (List ℕ)) → Type 0
FindsSome find files disk out out' =
    IfFound find files disk (λ fs on. Trusts find fs on → IfSome out (λ w.
    (out' ≡ Some w)
    ⊎ ((bytes : List ℕ) × (report : List ℕ) × Finds find fs on bytes report × AppendsSome w bytes out')))

-- where they are told, and the disk is trusted, the run was one that writes a listing, and where the output tells too it got just this
abbrev pub FindsListing : Find → Option Files → Option History → (out out' : Option (List ℕ)) → Type 0
FindsListing find files disk out out' =
    IfFound find files disk (λ fs on. Trusts find fs on
    → (bytes : List ℕ) × (report : List ℕ) × Finds find fs on bytes report × WroteAll bytes out out')

-- this report is that of the run
pub record IsReportOf (find : Find) (report : List ℕ) (files : Files) (on : OnDisk) : Type 0 where
  pub accepted : IsFindAccepted find files on
  pub reported : Trusts find files on → (bytes : List ℕ) × Finds find files on bytes report

-- a report with a line for each shard, of which the error output got a front; where files and disk are told, it is that of the run
pub record ReportsFront (find : Find) (files : Option Files) (disk : Option History) (err err' : Option (List ℕ)) : Type 0 where
  pub report : List ℕ
  pub counts : List Counts
  pub count : length counts ≡ length find.shards
  pub lines : report ≡ report_lines 0 counts
  pub is_report : IfFound find files disk (IsReportOf find report)
  pub wrote : WroteFront report err err'

-- a shard of the search is beyond the limit, and nothing refuses the run
pub record GoesTooFar (find : Find) (limit : runs.ShardLimit) (files : Files) (on : OnDisk) : Type 0 where
  pub accepted : IsFindAccepted find files on
  pub beyond : SearchesBeyond find files on limit

-- why a run stopped, by its files, and by its disk before and now
abbrev pub HasFindCause : Find → Option Files → (disk now : Option History) → (err err' : Option (List ℕ)) → FindError → Type 0
HasFindCause find files disk now err err' (run.Files h) = inputs.HasInputCause (names_in find) files h
HasFindCause find files disk now err err' (run.Cut r) =
    (find.checkpoint ≢ None) × IfFound find files disk (λ fs on. RefusesCut find fs on (cut_refusal_of r))
HasFindCause find files disk now err err' (run.Held why) =
    (find.checkpoint ≢ None) × IfSome files (λ fs. (search : Search) × (texts : List (List ℕ)) × Searches find fs search texts)
HasFindCause find files disk now err err' run.Disk =
    (find.checkpoint ≢ None) × IfSome files (λ fs. (search : Search) × (texts : List (List ℕ)) × Searches find fs search texts)
HasFindCause find files disk now err err' run.Write = IfFound find files disk (IsFindAccepted find)
HasFindCause find files disk now err err' (run.Limit l) =
    (shard_of (limit_of l) < length find.shards) × IfFound find files disk (GoesTooFar find (limit_of l))
HasFindCause find files disk now err err' run.Generation =
    (find.checkpoint ≢ None) × IfFound find files disk (IsFindAccepted find) × GenerationsEnd disk now
HasFindCause find files disk now err err' (run.Report r) = ReportsFront find files disk err err'

-- what is searched for by these words: a query that is checked against the mapping that the files hold
pub record IsPlanOf (find : Find) (files : Option Files) (p : PlannedQuery) : Type 0 where
  pub got : GotChecked find.query find.fields files (query_tree p.plan.checked.query) p.mapping
  pub fields : p.plan.checked.fields ≡ used_fields (kind_at p.mapping) (query_tree p.plan.checked.query)
  pub tie : p.plan.tie ≡ find.tie

-- the texts of the shards, where the shelf tells its files and all are there
abbrev pub text_told : Option (List ℕ) → Option (List (List ℕ)) → Option (List (List ℕ))
text_told (Some text) (Some texts) = Some (text ∷ texts)
text_told (Some text) None = None
text_told None texts = None

abbrev pub texts_in : Files → List (List ℕ) → Option (List (List ℕ))
texts_in files [] = Some []
texts_in files (name ∷ names) = text_told (file_named name files) (texts_in files names)

abbrev pub texts_told : Option Files → List (List ℕ) → Option (List (List ℕ))
texts_told None names = None
texts_told (Some files) names = texts_in files names

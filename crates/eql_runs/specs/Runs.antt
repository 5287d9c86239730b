-- What a run of the program writes, and what it tells: the words of the clauses of the top call.
use Rattle.std.specs.Prelude.{◌≡◌, ◌≢◌, ◌≤◌, ◌<◌, ◌⊎◌, ◌+◌, ◌^◌, ◌++◌, ℕ, List, [], ◌∷◌, length, Option, Some, None, IfSome, IsSomeAnd, All, drop, take, encode_utf8_all, codes}
use Rattle.std.specs.Fmt.{decimal}
use Rattle.std.specs.List.{slice_get}
use Rattle.eql_values.specs.declared.value.Kind.{Kind}
use Rattle.eql_values.specs.Lines.{lines_of}
use Rattle.eql_outside.specs.declared.refused.DiskHeld.{DiskHeld}
use Rattle.eql_outside.specs.Outside.{Rose, AppendsSome}
use Rattle.eql_outside.specs.Written.{WroteFront, WroteThrough}
use Rattle.eql_outside.specs.Written as written
use Rattle.eql_laws.specs.Counting.{greatest_lines, greatest_bytes}
use Rattle.eql_query.specs.QueryTree.{QueryTree}
use Rattle.eql_parser.specs.Printed.{query_shown}
use Rattle.eql_words.specs.declared.commands.Command.{Command}
use Rattle.eql_words.specs.declared.commands.Command.TheVariants as command
use Rattle.eql_words.specs.declared.commands.Find.{Find}
use Rattle.eql_words.specs.Commands.{command_of}
use Rattle.eql_words.specs.Usage.{usage_text}
use Rattle.eql_values.specs.declared.cut.Counts.{Counts}
use Rattle.eql_values.specs.declared.cut.LaneCut.{LaneCut}
use Rattle.eql_outside.specs.Moments.{History}
use Rattle.eql_book.specs.Listing.{listing}
use Rattle.eql_cut.specs.declared.cut.Cut.{Cut}
use Rattle.eql_cut.specs.Rising.{RiseFrom}
use Rattle.eql_ckdisk.specs.Found.{LastCut}
use Rattle.eql_ckdisk.specs.Runs.{PutsAll}
use Rattle.eql_runs.specs.Searches.{Search, listed_of, matches_of, rest_of, report_of, report_lines}
use Rattle.eql_runs.specs.Starts.{OnDisk, nothing_kept, a_cut, bad_head, bad_text, not_ours, DiskHolds, generation_on, listed_on, mark_on, start_for, BeginsWith, IsTrusted, IsHeadOf, IsCutOf}
use Rattle.eql_runs.specs.CutRefusals.{CutRefusal, CutRefuses, held_text}
use Rattle.eql_runs.specs.Summaries.{Makes}
use Rattle.eql_runs.specs.Files.{Files, first_missing, HasQuery, HasChecked, HasTexts, IsWithin}
use Rattle.eql_runs.specs.Refusals.{Names, Refusal, Refuses, refusal_status, refusal_text, printed_name}
use Rattle.eql_runs.specs.Refusals as refusal

-- the files that a command names
abbrev pub names_of : Command → Option Names
names_of (command.Find f) = Some (record { query = f.query; fields = f.fields; shards = f.shards })
names_of (command.Check query fields) = Some (record { query = query; fields = fields; shards = [] })
names_of (command.Made hands events) = None

-- the files over which a command runs, where they are known: those that the shelf tells, and for one
-- that names none no files
abbrev pub files_for : Command → Option Files → Option Files
files_for (command.Find f) told = told
files_for (command.Check query fields) told = told
files_for (command.Made hands events) told = Some []

abbrev pub files_known : Option Command → Option Files → Option Files
files_known None told = told
files_known (Some command) told = files_for command told

-- the files over which these words run
abbrev pub files_over : List (List ℕ) → Option Files → Option Files
files_over words told = files_known (command_of words) told

-- the files of a command are there, its query is checked, and so it is this search over these texts
pub record Searches (find : Find) (files : Files) (search : Search) (texts : List (List ℕ)) : Type 0 where
  pub checked : HasChecked find.query find.fields files search.query search.mapping
  pub tie : search.tie ≡ find.tie
  pub slack : search.slack ≡ find.slack
  pub places : search.places ≡ find.places
  pub there : HasTexts find.shards files texts

-- a run of `find` begins with what the disk of its checkpoint holds, and writes the listing on its output from the line after
-- those that are counted there, and the report beside it
pub record Finds (find : Find) (files : Files) (on : OnDisk) (bytes report : List ℕ) : Type 0 where
  pub search : Search
  pub texts : List (List ℕ)
  pub searches : Searches find files search texts
  pub begins : BeginsWith search texts (start_for find on)
  pub bytes_are : bytes ≡ rest_of search (listed_on (start_for find on)) texts
  pub report_is : report ≡ report_of search texts

-- a run of `check` writes the canonical text of its query
pub record Prints (query fields : List ℕ) (files : Files) (bytes report : List ℕ) : Type 0 where
  pub tree : QueryTree
  pub kinds : List (List ℕ × Kind)
  pub checked : HasChecked query fields files tree kinds
  pub bytes_are : bytes ≡ encode_utf8_all (query_shown tree) ++ codes "\n"
  pub report_is : report ≡ []

-- a run of a command writes these bytes on its output, and this report
abbrev pub Runs : Command → Files → OnDisk → (bytes report : List ℕ) → Type 0
Runs (command.Find f) files on bytes report = Finds f files on bytes report
Runs (command.Check query fields) files on bytes report = Prints query fields files bytes report
Runs (command.Made hands events) files on bytes report = Makes events bytes report

-- a run of these words, which are a command, writes these bytes, and this report
pub record Writes (words : List (List ℕ)) (files : Files) (on : OnDisk) (bytes report : List ℕ) : Type 0 where
  pub command : Command
  pub is_command : command_of words ≡ Some command
  pub runs : Runs command files on bytes report

-- what the disk of a checkpoint holds is refused by a search whose files are accepted
pub record RefusesCut (find : Find) (files : Files) (on : OnDisk) (r : CutRefusal) : Type 0 where
  pub search : Search
  pub texts : List (List ℕ)
  pub searches : Searches find files search texts
  pub refuses : CutRefuses search texts (start_for find on) r

-- the words, the files and what the disk holds are refused for this cause
pub data IsRefused (words : List (List ℕ)) (files : Files) (on : OnDisk) : Refusal → Type 0 where
  by_files :
      (command : Command) → command_of words ≡ Some command → (names : Names)
      → names_of command ≡ Some names → (r : Refusal) → Refuses names files r
      → IsRefused words files on r
  by_cut :
      (find : Find) → command_of words ≡ Some (command.Find find) → (r : CutRefusal)
      → RefusesCut find files on r → IsRefused words files on (refusal.cut r)

-- ---- what is known of files and disk
-- the command keeps its state on a disk
abbrev pub AsksDisk : Command → Type 0
AsksDisk (command.Find f) = f.checkpoint ≢ None
AsksDisk (command.Check query fields) = ⊥
AsksDisk (command.Made hands events) = ⊥

abbrev pub AskDisk : List (List ℕ) → Type 0
AskDisk words = (command : Command) × (command_of words ≡ Some command) × AsksDisk command

-- what holds of the files over which the words run, and of what their checkpoint's disk holds, where these are told
abbrev pub IfTold : List (List ℕ) → Option Files → Option History → (Files → OnDisk → Type 0) → Type 0
IfTold words files disk fact =
    IfSome (files_over words files) (λ fs. (on : OnDisk) → (AskDisk words → DiskHolds disk on) → fact fs on)

-- the same of a search
abbrev pub IfFound : Find → Option Files → Option History → (Files → OnDisk → Type 0) → Type 0
IfFound find files disk fact =
    IfSome files (λ fs. (on : OnDisk) → (find.checkpoint ≢ None → DiskHolds disk on) → fact fs on)

-- the premise of the headline: what the disk holds of a search is trusted
abbrev pub Trusts : Find → Files → OnDisk → Type 0
Trusts find files on =
    (search : Search) (texts : List (List ℕ)) → Searches find files search texts
    → IsTrusted search texts (start_for find on)

abbrev pub AreTrusted : List (List ℕ) → Files → OnDisk → Type 0
AreTrusted words files on =
    (find : Find) → command_of words ≡ Some (command.Find find) → Trusts find files on

-- a search that neither its files nor its disk refuse; where the disk is trusted, it is one that writes
pub record IsFindAccepted (find : Find) (files : Files) (on : OnDisk) : Type 0 where
  pub files_accepted : (names : Names) → names_of (command.Find find) ≡ Some names → (r : Refusal) → ¬ (Refuses names files r)
  pub cut_accepted : (r : CutRefusal) → ¬ (RefusesCut find files on r)
  pub writes : Trusts find files on → (bytes : List ℕ) × (report : List ℕ) × Finds find files on bytes report

-- the command names this file
abbrev pub IsNamed : Names → List ℕ → Type 0
IsNamed names name =
    (name ≡ names.query) ⊎ (name ≡ names.fields)
    ⊎ ((before after : List (List ℕ)) × (names.shards ≡ before ++ name ∷ after))

-- a run comes to the file of this name: the files before it are there and are accepted
pub data Reaches (names : Names) (files : Files) : List ℕ → Type 0 where
  query_file : Reaches names files names.query
  fields_file : (q : QueryTree) → HasQuery names.query files q → Reaches names files names.fields
  shard_file :
      (q : QueryTree) (kinds : List (List ℕ × Kind))
      → HasChecked names.query names.fields files q kinds → (before : List (List ℕ)) (name : List ℕ)
      → (after : List (List ℕ)) → names.shards ≡ before ++ name ∷ after
      → first_missing files before ≡ None → Reaches names files name

-- a limit that a shard, by its number, may reach
pub data ShardLimit : Type 0 where
  many_lines : ℕ → ShardLimit
  many_bytes : ℕ → ShardLimit

abbrev pub shard_of : ShardLimit → ℕ
shard_of (many_lines shard) = shard
shard_of (many_bytes shard) = shard

-- the line that is told of it
abbrev pub limit_text : ShardLimit → List ℕ
limit_text (many_lines shard) = codes "limit: lines shard " ++ decimal shard ++ codes "\n"
limit_text (many_bytes shard) = codes "limit: bytes shard " ++ decimal shard ++ codes "\n"

-- how many lines of a shard are counted where a run begins, and how many bytes it passes over
abbrev pub lines_before : Option LaneCut → ℕ
lines_before None = 0
lines_before (Some lane) = lane.counts.lines

abbrev pub bytes_before : Option LaneCut → ℕ
bytes_before None = 0
bytes_before (Some lane) = lane.offset

-- what a run begins with of a shard
abbrev pub lane_on : OnDisk → (shard : ℕ) → Option LaneCut
lane_on nothing_kept shard = None
lane_on (a_cut format generation cut) shard = slice_get cut.lanes shard
lane_on (bad_head area) shard = None
lane_on (bad_text area) shard = None
lane_on (not_ours area) shard = None

-- a text is beyond the limit: the lines that were counted and those behind them are too many, or there are too many bytes
abbrev pub GoesBeyond : ShardLimit → Option LaneCut → List ℕ → Type 0
GoesBeyond (many_lines shard) lane text =
    greatest_lines < lines_before lane + length (lines_of (drop (bytes_before lane) text))
GoesBeyond (many_bytes shard) lane text = greatest_bytes ≤ length text

-- the shard of the limit is beyond it
abbrev pub IsBeyond : List (List ℕ) → OnDisk → ShardLimit → Type 0
IsBeyond texts on limit =
    (text : List ℕ) × (slice_get texts (shard_of limit) ≡ Some text)
    × GoesBeyond limit (lane_on on (shard_of limit)) text

-- the shards of a search, one of which is beyond the limit
pub record SearchesBeyond (find : Find) (files : Files) (on : OnDisk) (limit : ShardLimit) : Type 0 where
  pub search : Search
  pub texts : List (List ℕ)
  pub searches : Searches find files search texts
  pub beyond : IsBeyond texts (start_for find on) limit

-- the generations of a disk came to their end: those that were there began so far up, and it holds a cut of the last one
pub record GenerationsEnd (disk now : Option History) : Type 0 where
  pub began : (on : OnDisk) → DiskHolds disk on → 2 ^ 62 ≤ generation_on on
  pub ended : IfSome now (λ h. (on : OnDisk) × DiskHolds now on × (generation_on on ≡ 2 ^ 63))

-- a refusal that is told of a file names a file of the command
abbrev pub NamesOwn : Names → Refusal → Type 0
NamesOwn names (refusal.no_file name) = IsNamed names name
NamesOwn names _ = Unit {0}

-- a run that neither its files nor its disk refuse; where the disk is trusted, it is one that writes
pub record IsAccepted (words : List (List ℕ)) (files : Files) (on : OnDisk) : Type 0 where
  pub accepts : (r : Refusal) → ¬ (IsRefused words files on r)
  pub writes : AreTrusted words files on → (bytes : List ℕ) × (report : List ℕ) × Writes words files on bytes report

-- this report is that of the run
pub record IsReportOf (words : List (List ℕ)) (report : List ℕ) (files : Files) (on : OnDisk) : Type 0 where
  pub accepted : IsAccepted words files on
  pub reported : AreTrusted words files on → (bytes : List ℕ) × Writes words files on bytes report

-- the report of a run of these words: a line for each shard; where files and disk are told, it is that of the run
pub record ReportsOn (words : List (List ℕ)) (files : Option Files) (disk : Option History) (report : List ℕ) : Type 0 where
  pub find : Find
  pub is_find : command_of words ≡ Some (command.Find find)
  pub counts : List Counts
  pub count : length counts ≡ length find.shards
  pub lines : report ≡ report_lines 0 counts
  pub is_report : IfTold words files disk (IsReportOf words report)

-- a shard of the search that the words ask for is beyond the limit, and nothing refuses the run
pub record GoesTooFar (words : List (List ℕ)) (find : Find) (limit : ShardLimit) (files : Files) (on : OnDisk) : Type 0 where
  pub accepted : IsAccepted words files on
  pub beyond : SearchesBeyond find files on limit

-- a run of these words that ends with this status, above 0, has this text to tell: its cause holds
-- of the words, of the files and the disk where they are told, and of counts before and after: of the
-- faults of each file's name, and of how often the disk was held for each reason
pub data Tells (words : List (List ℕ)) (files : Option Files) (disk now : Option History) (before after : List ℕ → ℕ)
    (held held' : DiskHeld → ℕ) : ℕ → List ℕ → Type 0 where
  usage : command_of words ≡ None → Tells words files disk now before after held held' 2 usage_text
  refused :
      (command : Command) → command_of words ≡ Some command → (names : Names)
      → names_of command ≡ Some names → (r : Refusal) → NamesOwn names r
      → IfSome files (λ fs. Refuses names fs r)
      → Tells words files disk now before after held held' (refusal_status r) (refusal_text r)
  cut_refused :
      AskDisk words → (r : CutRefusal) → IfTold words files disk (λ fs on. IsRefused words fs on (refusal.cut r))
      → Tells words files disk now before after held held' 7 (refusal_text (refusal.cut r))
  read_fault :
      (command : Command) → command_of words ≡ Some command → (names : Names)
      → names_of command ≡ Some names → (name : List ℕ) → IsNamed names name
      → Rose (before name) (after name) → IfSome files (λ fs. Reaches names fs name)
      → Tells words files disk now before after held held' 4 (codes "read fault: " ++ printed_name name ++ codes "\n")
  write_fault :
      IfTold words files disk (IsAccepted words)
      → Tells words files disk now before after held held' 5 (codes "write fault\n")
  report_refused :
      (report : List ℕ) → ReportsOn words files disk report
      → Tells words files disk now before after held held' 5 report
  disk_held :
      (find : Find) → command_of words ≡ Some (command.Find find) → find.checkpoint ≢ None
      → IfSome files (λ fs. (search : Search) × (texts : List (List ℕ)) × Searches find fs search texts)
      → (why : DiskHeld) → Rose (held why) (held' why)
      → Tells words files disk now before after held held' 7 (held_text why)
  disk_fault :
      (find : Find) → command_of words ≡ Some (command.Find find) → find.checkpoint ≢ None
      → IfSome files (λ fs. (search : Search) × (texts : List (List ℕ)) × Searches find fs search texts)
      → Tells words files disk now before after held held' 6 (codes "checkpoint disk fault\n")
  memory : Tells words files disk now before after held held' 8 (codes "out of memory\n")
  report_unmade :
      (report : List ℕ) → ReportsOn words files disk report
      → Tells words files disk now before after held held' 8 report
  limit :
      (find : Find) → command_of words ≡ Some (command.Find find) → (limit : ShardLimit)
      → shard_of limit < length find.shards → IfTold words files disk (GoesTooFar words find limit)
      → Tells words files disk now before after held held' 9 (limit_text limit)
  generation :
      AskDisk words → IfTold words files disk (IsAccepted words) → GenerationsEnd disk now
      → Tells words files disk now before after held held' 9 (codes "limit: generation\n")

-- where files and disk are told, the run was one that writes bytes and a report, and where the sinks
-- tell too they got just these. A cut that was found is trusted
abbrev pub WroteAll : List (List ℕ) → Option Files → Option History → (out out' err err' : Option (List ℕ)) → Type 0
WroteAll words files disk out out' err err' =
    IfTold words files disk (λ fs on. AreTrusted words fs on
    → (bytes : List ℕ) × (report : List ℕ) × Writes words fs on bytes report
    × written.WroteAll bytes out out' × written.WroteAll report err err')

-- where they are told and the output tells, it got nothing, or a front of what the run writes
abbrev pub WroteSome : List (List ℕ) → Option Files → Option History → (out out' : Option (List ℕ)) → Type 0
WroteSome words files disk out out' =
    IfTold words files disk (λ fs on. AreTrusted words fs on → IfSome out (λ w.
    (out' ≡ Some w)
    ⊎ ((bytes : List ℕ) × (report : List ℕ) × Writes words fs on bytes report × AppendsSome w bytes out')))

-- where they are told, the run was one that writes bytes, and where the output tells it got just these, whatever the error
-- output got. A cut that was found is trusted
abbrev pub WroteListing : List (List ℕ) → Option Files → Option History → (out out' : Option (List ℕ)) → Type 0
WroteListing words files disk out out' =
    IfTold words files disk (λ fs on. AreTrusted words fs on
    → (bytes : List ℕ) × (report : List ℕ) × Writes words fs on bytes report × written.WroteAll bytes out out')

-- a run of this status told a text whose cause holds, or a front of it, which may be empty
abbrev pub TellsFront :
    List (List ℕ) → Option Files → (disk now : Option History) → (before after : List ℕ → ℕ)
    → (held held' : DiskHeld → ℕ) → ℕ → (err err' : Option (List ℕ)) → Type 0
TellsFront words files disk now before after held held' status err err' =
    (text : List ℕ) × Tells words files disk now before after held held' status text × WroteFront text err err'

-- each shard of the search that the words ask for can be read to its end
abbrev pub AreWithin : List (List ℕ) → Files → Type 0
AreWithin words files =
    (find : Find) (search : Search) (texts : List (List ℕ)) → command_of words ≡ Some (command.Find find)
    → Searches find files search texts → All IsWithin texts

-- the words, the files and what the disk holds are such that a run writes bytes, within the limits
pub record CanRun (words : List (List ℕ)) (files : Files) (on : OnDisk) : Type 0 where
  pub writes : (bytes : List ℕ) × (report : List ℕ) × Writes words files on bytes report
  pub within : AreWithin words files
  pub generation : generation_on on < 2 ^ 62

abbrev pub IsReady : List (List ℕ) → Option Files → Option History → Type 0
IsReady words files disk =
    IsSomeAnd (files_over words files) (λ fs. (on : OnDisk) × (AskDisk words → DiskHolds disk on) × CanRun words fs on)

-- where words, files and disk are refused, the status is that of the cause, or memory ran out
abbrev pub IsRefusedAs : List (List ℕ) → Option Files → Option History → ℕ → Type 0
IsRefusedAs words files disk status =
    IfSome files (λ fs. (on : OnDisk) (r : Refusal) → (AskDisk words → DiskHolds disk on) → IsRefused words fs on r
    → (status ≡ refusal_status r) ⊎ (status ≡ 8))

-- a limit was reached: a shard of the search is beyond it, or the generations of the disk came to their end
pub data ReachesLimit (words : List (List ℕ)) (files : Option Files) (disk now : Option History) : Type 0 where
  by_shard :
      (find : Find) → command_of words ≡ Some (command.Find find)
      → IfTold words files disk (λ fs on. (limit : ShardLimit) × SearchesBeyond find fs on limit)
      → ReachesLimit words files disk now
  by_disk : AskDisk words → GenerationsEnd disk now → ReachesLimit words files disk now

-- ---- the disk
-- the lines of the listing that a cut counts, behind the first ones, were written, and perhaps more behind them
abbrev pub WroteCounted : Search → (texts : List (List ℕ)) → (listed : ℕ) → (out out' : Option (List ℕ)) → Cut → Type 0
WroteCounted search texts listed out out' cut =
    WroteThrough (listing search.places (drop listed (take cut.book.listed (listed_of search texts)))) out out'

-- and they were kept behind what had been written before, where the output tells what it keeps
abbrev pub KeptCounted : Search → (texts : List (List ℕ)) → (listed : ℕ) → (out kept kept' : Option (List ℕ)) → Cut → Type 0
KeptCounted search texts listed out kept kept' cut = IfSome kept (λ bytes. WroteCounted search texts listed out kept' cut)

-- a cut that a run puts is one of its search and its texts, and what it counts was written and kept
pub record IsPut (search : Search) (texts : List (List ℕ)) (listed : ℕ) (out out' kept kept' : Option (List ℕ)) (cut : Cut) : Type 0 where
  pub head : IsHeadOf search (length texts) cut.head
  pub is_cut : IsCutOf search cut.head.slack texts cut
  pub wrote : WroteCounted search texts listed out out' cut
  pub keeps : KeptCounted search texts listed out kept kept' cut

-- at each moment of the run each image of the disk stands for what an image at its start stands for, or for one of some cuts
-- that were put one after another; none is of an older generation than one before it. Where the disk is told, the generations
-- go on from that of the cut that was found, and the times of the cuts too. Where the files are told as well, these are cuts of
-- the search and its texts, and the run wrote the lines that each of them counts, which are kept
pub record KeepsCuts (find : Find) (files : Option Files) (out out' kept kept' : Option (List ℕ)) (before now : History) : Type 0 where
  pub last : LastCut
  pub cuts : List Cut
  pub puts : PutsAll last cuts before now
  pub goes_on : (on : OnDisk) → DiskHolds (Some before) on → cuts ≢ [] → (last.generation ≡ generation_on on) × RiseFrom (mark_on on) cuts
  pub are_of :
      IfSome files (λ fs. (on : OnDisk) (search : Search) (texts : List (List ℕ)) → DiskHolds (Some before) on
      → Searches find fs search texts → IsTrusted search texts on → length (matches_of search texts) < 2 ^ 64
      → All (IsPut search texts (listed_on on) out out' kept kept') cuts)

-- A run over lanes: what must hold where it begins, and over which texts it may begin so.
use Rattle.std.specs.Prelude.{◌≡◌, ◌==◌, ℕ, true, List, IsTrue, length, slice_get, Option, None, Some, IfSome}
use Rattle.eql_values.specs.declared.cut.BookCut.{BookCut}
use Rattle.eql_values.specs.declared.found.Holder.{Holder}
use Rattle.eql_values.specs.declared.order.Mark.{Mark}
use Rattle.eql_values.specs.Accepted.{Reads}
use Rattle.eql_outside.specs.Moments.{History}
use Rattle.eql_check.specs.Kinds.{kind_at}
use Rattle.eql_check.specs.Typing.{IsChecked}
use Rattle.eql_query.specs.QueryTree.{query_tree}
use Rattle.eql_stages.specs.Planned.{line_of, planned_query}
use Rattle.eql_words.specs.declared.commands.Checkpoint.{Checkpoint}
use Rattle.eql_words.specs.declared.commands.Find.{Find}
use Rattle.eql_lane.specs.Slacks.{nanos_of}
use Rattle.eql_lane.specs.Views.{LaneView}
use Rattle.eql_book.specs.Books.{BookState}
use Rattle.eql_cut.specs.CutValues.{names_ascend}
use Rattle.eql_cut.specs.Placing.{listed_place}
use Rattle.eql_cut.specs.declared.cut.CutHead.{CutHead}
use Rattle.eql_ckdisk.specs.Putting.{Stands, last_cut}
use Rattle.eql_conductor.specs.declared.plan.Keep.{Keep}
use Rattle.eql_conductor.specs.declared.plan.RunPlan.{RunPlan}
use Rattle.eql_resume.specs.Beginnings.{Rest, placed_if, rest_by}
use Rattle.eql_runs.specs.Runs.{GoesBeyond, ShardLimit, shard_of}
use Rattle.eql_runs.specs.Searches.{plan_of}
use Rattle.eql_runs.specs.Starts.{BeginsWith}
use Rattle.eql_search.specs.Searches.{AreBegunFrom, AreTextsOf}
use Rattle.eql_find.specs.declared.plan.PlannedQuery.{PlannedQuery}
use Rattle.eql_find.specs.Searching.{BeganWith, head_in, places_in, search_in}
use Rattle.eql_find.specs.Starting.{Begun, IsOwn, on_begun, pipes_of}

-- after how many rounds a cut is kept
abbrev pub every_of : Option Checkpoint → Option ℕ
every_of None = None
every_of (Some checkpoint) = Some checkpoint.every

abbrev pub every_asked : Find → Option ℕ
every_asked find = every_of find.checkpoint

-- how a search goes that begins at this mark, and with which book
abbrev pub plan_in : Find → CutHead → Mark → RunPlan
plan_in find head mark = record { batch = find.batch; every = every_asked find; head = head; mark = mark }

abbrev pub book_in : Find → PlannedQuery → BookCut → BookState
book_in find p from = record { pipes = pipes_of p; places = find.places; kept = from; whole = true }

-- what is pending where a run begins over these lanes, with the places that they found
abbrev pub rest_over : {S L : Type 0} → List (LaneView S L) → Rest → Rest
rest_over lanes rest = placed_if rest.unplaced (listed_place (places_in lanes)) rest

-- the mark, the pending sequences and the book of a search that begins with these
pub record BeginsAs (find : Find) (p : PlannedQuery) (rest : Rest) (mark : Mark) (holders : List Holder) (book : BookState) : Type 0 where
  pub mark_is : mark ≡ rest.mark
  pub holders_are : holders ≡ rest.holders
  pub book_is : book ≡ book_in find p rest.book

-- a run keeps cuts exactly when it has a checkpoint, on a disk that stands as the state says
module _ {D : Type 0} (history : D → Option History) where
  abbrev pub KeepsIfAsked : Option Checkpoint → Option (Keep D) → Type 0
  KeepsIfAsked None None = Unit {0}
  KeepsIfAsked None (Some k) = ⊥
  KeepsIfAsked (Some checkpoint) None = ⊥
  KeepsIfAsked (Some checkpoint) (Some k) = Stands (last_cut k.state) (history k.disk)

-- lanes that began as the run was found to begin, of these texts where they are told, with what is pending
pub record BeginsRun {S L D : Type 0} (left : S → Option (List ℕ)) (read_of : L → Reads) (history : D → Option History)
    (texts : Option (List (List ℕ))) (find : Find) (p : PlannedQuery) (lanes : List (LaneView S L)) (rest : Rest) (head : CutHead)
    (keep : Option (Keep D)) : Type 0 where
  pub begun : Begun
  pub own : IsOwn find p begun
  pub plan_is : planned_query p.plan ≡ plan_of (search_in find p)
  pub checked : IfSome texts (λ ts. IsChecked (kind_at p.mapping) (query_tree p.plan.checked.query))
  pub texts_of : IfSome texts (λ ts. AreTextsOf left ts lanes)
  pub many : length lanes ≡ length find.shards
  pub are_begun : AreBegunFrom read_of (line_of (planned_query p.plan)) (nanos_of find.slack) 0 lanes
  pub began : BeganWith texts begun.format begun.cut lanes
  pub rest_is : rest ≡ rest_by (pipes_of p) (begun.format == 1) begun.cut
  pub head_is : head ≡ head_in find p
  pub names : IsTrue (names_ascend p.mapping)
  pub keeps : KeepsIfAsked history find.checkpoint keep

-- over these texts the run begins with nothing, or with a cut of them
pub record StartsOver {S L : Type 0} (known_texts : Option (List (List ℕ))) (find : Find) (p : PlannedQuery) (lanes : List (LaneView S L)) (rest : Rest)
    (texts : List (List ℕ)) : Type 0 where
  pub begun : Begun
  pub own : IsOwn find p begun
  pub began : BeganWith known_texts begun.format begun.cut lanes
  pub rest_is : rest ≡ rest_by (pipes_of p) (begun.format == 1) begun.cut
  pub begins : BeginsWith (search_in find p) texts (on_begun begun)

-- the text of the limit's shard is beyond it, with the lines that its lane counted at the beginning
pub record IsBeyondOn {S L : Type 0} (lanes : List (LaneView S L)) (texts : List (List ℕ)) (limit : ShardLimit) : Type 0 where
  pub lane : LaneView S L
  pub was : slice_get lanes (shard_of limit) ≡ Some lane
  pub text : List ℕ
  pub there : slice_get texts (shard_of limit) ≡ Some text
  pub beyond : GoesBeyond limit (Some lane.state.cut) text

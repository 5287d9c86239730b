-- What a book is, and what becomes of it as matches are found.
use Rattle.std.specs.Prelude.{◌-◌, ◌^◌, ◌≤◌, Bool, List, [], take, length}
use Rattle.std.specs.List.{AllZip}
use Rattle.eql_values.specs.declared.found.Match.{Match}
use Rattle.eql_values.specs.declared.found.Numbered.{Numbered}
use Rattle.eql_values.specs.declared.cut.BookCut.{BookCut}
use Rattle.eql_values.specs.declared.cut.Pipe.{Pipe}
use Rattle.eql_values.specs.declared.cut.Pipe.TheVariants as pipe
use Rattle.eql_values.specs.declared.cut.PipeState.{PipeState}
use Rattle.eql_values.specs.declared.cut.PipeState.TheVariants as state
use Rattle.eql_laws.specs.Resuming.{emitted_from, numbered_after, book_from, rest_from}

-- a book: the pipes of the query, whether places are printed, what is kept of the matches so far, and whether no call was refused
pub record BookState : Type 0 where
  pub pipes : List Pipe
  pub places : Bool
  pub kept : BookCut
  pub whole : Bool

-- the state is of the pipe's kind and within its count
abbrev pub FitsPipe : Pipe → PipeState → Type 0
FitsPipe (pipe.Head count) (state.Head passed) = passed ≤ count
FitsPipe (pipe.Head count) (state.Tail kept) = ⊥
FitsPipe (pipe.Tail count) (state.Head passed) = ⊥
FitsPipe (pipe.Tail count) (state.Tail kept) = length kept ≤ count

-- what is kept fits the pipes: no more is listed than was found, and there is a state for each pipe
pub record FitsPipes (pipes : List Pipe) (kept : BookCut) : Type 0 where
  pub listed_to : kept.listed ≤ kept.found
  pub states : AllZip FitsPipe pipes kept.pipes

-- of more matches, those that still have a number of 64 bits
abbrev pub countable_matches : BookCut → List Match → List Match
countable_matches kept more = take (2 ^ 64 - 1 - kept.found) more

-- what is kept once these matches were found too
abbrev pub kept_after : List Pipe → BookCut → List Match → BookCut
kept_after pipes kept more = book_from pipes kept (countable_matches kept more)

-- what the pipes let through of these matches before the end
abbrev pub let_out : List Pipe → BookCut → List Match → List Numbered
let_out pipes kept more = emitted_from pipes kept.pipes (numbered_after kept (countable_matches kept more))

-- the book once these matches were found too
abbrev pub book_after : BookState → List Match → BookState
book_after book more = record book { kept = kept_after book.pipes book.kept more }

-- the matches that the pipes hold back until the end
abbrev pub held_back : BookState → List Numbered
held_back book = rest_from book.pipes book.kept []

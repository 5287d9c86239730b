-- What books write in all, from the first match on or from the cut of another book.
use Rattle.std.specs.Prelude.{◌≡◌, ◌<◌, ◌^◌, Bool, List, [], ◌++◌, length, map}
use Rattle.eql_values.specs.declared.found.Match.{Match}
use Rattle.eql_values.specs.declared.cut.BookCut.{BookCut}
use Rattle.eql_values.specs.declared.cut.Pipe.{Pipe}
use Rattle.eql_values.specs.declared.cut.Pipe.TheVariants as pipe
use Rattle.eql_values.specs.declared.cut.PipeState.{PipeState}
use Rattle.eql_values.specs.declared.cut.PipeState.TheVariants as state
use Rattle.eql_values.specs.Numbering.{numbered_matches, pipe_output, early_output}
use Rattle.eql_laws.specs.Books.{book_of}
use Rattle.eql_book.specs.Books.{BookState, kept_after, let_out, book_after, held_back}

-- adding two lists is adding one and then the other, and the lines are those of both
pub record AddsGoOn (book : BookState) (a b : List Match) : Type 0 where
  pub book_is : book_after book (a ++ b) ≡ book_after (book_after book a) b
  pub lines_are : let_out book.pipes book.kept (a ++ b) ≡ let_out book.pipes book.kept a ++ let_out book.pipes (kept_after book.pipes book.kept a) b

abbrev pub AllAddsGoOn : Type 0
AllAddsGoOn = (book : BookState) (a b : List Match) → AddsGoOn book a b

-- a pipe before any match
abbrev pub fresh_state : Pipe → PipeState
fresh_state (pipe.Head count) = state.Head 0
fresh_state (pipe.Tail count) = state.Tail []

-- what is kept before any match
abbrev pub fresh_cut : List Pipe → BookCut
fresh_cut pipes = record { found = 0; listed = 0; pipes = map fresh_state pipes }

abbrev pub FreshIsOfNone : Type 0
FreshIsOfNone = (pipes : List Pipe) → fresh_cut pipes ≡ book_of pipes []

-- from what a cut keeps of the matches found, more matches: what is kept then is what a cut keeps of all, and the lines go on from those that were written to those of all
pub record KeepsBook (pipes : List Pipe) (found more : List Match) : Type 0 where
  pub cut_is : kept_after pipes (book_of pipes found) more ≡ book_of pipes (found ++ more)
  pub lines_are : early_output pipes (numbered_matches (found ++ more)) ≡ early_output pipes (numbered_matches found) ++ let_out pipes (book_of pipes found) more

abbrev pub BookIsKept : Type 0
BookIsKept = (pipes : List Pipe) (found more : List Match) → length (found ++ more) < 2 ^ 64 → KeepsBook pipes found more

-- and at the end they are the whole listing
abbrev pub EndIsWhole : Type 0
EndIsWhole = (pipes : List Pipe) (places whole : Bool) (found : List Match)
    → pipe_output pipes (numbered_matches found) ≡ early_output pipes (numbered_matches found) ++ held_back (record { pipes = pipes; places = places; kept = book_of pipes found; whole = whole })

-- so from the first match on: what adding all of them wrote, and then the end, is the listing of all
abbrev pub ListingIsWhole : Type 0
ListingIsWhole = (pipes : List Pipe) (places whole : Bool) (found : List Match) → length found < 2 ^ 64
    → let_out pipes (fresh_cut pipes) found ++ held_back (book_after (record { pipes = pipes; places = places; kept = fresh_cut pipes; whole = whole }) found) ≡ pipe_output pipes (numbered_matches found)

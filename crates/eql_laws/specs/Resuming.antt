-- How a listing goes on from what a cut keeps of the output.
use Rattle.std.specs.Prelude.{◌≡◌, ℕ, ◌+◌, ◌-◌, min, List, [], ◌∷◌, ◌++◌, take, drop, length, refl}
use Rattle.eql_values.specs.declared.found.Match.{Match}
use Rattle.eql_values.specs.declared.found.Numbered.{Numbered}
use Rattle.eql_values.specs.declared.cut.BookCut.{BookCut}
use Rattle.eql_values.specs.declared.cut.Pipe.{Pipe}
use Rattle.eql_values.specs.declared.cut.Pipe.TheVariants as pipe
use Rattle.eql_values.specs.declared.cut.PipeState.{PipeState}
use Rattle.eql_values.specs.declared.cut.PipeState.TheVariants as state
use Rattle.eql_values.specs.Numbering.{numbered_from, numbered_matches, through, pipe_output, early_output}
use Rattle.eql_laws.specs.Books.{book_of, kept_of}

-- what a pipe that has seen some input lets through of more before the end: a head up to its count, a tail nothing
abbrev pub let_through : Pipe → PipeState → List Numbered → List Numbered
let_through (pipe.Head count) (state.Head passed) more = take (count - passed) more
let_through (pipe.Head count) (state.Tail kept) more = []
let_through (pipe.Tail count) seen more = []

-- what a pipe has seen once it saw more
abbrev pub state_from : Pipe → PipeState → List Numbered → PipeState
state_from (pipe.Head count) (state.Head passed) more = state.Head (min count (passed + length more))
state_from (pipe.Head count) (state.Tail kept) more = state.Tail kept
state_from (pipe.Tail count) (state.Head passed) more = state.Head passed
state_from (pipe.Tail count) (state.Tail kept) more = state.Tail (through (pipe.Tail count) (kept ++ more))

-- what all pipes have seen then: the input of each is what the one before lets through
abbrev pub states_from : List Pipe → List PipeState → List Numbered → List PipeState
states_from [] seen more = []
states_from (p ∷ pipes) [] more = []
states_from (p ∷ pipes) (s ∷ seen) more = state_from p s more ∷ states_from pipes seen (let_through p s more)

-- what the pipes let through of more before the end
abbrev pub emitted_from : List Pipe → List PipeState → List Numbered → List Numbered
emitted_from [] seen more = more
emitted_from (p ∷ pipes) [] more = []
emitted_from (p ∷ pipes) (s ∷ seen) more = emitted_from pipes seen (let_through p s more)

-- what they let through of it up to the end: the first tail gives what it keeps to the pipes after it
abbrev pub piped_from : List Pipe → List PipeState → List Numbered → List Numbered
piped_from [] seen more = more
piped_from (p ∷ pipes) [] more = []
piped_from (pipe.Head count ∷ pipes) (s ∷ seen) more = piped_from pipes seen (let_through (pipe.Head count) s more)
piped_from (pipe.Tail count ∷ pipes) (s ∷ seen) more = pipe_output pipes (through (pipe.Tail count) (kept_of s ++ more))

-- matches that are found after those of a book, with their numbers
abbrev pub numbered_after : BookCut → List Match → List Numbered
numbered_after book more = numbered_from (book.found + 1) more

-- the book once these matches were found too
abbrev pub book_from : List Pipe → BookCut → List Match → BookCut
book_from pipes book more = record {
  found = book.found + length more;
  listed = book.listed + length (emitted_from pipes book.pipes (numbered_after book more));
  pipes = states_from pipes book.pipes (numbered_after book more);
}

-- what is written up to the end after the lines that a book counts, where these matches are found after it
abbrev pub rest_from : List Pipe → BookCut → List Match → List Numbered
rest_from pipes book more = piped_from pipes book.pipes (numbered_after book more)

-- the numbers of two lists go on
abbrev pub NumberedGoesOn : Type 0
NumberedGoesOn = (number : ℕ) (a b : List Match) → numbered_from number (a ++ b) ≡ numbered_from number a ++ numbered_from (number + length a) b

-- the book of more matches is a function of the book before and of the new ones
abbrev pub BookGoesOn : Type 0
BookGoesOn = (pipes : List Pipe) (found more : List Match) → book_of pipes (found ++ more) ≡ book_from pipes (book_of pipes found) more

-- what may be written before the end begins with what might be before, and goes on by the book alone
abbrev pub EmittedGoesOn : Type 0
EmittedGoesOn = (pipes : List Pipe) (found more : List Match) → let book = book_of pipes found in
    early_output pipes (numbered_matches (found ++ more)) ≡ early_output pipes (numbered_matches found) ++ emitted_from pipes book.pipes (numbered_after book more)

-- and so does what is written at the end
abbrev pub PipedGoesOn : Type 0
PipedGoesOn = (pipes : List Pipe) (found more : List Match)
    → pipe_output pipes (numbered_matches (found ++ more)) ≡ early_output pipes (numbered_matches found) ++ rest_from pipes (book_of pipes found) more

-- so the listing after the lines that a book counts is a function of that book and of the matches after it
abbrev pub ListingResumes : Type 0
ListingResumes = (pipes : List Pipe) (found more : List Match) → let book = book_of pipes found in
    drop book.listed (pipe_output pipes (numbered_matches (found ++ more))) ≡ rest_from pipes book more

abbrev one : Match
one = record { key = []; chain = [] }

-- of three matches a head of two has let through both that were found, and lets through no third
two_of_three : book_of (pipe.Head 2 ∷ []) (one ∷ one ∷ []) ≡ record { found = 2; listed = 2; pipes = state.Head 2 ∷ [] }
two_of_three = refl

third_stays_out : rest_from (pipe.Head 2 ∷ []) (record { found = 2; listed = 2; pipes = state.Head 2 ∷ [] }) (one ∷ []) ≡ []
third_stays_out = refl

-- a tail of one keeps the last, and writes it at the end
last_of_three : rest_from (pipe.Tail 1 ∷ []) (book_of (pipe.Tail 1 ∷ []) (one ∷ one ∷ [])) (one ∷ []) ≡ record { number = 3; found = one } ∷ []
last_of_three = refl

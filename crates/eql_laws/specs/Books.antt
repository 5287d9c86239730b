-- Laws of what a cut keeps of the output: numbers of matches, and what pipes have seen.
use Rattle.std.specs.Prelude.{◌≡◌, ◌<◌, ◌≤◌, ℕ, ℤ, min, Bool, List, [], ◌∷◌, ◌++◌, take, Option, filter, length, sum_by, All, IsTrue}
use Rattle.std.specs.List.{flat_map, AllZip}
use Rattle.eql_values.specs.declared.item.Route.{Route}
use Rattle.eql_values.specs.declared.item.Item.{Item}
use Rattle.eql_values.specs.declared.found.Holder.{Holder}
use Rattle.eql_values.specs.declared.found.Match.{Match}
use Rattle.eql_values.specs.declared.found.Numbered.{Numbered}
use Rattle.eql_values.specs.declared.cut.BookCut.{BookCut}
use Rattle.eql_values.specs.declared.cut.Pipe.{Pipe}
use Rattle.eql_values.specs.declared.cut.Pipe.TheVariants as pipe
use Rattle.eql_values.specs.declared.cut.PipeState.{PipeState}
use Rattle.eql_values.specs.declared.cut.PipeState.TheVariants as state
use Rattle.eql_values.specs.declared.order.Mark.{Mark}
use Rattle.eql_values.specs.declared.reader.LineGot.TheVariants as got
use Rattle.eql_values.specs.Accepted.{Reads, below}
use Rattle.eql_values.specs.Lines.{lines_of}
use Rattle.eql_values.specs.Masks.{has_stage}
use Rattle.eql_values.specs.Matching.{matches}
use Rattle.eql_values.specs.Numbering.{numbered_matches, through, early_output}
use Rattle.eql_values.specs.OrderKeys.{EventsAscend}
use Rattle.eql_laws.specs.Belows.{IsReading}
use Rattle.eql_laws.specs.Counting.{IsShardText}
use Rattle.eql_laws.specs.Cuts.{IsFound, is_of_shards}
use Rattle.eql_laws.specs.Shapes.{EventsPass}

-- what a pipe has seen of this input: a head let through as many as its count, or all where there are fewer; a tail keeps the last, as many as its count, or all
abbrev pub state_of : Pipe → List Numbered → PipeState
state_of (pipe.Head count) input = state.Head (min count (length input))
state_of (pipe.Tail count) input = state.Tail (through (pipe.Tail count) input)

-- what pipes have seen that come after others: the input of each is what those before it let through, if all are heads, else nothing
abbrev pub states_after : (before : List Pipe) → List Pipe → List Numbered → List PipeState
states_after before [] list = []
states_after before (p ∷ pipes) list = state_of p (early_output before list) ∷ states_after (before ++ p ∷ []) pipes list

-- what a cut keeps of the output: how many matches were found, how many of them may be written before the end, and what each pipe has seen
abbrev pub book_of : List Pipe → List Match → BookCut
book_of pipes found = record { found = length found; listed = length (early_output pipes (numbered_matches found)); pipes = states_after [] pipes (numbered_matches found) }

-- the input of a pipe after a head is what that head let through, and after a tail it is nothing
pub record InputGoesOn (before : List Pipe) (list : List Numbered) : Type 0 where
  pub after_head : (count : ℕ) → early_output (before ++ pipe.Head count ∷ []) list ≡ take count (early_output before list)
  pub after_tail : (count : ℕ) → early_output (before ++ pipe.Tail count ∷ []) list ≡ []

abbrev pub InputsGoOn : Type 0
InputsGoOn = (before : List Pipe) (list : List Numbered) → InputGoesOn before list

-- the matches that a pipe keeps
abbrev pub kept_of : PipeState → List Numbered
kept_of (state.Head passed) = []
kept_of (state.Tail kept) = kept

-- what a test says of each match that was found, it says of each that a pipe keeps
abbrev pub KeptPass : Type 0
KeptPass = (test : Match → Bool) (pipes : List Pipe) (found : List Match) → All (λ (m : Match). IsTrue (test m)) found
    → All (λ (s : PipeState). All (λ (n : Numbered). IsTrue (test n.found)) (kept_of s)) (book_of pipes found).pipes

-- the numbers ascend strictly
abbrev pub NumbersAscend : List Numbered → Type 0
NumbersAscend [] = Unit {0}
NumbersAscend (n ∷ list) = All (λ (next : Numbered). n.number < next.number) list × NumbersAscend list

-- a kept match as a checkpoint is to have it: its number is from 1 to the number of those found, and its chain has an event for each stage, each of one of the shards
pub record IsKeptMatch (m shards found : ℕ) (n : Numbered) : Type 0 where
  pub number_from : 1 ≤ n.number
  pub number_to : n.number ≤ found
  pub full : length n.found.chain ≡ m
  pub of_shards : EventsPass (is_of_shards shards) n.found.chain

-- a pipe's state as a checkpoint is to have it: it is of the pipe's kind; a head has let through no more than its count, and a tail keeps no more than its count
abbrev pub StateFits : (m shards found : ℕ) → Pipe → PipeState → Type 0
StateFits m shards found (pipe.Head count) (state.Head passed) = passed ≤ count
StateFits m shards found (pipe.Tail count) (state.Tail kept) = (length kept ≤ count) × All (IsKeptMatch m shards found) kept
StateFits m shards found (pipe.Head count) (state.Tail kept) = ⊥
StateFits m shards found (pipe.Tail count) (state.Head passed) = ⊥

-- what is kept of the output as a checkpoint is to have it: no more is listed than was found, and the states are as many as the pipes and fit them
pub record BookFits (m shards : ℕ) (pipes : List Pipe) (book : BookCut) : Type 0 where
  pub listed_to : book.listed ≤ book.found
  pub states : AllZip (StateFits m shards book.found) pipes book.pipes

abbrev pub BookOfFits : Type 0
BookOfFits = (m : ℕ) (span : Option ℤ) (reads : Reads) (slack : Option ℤ) (texts : List (List ℕ)) (mark : Mark) (pipes : List Pipe) → IsReading reads
    → BookFits m (length texts) pipes (book_of pipes (matches m span [] (below reads slack texts mark)))

-- what a pipe keeps stands in order: the numbers ascend, and so do the events of each match
abbrev pub StateStands : PipeState → Type 0
StateStands s = NumbersAscend (kept_of s) × All (λ (n : Numbered). EventsAscend n.found.chain) (kept_of s)

-- what pipes keep of the matches below a mark stands in order, and is of matches below that mark
pub record BookStands (m shards : ℕ) (mark : Mark) (book : BookCut) : Type 0 where
  pub in_order : All StateStands book.pipes
  pub are_found : All (λ (s : PipeState). All (λ (n : Numbered). IsFound m shards mark n.found) (kept_of s)) book.pipes

abbrev pub BookOfStands : Type 0
BookOfStands = (m : ℕ) (span : Option ℤ) (reads : Reads) (slack : Option ℤ) (texts : List (List ℕ)) (mark : Mark) (pipes : List Pipe) → IsReading reads
    → BookStands m (length texts) mark (book_of pipes (matches m span [] (below reads slack texts mark)))

-- the routes that fit the last stage
abbrev pub completing : ℕ → List Route → List Route
completing m routes = filter (λ (r : Route). has_stage r.mask m) routes

-- no more matches than pairs of an event and a route of it that fits the last stage
abbrev pub RoutesBoundFound : Type 0
RoutesBoundFound = (m : ℕ) (span : Option ℤ) (holders : List Holder) (items : List Item)
    → length (matches m span holders items) ≤ length (flat_map (λ (item : Item). completing m item.routes) items)

-- the event has at most one key at the last stage
abbrev pub CompletesOnce : ℕ → Item → Type 0
CompletesOnce m item = length (completing m item.routes) ≤ 1

-- so no more matches than events, where each has at most one key at the last stage
abbrev pub EventsBoundFound : Type 0
EventsBoundFound = (m : ℕ) (span : Option ℤ) (holders : List Holder) (items : List Item)
    → All (CompletesOnce m) items → length (matches m span holders items) ≤ length items

-- no more events below a mark than lines of all texts, and no more lines than bytes
pub record BelowIsFew (reads : Reads) (slack : Option ℤ) (texts : List (List ℕ)) (mark : Mark) : Type 0 where
  pub by_lines : length (below reads slack texts mark) ≤ sum_by (λ (text : List ℕ). length (lines_of text)) texts
  pub by_bytes : sum_by (λ (text : List ℕ). length (lines_of text)) texts ≤ sum_by (λ (text : List ℕ). length text) texts

abbrev pub BelowsAreFew : Type 0
BelowsAreFew = (reads : Reads) (slack : Option ℤ) (texts : List (List ℕ)) (mark : Mark) → BelowIsFew reads slack texts mark

-- the greatest number of shards, and of matches
abbrev pub greatest_shards : ℕ
greatest_shards = 256

abbrev pub greatest_found : ℕ
greatest_found = 1099511627776

-- of texts that shards may have no more matches are found than a checkpoint may say, where each event that is read has at most one key at the last stage
abbrev pub FoundIsFew : Type 0
FoundIsFew = (m : ℕ) (span : Option ℤ) (reads : Reads) (slack : Option ℤ) (texts : List (List ℕ)) (mark : Mark)
    → ((shard line : ℕ) (bytes : List ℕ) (item : Item) → reads shard line bytes ≡ got.Item item → CompletesOnce m item)
    → All IsShardText texts → length texts ≤ greatest_shards
    → length (matches m span [] (below reads slack texts mark)) ≤ greatest_found

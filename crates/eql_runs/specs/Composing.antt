-- What runs of one search leave for the next one, and what they list together.
use Rattle.std.specs.Prelude.{◌≡◌, ◌≤◌, ◌<◌, ◌+◌, ◌^◌, ℕ, List, [], ◌∷◌, ◌++◌, length, take, drop, Option, Some, All, IsTrue}
use Rattle.std.specs.Fmt.{decimal}
use Rattle.std.specs.List.{Any, slice_get}
use Rattle.eql_values.specs.declared.found.Numbered.{Numbered}
use Rattle.eql_laws.specs.Books.{greatest_shards}
use Rattle.eql_laws.specs.Counting.{IsShardText}
use Rattle.eql_laws.specs.Places.{ends_line, is_one_line}
use Rattle.eql_check.specs.Kinds.{kind_at}
use Rattle.eql_check.specs.Typing.{IsChecked}
use Rattle.eql_book.specs.Listing.{listing, match_text}
use Rattle.eql_cut.specs.declared.cut.Cut.{Cut}
use Rattle.eql_runs.specs.Searches.{Search, listed_of, matches_of, rest_of}
use Rattle.eql_runs.specs.Starts.{IsTrusted, OnDisk, a_cut, listed_on}
use Rattle.eql_runs.specs.CutRefusals.{IsTested}
use Rattle.eql_runs.specs.Runs.{IsPut, WroteCounted}

-- a cut that a run of a checked query puts over at most 256 texts of shards is trusted, and passes all tests of the next run of this
-- search over these texts
abbrev pub LeftIsTrusted : Type 0
LeftIsTrusted =
    (search : Search) (texts : List (List ℕ)) (listed : ℕ) (out out' kept kept' : Option (List ℕ)) (generation : ℕ) (cut : Cut)
    → IsChecked (kind_at search.mapping) search.query → length texts ≤ greatest_shards → All IsShardText texts
    → IsPut search texts listed out out' kept kept' cut
    → IsTrusted search texts (a_cut 4 generation cut) × IsTested search texts (a_cut 4 generation cut)

-- ---- runs one after the other
-- a run of a search: what its disk held when it began, the bytes that its output got in it, and what it left on the disk
pub record Ran : Type 0 where
  pub began : OnDisk
  pub wrote : List ℕ
  pub left : OnDisk

-- these bytes stand at the front of those
abbrev pub IsFront : (front bytes : List ℕ) → Type 0
IsFront front bytes = (more : List ℕ) × (bytes ≡ front ++ more)

module _ (search : Search) (texts : List (List ℕ)) where
  -- its output got a front of the listing from where the run began: all of it, or less
  abbrev pub ListsFront : Ran → Type 0
  ListsFront ran = IsFront ran.wrote (rest_of search (listed_on ran.began) texts)

  -- it left what it began with, or a cut: its output, whatever stood there before, got the lines that this counts behind those that
  -- were counted before
  pub data Leaves (ran : Ran) : Type 0 where
    what_was : ran.left ≡ ran.began → Leaves ran
    a_new_cut :
        (format generation : ℕ) (cut : Cut) (before : List ℕ) → ran.left ≡ a_cut format generation cut
        → WroteCounted search texts (listed_on ran.began) (Some before) (Some (before ++ ran.wrote)) cut → Leaves ran

  -- it stopped, at whatever moment
  pub record Stopped (ran : Ran) : Type 0 where
    pub front : ListsFront ran
    pub leaves : Leaves ran

  -- it wrote all that was left to write
  abbrev pub IsDone : Ran → Type 0
  IsDone ran = ran.wrote ≡ rest_of search (listed_on ran.began) texts

  -- runs one after the other: each stopped, and the next one began with what it left; the last one is done
  abbrev pub FollowOn : Ran → List Ran → Type 0
  FollowOn ran [] = IsDone ran
  FollowOn ran (next ∷ runs) = Stopped ran × (next.began ≡ ran.left) × FollowOn next runs

-- a line that stands in bytes with its line feed, at their start or behind another line
pub record IsLineOf (bytes line : List ℕ) : Type 0 where
  pub before : List ℕ
  pub after : List ℕ
  pub stands : bytes ≡ before ++ line ++ 10 ∷ after
  pub starts : IsTrue (ends_line before)
  pub is_one : IsTrue (is_one_line line)

-- the output of a run has the lines from where it began up to and with the one at this place of the listing
pub record WroteTo (search : Search) (texts : List (List ℕ)) (n : ℕ) (ran : Ran) : Type 0 where
  pub begun : listed_on ran.began ≤ n
  pub front : IsFront (listing search.places (drop (listed_on ran.began) (take (n + 1) (listed_of search texts)))) ran.wrote
  pub line : (one : Numbered) → slice_get (listed_of search texts) n ≡ Some one → IsLineOf ran.wrote (match_text search.places one)

-- each line of the listing, from where the first run began, is in the output of one of the runs
abbrev pub EveryLineIsListed : Type 0
EveryLineIsListed =
    (search : Search) (texts : List (List ℕ)) (first : Ran) (runs : List Ran) → FollowOn search texts first runs
    → (n : ℕ) → listed_on first.began ≤ n → n < length (listed_of search texts) → Any (WroteTo search texts n) (first ∷ runs)

-- the line of one of the matches that the search lists
pub record IsListedLine (search : Search) (texts : List (List ℕ)) (line : List ℕ) : Type 0 where
  pub n : ℕ
  pub one : Numbered
  pub there : slice_get (listed_of search texts) n ≡ Some one
  pub line_is : line ≡ match_text search.places one

-- no output has another line
abbrev pub OnlyLinesAreListed : Type 0
OnlyLinesAreListed =
    (search : Search) (texts : List (List ℕ)) (ran : Ran) (line : List ℕ) → ListsFront search texts ran → IsLineOf ran.wrote line
    → IsListedLine search texts line

-- a line begins with this number
abbrev pub HasNumber : (line : List ℕ) → (number : ℕ) → Type 0
HasNumber line number = (rest : List ℕ) × (line ≡ decimal number ++ 32 ∷ rest)

-- lines of two outputs that have one number are one line
abbrev pub EqualNumbersEqualLines : Type 0
EqualNumbersEqualLines =
    (search : Search) (texts : List (List ℕ)) → length (matches_of search texts) < 2 ^ 64 → (ran other : Ran) → ListsFront search texts ran
    → ListsFront search texts other → (line beside : List ℕ) → IsLineOf ran.wrote line → IsLineOf other.wrote beside
    → (number : ℕ) → HasNumber line number → HasNumber beside number → line ≡ beside

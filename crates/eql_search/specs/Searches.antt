-- What a search over lanes is by, and what it writes.
use Rattle.std.specs.Prelude.{◌≡◌, ◌+◌, ◌<◌, ◌^◌, ℕ, ℤ, Bool, List, [], ◌∷◌, drop, length, Option, None, Some}
use Rattle.eql_values.specs.declared.found.Match.{Match}
use Rattle.eql_values.specs.declared.cut.Pipe.{Pipe}
use Rattle.eql_values.specs.declared.reader.LineGot.TheVariants as got
use Rattle.eql_values.specs.Accepted.{Reads, all_events}
use Rattle.eql_values.specs.Matching.{matches}
use Rattle.eql_values.specs.Numbering.{numbered_matches, pipe_output}
use Rattle.eql_lane.specs.Lanes.{beginning_lane}
use Rattle.eql_lane.specs.Views.{LaneView, IsTextOf}
use Rattle.eql_book.specs.Listing.{listing}
use Rattle.eql_search.specs.declared.rules.Rules.{Rules as Asked}

-- what lines give, the slack, the stages of the query and its span; times in nanoseconds
pub record Rules : Type 0 where
  pub reads : Reads
  pub slack : Option ℤ
  pub stages : ℕ
  pub span : Option ℤ

-- all matches of texts
abbrev pub found_in : Rules → List (List ℕ) → List Match
found_in rules texts = matches rules.stages rules.span [] (all_events rules.reads rules.slack texts)

-- the listing of texts, through these pipes, from the line after the first ones on
abbrev pub rest_of : Rules → List Pipe → (places : Bool) → (listed : ℕ) → List (List ℕ) → List ℕ
rest_of rules pipes places listed texts = listing places (drop listed (pipe_output pipes (numbered_matches (found_in rules texts))))

-- each match has a number of 64 bits
abbrev pub HasNumbers : Rules → List (List ℕ) → Type 0
HasNumbers rules texts = length (found_in rules texts) < 2 ^ 64

module _ {S L : Type 0} (read_of : L → Reads) where
  -- what lines give, and the slack, as the first of lanes has them
  abbrev pub reads_by : List (LaneView S L) → Reads
  reads_by [] = λ shard line bytes. got.Blank
  reads_by (lane ∷ lanes) = read_of lane.reader

  abbrev pub slack_by : List (LaneView S L) → Option ℤ
  slack_by [] = None
  slack_by (lane ∷ lanes) = lane.slack

  -- a lane by these rules that begins with what a cut keeps of it, and handed out nothing since
  pub record IsBegunLane (reads : Reads) (slack : Option ℤ) (shard : ℕ) (lane : LaneView S L) : Type 0 where
    pub shard_is : lane.shard ≡ shard
    pub slack_is : lane.slack ≡ slack
    pub reads_are : read_of lane.reader ≡ reads
    pub state_is : lane.state ≡ beginning_lane lane.state.cut lane.state.faults

  -- lanes by these rules, of which the first is of this shard and the others are of the shards after it
  abbrev pub AreBegunFrom : Reads → Option ℤ → (shard : ℕ) → List (LaneView S L) → Type 0
  AreBegunFrom reads slack shard [] = Unit {0}
  AreBegunFrom reads slack shard (lane ∷ lanes) = IsBegunLane reads slack shard lane × AreBegunFrom reads slack (shard + 1) lanes

  -- lanes of one reading and one slack, in the order of their shards
  abbrev pub AreBegun : List (LaneView S L) → Type 0
  AreBegun lanes = AreBegunFrom (reads_by lanes) (slack_by lanes) 0 lanes

  -- the rules of a search over lanes
  abbrev pub rules_of : Asked → List (LaneView S L) → Rules
  rules_of rules lanes = record { reads = reads_by lanes; slack = slack_by lanes; stages = rules.stages; span = rules.span }

module _ {S L : Type 0} (left : S → Option (List ℕ)) where
  -- these are texts of which the lanes are, one a lane
  abbrev pub AreTextsOf : List (List ℕ) → List (LaneView S L) → Type 0
  AreTextsOf [] [] = Unit {0}
  AreTextsOf [] (lane ∷ lanes) = ⊥
  AreTextsOf (text ∷ texts) [] = ⊥
  AreTextsOf (text ∷ texts) (lane ∷ lanes) = IsTextOf left (Some text) lane × AreTextsOf texts lanes

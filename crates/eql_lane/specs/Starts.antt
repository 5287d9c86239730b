-- How a lane begins, and why it is refused.
use Rattle.std.specs.Prelude.{◌≡◌, ◌≢◌, ◌≤◌, ℕ, ℤ, true, List, [], length, Option, Some, None, IfSome, All, Contains}
use Rattle.std.specs.List.Sorted.{IsStrictlyIncreasing}
use Rattle.eql_digest.specs.declared.digest.Digest.{Digest}
use Rattle.eql_values.specs.declared.item.Item.{Item}
use Rattle.eql_values.specs.declared.cut.LaneCut.{LaneCut}
use Rattle.eql_values.specs.Ascending.{Ascend}
use Rattle.eql_values.specs.Reading.{IsTime}
use Rattle.eql_laws.specs.Counting.{greatest_lines, greatest_bytes}
use Rattle.eql_lane.specs.Judging.{CountsHold}
use Rattle.eql_lane.specs.Lanes.{fresh_cut, beginning_lane}
use Rattle.eql_lane.specs.Slacks.{nanos_of}
use Rattle.eql_lane.specs.Noting.{IsUnplaced, retraced_cut, placed_cut}
use Rattle.eql_lane.specs.Passing.{IsBefore, Finds, IsCause, GivesBack}
use Rattle.eql_lane.specs.Views.{LaneView, IsTextOf}
use Rattle.eql_lane.specs.declared.make.LaneStart.{LaneStart}
use Rattle.eql_lane.specs.declared.make.LaneStart.TheVariants as start
use Rattle.eql_lane.specs.declared.make.LaneRefused.{LaneRefused}
use Rattle.eql_lane.specs.declared.make.LaneRefused.TheVariants as refused

-- what a cut may say of a lane: its events ascend and are of its lines, no more than it accepted; its greatest timestamp is a time, its counts hold, and it has no more lines and bytes than a shard may have
pub record MayBegin (cut : LaneCut) : Type 0 where
  pub ascending : Ascend cut.items
  pub lines_to : All (λ (item : Item). item.order.line ≤ cut.counts.lines) cut.items
  pub few : length cut.items ≤ cut.counts.accepted
  pub best : IfSome cut.best IsTime
  pub counts : CountsHold cut.counts
  pub lines : cut.counts.lines ≤ greatest_lines
  pub bytes : cut.offset ≤ greatest_bytes

-- what a cut may say of a lane that is lifted: its events have no places, and their lines are among the wanted ones, which ascend
pub record MayLift (cut : LaneCut) (wanted : List ℕ) : Type 0 where
  pub begin : MayBegin cut
  pub unplaced : IsUnplaced cut.items
  pub ascend : IsStrictlyIncreasing wanted
  pub named : All (λ (item : Item). Contains wanted item.order.line) cut.items

-- which starts there may be
abbrev pub MayStart : LaneStart → Type 0
MayStart start.Fresh = Unit {0}
MayStart (start.From cut) = MayBegin cut
MayStart (start.Retrace cut) = MayBegin cut
MayStart (start.Lift cut wanted) = MayLift cut wanted

-- what a start keeps of the lane
abbrev pub cut_of : LaneStart → LaneCut
cut_of start.Fresh = fresh_cut
cut_of (start.From cut) = cut
cut_of (start.Retrace cut) = cut
cut_of (start.Lift cut wanted) = cut

-- the lines whose places a start wants
abbrev pub wanted_of : LaneStart → List ℕ
wanted_of start.Fresh = []
wanted_of (start.From cut) = []
wanted_of (start.Retrace cut) = []
wanted_of (start.Lift cut wanted) = wanted

-- the digest that a start knows of the bytes before its offset
abbrev pub known_of : LaneStart → Option Digest
known_of start.Fresh = None
known_of (start.From cut) = Some cut.digest
known_of (start.Retrace cut) = None
known_of (start.Lift cut wanted) = None

-- a lane begins so over what the source has left, by a slack in nanoseconds, and keeps these places; where the cut says closed, the source ends at the offset
pub record Begins {S L : Type 0} (left lent_as : S → Option (List ℕ)) (fault_count : S → ℕ) (source : S) (reader : L) (shard : ℕ) (slack : Option ℤ) (cut : LaneCut) (places : List (ℕ × ℕ)) (lane : LaneView S L) : Type 0 where
  pub state : lane.state ≡ beginning_lane cut (fault_count source)
  pub reader_is : lane.reader ≡ reader
  pub shard_is : lane.shard ≡ shard
  pub slack_is : lane.slack ≡ slack
  pub places_are : lane.places ≡ places
  pub text : IsTextOf left (left source) lane
  pub ended : cut.closed ≡ true → IfSome (left source) (λ text. length text ≡ cut.offset)
  pub named : lent_as lane.source ≡ lent_as source
  pub silent : left source ≡ None → left lane.source ≡ None

-- a lane that is retraced begins with the cut's lane, with the digest of the bytes before the offset
pub record Retraces {S L : Type 0} (left lent_as : S → Option (List ℕ)) (fault_count : S → ℕ) (source : S) (reader : L) (shard : ℕ) (slack : Option ℤ) (cut : LaneCut) (lane : LaneView S L) : Type 0 where
  pub first : List ℕ
  pub before : IsBefore (left source) cut.offset first
  pub begins : Begins left lent_as fault_count source reader shard slack (retraced_cut first cut) [] lane

-- a lane that is lifted begins so too, with each event at the place of its line, and keeps the places of the wanted lines
pub record Lifts {S L : Type 0} (left lent_as : S → Option (List ℕ)) (fault_count : S → ℕ) (source : S) (reader : L) (shard : ℕ) (slack : Option ℤ) (cut : LaneCut) (wanted : List ℕ) (lane : LaneView S L) : Type 0 where
  pub finds : Finds (left source) cut.offset wanted lane.places
  pub begins : Begins left lent_as fault_count source reader shard slack (placed_cut finds.first cut) lane.places lane

-- how a lane begins, by a slack in milliseconds
abbrev pub BeginsAs : {S L : Type 0} → (left lent_as : S → Option (List ℕ)) → (S → ℕ) → S → L → (shard : ℕ) (slack : Option ℕ) → LaneStart → LaneView S L → Type 0
BeginsAs left lent_as fault_count source reader shard slack start.Fresh lane = Begins left lent_as fault_count source reader shard (nanos_of slack) fresh_cut [] lane
BeginsAs left lent_as fault_count source reader shard slack (start.From cut) lane = Begins left lent_as fault_count source reader shard (nanos_of slack) cut [] lane
BeginsAs left lent_as fault_count source reader shard slack (start.Retrace cut) lane = Retraces left lent_as fault_count source reader shard (nanos_of slack) cut lane
BeginsAs left lent_as fault_count source reader shard slack (start.Lift cut wanted) lane = Lifts left lent_as fault_count source reader shard (nanos_of slack) cut wanted lane

-- why a lane isn't made that begins behind the offset of a cut, and that the source comes back
pub record IsRefused {S : Type 0} (left lent_as : S → Option (List ℕ)) (fault_count : S → ℕ) (cut : LaneCut) (known : Option Digest) (wanted : List ℕ) (source : S) (refused_by : LaneRefused) (back : S) : Type 0 where
  pub cause : IsCause (left source) (fault_count source) (fault_count back) cut.offset cut.closed known wanted refused_by
  pub steady : refused_by ≢ refused.Failed → fault_count back ≡ fault_count source
  pub gives : GivesBack left lent_as fault_count cut.offset source back

-- the same, by its start
abbrev pub IsNotMade : {S : Type 0} → (left lent_as : S → Option (List ℕ)) → (S → ℕ) → LaneStart → S → LaneRefused → S → Type 0
IsNotMade left lent_as fault_count by source refused_by back = IsRefused left lent_as fault_count (cut_of by) (known_of by) (wanted_of by) source refused_by back

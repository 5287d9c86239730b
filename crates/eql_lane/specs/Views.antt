-- What contracts see of a lane.
use Rattle.std.specs.Prelude.{◌≡◌, ◌≤◌, ◌+◌, ◌++◌, ℕ, ℤ, true, List, [], take, drop, length, Option, None, Some, IfSome}
use Rattle.eql_digest.specs.Digests.{IsDigestOf}
use Rattle.eql_values.specs.declared.cut.LaneCut.{LaneCut}
use Rattle.eql_values.specs.Accepted.{Reads, sorted_items}
use Rattle.eql_laws.specs.Counting.{greatest_lines, greatest_bytes}
use Rattle.eql_lane.specs.Buffers.{Pending, Stands}
use Rattle.eql_lane.specs.Lanes.{Setting, LaneState, HasDigest}

-- a lane: its source, its reader, its shard, its slack in nanoseconds, the bytes that aren't read as lines yet, the places that it keeps of wanted lines, and its state
pub record LaneView (S L : Type 0) : Type 0 where
  pub source : S
  pub reader : L
  pub shard : ℕ
  pub slack : Option ℤ
  pub buffer : Pending
  pub places : List (ℕ × ℕ)
  pub state : LaneState

-- a lane of this text: the digest is that of its bytes before the offset, behind the lines that were read come the bytes at hand, and behind those that were taken what the source has left
pub record IsTextAt (text : List ℕ) (left : Option (List ℕ)) (buffer : Pending) (cut : LaneCut) (taken : ℕ) : Type 0 where
  pub digest : IsDigestOf cut.digest (take cut.offset text)
  pub pending : List ℕ
  pub stands : Stands buffer pending
  pub parts : drop cut.offset text ≡ pending ++ drop taken text
  pub within : taken ≤ length text
  pub left_is : left ≡ Some (drop taken text)

-- the same, where a text is told
abbrev pub IsTextOf : {S L : Type 0} → (S → Option (List ℕ)) → Option (List ℕ) → LaneView S L → Type 0
IsTextOf left text lane = IfSome text (λ t. IsTextAt t (left lane.source) lane.buffer lane.state.cut lane.state.taken)

-- what no step of a lane changes, by its text and by what its reader reads
abbrev pub setting_of : {S L : Type 0} → (L → Reads) → (text : Option (List ℕ)) → LaneView S L → Setting
setting_of read_of text lane = record { text = text; shard = lane.shard; slack = lane.slack; reads = read_of lane.reader }

-- what no step changes is the same: the shard, the slack, what lines give, the places, the name of the source, and that it doesn't tell
pub record IsSameLane {S L : Type 0} (left lent_as : S → Option (List ℕ)) (read_of : L → Reads) (old new : LaneView S L) : Type 0 where
  pub shard : new.shard ≡ old.shard
  pub slack : new.slack ≡ old.slack
  pub reads : read_of new.reader ≡ read_of old.reader
  pub places : new.places ≡ old.places
  pub named : lent_as new.source ≡ lent_as old.source
  pub silent : left old.source ≡ None → left new.source ≡ None

-- the bytes at hand are those of the text behind the lines that were read, and what the source has left comes behind them
pub record AreAtHand (text : List ℕ) (left : Option (List ℕ)) (offset taken : ℕ) (pending : List ℕ) : Type 0 where
  pub parts : drop offset text ≡ pending ++ drop taken text
  pub within : taken ≤ length text
  pub left_is : left ≡ Some (drop taken text)

-- what is pending, and how it stands to what was taken
pub record IsLane (text left : Option (List ℕ)) (buffer : Pending) (cut : LaneCut) (taken : ℕ) : Type 0 where
  pub pending : List ℕ
  pub stands : Stands buffer pending
  pub count : cut.offset + length pending ≡ taken
  pub told : IfSome text (λ t. AreAtHand t left cut.offset taken pending)
  pub digest : HasDigest text cut
  pub bytes : taken ≤ greatest_bytes
  pub lines : cut.counts.lines ≤ greatest_lines
  pub closed : cut.closed ≡ true → pending ≡ []
  pub at_end : cut.closed ≡ true → IfSome left (λ l. l ≡ [])
  pub order : sorted_items cut.items ≡ cut.items
  pub short : length buffer.unread ≤ 1048576 + 65536

-- Bytes that were taken of a source and aren't read as lines yet.
use Rattle.std.specs.Prelude.{◌≡◌, ◌≤◌, ◌<◌, ◌+◌, ◌&&◌, true, ◌++◌, ℕ, suc, List, [], ◌∷◌, take, drop, length, Option, Some, None, IfSome, IsTrue}
use Rattle.eql_digest.specs.declared.digest.Digest.{Digest}
use Rattle.eql_digest.specs.Digests.{with_bytes, IsDigestOf}
use Rattle.eql_values.specs.Reading.{is_blank}
use Rattle.eql_laws.specs.Places.{is_one_line}
use Rattle.eql_lane.specs.declared.buffer.LongLine.{LongLine}

abbrev pub IsOneLine : List ℕ → Type 0
IsOneLine bytes = IsTrue (is_one_line bytes)

-- what is kept of the line at hand where it is too long, the bytes that are kept, and the digest of the bytes that were read
pub record Pending : Type 0 where
  pub long : Option LongLine
  pub unread : List ℕ
  pub digest : Digest

-- what was dropped of a line, by the digest of the bytes before it
abbrev pub dropped_of : Digest → Option LongLine → LongLine
dropped_of digest None = record { bytes = 0; blank = true; digest = digest }
dropped_of digest (Some line) = line

-- what was dropped of the line at hand
abbrev pub dropped_part : Pending → LongLine
dropped_part p = dropped_of p.digest p.long

-- a line that goes on with these bytes
abbrev pub seen_more : LongLine → List ℕ → LongLine
seen_more line more = record { bytes = line.bytes + length more; blank = line.blank && is_blank more; digest = with_bytes line.digest more }

-- how many bytes aren't read yet
abbrev pub byte_count : Pending → ℕ
byte_count p = (dropped_part p).bytes + length p.unread

-- some bytes have this digest
abbrev pub IsOfBytes : Digest → Type 0
IsOfBytes digest = (bytes : List ℕ) × IsDigestOf digest bytes

-- a buffer: of its bytes the first are read, and of the others the first are known to be of one line; the digest is of what stood before all of them, and where the line at hand is too long, none of them is read
pub record IsBuffer (bytes : List ℕ) (start searched : ℕ) (long : Option LongLine) (digest : Digest) : Type 0 where
  pub within : start + searched ≤ length bytes
  pub one : IsOneLine (take searched (drop start bytes))
  pub of_bytes : IsOfBytes digest
  pub long_is : IfSome long (λ line. (start ≡ 0) × IsOfBytes line.digest)

-- bytes of a line that were dropped: there are too many of them, without a line feed
pub record IsLong (line : LongLine) (front : List ℕ) : Type 0 where
  pub bytes : length front ≡ line.bytes
  pub many : 1048576 < length front
  pub blank : is_blank front ≡ line.blank
  pub one : IsOneLine front

abbrev pub IsFront : Option LongLine → List ℕ → Type 0
IsFront None front = front ≡ []
IsFront (Some line) front = IsLong line front

-- there are such bytes
abbrev pub HasFront : Option LongLine → Type 0
HasFront long = (front : List ℕ) × IsFront long front

-- the buffer stands for these bytes: those dropped of the line at hand, which are in a digest of their own, and those that are kept
pub record Stands (buffer : Pending) (bytes : List ℕ) : Type 0 where
  pub front : List ℕ
  pub is_front : IsFront buffer.long front
  pub digest_is : (dropped_part buffer).digest ≡ with_bytes buffer.digest front
  pub parts : bytes ≡ front ++ buffer.unread

-- of what a source had left, these are the first bytes, and it has the others left now
pub record IsNextOf (left : List ℕ) (now : Option (List ℕ)) (piece : List ℕ) : Type 0 where
  pub there : length piece ≤ length left
  pub piece_is : piece ≡ take (length piece) left
  pub now_is : now ≡ Some (drop (length piece) left)

-- the next n bytes of a source are kept behind what was kept
pub record FillsBuffer (old now : Option (List ℕ)) (before after : List ℕ) (n : ℕ) : Type 0 where
  pub piece : List ℕ
  pub count : length piece ≡ n
  pub told : IfSome old (λ left. IsNextOf left now piece)
  pub after_is : after ≡ before ++ piece

-- a line feed after the first bytes, which have none
pub record HasFeedAt (end : ℕ) (bytes : List ℕ) : Type 0 where
  pub within : end < length bytes
  pub one : IsOneLine (take end bytes)
  pub parts : bytes ≡ take end bytes ++ 10 ∷ drop (suc end) bytes

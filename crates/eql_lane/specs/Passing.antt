-- What passing over bytes of a source does.
use Rattle.std.specs.Prelude.{◌≡◌, ◌≢◌, ◌≤◌, ◌<◌, ◌+◌, ◌++◌, ℕ, Bool, true, false, List, [], take, drop, length, Option, Some, None, IfSome, All, Contains}
use Rattle.eql_digest.specs.declared.digest.Digest.{Digest}
use Rattle.eql_digest.specs.Digests.{IsDigestOf}
use Rattle.eql_outside.specs.Outside.{Rose}
use Rattle.eql_lane.specs.Noting.{NotesOf, Locates, IsMissing, IsWholeLine}
use Rattle.eql_lane.specs.declared.make.LaneRefused.{LaneRefused}
use Rattle.eql_lane.specs.declared.make.LaneRefused.TheVariants as refused
use Rattle.eql_lane.specs.declared.pass.Found.{Found}
use Rattle.eql_lane.specs.declared.pass.Trace.{Trace}

-- the first n bytes were passed over
pub record PassesOver {S : Type 0} (left lent_as : S → Option (List ℕ)) (n : ℕ) (old now : S) : Type 0 where
  pub rest : IfSome (left old) (λ text. (n ≤ length text) × (left now ≡ Some (drop n text)))
  pub silent : left old ≡ None → left now ≡ None
  pub named : lent_as now ≡ lent_as old

-- nothing is left
abbrev pub IsEnd : {S : Type 0} → (S → Option (List ℕ)) → S → Type 0
IsEnd left source = IfSome (left source) (λ bytes. bytes ≡ [])

-- n bytes of what a source had left were passed over, the lines in them were noted, and they came to the digest
pub record ReadsOver (left : Option (List ℕ)) (n : ℕ) (old now : Trace) : Type 0 where
  pub bytes : List ℕ
  pub count : length bytes ≡ n
  pub told : IfSome left (λ text. bytes ≡ take n text)
  pub noted : (front : List ℕ) → NotesOf front old.notes → NotesOf (front ++ bytes) now.notes
  pub digest : (front : List ℕ) → IsDigestOf old.digest front → IsDigestOf now.digest (front ++ bytes)
  pub wanted : now.notes.wanted ≡ old.notes.wanted
  pub passed : now.notes.passed ≡ old.notes.passed + n

-- the wanted lines are whole lines before an offset of what a source had left, and these are their places
pub record Finds (text : Option (List ℕ)) (offset : ℕ) (wanted : List ℕ) (places : List (ℕ × ℕ)) : Type 0 where
  pub first : List ℕ
  pub rest : List ℕ
  pub count : length first ≡ offset
  pub told : IfSome text (λ t. t ≡ first ++ rest)
  pub located : Locates first rest wanted places

-- the same, and this is the digest of the bytes before the offset
pub record Traces (text : Option (List ℕ)) (offset : ℕ) (wanted : List ℕ) (found : Found) : Type 0 where
  pub finds : Finds text offset wanted found.places
  pub digest : IsDigestOf found.digest finds.first

-- these are the bytes before an offset of what a source had left
pub record IsBefore (text : Option (List ℕ)) (offset : ℕ) (first : List ℕ) : Type 0 where
  pub count : length first ≡ offset
  pub told : IfSome text (λ t. first ≡ take offset t)

-- where a digest is known of the bytes before an offset, it is theirs
abbrev pub Agrees : (known : Option Digest) (offset : ℕ) (text : List ℕ) → Type 0
Agrees known offset text = IfSome known (λ digest. IsDigestOf digest (take offset text))

-- what is found of a place that is refused: a wanted line is missing, or none is and the text goes on behind a closed place
abbrev pub IsJudged : (first rest wanted : List ℕ) (closed ended : Bool) → LaneRefused → Type 0
IsJudged first rest wanted closed ended (refused.NoLine line) = IsMissing first rest wanted line
IsJudged first rest wanted closed ended refused.Grown = (closed ≡ true) × (ended ≡ false) × All (IsWholeLine first rest) wanted
IsJudged first rest wanted closed ended (refused.Short at had) = ⊥
IsJudged first rest wanted closed ended refused.Differs = ⊥
IsJudged first rest wanted closed ended refused.Failed = ⊥
IsJudged first rest wanted closed ended refused.Memory = ⊥

-- there are as many bytes as the offset says, with another digest than the one that is known
pub record IsOther (offset : ℕ) (known : Option Digest) (text : List ℕ) : Type 0 where
  pub there : offset ≤ length text
  pub differs : ¬ Agrees known offset text

-- the least wanted line that isn't a whole line before the offset
pub record Misses (offset : ℕ) (known : Option Digest) (wanted : List ℕ) (line : ℕ) (text : List ℕ) : Type 0 where
  pub there : offset ≤ length text
  pub agrees : Agrees known offset text
  pub missing : IsMissing (take offset text) (drop offset text) wanted line

-- a byte stands behind the offset, and all wanted lines are whole lines before it
pub record Grows (offset : ℕ) (known : Option Digest) (wanted : List ℕ) (text : List ℕ) : Type 0 where
  pub further : offset < length text
  pub agrees : Agrees known offset text
  pub whole : All (IsWholeLine (take offset text) (drop offset text)) wanted

-- why a lane isn't made: the source ended before the offset, has other bytes before it than were read, has a wanted line not there, went on behind a closed cut, or failed; or memory ran out
abbrev pub IsCause : (text : Option (List ℕ)) (before now offset : ℕ) (closed : Bool) (known : Option Digest) (wanted : List ℕ) → LaneRefused → Type 0
IsCause text before now offset closed known wanted (refused.Short at had) = (at ≡ offset) × (had < at) × IfSome text (λ t. length t ≡ had)
IsCause text before now offset closed known wanted refused.Differs = (known ≢ None) × IfSome text (IsOther offset known)
IsCause text before now offset closed known wanted (refused.NoLine line) = Contains wanted line × IfSome text (Misses offset known wanted line)
IsCause text before now offset closed known wanted refused.Grown = (closed ≡ true) × IfSome text (Grows offset known wanted)
IsCause text before now offset closed known wanted refused.Failed = Rose before now
IsCause text before now offset closed known wanted refused.Memory = Unit {0}

-- the source comes back: of what it had left some first bytes are taken, no more than the offset and one
pub record GivesBack {S : Type 0} (left lent_as : S → Option (List ℕ)) (fault_count : S → ℕ) (offset : ℕ) (source back : S) : Type 0 where
  pub taken : ℕ
  pub few : taken ≤ offset + 1
  pub passed : PassesOver left lent_as taken source back
  pub counts : fault_count source ≤ fault_count back

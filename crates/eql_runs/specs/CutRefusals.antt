-- Why a run is refused by the disk of its checkpoint, which may be held, and by the cut on it, in the order in which the causes
-- count.
use Rattle.std.specs.Prelude.{◌≡◌, ◌<◌, ◌≤◌, ◌++◌, ℕ, true, List, Some, length, slice_get, take, drop, codes}
use Rattle.std.specs.Fmt.{decimal}
use Rattle.eql_digest.specs.Digests.{IsDigestOf}
use Rattle.eql_values.specs.declared.cut.LaneCut.{LaneCut}
use Rattle.eql_outside.specs.declared.refused.DiskHeld.{DiskHeld}
use Rattle.eql_outside.specs.declared.refused.DiskHeld.TheVariants.{Busy, Shared}
use Rattle.eql_laws.specs.Fitting.{Fits, Run}
use Rattle.eql_lane.specs.Noting.{IsWholeLine}
use Rattle.eql_cut.specs.declared.cut.Cut.{Cut}
use Rattle.eql_cut.specs.declared.cut.CutHead.{CutHead}
use Rattle.eql_cut.specs.declared.compare.Differs.{Differs}
use Rattle.eql_cut.specs.declared.compare.Differs.TheVariants as what
use Rattle.eql_cut.specs.Agreeing.{difference}
use Rattle.eql_cut.specs.Domain.{kept_by}
use Rattle.eql_cut.specs.Placing.{NamesLine}
use Rattle.eql_ckdisk.specs.Refusing.{number_of}
use Rattle.eql_runs.specs.Searches.{Search, run_of}
use Rattle.eql_runs.specs.Starts.{OnDisk, nothing_kept, a_cut, bad_head, bad_text, not_ours, IsHeadOf, keeps_digests}

-- why a cut is refused
pub data CutRefusal : Type 0 where
  foreign : (area : ℕ) → CutRefusal
  damaged : (area at : ℕ) → CutRefusal
  differs : Differs → CutRefusal
  unfit : CutRefusal
  short : (shard offset had : ℕ) → CutRefusal
  other_bytes : (shard : ℕ) → CutRefusal
  no_line : (shard line : ℕ) → CutRefusal
  grown : (shard : ℕ) → CutRefusal

-- the word for what differs
abbrev pub differing : Differs → List ℕ
differing (what.Query cut now) = codes "query"
differing (what.Mapping cut now) = codes "mapping"
differing (what.Tie cut now) = codes "tiebreaker"
differing (what.Slack cut now) = codes "slack"
differing (what.Shards cut now) = codes "shards"

-- the line that is told of it
abbrev pub cut_text : CutRefusal → List ℕ
cut_text (foreign area) = codes "checkpoint: Foreign area " ++ decimal area ++ codes "\n"
cut_text (damaged area at) = codes "checkpoint: Damaged area " ++ decimal area ++ codes " at " ++ decimal at ++ codes "\n"
cut_text (differs d) = codes "checkpoint: Differs " ++ differing d ++ codes "\n"
cut_text unfit = codes "checkpoint: Unfit\n"
cut_text (short shard offset had) =
    codes "checkpoint: Short shard " ++ decimal shard ++ codes " offset " ++ decimal offset ++ codes " had " ++ decimal had
    ++ codes "\n"
cut_text (other_bytes shard) = codes "checkpoint: Differs shard " ++ decimal shard ++ codes "\n"
cut_text (no_line shard line) = codes "checkpoint: NoLine shard " ++ decimal shard ++ codes " line " ++ decimal line ++ codes "\n"
cut_text (grown shard) = codes "checkpoint: Grown shard " ++ decimal shard ++ codes "\n"

-- the line that is told of a disk that is held. A file that serves for something else is told as one of another program
abbrev pub held_text : DiskHeld → List ℕ
held_text Busy = codes "checkpoint: Busy\n"
held_text (Shared area) = cut_text (foreign (number_of area))

-- why what is on the disk is refused by a run of this head, which depends so on its cuts: another program wrote an area, or the
-- area is damaged, or the cut is of another run, or doesn't fit. Of a text that is no cut's any place may be told
pub data FoundRefuses (head : CutHead) (run : Run) : OnDisk → CutRefusal → Type 0 where
  is_foreign : (area : ℕ) → FoundRefuses head run (not_ours area) (foreign area)
  head_damaged : (area : ℕ) → FoundRefuses head run (bad_head area) (damaged area 0)
  text_damaged : (area at : ℕ) → FoundRefuses head run (bad_text area) (damaged area at)
  head_differs :
      (format generation : ℕ) (cut : Cut) (d : Differs) → difference cut.head head ≡ Some d
      → FoundRefuses head run (a_cut format generation cut) (differs d)
  is_unfit :
      (format generation : ℕ) (cut : Cut) → cut.head ≡ head → ¬ (Fits run head.shards (kept_by cut))
      → FoundRefuses head run (a_cut format generation cut) unfit

-- a line is a whole one before this offset of a text
abbrev pub StandsBefore : (offset : ℕ) → List ℕ → (line : ℕ) → Type 0
StandsBefore offset text line = IsWholeLine (take offset text) (drop offset text) line

-- the least line of a shard that the cut names and that doesn't stand before the offset
pub record IsLostLine (cut : Cut) (shard offset : ℕ) (text : List ℕ) (line : ℕ) : Type 0 where
  pub named : NamesLine cut shard line
  pub lost : ¬ (StandsBefore offset text line)
  pub least : (other : ℕ) → NamesLine cut shard other → other < line → StandsBefore offset text other

-- the bytes of a text before the offset have the digest that the cut keeps, where its format keeps one
abbrev pub HasItsBytes : (format : ℕ) → LaneCut → List ℕ → Type 0
HasItsBytes format lane text = keeps_digests format ≡ true → IsDigestOf lane.digest (take lane.offset text)

-- why the text of a shard is refused by what the cut keeps of it. Bytes are compared where the cut keeps digests, and lines are
-- looked for where it has no places
pub data ShardRefuses (format : ℕ) (cut : Cut) (shard : ℕ) (text : List ℕ) : CutRefusal → Type 0 where
  is_short :
      (lane : LaneCut) → slice_get cut.lanes shard ≡ Some lane → length text < lane.offset
      → ShardRefuses format cut shard text (short shard lane.offset (length text))
  has_other_bytes :
      (lane : LaneCut) → slice_get cut.lanes shard ≡ Some lane → lane.offset ≤ length text → ¬ (HasItsBytes format lane text)
      → ShardRefuses format cut shard text (other_bytes shard)
  has_no_line :
      (lane : LaneCut) → slice_get cut.lanes shard ≡ Some lane → format ≡ 1 → lane.offset ≤ length text
      → (line : ℕ) → IsLostLine cut shard lane.offset text line
      → ShardRefuses format cut shard text (no_line shard line)
  is_grown :
      (lane : LaneCut) → slice_get cut.lanes shard ≡ Some lane → lane.closed ≡ true → lane.offset < length text
      → HasItsBytes format lane text → (format ≡ 1 → (line : ℕ) → NamesLine cut shard line → StandsBefore lane.offset text line)
      → ShardRefuses format cut shard text (grown shard)

-- none of the shards before this one is refused
abbrev pub NoneIsRefusedBefore : (format : ℕ) → Cut → (shard : ℕ) → List (List ℕ) → Type 0
NoneIsRefusedBefore format cut shard texts =
    (s : ℕ) (text : List ℕ) (r : CutRefusal) → s < shard → slice_get texts s ≡ Some text
    → ¬ (ShardRefuses format cut s text r)

-- why a run of the search over these texts is refused by what its disk holds
pub data CutRefuses (search : Search) (texts : List (List ℕ)) : OnDisk → CutRefusal → Type 0 where
  by_found :
      (on : OnDisk) (head : CutHead) (r : CutRefusal) → IsHeadOf search (length texts) head
      → FoundRefuses head (run_of search head.slack) on r → CutRefuses search texts on r
  by_shard :
      (format generation : ℕ) (cut : Cut) → IsHeadOf search (length texts) cut.head
      → Fits (run_of search cut.head.slack) (length texts) (kept_by cut) → (shard : ℕ) (text : List ℕ)
      → slice_get texts shard ≡ Some text → NoneIsRefusedBefore format cut shard texts → (r : CutRefusal)
      → ShardRefuses format cut shard text r → CutRefuses search texts (a_cut format generation cut) r

-- a run tests all that it can of a cut: it says that it is of this search, it fits it, and no shard is refused by it
pub record IsTestedCut (search : Search) (texts : List (List ℕ)) (format : ℕ) (cut : Cut) : Type 0 where
  pub head : IsHeadOf search (length texts) cut.head
  pub fits : Fits (run_of search cut.head.slack) (length texts) (kept_by cut)
  pub shards : NoneIsRefusedBefore format cut (length texts) texts

-- what is on the disk passed these tests
abbrev pub IsTested : Search → List (List ℕ) → OnDisk → Type 0
IsTested search texts nothing_kept = Unit {0}
IsTested search texts (a_cut format generation cut) = IsTestedCut search texts format cut
IsTested search texts (bad_head area) = ⊥
IsTested search texts (bad_text area) = ⊥
IsTested search texts (not_ours area) = ⊥

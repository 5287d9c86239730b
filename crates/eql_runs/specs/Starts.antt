-- What a run of `find` begins with: what the disk of its checkpoint holds.
use Rattle.std.specs.Prelude.{◌≡◌, ◌==◌, ℕ, nat_le, Bool, true, false, if◌then◌else◌, List, [], ◌∷◌, Option, Some, None, IsSomeAnd, IsTrue, length, map, slice_get, take}
use Rattle.eql_digest.specs.Digests.{start, with_bytes}
use Rattle.eql_values.specs.declared.cut.LaneCut.{LaneCut}
use Rattle.eql_values.specs.declared.order.Mark.{Mark}
use Rattle.eql_values.specs.declared.order.Mark.TheVariants.{Start, At}
use Rattle.eql_values.specs.Marks.{is_safe}
use Rattle.eql_outside.specs.declared.disk.Area.{Area}
use Rattle.eql_outside.specs.Areas.{seen_areas}
use Rattle.eql_outside.specs.Moments.{History}
use Rattle.eql_laws.specs.Belows.{IsMarkTime}
use Rattle.eql_laws.specs.Fitting.{Fits, cut_of}
use Rattle.eql_laws.specs.Places.{ReadTo, ArePlaces, lows_from, whole}
use Rattle.eql_lane.specs.Noting.{retraced_cut}
use Rattle.eql_cut.specs.declared.cut.Cut.{Cut}
use Rattle.eql_cut.specs.declared.cut.CutHead.{CutHead}
use Rattle.eql_cut.specs.Domain.{kept_by}
use Rattle.eql_cut.specs.Whole.{IsNoText, IsTextOf}
use Rattle.eql_cut.specs.Placed.{cut_at_places}
use Rattle.eql_ckdisk.specs.Found.{Found, found_on, text}
use Rattle.eql_ckdisk.specs.Found as areas
use Rattle.eql_ckdisk.specs.Refusing.{IsDamagedHead, IsForeign, number_of}
use Rattle.eql_parser.specs.Printed.{query_shown}
use Rattle.eql_words.specs.declared.commands.Checkpoint.{Checkpoint}
use Rattle.eql_words.specs.declared.commands.Find.{Find}
use Rattle.eql_runs.specs.Searches.{Search, nanos_in, reads_of, run_of}

-- ---- what a disk holds
-- no cut; a cut, with the format of its text and its generation; or an area, by its number, of which the head is damaged, of
-- which the text is no cut's, or that another program wrote
pub data OnDisk : Type 0 where
  nothing_kept : OnDisk
  a_cut : (format generation : ℕ) → Cut → OnDisk
  bad_head : (area : ℕ) → OnDisk
  bad_text : (area : ℕ) → OnDisk
  not_ours : (area : ℕ) → OnDisk

-- what both areas stand for
abbrev pub StandsFor : OnDisk → Found → Type 0
StandsFor nothing_kept f = f ≡ areas.nothing
StandsFor (a_cut format generation cut) f =
    (area : Area) × (bytes : List ℕ) × (f ≡ text area generation bytes) × IsTextOf format cut bytes
StandsFor (bad_head number) f = IsDamagedHead number 0 f
StandsFor (bad_text number) f =
    (area : Area) × (generation : ℕ) × (bytes : List ℕ) × (f ≡ text area generation bytes)
    × (number ≡ number_of area) × IsNoText bytes
StandsFor (not_ours number) f = IsForeign number f

-- a disk that tells holds it, by what reads give
abbrev pub DiskHolds : Option History → OnDisk → Type 0
DiskHolds disk on = IsSomeAnd disk (λ h. StandsFor on (found_on (seen_areas h.now)))

abbrev pub generation_on : OnDisk → ℕ
generation_on nothing_kept = 0
generation_on (a_cut format generation cut) = generation
generation_on (bad_head area) = 0
generation_on (bad_text area) = 0
generation_on (not_ours area) = 0

-- how many lines of the listing were written before, by what the disk holds
abbrev pub listed_on : OnDisk → ℕ
listed_on nothing_kept = 0
listed_on (a_cut format generation cut) = cut.book.listed
listed_on (bad_head area) = 0
listed_on (bad_text area) = 0
listed_on (not_ours area) = 0

-- from which mark a run goes on
abbrev pub mark_on : OnDisk → Mark
mark_on nothing_kept = Start
mark_on (a_cut format generation cut) = At cut.mark
mark_on (bad_head area) = Start
mark_on (bad_text area) = Start
mark_on (not_ours area) = Start

-- what a run begins with: nothing where it keeps none
abbrev pub start_asked : Option Checkpoint → OnDisk → OnDisk
start_asked None on = nothing_kept
start_asked (Some checkpoint) on = on

abbrev pub start_for : Find → OnDisk → OnDisk
start_for find on = start_asked find.checkpoint on

-- ---- cuts of a search
-- what a cut says of its run, where the run is this search over so many shards
pub record IsHeadOf (search : Search) (shards : ℕ) (head : CutHead) : Type 0 where
  pub query : head.query ≡ query_shown search.query
  pub mapping_is : head.mapping ≡ search.mapping
  pub tie : head.tie ≡ search.tie
  pub slack : search.slack ≡ Some head.slack
  pub shards_are : head.shards ≡ shards

-- what is kept of shards, with the digests of the bytes of these texts that were read
abbrev pub lanes_over : List (List ℕ) → List LaneCut → List LaneCut
lanes_over texts [] = []
lanes_over [] (lane ∷ lanes) = lane ∷ lanes
lanes_over (bytes ∷ texts) (lane ∷ lanes) = retraced_cut (take lane.offset bytes) lane ∷ lanes_over texts lanes

abbrev pub cut_over : List (List ℕ) → Cut → Cut
cut_over texts cut = record cut { lanes = lanes_over texts cut.lanes }

-- the fourth format keeps digests of the bytes that were read
abbrev pub keeps_digests : (format : ℕ) → Bool
keeps_digests format = nat_le 4 format

-- the cut for which the text of a cut stands: the first format keeps no places of lines, and the first three no digests, so those of
-- the texts are meant
abbrev pub meant_by : (format : ℕ) → List (List ℕ) → Cut → Cut
meant_by format texts cut =
    if keeps_digests format then cut
    else if format == 1 then cut_over texts (cut_at_places texts cut)
    else cut_over texts cut

-- the cut is one of the search, at a slack in milliseconds, over these texts, which were read up to places, at a safe time
pub record IsCutOf (search : Search) (slack : ℕ) (texts : List (List ℕ)) (cut : Cut) : Type 0 where
  pub shards : List ReadTo
  pub texts_are : map whole shards ≡ texts
  pub are_places : ArePlaces shards
  pub safe : IsTrue (is_safe (At cut.mark) (lows_from (reads_of search) (Some (nanos_in slack)) 0 shards))
  pub in_range : IsMarkTime cut.mark
  pub kept_is : kept_by cut ≡ cut_of (run_of search slack) (reads_of search) cut.mark shards

-- a cut that says it is of this search over these texts, and is, and that fits it
pub record IsOwnCut (search : Search) (texts : List (List ℕ)) (format : ℕ) (cut : Cut) : Type 0 where
  pub head : IsHeadOf search (length texts) cut.head
  pub fits : Fits (run_of search cut.head.slack) (length texts) (kept_by cut)
  pub is_cut : IsCutOf search cut.head.slack texts (meant_by format texts cut)

-- a run over these texts may begin so: with nothing, or with a cut of it
abbrev pub BeginsWith : Search → List (List ℕ) → OnDisk → Type 0
BeginsWith search texts nothing_kept = Unit {0}
BeginsWith search texts (a_cut format generation cut) = IsOwnCut search texts format cut
BeginsWith search texts (bad_head area) = ⊥
BeginsWith search texts (bad_text area) = ⊥
BeginsWith search texts (not_ours area) = ⊥

-- ---- what a run can't test
-- where the bytes of two texts before an offset have one digest, they are the same bytes
abbrev pub DigestTells : (offset : ℕ) → (this other : List ℕ) → Type 0
DigestTells offset this other =
    with_bytes start (take offset this) ≡ with_bytes start (take offset other) → take offset this ≡ take offset other

-- this search put the cut, over texts that may be others than these; what was read of each of them and what stands there now are
-- told apart by their digests
pub record WasPut (search : Search) (texts : List (List ℕ)) (cut : Cut) : Type 0 where
  pub others : List (List ℕ)
  pub is_cut : IsCutOf search cut.head.slack others cut
  pub tells :
      (s : ℕ) (lane : LaneCut) (this other : List ℕ) → slice_get cut.lanes s ≡ Some lane → slice_get texts s ≡ Some this
      → slice_get others s ≡ Some other → DigestTells lane.offset this other

-- the search put the cut; one in a format without digests it put over these texts
pub record IsTrustedCut (search : Search) (texts : List (List ℕ)) (format : ℕ) (cut : Cut) : Type 0 where
  pub by_digests : keeps_digests format ≡ true → WasPut search texts cut
  pub without : keeps_digests format ≡ false → IsCutOf search cut.head.slack texts (meant_by format texts cut)

-- the one thing that a run can't test: a cut that says it is of this search is so
abbrev pub IsTrusted : Search → List (List ℕ) → OnDisk → Type 0
IsTrusted search texts nothing_kept = Unit {0}
IsTrusted search texts (a_cut format generation cut) =
    IsHeadOf search (length texts) cut.head → IsTrustedCut search texts format cut
IsTrusted search texts (bad_head area) = Unit {0}
IsTrusted search texts (bad_text area) = Unit {0}
IsTrusted search texts (not_ours area) = Unit {0}

-- A cut that is refused where a run begins, and one that isn't, in the words of runs.
use native.Mathlib.Omega.{arith}
use Rattle.std.proofs.Common.{◌≡◌, ◌≢◌, ◌<◌, ◌*◌, ◌==◌, ℕ, Bool, true, false, List, [], Option, Some, None, refl, sym, ap, ◌∙◌, subst, length, take, drop}
use Rattle.std.specs.Prelude.{Contains, IfSome, if◌then◌else◌, slice_get, pos, ◌↔◌}
use Rattle.std.proofs.lemmas.Bool.{eqb-true, false≢true}
use Rattle.std.proofs.lemmas.List.Elements.{All-contains, at_from_Contains}
use Rattle.std.proofs.lemmas.Option.{same_Some}
use Rattle.std.specs.Cmp.{nat_eq_equiv}
use Rattle.eql_values.specs.declared.cut.LaneCut.{LaneCut}
use Rattle.eql_outside.specs.Areas.{seen_areas}
use Rattle.eql_outside.specs.Moments.{History}
use Rattle.eql_laws.specs.Fitting.{Fits, Kept}
use Rattle.eql_words.specs.declared.commands.Find.{Find}
use Rattle.eql_words.specs.Bounds.{FindIsBounded}
use Rattle.eql_lane.specs.declared.make.LaneRefused.{LaneRefused}
use Rattle.eql_lane.specs.declared.make.LaneRefused.TheVariants as refused
use Rattle.eql_lane.specs.declared.make.LaneStart.{LaneStart}
use Rattle.eql_lane.specs.Noting.{IsWholeLine}
use Rattle.eql_lane.specs.Passing.{Agrees, IsCause}
use Rattle.eql_lane.specs.Starts.{cut_of, known_of, wanted_of}
use Rattle.eql_cut.specs.declared.cut.Cut.{Cut}
use Rattle.eql_cut.specs.declared.cut.CutHead.{CutHead}
use Rattle.eql_cut.specs.Domain.{kept_by}
use Rattle.eql_cut.specs.Fitting.{run_of as bare_run}
use Rattle.eql_cut.specs.Placing.{NamesLine}
use Rattle.eql_ckdisk.specs.Found.{found_on}
use Rattle.eql_runs.specs.CutRefusals.{CutRefusal, CutRefuses, FoundRefuses, HasItsBytes, IsTestedCut, NoneIsRefusedBefore, ShardRefuses, by_found, by_shard, grown, has_no_line, has_other_bytes, head_damaged, head_differs, is_foreign, is_grown, is_short, is_unfit, no_line, other_bytes, short, text_damaged}
use Rattle.eql_runs.specs.Files.{Files}
use Rattle.eql_runs.specs.RunLaws.{DiskHoldsOne, FitsAtAnySpan}
use Rattle.eql_runs.specs.Runs.{RefusesCut, Searches}
use Rattle.eql_runs.specs.Searches.{run_of}
use Rattle.eql_runs.specs.Starts.{DiskHolds, IsHeadOf, OnDisk, StandsFor, a_cut, keeps_digests, start_for}
use Rattle.eql_resume.specs.Beginnings.{LaneBegins, keeping_of, undigested, unplaced, whole}
use Rattle.eql_resume.specs.Finding.{IsRefusedBy, Suits}
use Rattle.eql_find.specs.declared.plan.PlannedQuery.{PlannedQuery}
use Rattle.eql_shards.specs.Lanes.{Serves}
use Rattle.eql_find.specs.Searching.{head_in, search_in}
use Rattle.eql_find.specs.Starting.{pipes_of, stages_of, values_of}
use Rattle.eql_find.proofs.TextLemmas.{begins_asked, head_is}

-- ---- the run of a search, and that by which a cut was tested, which has no span
module _ (spans : FitsAtAnySpan) (find : Find) (p : PlannedQuery) where
  spanned : (slack shards : ℕ) (kept : Kept) → Fits (bare_run (stages_of p) (values_of p) (pipes_of p) slack) shards kept
      → Fits (run_of (search_in find p) slack) shards kept
  spanned slack shards kept fits =
      spans (stages_of p) (values_of p) (pipes_of p) (pos (slack * 1000000)) None (run_of (search_in find p) slack).span shards kept fits

  unspanned : (slack shards : ℕ) (kept : Kept) → Fits (run_of (search_in find p) slack) shards kept
      → Fits (bare_run (stages_of p) (values_of p) (pipes_of p) slack) shards kept
  unspanned slack shards kept fits =
      spans (stages_of p) (values_of p) (pipes_of p) (pos (slack * 1000000)) (run_of (search_in find p) slack).span None shards kept fits

  found_refuses : (head : CutHead) (on : OnDisk) (r : CutRefusal)
      → FoundRefuses head (bare_run (stages_of p) (values_of p) (pipes_of p) head.slack) on r
      → FoundRefuses head (run_of (search_in find p) head.slack) on r
  found_refuses head _ _ (is_foreign area) = is_foreign area
  found_refuses head _ _ (head_damaged area) = head_damaged area
  found_refuses head _ _ (text_damaged area at) = text_damaged area at
  found_refuses head _ _ (head_differs format generation cut d differs) = head_differs format generation cut d differs
  found_refuses head _ _ (is_unfit format generation cut is unfit) =
      is_unfit format generation cut is (λ fits. unfit (unspanned head.slack head.shards (kept_by cut) fits))

-- what a disk is told to hold
holds_one : DiskHoldsOne → (h : History) (on other : OnDisk) → StandsFor on (found_on (seen_areas h.now)) → DiskHolds (Some h) other → on ≡ other
holds_one law h on other stands holds = law (found_on (seen_areas h.now)) on other stands holds

-- ---- a cut that is refused as it was found
pub refused_found : FitsAtAnySpan → DiskHoldsOne → (find : Find) (p : PlannedQuery) (files : Files) (texts : List (List ℕ)) (disk : Option History) (r : CutRefusal)
    → FindIsBounded find → find.checkpoint ≢ None → Searches find files (search_in find p) texts → length texts ≡ length find.shards
    → IfSome disk (λ h. IsRefusedBy (stages_of p) (values_of p) (pipes_of p) (head_in find p) (found_on (seen_areas h.now)) r)
    → (on : OnDisk) → DiskHolds disk on → RefusesCut find files on r
refused_found spans law find p files texts None r bounds asked searches many by on holds = absurd holds
refused_found spans law find p files texts (Some h) r bounds asked searches many by on holds =
    let one : by.on ≡ on = holds_one law h by.on on by.stands holds in
    let start : start_for find on ≡ on = begins_asked find.checkpoint on asked in
    record {
      search = search_in find p;
      texts = texts;
      searches = searches;
      refuses = by_found (start_for find on) (head_in find p) r (head_is find p (length texts) bounds asked many)
          (subst (λ (o : OnDisk). FoundRefuses (head_in find p) (run_of (search_in find p) (head_in find p).slack) o r) (one ∙ sym start)
          (found_refuses spans find p (head_in find p) by.on r by.refuses));
    }

-- ---- shards
pub no_element : (x : ℕ) → ¬ (Contains [] x)
no_element x h = let less = (at_from_Contains [] x h).1 in omega (arith, less)

-- a format that is the first, and one that isn't
first_format : (format : ℕ) → format ≡ 1 → (format == 1) ≡ false → ⊥
first_format format is other = false≢true (sym other ∙ ap (λ (n : ℕ). n == 1) is ∙ nat_eq_equiv.refl 1)

-- the first keeps no digests
pub first_keeps_none : (format : ℕ) → format ≡ 1 → keeps_digests format ≡ true → ⊥
first_keeps_none format is keeps = false≢true (ap keeps_digests (sym is) ∙ keeps)

-- how the lane of a shard begins with what a cut in this format keeps of it: it tests the digest where the format keeps one, and it
-- wants the lines that the cut names where the format keeps no places
pub record BeginsBy (format : ℕ) (cut : Cut) (shard : ℕ) (b : LaneStart) : Type 0 where
  pub there : slice_get cut.lanes shard ≡ Some (cut_of b)
  pub agree : (text : List ℕ) → HasItsBytes format (cut_of b) text → Agrees (known_of b) (cut_of b).offset text
  pub has : (text : List ℕ) → Agrees (known_of b) (cut_of b).offset text → HasItsBytes format (cut_of b) text
  pub first : (line : ℕ) → Contains (wanted_of b) line → format ≡ 1
  pub named : format ≡ 1 → (line : ℕ) → Contains (wanted_of b) line ↔ NamesLine cut shard line

begins_as : (format : ℕ) (cut : Cut) (shard : ℕ) (b : LaneStart) (digested first : Bool) → keeps_digests format ≡ digested → (format == 1) ≡ first
    → LaneBegins (Some cut) (if digested then whole else if first then unplaced else undigested) shard b → BeginsBy format cut shard b
begins_as format cut shard b true first keeps is begins =
    subst (λ (x : LaneStart). BeginsBy format cut shard x) (sym begins.2)
    (record {
      there = begins.1;
      agree = λ text own. own keeps;
      has = λ text own kept. own;
      first = λ line none. absurd (no_element line none);
      named = λ one. absurd (first_keeps_none format one keeps);
    })
begins_as format cut shard b false true keeps is begins =
    subst (λ (x : LaneStart). BeginsBy format cut shard x) (sym begins.3)
    (record {
      there = begins.1;
      agree = λ text own. tt;
      has = λ text own kept. absurd (false≢true (sym keeps ∙ kept));
      first = λ line wanted. eqb-true format 1 is;
      named = λ one line. begins.4 line;
    })
begins_as format cut shard b false false keeps is begins =
    subst (λ (x : LaneStart). BeginsBy format cut shard x) (sym begins.2)
    (record {
      there = begins.1;
      agree = λ text own. tt;
      has = λ text own kept. absurd (false≢true (sym keeps ∙ kept));
      first = λ line none. absurd (no_element line none);
      named = λ one. absurd (first_format format one is);
    })

pub begins_by : (format : ℕ) (cut : Cut) (shard : ℕ) (b : LaneStart) → LaneBegins (Some cut) (keeping_of format) shard b → BeginsBy format cut shard b
begins_by format cut shard b begins = begins_as format cut shard b (keeps_digests format) (format == 1) refl refl begins

-- a shard that serves its lane is refused for no cause
module _ (format : ℕ) (cut : Cut) (shard : ℕ) (text : List ℕ) (b : LaneStart) (begins : BeginsBy format cut shard b) (serves : Serves b text) where
  kept_so : (lane : LaneCut) → slice_get cut.lanes shard ≡ Some lane → cut_of b ≡ lane
  kept_so lane there = same_Some (cut_of b) lane (sym begins.there ∙ there)

  serves_or_refused : (r : CutRefusal) → ShardRefuses format cut shard text r → ⊥
  serves_or_refused _ (is_short lane there less) =
      let at : (cut_of b).offset ≡ lane.offset = ap LaneCut.offset (kept_so lane there) in
      let enough = serves.there in
      omega (arith, at, enough, less)
  serves_or_refused _ (has_other_bytes lane there enough other) =
      other (subst (λ (x : LaneCut). HasItsBytes format x text) (kept_so lane there) (begins.has text serves.agrees))
  serves_or_refused _ (has_no_line lane there first enough line lost) =
      let at : (cut_of b).offset ≡ lane.offset = ap LaneCut.offset (kept_so lane there) in
      let standing = All-contains (IsWholeLine (take (cut_of b).offset text) (drop (cut_of b).offset text)) (wanted_of b) line serves.whole
      ((begins.named first line).1 lost.named) in
      lost.lost (subst (λ (n : ℕ). IsWholeLine (take n text) (drop n text) line) at standing)
  serves_or_refused _ (is_grown lane there closed more bytes all) =
      let at : (cut_of b).offset ≡ lane.offset = ap LaneCut.offset (kept_so lane there) in
      let ended = serves.ended (ap LaneCut.closed (kept_so lane there) ∙ closed) in
      omega (arith, at, ended, more)

-- so none of the first shards is refused where each serves
pub none_refused : (format : ℕ) (cut : Cut) (shard : ℕ) (texts : List (List ℕ))
    → ((s : ℕ) (text : List ℕ) → s < shard → slice_get texts s ≡ Some text
    → (b : LaneStart) × LaneBegins (Some cut) (keeping_of format) s b × Serves b text)
    → NoneIsRefusedBefore format cut shard texts
none_refused format cut shard texts each = λ s text r less there refused.
    let one = each s text less there in
    serves_or_refused format cut s text one.0 (begins_by format cut s one.0 one.1) one.2 r refused

-- ---- a cut that is refused by a shard
-- the refusal of a lane, in words of runs
abbrev pub refusal_at : (shard : ℕ) → LaneRefused → Option CutRefusal
refusal_at shard (refused.Short offset had) = Some (short shard offset had)
refusal_at shard refused.Differs = Some (other_bytes shard)
refusal_at shard (refused.NoLine line) = Some (no_line shard line)
refusal_at shard refused.Grown = Some (grown shard)
refusal_at shard refused.Failed = None
refusal_at shard refused.Memory = None

-- a lane that isn't made of a text tells why its shard is refused
pub shard_refuses : (format : ℕ) (cut : Cut) (shard : ℕ) (text : List ℕ) (b : LaneStart) (before now : ℕ) (why : LaneRefused)
    → BeginsBy format cut shard b
    → IsCause (Some text) before now (cut_of b).offset (cut_of b).closed (known_of b) (wanted_of b) why
    → IfSome (refusal_at shard why) (ShardRefuses format cut shard text)
shard_refuses format cut shard text b before now (refused.Short at had) begins cause =
    let less = cause.1 in
    let long = cause.2 in
    let offset = cause.0 in
    subst (λ (n : ℕ). ShardRefuses format cut shard text (short shard n had)) (sym offset)
    (subst (λ (n : ℕ). ShardRefuses format cut shard text (short shard (cut_of b).offset n)) long
    (is_short (cut_of b) begins.there (omega (arith, less, long, offset))))
shard_refuses format cut shard text b before now refused.Differs begins cause =
    has_other_bytes (cut_of b) begins.there cause.1.there (λ own. cause.1.differs (begins.agree text own))
shard_refuses format cut shard text b before now (refused.NoLine line) begins cause =
    let first = begins.first line cause.0 in
    let missing = cause.1.missing in
    has_no_line (cut_of b) begins.there first cause.1.there line (record {
      named = (begins.named first line).0 cause.0;
      lost = missing.missing;
      least = λ other named less. missing.least other ((begins.named first other).1 named) less;
    })
shard_refuses format cut shard text b before now refused.Grown begins cause =
    is_grown (cut_of b) begins.there cause.0 cause.1.further (begins.has text cause.1.agrees) (λ first line named.
    All-contains (IsWholeLine (take (cut_of b).offset text) (drop (cut_of b).offset text)) (wanted_of b) line cause.1.whole
    ((begins.named first line).1 named))
shard_refuses format cut shard text b before now refused.Failed begins cause = tt
shard_refuses format cut shard text b before now refused.Memory begins cause = tt

-- ---- a run that begins with a cut
module _ (spans : FitsAtAnySpan) (find : Find) (p : PlannedQuery) (texts : List (List ℕ)) (bounds : FindIsBounded find) (asked : find.checkpoint ≢ None)
    (many : length texts ≡ length find.shards) (cut : Cut) (suits : Suits (stages_of p) (values_of p) (pipes_of p) (head_in find p) cut) where
  own_head : IsHeadOf (search_in find p) (length texts) cut.head
  own_head = subst (λ (h : CutHead). IsHeadOf (search_in find p) (length texts) h) (sym suits.head_is) (head_is find p (length texts) bounds asked many)

  own_fits : Fits (run_of (search_in find p) cut.head.slack) (length texts) (kept_by cut)
  own_fits = subst (λ (n : ℕ). Fits (run_of (search_in find p) cut.head.slack) n (kept_by cut)) own_head.shards_are
      (spanned spans find p cut.head.slack cut.head.shards (kept_by cut) suits.fits)

  pub tested_cut : (format : ℕ) → NoneIsRefusedBefore format cut (length texts) texts → IsTestedCut (search_in find p) texts format cut
  tested_cut format none = record { head = own_head; fits = own_fits; shards = none }

  pub refused_by_shard : (files : Files) (format generation : ℕ) (shard : ℕ) (text : List ℕ) (r : CutRefusal) (on : OnDisk)
      → Searches find files (search_in find p) texts → a_cut format generation cut ≡ on → slice_get texts shard ≡ Some text
      → NoneIsRefusedBefore format cut shard texts → ShardRefuses format cut shard text r → RefusesCut find files on r
  refused_by_shard files format generation shard text r on searches one there none refuses =
      let start : start_for find on ≡ on = begins_asked find.checkpoint on asked in
      record {
        search = search_in find p;
        texts = texts;
        searches = searches;
        refuses = subst (λ (o : OnDisk). CutRefuses (search_in find p) texts o r) (one ∙ sym start)
            (by_shard format generation cut own_head own_fits shard text there none r refuses);
      }

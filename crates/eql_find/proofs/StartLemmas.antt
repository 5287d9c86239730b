-- What a run begins with, by what the disk of its checkpoint holds.
use Rattle.std.proofs.Common.{◌≡◌, ◌≢◌, ◌==◌, ℕ, false, List, Option, Some, None, refl, sym, ap, ◌∙◌, subst}
use Rattle.std.specs.Prelude.{IfSome, IsTrue}
use Rattle.eql_values.specs.declared.cut.Pipe.{Pipe}
use Rattle.eql_outside.specs.Areas.{seen_areas}
use Rattle.eql_outside.specs.Moments.{History, DiskTells}
use Rattle.eql_words.specs.declared.commands.Find.{Find}
use Rattle.eql_lane.specs.declared.make.LaneStart.{LaneStart}
use Rattle.eql_cut.specs.declared.cut.Cut.{Cut}
use Rattle.eql_cut.specs.declared.cut.CutHead.{CutHead}
use Rattle.eql_cut.specs.CutValues.{names_ascend}
use Rattle.eql_cut.specs.Placing.{IsUnplaced, orders_in}
use Rattle.eql_ckdisk.specs.Found.{found_on}
use Rattle.eql_ckdisk.specs.Going.{Goes}
use Rattle.eql_ckdisk.specs.Keeping.{LeavesNoMore}
use Rattle.eql_ckdisk.specs.Putting.{last_cut}
use Rattle.eql_conductor.specs.declared.plan.Keep.{Keep}
use Rattle.eql_runs.specs.Starts.{StandsFor}
use Rattle.eql_resume.specs.Beginnings.{LanesBegin, Rest, rest_by}
use Rattle.eql_resume.specs.Finding.{Suits, disk_holding}
use Rattle.eql_find.specs.declared.plan.PlannedQuery.{PlannedQuery}
use Rattle.eql_find.specs.Searching.{head_in}
use Rattle.eql_find.specs.Starting.{BeginsOnDisk, pipes_of, stages_of, values_of}

-- ---- what it begins with
module _ (find : Find) (p : PlannedQuery) where
  suits_as : (stages values : ℕ) (pipes : List Pipe) (head : CutHead) (cut : Option Cut) → stages ≡ stages_of p → values ≡ values_of p
      → pipes ≡ pipes_of p → head ≡ head_in find p → IfSome cut (Suits stages values pipes head)
      → IfSome cut (Suits (stages_of p) (values_of p) (pipes_of p) (head_in find p))
  suits_as stages values pipes head cut s v ps h suits =
      subst (λ (x : ℕ). IfSome cut (Suits x (values_of p) (pipes_of p) (head_in find p))) s
      (subst (λ (x : ℕ). IfSome cut (Suits stages x (pipes_of p) (head_in find p))) v
      (subst (λ (x : List Pipe). IfSome cut (Suits stages values x (head_in find p))) ps
      (subst (λ (x : CutHead). IfSome cut (Suits stages values pipes x)) h suits)))

  asked_for : (o : Option Cut) → find.checkpoint ≢ None → IfSome o (λ cut. find.checkpoint ≢ None)
  asked_for None asked = tt
  asked_for (Some cut) asked = asked

  -- with what the disk holds
  pub begins_on : {D : Type 0} (disk : Option History) (head : CutHead) (keep : Keep D) (stages values : ℕ) (pipes : List Pipe) (format : ℕ)
      (cut : Option Cut) (starts : List LaneStart) (rest : Rest) → find.checkpoint ≢ None → head ≡ head_in find p
      → IsTrue (names_ascend p.mapping) → stages ≡ stages_of p → values ≡ values_of p → pipes ≡ pipes_of p
      → IfSome disk (λ h. StandsFor (disk_holding format (last_cut keep.state).generation cut) (found_on (seen_areas h.now)))
      → IfSome cut (Suits stages values pipes head) → IfSome cut (λ x. format ≡ 1 → IsUnplaced (orders_in x))
      → LanesBegin cut format head.shards starts → rest ≡ rest_by pipes (format == 1) cut → BeginsOnDisk find p disk head (Some keep) starts rest
  begins_on disk head keep stages values pipes format cut starts rest asked is names s v ps stands suits placed lanes rest_is = record {
    begun = record { format = format; generation = (last_cut keep.state).generation; cut = cut };
    is_found = λ some. stands;
    own = record {
      asked = asked_for cut asked;
      suits = suits_as stages values pipes head cut s v ps is suits;
      unplaced = placed;
    };
    head_is = is;
    names = names;
    generation_is = refl;
    lanes = subst (λ (n : ℕ). LanesBegin cut format n starts) (ap CutHead.shards is) lanes;
    rest_is = rest_is ∙ ap (λ (x : List Pipe). rest_by x (format == 1) cut) ps;
  }

  -- afresh, whatever a disk holds that isn't asked for
  pub begins_afresh : {D : Type 0} (disk : Option History) (head : CutHead) (pipes : List Pipe) (starts : List LaneStart) (rest : Rest)
      → find.checkpoint ≡ None → head ≡ head_in find p → IsTrue (names_ascend p.mapping) → pipes ≡ pipes_of p
      → LanesBegin None 0 head.shards starts → rest ≡ rest_by pipes false None → BeginsOnDisk {D = D} find p disk head None starts rest
  begins_afresh disk head pipes starts rest none is names ps lanes rest_is = record {
    begun = record { format = 0; generation = 0; cut = None };
    is_found = λ some. absurd (some none);
    own = record { asked = tt; suits = tt; unplaced = tt };
    head_is = is;
    names = names;
    generation_is = tt;
    lanes = subst (λ (n : ℕ). LanesBegin None 0 n starts) (ap CutHead.shards is) lanes;
    rest_is = rest_is ∙ ap (λ (x : List Pipe). rest_by x false None) ps;
  }

-- ---- nothing happens on the disk
pub still_told : (h : Option History) → DiskTells (Goes LeavesNoMore) h h
still_told None = tt
still_told (Some h) = (0, refl)

pub same_told : (before now : Option History) → now ≡ before → DiskTells (Goes LeavesNoMore) before now
same_told before now is = subst (λ (x : Option History). DiskTells (Goes LeavesNoMore) before x) (sym is) (still_told before)

-- What is found on a disk, in the words of runs.
use Rattle.std.proofs.Common.{◌≡◌, ℕ, List, Option, Some, None, Result, Err, IfErr, IfSome, refl, sym, subst}
use Rattle.std.proofs.lemmas.Option.{none-some}
use Rattle.eql_values.specs.declared.cut.Pipe.{Pipe}
use Rattle.eql_outside.specs.Areas.{IsImage, Moment, seen_areas}
use Rattle.eql_outside.specs.Moments.{History, DiskTells}
use Rattle.eql_laws.specs.Fitting.{Fits}
use Rattle.eql_cut.specs.declared.cut.Cut.{Cut}
use Rattle.eql_cut.specs.declared.cut.CutHead.{CutHead}
use Rattle.eql_cut.specs.Domain.{kept_by}
use Rattle.eql_cut.specs.Fitting.{FitsRun, run_of}
use Rattle.eql_cut.specs.Lifting.{FirstFormatHasNoPlaces}
use Rattle.eql_cut.specs.Placing.{IsUnplaced, orders_in}
use Rattle.eql_cut.specs.Whole.{IsText}
use Rattle.eql_ckdisk.specs.declared.recovery.Recovered.{Recovered}
use Rattle.eql_ckdisk.specs.declared.refused.CkRefused.{CkRefused}
use Rattle.eql_ckdisk.specs.declared.refused.CkRefused.TheVariants as ck
use Rattle.eql_ckdisk.specs.Cuts.{IsFound}
use Rattle.eql_ckdisk.specs.Found.{EachFinds, Found, LastCut, found_on, text}
use Rattle.eql_ckdisk.specs.Found as areas
use Rattle.eql_ckdisk.specs.Keeping.{KeepsAll, all_kept}
use Rattle.eql_ckdisk.specs.Putting.{last_cut}
use Rattle.eql_ckdisk.specs.Recovering.{IsAnswer, IsNoneOrCut}
use Rattle.eql_ckdisk.specs.Refusing.{IsDamaged, IsForeign, RefusesFound, TellsFound}
use Rattle.eql_runs.specs.CutRefusals.{FoundRefuses, damaged, foreign, head_damaged, head_differs, is_foreign, is_unfit, text_damaged}
use Rattle.eql_runs.specs.Starts.{StandsFor, a_cut, bad_head, bad_text, not_ours}
use Rattle.eql_resume.specs.declared.finding.StartRefused.{StartRefused}
use Rattle.eql_resume.specs.declared.finding.StartRefused.TheVariants as by
use Rattle.eql_resume.specs.Finding.{HasResumeCause, HasCutCause, HasFoundCause, IsRefusedBy, disk_holding, refused_by}

-- ---- what is found
stands_for : (last : LastCut) (format : ℕ) (answer : Option Cut) (f : Found) → IsFound last format answer f
    → StandsFor (disk_holding format last.generation answer) f
stands_for last format None f is = is.0
stands_for last format (Some cut) f is = (last.area, is.0, is.1, is.2)

-- what reads gave, once it is kept
pub seen_now : (seen : (m : Moment) → IsImage m (seen_areas m)) (P : Found → Type 0) (o p : Option History) → DiskTells KeepsAll o p
    → IfSome p (λ k. EachFinds P k.now) → IfSome o (λ h. P (found_on (seen_areas h.now)))
seen_now seen P None None kept each = tt
seen_now seen P None (Some k) kept each = absurd kept
seen_now seen P (Some h) None kept each = absurd kept
seen_now seen P (Some h) (Some k) kept each =
    each (seen_areas h.now) (subst (λ (m : Moment). IsImage m (seen_areas h.now)) (sym kept.now) (seen (all_kept h.now)))

pub held_there : (seen : (m : Moment) → IsImage m (seen_areas m)) (r : Recovered) (o p : Option History) → DiskTells KeepsAll o p
    → IfSome p (λ k. EachFinds (IsAnswer r) k.now)
    → IfSome o (λ h. StandsFor (disk_holding r.format (last_cut r.state).generation r.cut) (found_on (seen_areas h.now)))
held_there seen r o p kept each = by o (seen_now seen (IsAnswer r) o p kept each)
  where
    by : (o : Option History) → IfSome o (λ h. IsAnswer r (found_on (seen_areas h.now)))
        → IfSome o (λ h. StandsFor (disk_holding r.format (last_cut r.state).generation r.cut) (found_on (seen_areas h.now)))
    by None is = tt
    by (Some h) is = stands_for (last_cut r.state) r.format r.cut (found_on (seen_areas h.now)) is

-- a cut of the first format has no places
pub none_placed : FirstFormatHasNoPlaces → (cut : Option Cut) (format generation : ℕ) → IsNoneOrCut cut format generation
    → IfSome cut (λ c. format ≡ 1 → IsUnplaced (orders_in c))
none_placed law None format generation sound = tt
none_placed law (Some cut) format generation sound =
    λ one. law cut sound.1.0 (subst (λ (n : ℕ). IsText n cut sound.1.0) one sound.1.1.is)

-- without a cut there is no format
pub none_formed : (cut : Option Cut) (format generation : ℕ) → IsNoneOrCut cut format generation → cut ≡ None → format ≡ 0
none_formed None format generation sound is = sound.0
none_formed (Some cut) format generation sound is = absurd (none-some cut (sym is))

-- ---- why it is refused
module _ (stages values : ℕ) (pipes : List Pipe) (head : CutHead) where
  by_damage : (f : Found) (number at : ℕ) → IsDamaged number at f → IsRefusedBy stages values pipes head f (damaged number at)
  by_damage areas.nothing number at is = absurd is
  by_damage (text area generation bytes) number at is = record {
    on = bad_text number;
    stands = (area, generation, bytes, refl, is.0, is.1);
    refuses = text_damaged number at;
  }
  by_damage (areas.damaged area generation) number at is = record {
    on = bad_head number;
    stands = (is.0, refl);
    refuses = subst (λ (n : ℕ). FoundRefuses head (run_of stages values pipes head.slack) (bad_head number) (damaged number n)) (sym is.1) (head_damaged number);
  }
  by_damage (areas.foreign area) number at is = absurd is

  by_foreign : (f : Found) (number : ℕ) → IsForeign number f → IsRefusedBy stages values pipes head f (foreign number)
  by_foreign f number is = record { on = not_ours number; stands = is; refuses = is_foreign number }

  -- what is refused of each image now is what reads gave
  by_refusal : (seen : (m : Moment) → IsImage m (seen_areas m)) (e : CkRefused) (o p : Option History) → (TellsFound e → DiskTells KeepsAll o p)
      → IfSome p (λ k. EachFinds (RefusesFound e) k.now)
      → IfSome o (λ h. HasResumeCause (found_on (seen_areas h.now)) stages values pipes head (refused_by e))
  by_refusal seen e None p kept each = tt
  by_refusal seen ck.DiskFault (Some h) p kept each = tt
  by_refusal seen (ck.Foreign number) (Some h) p kept each =
      by_foreign (found_on (seen_areas h.now)) number (seen_now seen (IsForeign number) (Some h) p (kept tt) each)
  by_refusal seen (ck.Damaged number at) (Some h) p kept each =
      by_damage (found_on (seen_areas h.now)) number at (seen_now seen (IsDamaged number at) (Some h) p (kept tt) each)
  by_refusal seen ck.Generation (Some h) p kept each = tt
  by_refusal seen ck.Memory (Some h) p kept each = tt

  pub refused_there : (seen : (m : Moment) → IsImage m (seen_areas m)) (e : CkRefused) (r : StartRefused) (o p : Option History) → r ≡ refused_by e
      → (TellsFound e → DiskTells KeepsAll o p) → IfSome p (λ k. EachFinds (RefusesFound e) k.now)
      → IfSome o (λ h. HasResumeCause (found_on (seen_areas h.now)) stages values pipes head r)
  refused_there seen e r o p is kept each =
      subst (λ (x : StartRefused). IfSome o (λ h. HasResumeCause (found_on (seen_areas h.now)) stages values pipes head x)) (sym is)
      (by_refusal seen e o p kept each)

  -- a cut is refused
  misfit : (cut : Cut) → cut.head ≡ head → ¬ (FitsRun stages values pipes cut) → ¬ (Fits (run_of stages values pipes head.slack) head.shards (kept_by cut))
  misfit cut same bad fits = bad (subst (λ (h : CutHead). Fits (run_of stages values pipes h.slack) h.shards (kept_by cut)) (sym same) fits)

  by_cut : (format generation : ℕ) (cut : Cut) (f : Found) (r : StartRefused) → StandsFor (a_cut format generation cut) f
      → HasCutCause stages values pipes head cut r → HasResumeCause f stages values pipes head r
  by_cut format generation cut f by.Disk stands is = tt
  by_cut format generation cut f (by.Foreign area) stands is = absurd is
  by_cut format generation cut f (by.Damaged area at) stands is = absurd is
  by_cut format generation cut f (by.Differs d) stands is =
      record { on = a_cut format generation cut; stands = stands; refuses = head_differs format generation cut d is }
  by_cut format generation cut f by.Unfit stands is =
      record { on = a_cut format generation cut; stands = stands; refuses = is_unfit format generation cut is.0 (misfit cut is.0 is.1) }
  by_cut format generation cut f by.Memory stands is = tt

  by_found_cut : (format generation : ℕ) (cut : Option Cut) (r : StartRefused) (o : Option History) → HasFoundCause stages values pipes head cut r
      → IfSome o (λ h. StandsFor (disk_holding format generation cut) (found_on (seen_areas h.now)))
      → IfSome o (λ h. HasResumeCause (found_on (seen_areas h.now)) stages values pipes head r)
  by_found_cut format generation None r o is stands = absurd is
  by_found_cut format generation (Some cut) r None is stands = tt
  by_found_cut format generation (Some cut) r (Some h) is stands = by_cut format generation cut (found_on (seen_areas h.now)) r stands is

  pub cut_refused : (seen : (m : Moment) → IsImage m (seen_areas m)) (found_cut : Recovered) (r : StartRefused) (o p : Option History) → DiskTells KeepsAll o p
      → IfSome p (λ k. EachFinds (IsAnswer found_cut) k.now) → HasFoundCause stages values pipes head found_cut.cut r
      → IfSome o (λ h. HasResumeCause (found_on (seen_areas h.now)) stages values pipes head r)
  cut_refused seen found_cut r o p kept each is =
      by_found_cut found_cut.format (last_cut found_cut.state).generation found_cut.cut r o is (held_there seen found_cut o p kept each)

-- an answer that is refused so
pub refused_as : {A : Type 0} (P : StartRefused → Type 0) (r : Result A StartRefused) (by_this : StartRefused) → r ≡ Err by_this → P by_this → IfErr r P
refused_as {A} P r by_this is p = subst (λ (x : Result A StartRefused). IfErr x P) (sym is) p

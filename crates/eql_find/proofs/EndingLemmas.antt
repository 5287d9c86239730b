-- The disk of a run whose generations came to their end.
use Rattle.std.proofs.Common.{◌≡◌, ◌≢◌, ◌≤◌, ◌^◌, ◌⊎◌, inl, inr, ℕ, List, [], ◌∷◌, Option, Some, None, Err, refl, sym, ap, ◌∙◌, subst, zero, suc}
use Rattle.std.specs.Prelude.{Result}
use Rattle.std.proofs.lemmas.Option.{none-some}
use Rattle.eql_outside.specs.Areas.{Moment, IsImage, seen_areas}
use Rattle.eql_outside.specs.DiskLaws.{ImagesAreThere}
use Rattle.eql_outside.specs.Moments.{History, DiskTells}
use Rattle.eql_words.specs.declared.commands.Checkpoint.{Checkpoint}
use Rattle.eql_words.specs.declared.commands.Find.{Find}
use Rattle.eql_cut.specs.declared.cut.Cut.{Cut}
use Rattle.eql_cut.specs.declared.cut.CutHead.{CutHead}
use Rattle.eql_values.specs.declared.order.Mark.{Mark}
use Rattle.eql_ckdisk.specs.Found.{Found, IsAt, LastCut, found_on, next, nothing}
use Rattle.eql_ckdisk.specs.Going.{Steps}
use Rattle.eql_ckdisk.specs.Keeping.{KeepsAll}
use Rattle.eql_ckdisk.specs.Putting.{Stands, StandsAt, last_cut}
use Rattle.eql_ckdisk.specs.Runs.{FindsOneOf, IsFoundAt, KeepsOneOf, PutsAll}
use Rattle.eql_conductor.specs.declared.plan.Keep.{Keep}
use Rattle.eql_conductor.specs.Saving.{PutsCuts}
use Rattle.eql_runs.specs.RunLaws.{DiskHoldsOne}
use Rattle.eql_runs.specs.Runs.{GenerationsEnd}
use Rattle.eql_runs.specs.Starts.{DiskHolds, OnDisk, StandsFor, generation_on}
use Rattle.eql_resume.specs.Finding.{disk_holding}
use Rattle.eql_find.specs.declared.error.FindError.{FindError}
use Rattle.eql_find.specs.declared.error.FindError.TheVariants as run
use Rattle.eql_find.specs.Running.{KeepsIfAsked}
use Rattle.eql_find.specs.Searching.{KeepsAs}
use Rattle.eql_find.specs.Starting.{Begun, IsFound, IsFreshKeep, disk_after, on_begun}
use Rattle.eql_find.proofs.MadeLemmas.{begun_is}
use Rattle.eql_find.proofs.OneText.{text_alone}

-- ---- what stands on a disk
-- a run that keeps cuts has a checkpoint
pub keeps_asked : {D : Type 0} (history : D → Option History) (checkpoint : Option Checkpoint) (k : Keep D)
    → KeepsIfAsked history checkpoint (Some k) → checkpoint ≢ None
keeps_asked history None k h = absurd h
keeps_asked history (Some c) k h = λ gone. none-some c (sym gone)

-- what reads give is what stands there
stands_seen : ImagesAreThere → (last : LastCut) (m : Moment) → StandsAt last m → IsAt last (found_on (seen_areas m))
stands_seen images last m s = subst (λ (f : Found). IsAt last f) (sym (s.2 (seen_areas m) (images.seen m))) s.1

-- so what stands there has the generation of the last cut, which is 0 where nothing does
at_nothing : (last : LastCut) (f : Found) → IsAt last f → f ≡ nothing → last.generation ≡ 0
at_nothing last f at is = subst (λ (x : Found). IsAt last x) is at

generation_at : (last : LastCut) (f : Found) (format generation : ℕ) (o : Option Cut) → StandsFor (disk_holding format generation o) f → IsAt last f
    → generation_on (disk_holding format generation o) ≡ last.generation
generation_at last f format generation None stands at = sym (at_nothing last f at stands)
generation_at last f format generation (Some cut) stands at = (subst (λ (x : Found). IsAt last x) stands.2 at).1

-- what was put is a cut
put_stands : (last : LastCut) (cuts : List Cut) (x : Found) → FindsOneOf last cuts x
    → (generation : ℕ) × (cut : Cut) × StandsFor (disk_holding 4 generation (Some cut)) x
put_stands last [] x h = absurd h
put_stands last (cut ∷ cuts) x (inl h) =
    ((next last).generation, cut, ((next last).area, h.0, h.1, text_alone 4 cut h.0 h.2))
put_stands last (cut ∷ cuts) x (inr h) = put_stands (next last) cuts x h

-- after puts there stands what stood at their start, or what was put
abbrev StartOr : LastCut → List Cut → Moment → Found → Type 0
StartOr last cuts start x = IsFoundAt start x ⊎ FindsOneOf last cuts x

put_found : ImagesAreThere → (last : LastCut) (cuts : List Cut) (h k : History) → PutsAll last cuts h k
    → StartOr last cuts h.now (found_on (seen_areas k.now))
put_found images last cuts h k puts = by puts.0 puts.1
  where
    by : (n : ℕ) → Steps (KeepsOneOf h.now last cuts) n h k → StartOr last cuts h.now (found_on (seen_areas k.now))
    by zero steps = inl (seen_areas k.now, subst (λ (j : History). IsImage j.now (seen_areas k.now)) steps (images.seen k.now), refl)
    by (suc n) steps =
        let now : k.now ≡ steps.2 = ap History.now steps.3 in
        subst (λ (m : Moment). StartOr last cuts h.now (found_on (seen_areas m))) (sym now) (steps.4.one (seen_areas steps.2) (images.seen steps.2))

-- ---- a run that was found to begin so
module _ (images : ImagesAreThere) (one : DiskHoldsOne) (find : Find) (begun : Begun) (asked : find.checkpoint ≢ None) where
  -- the disk at its start, and once all that it holds was kept
  start_seen : (h j : History) → KeepsAll h j → found_on (seen_areas h.now) ≡ found_on (seen_areas j.now)
  start_seen h j kept = ap (λ (m : Moment). found_on (seen_areas m)) (sym kept.now)

  ended_by : (last then : LastCut) (cuts : List Cut) (h j k : History) → IsFound find (Some h) begun → KeepsAll h j → StandsAt last j.now
      → PutsAll last cuts j k → StandsAt then k.now → (on : OnDisk) × DiskHolds (Some k) on × (generation_on on ≡ then.generation)
  ended_by last then cuts h j k is kept stands puts now = by (put_found images last cuts j k puts)
    where
      at : IsAt then (found_on (seen_areas k.now))
      at = stands_seen images then k.now now

      by : StartOr last cuts j.now (found_on (seen_areas k.now)) → (on : OnDisk) × DiskHolds (Some k) on × (generation_on on ≡ then.generation)
      by (inl first) =
          let first_is : found_on first.0 ≡ stands.0 = stands.2 first.0 first.1 in
          let seen_is : found_on (seen_areas j.now) ≡ stands.0 = stands.2 (seen_areas j.now) (images.seen j.now) in
          let same : found_on (seen_areas h.now) ≡ found_on (seen_areas k.now) = start_seen h j kept ∙ seen_is ∙ sym first_is ∙ sym first.2 in
          let holds = subst (λ (x : Found). StandsFor (on_begun begun) x) same (is asked) in
          (on_begun begun, holds, generation_at then (found_on (seen_areas k.now)) begun.format begun.generation begun.cut holds at)
      by (inr then_put) =
          let put = put_stands last cuts (found_on (seen_areas k.now)) then_put in
          (disk_holding 4 put.0 (Some put.1), put.2, generation_at then (found_on (seen_areas k.now)) 4 put.0 (Some put.1) put.2 at)

  -- it goes on from the generation of what the disk held at its start
  pub began_by : (last : LastCut) (h j : History) (on : OnDisk) → IsFound find (Some h) begun → KeepsAll h j → StandsAt last j.now
      → DiskHolds (Some h) on → last.generation ≡ generation_on on
  began_by last h j on is kept stands holds =
      let at = subst (λ (x : Found). IsAt last x) (sym (start_seen h j kept)) (stands_seen images last j.now stands) in
      let own = generation_at last (found_on (seen_areas h.now)) begun.format begun.generation begun.cut (is asked) at in
      sym own ∙ ap generation_on (begun_is one find (Some h) begun on is asked holds)

-- the generations came to their end
module _ {D : Type 0} (history : D → Option History) (count : D → ℕ) (images : ImagesAreThere) (one : DiskHoldsOne) (find : Find) (begun : Begun) where
  by_cuts : (asked : find.checkpoint ≢ None) (last then : LastCut) (cuts : List Cut) (disk before now : Option History) → IsFound find disk begun
      → DiskTells KeepsAll disk before → Stands last before → PutsCuts last cuts before now → Stands then now → then.generation ≡ 2 ^ 63
      → 2 ^ 62 ≤ last.generation → GenerationsEnd disk now
  by_cuts asked last then cuts None None None is kept stands puts standing full far = record { began = λ on holds. absurd holds; ended = tt }
  by_cuts asked last then cuts None None (Some k) is kept stands puts standing full far = absurd puts
  by_cuts asked last then cuts None (Some j) now is kept stands puts standing full far = absurd kept
  by_cuts asked last then cuts (Some h) None now is kept stands puts standing full far = absurd kept
  by_cuts asked last then cuts (Some h) (Some j) None is kept stands puts standing full far = absurd puts
  by_cuts asked last then cuts (Some h) (Some j) (Some k) is kept stands puts standing full far = record {
    began = λ on holds.
        let same = began_by images one find begun asked last h j on is kept stands holds in
        subst (λ (g : ℕ). 2 ^ 62 ≤ g) same far;
    ended =
        let e = ended_by images one find begun asked last then cuts h j k is kept stands puts standing in
        (e.0, e.1, e.2 ∙ full);
  }

  pub generations_end : (head : CutHead) (from : Mark) (Are : List Cut → Type 0) (disk : Option History) (keep kept : Option (Keep D))
      (r : Result (Unit {0}) FindError) → IsFound find disk begun → KeepsIfAsked history find.checkpoint keep
      → IsFreshKeep history count disk keep → KeepsAs history head from Are keep kept r → r ≡ Err run.Generation
      → GenerationsEnd disk (disk_after history disk kept)
  generations_end head from Are disk None None r is asked fresh keeps e = absurd (keeps e)
  generations_end head from Are disk None (Some l) r is asked fresh keeps e = absurd keeps
  generations_end head from Are disk (Some k) None r is asked fresh keeps e = absurd keeps
  generations_end head from Are disk (Some k) (Some l) r is asked fresh keeps e =
      let end = keeps.at_end e in
      by_cuts (keeps_asked history find.checkpoint k asked) (last_cut k.state) (last_cut l.state) keeps.cuts disk (history k.disk) (history l.disk)
      is fresh.2 fresh.1 keeps.puts end.2 end.0 end.1

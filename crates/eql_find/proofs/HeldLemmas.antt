-- How often a disk is held, by what is told of it.
use native.Mathlib.Omega.{arith}
use Rattle.std.proofs.Common.{◌≡◌, ℕ, List, Option, Some, None, Ok, Err, refl, sym, ap, ◌∙◌, subst}
use Rattle.std.specs.Prelude.{IfErr, Result}
use Rattle.eql_outside.specs.Outside.{Rose}
use Rattle.eql_outside.specs.declared.refused.DiskHeld.{DiskHeld}
use Rattle.eql_outside.specs.declared.shelf.Shelf as shelves
use Rattle.eql_lane.specs.declared.make.LaneRefused.{LaneRefused}
use Rattle.eql_runs.specs.Outcomes.{DiskIsSame}
use Rattle.eql_find.specs.declared.error.FindError.{FindError}
use Rattle.eql_find.specs.declared.error.FindError.TheVariants as run
use Rattle.eql_find.specs.Errors.{HeldFollows, HeldIsTold, reason_in, reason_told}
use Rattle.eql_find.specs.Stops.{IsErrorAt, failed, grown, no_line, other_bytes, short, unmade}

-- ---- what is told
-- a lane that isn't made tells nothing of the disk
pub made_reason : (shards : List (List ℕ)) (shard : ℕ) (why : LaneRefused) (h : FindError) → IsErrorAt shards shard why h → reason_in h ≡ None
made_reason shards shard _ _ (short offset had) = refl
made_reason shards shard _ _ other_bytes = refl
made_reason shards shard _ _ (no_line line) = refl
made_reason shards shard _ _ grown = refl
made_reason shards shard _ _ (failed name there) = refl
made_reason shards shard _ _ unmade = refl

-- nor does a call whose causes aren't such
pub no_reason : {A : Type 0} (Cause : FindError → Type 0) → ((why : DiskHeld) → ¬ (Cause (run.Held why))) → (r : Result A FindError) → IfErr r Cause
    → reason_told r ≡ None
no_reason Cause none (Ok done) stops = refl
no_reason Cause none (Err (run.Files h)) stops = refl
no_reason Cause none (Err (run.Cut why)) stops = refl
no_reason Cause none (Err (run.Held why)) stops = absurd (none why stops)
no_reason Cause none (Err run.Disk) stops = refl
no_reason Cause none (Err run.Write) stops = refl
no_reason Cause none (Err (run.Limit l)) stops = refl
no_reason Cause none (Err run.Generation) stops = refl
no_reason Cause none (Err (run.Report r)) stops = refl

-- ---- what is counted
follows_then : (told : Option DiskHeld) (before mid now : DiskHeld → ℕ) → ((why : DiskHeld) → mid why ≡ before why) → HeldFollows told mid now
    → HeldFollows told before now
follows_then None before mid now same h = λ why. h why ∙ same why
follows_then (Some why) before mid now same h = record {
  rose = subst (λ (n : ℕ). Rose n (now why)) (same why) h.rose;
  others = λ other differ. h.others other differ ∙ same other;
}

follows_later : (told : Option DiskHeld) (before mid now : DiskHeld → ℕ) → HeldFollows told before mid → ((why : DiskHeld) → now why ≡ mid why)
    → HeldFollows told before now
follows_later None before mid now h same = λ why. same why ∙ h why
follows_later (Some why) before mid now h same = record {
  rose = subst (λ (n : ℕ). Rose (before why) n) (sym (same why)) h.rose;
  others = λ other differ. same other ∙ h.others other differ;
}

module _ {H Src Dsk : Type 0} (shelf : shelves.Ghosts H Src Dsk) where
  -- a call in which no count rises
  pub none_held : (old new : H) → ((why : DiskHeld) → shelf.held_count new why ≡ shelf.held_count old why) → shelf.is_free new ≡ shelf.is_free old
      → HeldIsTold shelf old new None
  none_held old new same free = record {
    follow = same;
    rise = λ why. let e = same why in omega (arith, e);
    free = λ is. refl;
    free_is = free;
  }

  pub kept_held : (old new : H) → DiskIsSame shelf old new → HeldIsTold shelf old new None
  kept_held old new kept = none_held old new kept.held_are kept.free_is

  pub same_held : (old new : H) → new ≡ old → HeldIsTold shelf old new None
  same_held old new same = none_held old new (λ why. ap (λ (s : H). shelf.held_count s why) same) (ap shelf.is_free same)

  -- before another, and after another
  pub held_then : (told : Option DiskHeld) (old mid new : H) → HeldIsTold shelf old mid None → HeldIsTold shelf mid new told
      → HeldIsTold shelf old new told
  held_then told old mid new first then = record {
    follow = follows_then told _ _ _ first.follow then.follow;
    rise = λ why. let a = first.rise why in let b = then.rise why in omega (arith, a, b);
    free = λ is. then.free (first.free_is ∙ is);
    free_is = then.free_is ∙ first.free_is;
  }

  pub held_later : (told : Option DiskHeld) (old mid new : H) → HeldIsTold shelf old mid told → HeldIsTold shelf mid new None
      → HeldIsTold shelf old new told
  held_later told old mid new first then = record {
    follow = follows_later told _ _ _ first.follow then.follow;
    rise = λ why. let a = first.rise why in let b = then.rise why in omega (arith, a, b);
    free = first.free;
    free_is = then.free_is ∙ first.free_is;
  }

  -- one that tells no reason
  pub held_as : (told : Option DiskHeld) (old new : H) → told ≡ None → HeldIsTold shelf old new None → HeldIsTold shelf old new told
  held_as told old new is h = subst (λ (o : Option DiskHeld). HeldIsTold shelf old new o) (sym is) h

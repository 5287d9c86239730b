-- A run that came to its shards tells no file as not there, and one that searched them refuses nothing.
use Rattle.std.proofs.Common.{◌≡◌, ℕ, List, Ok, Err}
use Rattle.std.specs.Prelude.{IfErr, Result}
use Rattle.eql_outside.specs.declared.refused.DiskHeld.{DiskHeld}
use Rattle.eql_lane.specs.declared.make.LaneRefused.{LaneRefused}
use Rattle.eql_inputs.specs.declared.error.InputError.TheVariants as error
use Rattle.eql_inputs.specs.declared.error.Refused.{Refused}
use Rattle.eql_find.specs.declared.error.CutStop.{CutStop}
use Rattle.eql_find.specs.declared.error.FindError.{FindError}
use Rattle.eql_find.specs.declared.error.FindError.TheVariants as run
use Rattle.eql_find.specs.Errors.{AbsencesFollow, IsRefusal}
use Rattle.eql_find.specs.Stops.{IsErrorAt, failed, grown, no_line, other_bytes, short, unmade}

-- one whose lanes weren't made
pub made_absence : (shards : List (List ℕ)) (shard : ℕ) (why : LaneRefused) (h : FindError) (before now : ℕ) → IsErrorAt shards shard why h
    → now ≡ before → AbsencesFollow {A = Unit {0}} (Err h) before now
made_absence shards shard _ _ before now (short offset had) same = same
made_absence shards shard _ _ before now other_bytes same = same
made_absence shards shard _ _ before now (no_line line) same = same
made_absence shards shard _ _ before now grown same = same
made_absence shards shard _ _ before now (failed name there) same = same
made_absence shards shard _ _ before now unmade same = same

-- one that searched them, whose causes are no refusal
pub absence_as : (Cause : FindError → Type 0) → ((r : Refused) → ¬ (Cause (run.Files (error.Refused r)))) → (r : Result (Unit {0}) FindError) (before now : ℕ)
    → IfErr r Cause → now ≡ before → AbsencesFollow r before now
absence_as Cause none (Ok done) before now stops same = same
absence_as Cause none (Err (run.Files (error.Refused r))) before now stops same = absurd (none r stops)
absence_as Cause none (Err (run.Files (error.Read name))) before now stops same = same
absence_as Cause none (Err (run.Files error.Memory)) before now stops same = same
absence_as Cause none (Err (run.Cut why)) before now stops same = same
absence_as Cause none (Err (run.Held why)) before now stops same = same
absence_as Cause none (Err run.Disk) before now stops same = same
absence_as Cause none (Err run.Write) before now stops same = same
absence_as Cause none (Err (run.Limit l)) before now stops same = same
absence_as Cause none (Err run.Generation) before now stops same = same
absence_as Cause none (Err (run.Report r)) before now stops same = same

pub none_refused : (Cause : FindError → Type 0) (P : Type 0) → ((r : Refused) → ¬ (Cause (run.Files (error.Refused r)))) → ((why : CutStop) → ¬ (Cause (run.Cut why)))
    → ((why : DiskHeld) → ¬ (Cause (run.Held why))) → (r : Result (Unit {0}) FindError) → IfErr r Cause → IfErr r (λ h. IsRefusal h → P)
none_refused Cause P files cut held (Ok done) stops = tt
none_refused Cause P files cut held (Err (run.Files (error.Refused r))) stops = absurd (files r stops)
none_refused Cause P files cut held (Err (run.Files (error.Read name))) stops = λ refusal. absurd refusal
none_refused Cause P files cut held (Err (run.Files error.Memory)) stops = λ refusal. absurd refusal
none_refused Cause P files cut held (Err (run.Cut why)) stops = absurd (cut why stops)
none_refused Cause P files cut held (Err (run.Held why)) stops = absurd (held why stops)
none_refused Cause P files cut held (Err run.Disk) stops = λ refusal. absurd refusal
none_refused Cause P files cut held (Err run.Write) stops = λ refusal. absurd refusal
none_refused Cause P files cut held (Err (run.Limit l)) stops = λ refusal. absurd refusal
none_refused Cause P files cut held (Err run.Generation) stops = λ refusal. absurd refusal
none_refused Cause P files cut held (Err (run.Report r)) stops = λ refusal. absurd refusal

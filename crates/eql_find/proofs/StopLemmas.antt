-- The error of a stop.
use Rattle.std.proofs.Common.{◌≡◌, ◌<◌, ℕ, List, length, get_or, refl, sym, ap, ◌∙◌, subst}
use Rattle.std.specs.Borrow.{Bor}
use Rattle.std.proofs.lemmas.Option.{slice_get_read}
use Rattle.eql_lane.specs.declared.make.LaneRefused.{LaneRefused}
use Rattle.eql_lane.specs.declared.make.LaneRefused.TheVariants as refused
use Rattle.eql_lane.specs.declared.ops.ShardLimit.{ShardLimit}
use Rattle.eql_conductor.specs.declared.stop.Stop.{Stop}
use Rattle.eql_conductor.specs.declared.stop.Stop.TheVariants as stop
use Rattle.eql_inputs.specs.declared.error.InputError.TheVariants as error
use Rattle.eql_find.specs.declared.error.CutStop.TheVariants as cut
use Rattle.eql_find.specs.declared.error.FindError.TheVariants as run
use Rattle.eql_find.specs.Stops.{IsErrorAt, IsErrorOf, MayStop, read, write, disk, memory, limited, generation, short, other_bytes, no_line, grown, failed, unmade}

pub error_read : (shards items : List (List ℕ)) (why : Stop) (shard : ℕ) (name : Bor (List ℕ)) → why ≡ stop.Read shard → items ≡ shards
    → MayStop (length shards) why → name.now ≡ get_or items shard name.now → IsErrorOf shards why (run.Files (error.Read name))
error_read shards items why shard name is same may own =
    subst (λ (w : Stop). IsErrorOf shards w (run.Files (error.Read name))) (sym is)
    (read shard name (slice_get_read shards (length shards) shard name.now refl (subst (MayStop (length shards)) is may) (own ∙ ap (λ (l : List (List ℕ)). get_or l shard name.now) same)))

module _ (shards : List (List ℕ)) (why : Stop) where
  pub error_write : why ≡ stop.Write → IsErrorOf shards why run.Write
  error_write is = subst (λ (w : Stop). IsErrorOf shards w run.Write) (sym is) write

  pub error_disk : why ≡ stop.Disk → IsErrorOf shards why run.Disk
  error_disk is = subst (λ (w : Stop). IsErrorOf shards w run.Disk) (sym is) disk

  pub error_memory : why ≡ stop.Memory → IsErrorOf shards why (run.Files error.Memory)
  error_memory is = subst (λ (w : Stop). IsErrorOf shards w (run.Files error.Memory)) (sym is) memory

  pub error_limit : (of : ShardLimit) → why ≡ stop.Limit of → IsErrorOf shards why (run.Limit of)
  error_limit of is = subst (λ (w : Stop). IsErrorOf shards w (run.Limit of)) (sym is) (limited of)

  pub error_generation : why ≡ stop.Generation → IsErrorOf shards why run.Generation
  error_generation is = subst (λ (w : Stop). IsErrorOf shards w run.Generation) (sym is) generation

-- the error of a lane that isn't made
module _ (shards items : List (List ℕ)) (shard : ℕ) (why : LaneRefused) where
  pub at_short : (offset had : ℕ) → why ≡ refused.Short offset had → IsErrorAt shards shard why (run.Cut (cut.Short shard offset had))
  at_short offset had is = subst (λ (w : LaneRefused). IsErrorAt shards shard w (run.Cut (cut.Short shard offset had))) (sym is) (short offset had)

  pub at_differs : why ≡ refused.Differs → IsErrorAt shards shard why (run.Cut (cut.OtherBytes shard))
  at_differs is = subst (λ (w : LaneRefused). IsErrorAt shards shard w (run.Cut (cut.OtherBytes shard))) (sym is) other_bytes

  pub at_no_line : (line : ℕ) → why ≡ refused.NoLine line → IsErrorAt shards shard why (run.Cut (cut.NoLine shard line))
  at_no_line line is = subst (λ (w : LaneRefused). IsErrorAt shards shard w (run.Cut (cut.NoLine shard line))) (sym is) (no_line line)

  pub at_grown : why ≡ refused.Grown → IsErrorAt shards shard why (run.Cut (cut.Grown shard))
  at_grown is = subst (λ (w : LaneRefused). IsErrorAt shards shard w (run.Cut (cut.Grown shard))) (sym is) grown

  pub at_failed : (name : Bor (List ℕ)) → why ≡ refused.Failed → items ≡ shards → shard < length shards → name.now ≡ get_or items shard name.now
      → IsErrorAt shards shard why (run.Files (error.Read name))
  at_failed name is same within own =
      subst (λ (w : LaneRefused). IsErrorAt shards shard w (run.Files (error.Read name))) (sym is)
      (failed name (slice_get_read shards (length shards) shard name.now refl within (own ∙ ap (λ (l : List (List ℕ)). get_or l shard name.now) same)))

  pub at_memory : why ≡ refused.Memory → IsErrorAt shards shard why (run.Files error.Memory)
  at_memory is = subst (λ (w : LaneRefused). IsErrorAt shards shard w (run.Files error.Memory)) (sym is) unmade

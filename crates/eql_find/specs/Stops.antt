-- The error of a run whose search stopped, or whose lanes weren't made.
use Rattle.std.specs.Prelude.{◌≡◌, ◌<◌, ℕ, List, slice_get, Some}
use Rattle.std.specs.Borrow.{Bor}
use Rattle.eql_lane.specs.declared.make.LaneRefused.{LaneRefused}
use Rattle.eql_lane.specs.declared.make.LaneRefused.TheVariants as refused
use Rattle.eql_lane.specs.declared.ops.ShardLimit.{ShardLimit}
use Rattle.eql_lane.specs.declared.ops.ShardLimit.TheVariants as limit
use Rattle.eql_conductor.specs.declared.stop.Stop.{Stop}
use Rattle.eql_conductor.specs.declared.stop.Stop.TheVariants as stop
use Rattle.eql_inputs.specs.declared.error.InputError.TheVariants as error
use Rattle.eql_find.specs.declared.error.CutStop.TheVariants as cut
use Rattle.eql_find.specs.declared.error.FindError.{FindError}
use Rattle.eql_find.specs.declared.error.FindError.TheVariants as run

-- why a search over as many shards may stop: a shard that is told is one of them, and no lock is worn
abbrev pub MayStop : (shards : ℕ) → Stop → Type 0
MayStop shards (stop.Read shard) = shard < shards
MayStop shards stop.Write = Unit {0}
MayStop shards stop.Disk = Unit {0}
MayStop shards stop.Memory = Unit {0}
MayStop shards (stop.Limit (limit.Lines shard)) = shard < shards
MayStop shards (stop.Limit (limit.Bytes shard)) = shard < shards
MayStop shards stop.Generation = Unit {0}
MayStop shards stop.Worn = ⊥

-- the error of a stop, over shards of these names
pub data IsErrorOf (shards : List (List ℕ)) : Stop → FindError → Type 0 where
  read :
      (shard : ℕ) (name : Bor (List ℕ)) → slice_get shards shard ≡ Some name.now
      → IsErrorOf shards (stop.Read shard) (run.Files (error.Read name))
  write : IsErrorOf shards stop.Write run.Write
  disk : IsErrorOf shards stop.Disk run.Disk
  memory : IsErrorOf shards stop.Memory (run.Files error.Memory)
  limited : (of : ShardLimit) → IsErrorOf shards (stop.Limit of) (run.Limit of)
  generation : IsErrorOf shards stop.Generation run.Generation

-- the error where the lane of this shard isn't made
pub data IsErrorAt (shards : List (List ℕ)) (shard : ℕ) : LaneRefused → FindError → Type 0 where
  short : (offset had : ℕ) → IsErrorAt shards shard (refused.Short offset had) (run.Cut (cut.Short shard offset had))
  other_bytes : IsErrorAt shards shard refused.Differs (run.Cut (cut.OtherBytes shard))
  no_line : (line : ℕ) → IsErrorAt shards shard (refused.NoLine line) (run.Cut (cut.NoLine shard line))
  grown : IsErrorAt shards shard refused.Grown (run.Cut (cut.Grown shard))
  failed : (name : Bor (List ℕ)) → slice_get shards shard ≡ Some name.now → IsErrorAt shards shard refused.Failed (run.Files (error.Read name))
  unmade : IsErrorAt shards shard refused.Memory (run.Files error.Memory)

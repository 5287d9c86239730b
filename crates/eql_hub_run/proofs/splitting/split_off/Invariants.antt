use Rattle.std.proofs.Common.{◌≡◌, ◌≤◌, length, vec_capacity}
use Rattle.std.specs.Prelude.{All}
use Rattle.eql_hub.specs.Hands.{Knows}
use Rattle.eql_hub_run.specs.Gathers.{IsUnplayedHand}
use Rattle.eql_hub_run.specs.Workers.{IsWhole, MayStart}
use Rattle.eql_hub_run.proofs.splitting.split_off.Given as goal

abbrev pub invariant-loop-place : goal.invariant-loop-place
invariant-loop-place g l =
    record {
      own : IsWhole l.hub l.hand;
      knows : Knows g.S.Source.left g.S.Source.lent_as g.S.Source.fault_plan g.L.LineReader.read_of l.hand;
      unplayed : IsUnplayedHand l.place g.pool.lanes g.pool.parts l.hand;
      start : All (MayStart l.hub) l.workers.items;
      count : length l.workers.items ≡ l.place;
      room : l.hands ≤ vec_capacity l.workers;
    }

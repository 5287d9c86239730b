use Rattle.std.proofs.Common.{◌≡◌, ◌≤◌, ◌+◌, ◌++◌, length, None, vec_len, vec_capacity}
use Rattle.std.specs.List.Sorted.{IsPermutation}
use Rattle.eql_auto.specs.Machine.{tags_of}
use Rattle.eql_auto.specs.Moves.{emptied_slot}
use Rattle.eql_auto.proofs.Sweeping.{swept}
use Rattle.eql_auto.proofs.moves.drop_from_slots.Given as goal

abbrev pub invariant-loop-place : goal.invariant-loop-place
invariant-loop-place g l = record {
  slots : l.table ≡ swept (emptied_slot l.which) None l.place l.fn.table;
  tags : IsPermutation (l.gone.items ++ tags_of l.table) (l.fn.gone.items ++ tags_of l.fn.table);
  room : vec_capacity l.fn.gone ≤ vec_capacity l.gone;
  still_room : length (tags_of l.table) + vec_len l.gone ≤ vec_capacity l.gone;
  probes : l.steps ≡ l.fn.steps + l.place;
}

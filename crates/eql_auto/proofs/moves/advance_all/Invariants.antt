use Rattle.std.proofs.Common.{◌≡◌, ◌≤◌, ◌+◌, ◌++◌, ℕ, suc, length, vec_len, vec_capacity}
use Rattle.std.specs.List.Sorted.{IsPermutation}
use Rattle.eql_auto.specs.Machine.{tags_of, slot_at, stages_in}
use Rattle.eql_auto.proofs.Moving.{partly, completed_from}
use Rattle.eql_auto.proofs.moves.advance_all.Given as goal

abbrev pub invariant-loop-stage : goal.invariant-loop-stage
invariant-loop-stage g l = record {
  low : 1 ≤ l.below;
  high : l.below ≤ suc (length l.fn.table);
  len : length l.table ≡ length l.fn.table;
  slots : (j : ℕ) → 1 ≤ j → j ≤ length l.table → slot_at l.table j ≡ partly l.span l.event l.mask l.fn.table l.below j;
  answer : l.completed ≡ completed_from l.span l.event l.mask l.fn.table l.below;
  tags : IsPermutation (l.gone.items ++ tags_of l.table) (l.fn.gone.items ++ tags_of l.fn.table);
  room : vec_capacity l.fn.gone ≤ vec_capacity l.gone;
  still_room : length (tags_of l.table) + vec_len l.gone ≤ vec_capacity l.gone;
  probes : l.steps + stages_in l.mask l.below ≤ l.fn.steps + stages_in l.mask (suc (length l.fn.table));
}

abbrev pub decreases-loop-stage : goal.decreases-loop-stage
decreases-loop-stage g l = l.below

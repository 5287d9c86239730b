use Rattle.std.specs.Prelude.{◌≡◌, ◌≤◌, ◌+◌, ℕ, length}
use Rattle.eql_conductor.specs.Finding.{own_of}
use Rattle.eql_search.specs.Running.{AreOwnTo, list_at}
use Rattle.eql_search.proofs.parting.make_parts.Given as goal

abbrev pub invariant-loop-number : goal.invariant-loop-number
invariant-loop-number g l = record {
  count : length l.lists.items ≡ 16;
  left : (p : ℕ) → l.number ≤ p → list_at l.lists.items p ≡ own_of l.fn.holders p;
  shares : 16 ≤ l.share.parts + l.number;
  nothing : l.share.amount ≡ 0;
  made : AreOwnTo l.number (record { stages = l.rules.stages; span = l.rules.span }) l.fn.holders l.mark l.parts.items;
}

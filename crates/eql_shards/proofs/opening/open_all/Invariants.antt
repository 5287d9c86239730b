use Rattle.std.proofs.Common.{◌≡◌, ◌≤◌, take, length, vec_len}
use Rattle.std.specs.Prelude.{All, map, Some, vec_capacity}
use Rattle.eql_outside.specs.Faults.{FaultsAreSame}
use Rattle.eql_outside.specs.Unfailing.{IsUnfailing}
use Rattle.eql_shards.specs.Shards.{AreWholeFiles}
use Rattle.eql_inputs.specs.Shelves.{KeepsShelf, LendsMore, NeverFails}
use Rattle.eql_shards.proofs.opening.open_all.Given as goal

abbrev pub invariant-loop-name : goal.invariant-loop-name
invariant-loop-name g l = record {
  whole : AreWholeFiles (take l.name-index l.shards) (g.H.Shelf.files l.fn.shelf)
      (map g.H.Src.Source.left l.sources.items);
  named : map g.H.Src.Source.lent_as l.sources.items ≡ map (λ name. Some name) (take l.name-index l.shards);
  fresh : All (λ source. g.H.Src.Source.fault_count source ≡ 0) l.sources.items;
  size : vec_len l.sources ≡ l.name-index;
  room : length l.shards ≤ vec_capacity l.sources;
  faults : FaultsAreSame (g.H.Shelf.faults_of l.fn.shelf) (g.H.Shelf.faults_of l.shelf);
  count : g.H.Shelf.fault_count l.shelf ≡ g.H.Shelf.fault_count l.fn.shelf;
  absences : g.H.Shelf.absent_count l.shelf ≡ g.H.Shelf.absent_count l.fn.shelf;
  kept : KeepsShelf g.H.Shelf l.fn.shelf l.shelf;
  lent : LendsMore (length l.sources.items) (g.H.Shelf.lent_count l.fn.shelf) (g.H.Shelf.lent_count l.shelf);
  unfailing : NeverFails (g.H.Shelf.fault_plan l.fn.shelf) (g.H.Shelf.source_plans l.fn.shelf)
      → All (λ source. IsUnfailing (g.H.Src.Source.fault_plan source)) l.sources.items
      × NeverFails (g.H.Shelf.fault_plan l.shelf) (g.H.Shelf.source_plans l.shelf);
}

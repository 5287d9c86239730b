use Rattle.eql_part.specs.Rooms.{entries_of}
use Rattle.eql_part.proofs.Emptied.{of_change, removed_busy, removing_keeps}
use Rattle.eql_part.proofs.Looked.{changed_others, entries_sorted}
use Rattle.std.proofs.Common.{None}
use Rattle.eql_part.proofs.rooms.settle.Goals as goal

pub returns-then-is_empty-clause-of : goal.returns-then-is_empty-clause-of
returns-then-is_empty-clause-of g c =
    of_change c.args.shape.stages c.args.shape.span c.args.key.now None (entries_of c.args.machines.now) (entries_of c.remove.new.self) c.requires.of tt (entries_sorted c.remove.new.self.rooms.items) c.remove.ensures.removed

pub returns-then-is_empty-clause-sequences : goal.returns-then-is_empty-clause-sequences
returns-then-is_empty-clause-sequences g c =
    removing_keeps (entries_of c.args.machines.now) (entries_of c.remove.new.self) c.args.key.now (c.requires.empty c.if-is_empty.true) c.remove.ensures.removed

pub returns-then-is_empty-clause-others : goal.returns-then-is_empty-clause-others
returns-then-is_empty-clause-others g c = changed_others c.args.key.now None (entries_of c.args.machines.now) (entries_of c.remove.new.self) c.remove.ensures.removed

pub returns-then-is_empty-clause-busy : goal.returns-then-is_empty-clause-busy
returns-then-is_empty-clause-busy g c = removed_busy (entries_of c.args.machines.now) (entries_of c.remove.new.self) c.args.key.now c.remove.ensures.removed

use Rattle.eql_part.specs.Rooms.{entries_of}
use Rattle.eql_part.proofs.Onward.{linked_alike}
use Rattle.eql_part.proofs.Turned.{slots_alike}
use Rattle.std.proofs.Common.{◌∙◌}
use Rattle.eql_part.proofs.turns.turn_key.Goals as goal

pub returns-clause-slots : goal.returns-clause-slots
returns-clause-slots g c = λ k low high.
    slots_alike (entries_of c.turn_machine-completed.new.machines) (entries_of c.drop_empty.new.machines) c.args.route.now.key k c.drop_empty.ensures.sequences ∙ c.turn_machine-completed.ensures.slots k low high

pub returns-clause-linked : goal.returns-clause-linked
returns-clause-linked g c = λ begun linked.
    linked_alike (entries_of c.turn_machine-completed.new.machines) (entries_of c.drop_empty.new.machines) begun c.turn_machine-completed.new.list c.drop_empty.ensures.sequences
    (c.turn_machine-completed.ensures.linked begun linked)

use Rattle.std.proofs.Common.{◌∷◌, length, ap, arith}
use Rattle.std.proofs.lemmas.List.Sorted.{length_permutation}
use Rattle.eql_auto.specs.Machine.{Machine, tags_of}
use Rattle.eql_span_list.specs.declared.node.Ticket.{Ticket}
use Rattle.eql_part.proofs.Tagging.{tags_few}
use Rattle.eql_part.proofs.machine.KeyMachine.put.Goals as goal

pub overflow_add-self : goal.overflow_add-self
overflow_add-self g c =
    let seen = ap (λ (m : Machine Ticket). length m.slots) c.self.view_is in
    let few = tags_few c.self.inside.auto.slots in
    let few_stages = c.requires.few in
    let count = c.self.invariant in
    omega arith

pub invariant_of-self : goal.invariant_of-self
invariant_of-self g c =
    let more = length_permutation (tags_of c.put_holder.new.self.slots) (c.args.ticket ∷ tags_of c.self.inside.auto.slots) c.put_holder.ensures.tags in
    let count = c.self.invariant in
    omega arith

use Rattle.std.proofs.Common.{sym, subst, of_z, to_z}
use Rattle.std.specs.Int.{w128}
use Rattle.eql_part.specs.KeyTables.{Pendings}
use Rattle.eql_parts.specs.Inboxes.{IsWaiting}
use Rattle.eql_parts.proofs.Living.{left_waiting}
use Rattle.eql_parts.proofs.waiting.Waiting.sweep.Goals as goal

pub invariant_of-self : goal.invariant_of-self
invariant_of-self g c =
    let keys = c.self.inside.keys in
    subst (λ (p : Pendings). IsWaiting p.stages p.holders c.self.inside.inbox.items) (sym c.sweep.ensures.holders)
    (left_waiting c.after_in_order.ensures.alive keys.stages keys.span (to_z w128 (of_z w128 c.in-Some.reach)) keys.holders c.self.inside.inbox.items c.self.invariant)

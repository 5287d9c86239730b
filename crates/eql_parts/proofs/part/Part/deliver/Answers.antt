use Rattle.std.proofs.Common.{sym, subst}
use Rattle.eql_parts.specs.Inboxes.{LiesBelow, WaitingView}
use Rattle.eql_parts.specs.PartSteps.{CanDeliver, PartView}
use Rattle.eql_parts.proofs.Delivered.{below_delivered, next_delivered}
use Rattle.eql_parts.proofs.Settled.{part_settled}
use Rattle.eql_parts.proofs.part.Part.deliver.Goals as goal

pub deliver-requires : goal.deliver-requires
deliver-requires g c =
    let w = c.self.inside.waiting in
    let can = subst (λ (p : PartView). CanDeliver p.state.last c.args.items c.args.mark) (sym c.self.view_is) c.requires.can in
    record {
      next = next_delivered c.ascend_together.ensures.lists c.ascend_together.ensures.event c.self.inside.last w.held w.inbox c.args.items
          c.stands.ensures.next c.self.invariant.below can.ascends can.not_below;
    }

pub invariant_of-self-in-Ok : goal.invariant_of-self-in-Ok
invariant_of-self-in-Ok g c =
    let w = c.self.inside.waiting in
    let can = subst (λ (p : PartView). CanDeliver p.state.last c.args.items c.args.mark) (sym c.self.view_is) c.requires.can in
    part_settled c.deliver.new.self c.settle.new.waiting c.settle.new.done c.args.mark c.settle.ensures.waiting
    (subst (λ (x : WaitingView). LiesBelow c.args.mark x.held x.inbox) (sym c.in-Ok.ensures.ok)
    (below_delivered c.self.inside.last c.args.mark w.held w.inbox c.args.items can.rises c.self.invariant.below can.below))

use Rattle.std.proofs.Common.{sym, ◌∙◌}
use Rattle.eql_lane.proofs.HeldLemmas.{run_popped, others_popped, seen_popped, no_more}
use Rattle.eql_lane.proofs.held.Held.pop_first.Goals as goal

pub returns-then-run_is_first : goal.returns-then-run_is_first
returns-then-run_is_first c =
    let popped = run_popped c.pop_front.result c.self.inside.run.items c.pop_front.new.self.items c.self.inside.others.entries c.pop_front.ensures.items c.self.invariant (sym c.run_is_first.ensures ∙ c.if-run_is_first.true)
    (no_more c.pop_front.result c.self.inside.run.items c.self.inside.run.len c.self.inside.run.ok.0 c.pop_front.ensures.variant.1) in
    seen_popped c.pop_front.result _ c.args.self.now _ c.self.view_is popped.out

pub invariant_of-self : goal.invariant_of-self
invariant_of-self c =
    (run_popped c.pop_front.result c.self.inside.run.items c.pop_front.new.self.items c.self.inside.others.entries c.pop_front.ensures.items c.self.invariant (sym c.run_is_first.ensures ∙ c.if-run_is_first.true)
    (no_more c.pop_front.result c.self.inside.run.items c.self.inside.run.len c.self.inside.run.ok.0 c.pop_front.ensures.variant.1)).is

pub invariant_of-self-2 : goal.invariant_of-self-2
invariant_of-self-2 c =
    (others_popped c.first_of.result c.self.inside.run.items c.self.inside.others.entries c.first_of.new.others.entries c.first_of.ensures c.self.invariant (sym c.run_is_first.ensures ∙ c.if-run_is_first.false)).is

pub returns : goal.returns
returns c =
    seen_popped c.first_of.result _ c.args.self.now _ c.self.view_is
    (others_popped c.first_of.result c.self.inside.run.items c.self.inside.others.entries c.first_of.new.others.entries c.first_of.ensures c.self.invariant (sym c.run_is_first.ensures ∙ c.if-run_is_first.false)).out

use Rattle.eql_lane.proofs.HeldLemmas.{appended, inserted}
use Rattle.eql_lane.proofs.held.Held.push.Goals as goal

pub invariant_of-self : goal.invariant_of-self
invariant_of-self c =
    (appended c.append.result c.self.inside.run.items c.self.inside.others.entries c.args.self.now c.args.item c.append.new.run.items c.self.view_is c.self.invariant c.requires (c.comes_last.ensures c.if-comes_last.true)
    c.append.ensures.items c.append.ensures.unchanged).is

pub returns-then-comes_last-clause-held : goal.returns-then-comes_last-clause-held
returns-then-comes_last-clause-held c =
    (appended c.append.result c.self.inside.run.items c.self.inside.others.entries c.args.self.now c.args.item c.append.new.run.items c.self.view_is c.self.invariant c.requires (c.comes_last.ensures c.if-comes_last.true)
    c.append.ensures.items c.append.ensures.unchanged).held

pub invariant_of-self-2 : goal.invariant_of-self-2
invariant_of-self-2 c =
    (inserted c.put.result c.self.inside.run.items c.self.inside.others.entries c.args.self.now c.args.item c.put.new.others.entries c.self.view_is c.self.invariant c.requires c.put.ensures.entries c.put.ensures.unchanged).is

pub returns-clause-held : goal.returns-clause-held
returns-clause-held c =
    (inserted c.put.result c.self.inside.run.items c.self.inside.others.entries c.args.self.now c.args.item c.put.new.others.entries c.self.view_is c.self.invariant c.requires c.put.ensures.entries c.put.ensures.unchanged).held

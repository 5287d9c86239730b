use Rattle.std.proofs.Common.{◌≡◌, length, map, ap, ◌∙◌, subst, arith}
use Rattle.std.proofs.lemmas.Int.{to_z-of_z}
use Rattle.std.specs.Int.{w128}
use Rattle.eql_auto.specs.Machine.{Machine, alive_in}
use Rattle.eql_auto.proofs.Turning.{few_tags}
use Rattle.eql_auto.proofs.auto.Auto.expire.Goals as goal

pub empty_stale-requires-clause-room : goal.empty_stale-requires-clause-room
empty_stale-requires-clause-room g c =
    let few = few_tags c.self.inside.table in
    let room = c.self.invariant.room in
    let none = ap length (ap (λ (a : Machine g.row.T.Denot). a.gone) c.self.view_is ∙ c.requires.read) in
    let ok = c.self.inside.gone.ok.0 in
    omega arith

pub returns-clause-slots : goal.returns-clause-slots
returns-clause-slots g c =
    subst (λ (a : Machine g.row.T.Denot). c.empty_stale.new.table ≡ map (alive_in a.span c.args.reach) a.slots) c.self.view_is
    (c.empty_stale.ensures.slots ∙ ap (λ z. map (alive_in c.self.inside.span z) c.self.inside.table) (to_z-of_z w128 c.args.reach c.ranges.reach))

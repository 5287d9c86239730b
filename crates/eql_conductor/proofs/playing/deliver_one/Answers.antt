use Rattle.eql_conductor.proofs.Parted.{deliver_more, may_deliver}
use Rattle.eql_conductor.proofs.playing.deliver_one.Goals as goal

pub part-requires-clause-allowed : goal.part-requires-clause-allowed
part-requires-clause-allowed g c =
    let some = c.requires.some in
    may_deliver some.rules some.all c.args.items.now c.args.own c.args.last c.args.mark c.args.p (g.B.Bench.known c.args.bench.now) c.requires.place c.requires.can c.requires.own some.is

pub returns-in-Ok-Done-clause-parts : goal.returns-in-Ok-Done-clause-parts
returns-in-Ok-Done-clause-parts g c =
    λ rules all was. deliver_more rules all c.args.items.now c.args.own c.args.last c.args.mark c.args.p (g.B.Bench.known c.args.bench.now) (g.B.Bench.known c.part.new.self) c.requires.place c.requires.can c.requires.own
    (rw c.in-Ok-Done.field-0-is at c.in-Ok-Done.ensures.played) was

use Rattle.eql_conductor.proofs.Parted.{collect_finds, collect_more}
use Rattle.eql_conductor.proofs.playing.collect_one.Goals as goal

pub returns-in-Ok-Found-clause-found : goal.returns-in-Ok-Found-clause-found
returns-in-Ok-Found-clause-found g c =
    λ rules all was. collect_finds rules all c.args.items.now c.args.mark _ c.args.p c.in-Ok-Found.matches (g.B.Bench.known c.args.bench.now) (g.B.Bench.known c.part.new.self) c.requires.place
    (rw c.in-Ok-Found.field-0-is at c.in-Ok-Found.ensures.played) was

pub returns-in-Ok-Found-clause-parts : goal.returns-in-Ok-Found-clause-parts
returns-in-Ok-Found-clause-parts g c =
    λ rules all was. collect_more rules all c.args.items.now c.args.mark _ c.args.p c.in-Ok-Found.matches (g.B.Bench.known c.args.bench.now) (g.B.Bench.known c.part.new.self) c.requires.place
    (rw c.in-Ok-Found.field-0-is at c.in-Ok-Found.ensures.played) was

use Rattle.eql_conductor.proofs.Parted.{idle_more, turn_fewer, turn_fits, turn_more}
use Rattle.eql_conductor.proofs.PartNotes.{idle_noted, lacked_noted, turned_noted}
use Rattle.eql_conductor.proofs.playing.turn_once.Goals as goal

pub overflow_sub-result : goal.overflow_sub-result
overflow_sub-result g c =
    turn_fits c.requires.some.rules c.args.p c.args.batch c.in-Ok-Turned.n c.args.left (g.B.Bench.known c.args.bench.now) (g.B.Bench.known c.part.new.self) (rw c.in-Ok-Turned.field-0-is at c.in-Ok-Turned.ensures.played) c.requires.left

pub returns-in-Ok-Turned-clause-fewer : goal.returns-in-Ok-Turned-clause-fewer
returns-in-Ok-Turned-clause-fewer g c =
    turn_fewer c.requires.some.rules c.args.p c.args.batch c.in-Ok-Turned.n c.args.left (g.B.Bench.known c.args.bench.now) (g.B.Bench.known c.part.new.self) (rw c.in-Ok-Turned.field-0-is at c.in-Ok-Turned.ensures.played) c.requires.left

pub returns-in-Ok-Turned-clause-parts : goal.returns-in-Ok-Turned-clause-parts
returns-in-Ok-Turned-clause-parts g c =
    λ rules all was. turn_more rules all c.args.items.now c.args.mark c.args.p c.args.batch c.in-Ok-Turned.n (g.B.Bench.known c.args.bench.now) (g.B.Bench.known c.part.new.self) c.requires.place
    (rw c.in-Ok-Turned.field-0-is at c.in-Ok-Turned.ensures.played) was

pub returns-in-Ok-Idle-clause-parts : goal.returns-in-Ok-Idle-clause-parts
returns-in-Ok-Idle-clause-parts g c =
    λ rules all was. idle_more rules all c.args.items.now c.args.mark c.args.p c.args.batch (g.B.Bench.known c.args.bench.now) (g.B.Bench.known c.part.new.self) c.requires.place
    (rw c.in-Ok-Idle.field-0-is at c.in-Ok-Idle.ensures.played) was

pub returns-in-Ok-Turned-clause-notes : goal.returns-in-Ok-Turned-clause-notes
returns-in-Ok-Turned-clause-notes g c =
    λ w few. turned_noted c.args.p c.args.batch c.in-Ok-Turned.n w (g.B.Bench.known c.args.bench.now) (g.B.Bench.known c.part.new.self) (rw c.in-Ok-Turned.field-0-is at c.in-Ok-Turned.ensures.played) few

pub returns-in-Ok-Idle-clause-notes : goal.returns-in-Ok-Idle-clause-notes
returns-in-Ok-Idle-clause-notes g c = λ w few. idle_noted c.args.p c.args.batch (g.B.Bench.known c.args.bench.now) (g.B.Bench.known c.part.new.self) (rw c.in-Ok-Idle.field-0-is at c.in-Ok-Idle.ensures.played)

pub returns-in-Ok-Memory-clause-broken_notes : goal.returns-in-Ok-Memory-clause-broken_notes
returns-in-Ok-Memory-clause-broken_notes g c =
    λ w few. lacked_noted c.args.p c.args.batch c.in-Ok-Memory.field-0-1 w c.in-Ok-Memory.field-0-0 (g.B.Bench.known c.args.bench.now) (g.B.Bench.known c.part.new.self)
    (rw c.in-Ok-Memory.field-0-is at c.in-Ok-Memory.ensures.played) few

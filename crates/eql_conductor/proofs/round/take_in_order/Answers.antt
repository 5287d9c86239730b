use Rattle.std.proofs.Common.{◌∷◌, [], None}
use Rattle.eql_conductor.proofs.FittingRounds.{takes_fitting}
use Rattle.eql_conductor.proofs.Merged.{all_apart, all_ascend}
use Rattle.eql_conductor.specs.declared.note.Note.TheVariants.{Took}
use Rattle.eql_conductor.proofs.Handing.{sizes_handed}
use Rattle.eql_conductor.proofs.LaneNotes.{lanes_broken}
use Rattle.eql_conductor.proofs.round.take_in_order.Goals as goal

pub merge_fitting-requires-clause-ascend : goal.merge_fitting-requires-clause-ascend
merge_fitting-requires-clause-ascend g c = all_ascend None c.args.last c.args.mark (g.B.Bench.known c.args.bench.now) c.in_ok-lists.lists (c.in_ok-lists.ensures.hands None c.requires.lanes)

pub merge_fitting-requires-clause-apart : goal.merge_fitting-requires-clause-apart
merge_fitting-requires-clause-apart g c =
    all_apart None c.args.last c.args.mark (g.B.Bench.known c.args.bench.now) c.in_ok-lists.lists c.requires.lanes.are (c.in_ok-lists.ensures.hands None c.requires.lanes)

pub returns-in-Ok-clause-taken : goal.returns-in-Ok-clause-taken
returns-in-Ok-clause-taken g c =
    takes_fitting c.args.last c.args.mark (g.B.Bench.known c.args.bench.now) (g.B.Bench.known c.take_all.new.bench) c.in_ok-lists.lists c.in-Ok.items c.requires.later c.requires.lanes
    c.in_ok-lists.ensures.hands c.in_ok-lists.ensures.handed c.in-Ok.ensures

pub returns-in-Err-clause-none_handed : goal.returns-in-Err-clause-none_handed
returns-in-Err-clause-none_handed g c = sizes_handed c.in_ok-lists.lists (g.B.Bench.known c.args.bench.now) (g.B.Bench.known c.take_all.new.bench) c.in_ok-lists.ensures.handed

pub returns-in-Err-clause-broken_notes : goal.returns-in-Err-clause-broken_notes
returns-in-Err-clause-broken_notes g c = lanes_broken (λ s. Took c.args.mark ∷ []) (g.B.Bench.known c.args.bench.now) (g.B.Bench.known c.take_all.new.bench) c.in_ok-lists.ensures.notes

use Rattle.eql_conductor.proofs.Gathered.{held_apart, held_full, held_in_order, held_together}
use Rattle.eql_conductor.proofs.snapping.snap_parts.Goals as goal

pub merge_holders-requires-clause-in_order : goal.merge_holders-requires-clause-in_order
merge_holders-requires-clause-in_order g c =
    let some = c.requires.some in
    held_in_order some.rules some.all c.args.time c.in_ok-lists.lists.items (c.in_ok-lists.ensures.held some.rules some.all c.args.time some.is)

pub merge_holders-requires-clause-apart : goal.merge_holders-requires-clause-apart
merge_holders-requires-clause-apart g c =
    let some = c.requires.some in
    held_apart some.rules some.all c.args.time c.in_ok-lists.lists.items (c.in_ok-lists.ensures.held some.rules some.all c.args.time some.is)

pub returns-in-Ok-clause-held : goal.returns-in-Ok-clause-held
returns-in-Ok-clause-held g c =
    λ rules all rest. held_together rules all c.args.time c.in_ok-lists.lists.items c.in-Ok.held (c.in_ok-lists.ensures.held rules all c.args.time rest) c.in-Ok.ensures.sorted

pub returns-in-Ok-clause-full : goal.returns-in-Ok-clause-full
returns-in-Ok-clause-full g c =
    let some = c.requires.some in
    held_full some.rules some.all c.args.time c.in-Ok.held some.full
    (held_together some.rules some.all c.args.time c.in_ok-lists.lists.items c.in-Ok.held (c.in_ok-lists.ensures.held some.rules some.all c.args.time some.is) c.in-Ok.ensures.sorted)

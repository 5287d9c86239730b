use Rattle.std.proofs.Common.{◌≤◌, length, sym, ◌∙◌, subst, arith}
use Rattle.std.specs.Prelude.{All}
use Rattle.eql_hub_run.specs.Conducted.{opened}
use Rattle.eql_hub_run.specs.Gathers.{IsLeastOf, IsUnplayedHand}
use Rattle.eql_hub_run.specs.Workers.{IsNoRead, WorkerView}
use Rattle.eql_hub_run.proofs.Assembled.{ran_beside}
use Rattle.eql_hub_run.proofs.Joins.{are_joined}
use Rattle.eql_hub_run.proofs.Seats.{seat_first, seat_keeps, seat_may, seat_texts}
use Rattle.eql_hub_run.proofs.run.run_over.Goals as goal

pub new-bench-requires-clause-own : goal.new-bench-requires-clause-own
new-bench-requires-clause-own g c = c.requires.may.own

pub new-bench-requires-clause-knows : goal.new-bench-requires-clause-knows
new-bench-requires-clause-knows g c = c.requires.may.knows

pub new-bench-requires-clause-first : goal.new-bench-requires-clause-first
new-bench-requires-clause-first g c =
    seat_first g.S.Source g.L.LineReader g.D.Disk g.T.LockOpening.text c.args.hub c.args.hand c.args.workers.items c.args.run.now c.requires.may

pub new-bench-requires-clause-texts : goal.new-bench-requires-clause-texts
new-bench-requires-clause-texts g c =
    seat_texts g.S.Source g.L.LineReader g.D.Disk g.T.LockOpening.text c.args.hub c.args.hand c.args.workers.items c.args.run.now c.requires.may

pub play_beside-ended-requires-clause-may : goal.play_beside-ended-requires-clause-may
play_beside-ended-requires-clause-may g c κs within =
    rw c.new-bench.ensures
    (seat_may g.S.Source g.L.LineReader g.D.Disk g.T.LockOpening.text c.args.hub c.args.hand c.args.workers.items c.args.run.now c.requires.may)

pub play_beside-ended-requires-clause-keeps : goal.play_beside-ended-requires-clause-keeps
play_beside-ended-requires-clause-keeps g c κs within =
    rw c.new-bench.ensures
    (seat_keeps g.S.Source g.L.LineReader g.D.Disk g.T.LockOpening.text c.args.hub c.args.hand c.args.workers.items c.args.run.now c.requires.may)

pub play_beside-ended-requires-clause-start : goal.play_beside-ended-requires-clause-start
play_beside-ended-requires-clause-start g c κs within = c.requires.may.start

pub join_all-requires-clause-first : goal.join_all-requires-clause-first
join_all-requires-clause-first g c = c.into_hand-first.ensures.is.first

pub join_all-requires-clause-own : goal.join_all-requires-clause-own
join_all-requires-clause-own g c =
    let is = (rw (sym c.requires.opening.0) at c.into_hand-first.ensures.is) in
    record { own = is.own; lane_count = is.lane_count; part_count = is.part_count }

pub close-lanes-requires-clause-own : goal.close-lanes-requires-clause-own
close-lanes-requires-clause-own g c = c.join_all.ensures.own.own

pub close-lanes-requires-clause-all_joined : goal.close-lanes-requires-clause-all_joined
close-lanes-requires-clause-all_joined g c =
    let may = c.requires.may in
    let gathered = c.join_all.ensures.gathered in
    let is = (rw (sym c.requires.opening.1) at c.into_hand-first.ensures.is) in
    are_joined (All (λ (w : WorkerView _ _). IsNoRead w.met) c.play_beside-ended.result.2.items) (opened c.args.hand).lanes (opened c.args.hand).parts gathered.0
    c.args.hand c.into_hand-first.result c.join_all.new.hand
    (subst (λ n. IsUnplayedHand n (opened c.args.hand).lanes (opened c.args.hand).parts c.args.hand) (sym (gathered.1.0 ∙ c.play_beside-ended.ensures.count)) may.unplayed)
    is.lanes is.parts gathered.2

pub returns : goal.returns
returns g c =
    let may = c.requires.may in
    let gathered = c.join_all.ensures.gathered in
    let workers = c.play_beside-ended.result.2.items in
    let ended = c.play_beside-ended.result.0 in
    let answer = c.told-answer.result in
    let many : length workers ≤ 65536 = let a = c.play_beside-ended.ensures.count in let b = may.many in omega (arith, a, b) in
    let told = subst (λ list. IsLeastOf ended list answer) c.deref.ensures.value c.told-answer.ensures in
    let is = (rw (sym c.requires.opening.0) at (rw (sym c.requires.opening.1) at c.into_hand-first.ensures.is)) in
    let ran = (rw (sym c.into_hand-first.ensures.hand) at (rw c.new-bench.ensures at c.play_beside-ended.ensures.ran)) in
    ran_beside g.S.Source g.L.LineReader g.T.LockOpening.text
    (opened c.args.hand).lanes c.close-lanes.result.0.items (opened c.args.hand).parts c.close-lanes.result.1.items
    c.args.hub c.args.hand c.into_hand-first.result c.join_all.new.hand (length c.args.workers.items) workers gathered.0
    may.few may.texts may.unplayed is c.play_beside-ended.ensures.played gathered.1 many gathered.2
    c.close-lanes.ensures.lanes c.close-lanes.ensures.parts
    g.K.Sink g.D.Disk c.args.sink.now c.play_beside-ended.new.sink c.args.run.now c.play_beside-ended.new.run ended answer may.may told ran

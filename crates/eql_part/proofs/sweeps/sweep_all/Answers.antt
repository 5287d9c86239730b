use Rattle.std.proofs.Common.{◌≡◌, ◌-◌, ℤ, length, sym, ◌∙◌, subst, arith}
use Rattle.std.specs.Int.{w128}
use Rattle.std.proofs.lemmas.Int.{to_z-of_z}
use Rattle.eql_laws.specs.Alive.{alive_at}
use Rattle.eql_part.specs.Rooms.{entries_of}
use Rattle.eql_part.specs.KeyTables.{holders_in, slots_in}
use Rattle.eql_part.proofs.Expiring.{all_alive}
use Rattle.eql_part.proofs.Probed.{probes_on}
use Rattle.eql_part.proofs.sweeps.sweep_all.Goals as goal

pub returns-clause-slots : goal.returns-clause-slots
returns-clause-slots g c = λ key k.
    subst (λ (now : ℤ). slots_in (entries_of c.loop-shape.machines) key k ≡ alive_at c.args.shape.span now (slots_in (entries_of c.args.machines.now) key k)) (to_z-of_z w128 c.args.reach c.ranges.reach)
    (sym (all_alive c.args.shape.stages c.args.shape.span _ (entries_of c.loop-shape.machines) c.loop-shape.list c.loop-shape.invariant.of c.loop-shape.invariant.linked (c.is_front_stale.ensures.fresh c.loop-shape-test.false) key k)
    ∙ c.loop-shape.invariant.alive key k)

pub loop-shape-preserved : goal.loop-shape-preserved
loop-shape-preserved g c =
    let done = c.expire_front.ensures in
    let l = c.loop-shape in
    let fewer = done.fewer in
    let before = l.invariant.fewer in
    record {
      of = done.of;
      table = done.table;
      busy = done.busy;
      linked = done.linked;
      alive = λ key k. done.alive key k ∙ l.invariant.alive key k;
      fewer = omega arith;
      probes = probes_on c.expire_front.new.steps l.steps (c.args.shape.stages - 1) (length (holders_in (entries_of c.expire_front.new.machines))) (length (holders_in (entries_of l.machines))) _ done.probes done.fewer l.invariant.probes;
    }

use Rattle.std.proofs.Common.{◌≡◌, ◌≤◌, ◌+◌, ◌-◌, ◌*◌, ℕ, ℤ, List, length, ap, ◌∙◌, subst}
use Rattle.std.specs.Int.{w128}
use Rattle.std.proofs.lemmas.Int.{to_z-of_z}
use Rattle.eql_values.specs.declared.value.Value.{Value}
use Rattle.eql_laws.specs.Alive.{alive_at, alive_holders}
use Rattle.eql_part.specs.Rooms.{entries_of}
use Rattle.eql_part.specs.KeyTables.{Pendings, holders_in, slots_in}
use Rattle.eql_part.proofs.Looked.{entries_sorted}
use Rattle.eql_part.proofs.Expiring.{all_dropped}
use Rattle.eql_part.proofs.Taken.{swept_is}
use Rattle.eql_part.proofs.keys.Keys.sweep.Goals as goal

pub returns-clause-holders : goal.returns-clause-holders
returns-clause-holders g c =
    let m = c.self.inside.shape.stages in let span = c.self.inside.shape.span in let old = (entries_of c.self.inside.machines) in let new = (entries_of c.sweep_all.new.machines) in
    let slots = subst (λ (now : ℤ). (key : List Value) (k : ℕ) → slots_in new key k ≡ alive_at span now (slots_in old key k)) (to_z-of_z w128 c.args.reach c.ranges.reach) c.sweep_all.ensures.slots in
    let is = swept_is c.same_holders.ensures c.after_in_order.ensures.alive c.dead_by_slot.ensures.look_up span c.args.reach old new (entries_sorted c.self.inside.machines.rooms.items) (entries_sorted c.sweep_all.new.machines.rooms.items) slots in
    (λ i. record { stages = m; span = span; holders = is i })
    ∙ ap (λ (p : Pendings). record p { holders = alive_holders p.span c.args.reach p.holders }) c.self.view_is

pub returns-clause-probes : goal.returns-clause-probes
returns-clause-probes g c =
    let old = (entries_of c.self.inside.machines) in let new = (entries_of c.sweep_all.new.machines) in
    subst (λ (p : Pendings). c.sweep_all.new.steps ≤ c.args.steps.now + (p.stages - 1) * (length p.holders - length (holders_in new))) c.self.view_is
    (all_dropped (c.self.inside.shape.stages - 1) c.sweep_all.new.steps c.args.steps.now (length (holders_in new)) (length (holders_in old)) c.sweep_all.ensures.fewer c.sweep_all.ensures.probes)

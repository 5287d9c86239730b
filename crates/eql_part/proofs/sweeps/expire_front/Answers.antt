use Rattle.std.proofs.Common.{◌≡◌, ◌<◌, ℤ, [], List, length, sym, ap, ◌∙◌, subst}
use Rattle.std.specs.Int.{w128}
use Rattle.std.proofs.lemmas.Int.{to_z-of_z}
use Rattle.eql_values.specs.declared.found.Holder.{Holder}
use Rattle.eql_laws.specs.Alive.{alive_at}
use Rattle.eql_part.specs.Rooms.{entries_of}
use Rattle.eql_part.specs.KeyTables.{holders_in, machine_of, slots_in}
use Rattle.eql_part.proofs.Looked.{entries_sorted}
use Rattle.eql_part.proofs.Busy.{busy_after, keeps_busy}
use Rattle.eql_part.proofs.Onward.{linked_alike}
use Rattle.eql_part.proofs.Taken.{alike}
use Rattle.eql_part.proofs.Turned.{slots_alike}
use Rattle.eql_part.proofs.sweeps.expire_front.Goals as goal

pub returns-clause-alive : goal.returns-clause-alive
returns-clause-alive g c = λ key k.
    ap (alive_at c.args.shape.span c.args.reach) (slots_alike (entries_of c.expire_machine-start.new.machines) (entries_of c.drop_empty.new.machines) key k c.drop_empty.ensures.sequences)
    ∙ subst (λ (now : ℤ). alive_at c.args.shape.span now (slots_in (entries_of c.expire_machine-start.new.machines) key k) ≡ alive_at c.args.shape.span now (slots_in (entries_of c.args.machines.now) key k))
    (to_z-of_z w128 c.args.reach c.ranges.reach) (c.expire_machine-start.ensures.alive key k)

pub returns-clause-linked : goal.returns-clause-linked
returns-clause-linked g c =
    linked_alike (entries_of c.expire_machine-start.new.machines) (entries_of c.drop_empty.new.machines) [] c.expire_machine-start.new.list c.drop_empty.ensures.sequences c.expire_machine-start.ensures.linked

pub returns-clause-fewer : goal.returns-clause-fewer
returns-clause-fewer g c =
    let m = c.args.shape.stages in let span = c.args.shape.span in let es = (entries_of c.expire_machine-start.new.machines) in let new = (entries_of c.drop_empty.new.machines) in
    let same : holders_in new ≡ holders_in es = alike c.same_holders.ensures es new (entries_sorted c.expire_machine-start.new.machines.rooms.items) (entries_sorted c.drop_empty.new.machines.rooms.items) c.drop_empty.ensures.sequences in
    subst (λ (l : List Holder). length l < length (holders_in (entries_of c.args.machines.now))) (sym same) c.expire_machine-start.ensures.fewer

pub returns-clause-busy : goal.returns-clause-busy
returns-clause-busy g c =
    let es = (entries_of c.expire_machine-start.new.machines) in let old = (entries_of c.args.machines.now) in
    busy_after es (entries_of c.drop_empty.new.machines) c.expire_machine-start.result.key c.drop_empty.ensures.others c.drop_empty.ensures.busy
    (λ q ne. keeps_busy (machine_of old q) (machine_of es q) (c.expire_machine-start.ensures.others q ne) (c.requires.busy q))

use Rattle.std.proofs.Common.{◌≡◌, ◌≤◌, [], length, sym, subst, arith}
use Rattle.std.specs.Prelude.{IfSome}
use Rattle.eql_auto.specs.Machine.{Machine, tags_of}
use Rattle.eql_span_list.specs.declared.node.Ticket.{Ticket}
use Rattle.eql_part.proofs.Tables.{at_index, found_at, within}
use Rattle.eql_part.proofs.rooms.is_empty_at.Goals as goal

pub index-requires : goal.index-requires
index-requires g c =
    let ok = c.args.machines.now.rooms.ok.0 in
    let lt = within c.args.shape.stages c.args.shape.span c.args.machines.now c.args.key.now c.args.place c.requires.table c.requires.there in
    omega (arith, ok, lt)

pub returns-clause-empty : goal.returns-clause-empty
returns-clause-empty g c = λ yes.
    let m = c.args.shape.stages in let span = c.args.shape.span in let t = c.args.machines.now in let key = c.args.key.now in
    let at = at_index m span t key c.args.place c.index.result.now c.requires.table c.requires.there c.index.ensures in
    let found = found_at m span t key c.args.place c.index.result.now c.requires.table c.requires.there at in
    subst (λ o. IfSome o (λ (x : Machine Ticket). tags_of x.slots ≡ [])) (sym found) (c.is_empty.ensures.empty yes)

pub returns-clause-busy : goal.returns-clause-busy
returns-clause-busy g c = λ no.
    let m = c.args.shape.stages in let span = c.args.shape.span in let t = c.args.machines.now in let key = c.args.key.now in
    let at = at_index m span t key c.args.place c.index.result.now c.requires.table c.requires.there c.index.ensures in
    let found = found_at m span t key c.args.place c.index.result.now c.requires.table c.requires.there at in
    subst (λ o. IfSome o (λ (x : Machine Ticket). 1 ≤ length (tags_of x.slots))) (sym found) (c.is_empty.ensures.busy no)

use Rattle.std.proofs.Common.{sym, ap, subst, ◌∙◌}
use Rattle.eql_span_list.specs.Chain.{NamesNode, next_set}
use Rattle.eql_span_list.proofs.Apart.{edit_at-read}
use Rattle.eql_span_list.proofs.links.Links.set_next.Goals as goal

pub returns-in-Some-clause-nodes : goal.returns-in-Some-clause-nodes
returns-in-Some-clause-nodes g c =
    let ns = c.args.self.now.store.nodes in let p = c.in-Some.ticket.pointer in
    edit_at-read p (λ n. record n { next = c.args.next }) ns c.get_mut.result.now c.args.self.now.store.apart (subst (NamesNode ns) c.in-Some.is c.requires) c.get_mut.ensures.value ∙ ap (λ m. next_set m c.args.next ns) (sym c.in-Some.is)

pub returns-in-None-clause-nodes : goal.returns-in-None-clause-nodes
returns-in-None-clause-nodes g c = ap (λ m. next_set m c.args.next c.args.self.now.store.nodes) (sym c.in-None.is)

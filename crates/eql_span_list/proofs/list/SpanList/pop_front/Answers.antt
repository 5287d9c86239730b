use Rattle.std.proofs.Common.{◌≡◌, [], ◌∷◌, sym, ◌∙◌, subst, MatchOption}
use Rattle.eql_span_list.specs.Chain.{entries}
use Rattle.eql_span_list.specs.Entries.{PopsFirst}
use Rattle.eql_span_list.proofs.EntryLemmas.{first_entry, no_entry}
use Rattle.eql_span_list.proofs.list.SpanList.pop_front.Goals as goal

pub remove-requires : goal.remove-requires
remove-requires g c =
    let l = c.self.inside.links in let first = first_entry l.store.nodes c.args.self.now l.first l.last c.in_ok-ticket.ticket c.self.view_is c.self.invariant c.in_ok-ticket.was in
    (first.0.node.value, ([], entries first.1, first.4))

pub returns : goal.returns
returns g c =
    let l = c.self.inside.links in let first = first_entry l.store.nodes c.args.self.now l.first l.last c.in_ok-ticket.ticket c.self.view_is c.self.invariant c.in_ok-ticket.was in
    let out = c.remove.ensures.taken [] first.0.node.value (entries first.1) first.4 in
    (c.in_ok-ticket.ticket, first.4 ∙ (λ i. (c.in_ok-ticket.ticket, sym out.1 i) ∷ sym out.0 i))

pub returns-in_err-ticket : goal.returns-in_err-ticket
returns-in_err-ticket g c =
    let l = c.self.inside.links in let old = c.args.self.now in let none = no_entry l.store.nodes old l.first l.last c.self.view_is c.self.invariant c.in_err-ticket.was in
    subst (λ r. MatchOption r ((old ≡ []) × (old ≡ [])) (λ x. PopsFirst old old x)) (sym c.from_residual.ensures) (none, none)

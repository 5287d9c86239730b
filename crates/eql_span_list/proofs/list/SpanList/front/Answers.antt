use Rattle.std.proofs.Common.{◌≡◌, [], ◌∷◌, sym, ap, ◌∙◌, subst, MatchOption}
use Rattle.eql_span_list.specs.Chain.{entries}
use Rattle.eql_span_list.specs.Entries.{HasFirst}
use Rattle.eql_span_list.specs.declared.node.Node.{Node}
use Rattle.eql_span_list.proofs.EntryLemmas.{first_entry, no_entry, distinct_entries}
use Rattle.eql_span_list.proofs.list.SpanList.front.Goals as goal

pub returns-in_err-first-clause-first : goal.returns-in_err-first-clause-first
returns-in_err-first-clause-first g c =
    let l = c.self.inside.links in let now = c.args.self.now in
    subst (λ r. MatchOption r (now ≡ []) (λ x. HasFirst now x.now)) (sym c.from_residual.ensures) (no_entry l.store.nodes now l.first l.last c.self.view_is c.self.invariant c.in_err-first.was)

pub returns-in_err-first-clause-distinct : goal.returns-in_err-first-clause-distinct
returns-in_err-first-clause-distinct g c = distinct_entries c.self.inside.links.store.nodes c.args.self.now c.self.view_is c.self.inside.links.store.apart

pub get-requires : goal.get-requires
get-requires g c =
    let l = c.self.inside.links in let first = first_entry l.store.nodes c.args.self.now l.first l.last c.in_ok-first.first c.self.view_is c.self.invariant c.in_ok-first.was in ([], first.0, first.1, first.2, first.3)

pub returns-clause-first : goal.returns-clause-first
returns-clause-first g c =
    let l = c.self.inside.links in let first = first_entry l.store.nodes c.args.self.now l.first l.last c.in_ok-first.first c.self.view_is c.self.invariant c.in_ok-first.was in
    let shown = c.get.ensures [] first.0 first.1 first.2 first.3 in
    (c.in_ok-first.first, entries first.1, first.4 ∙ ap (λ (n : Node g.row.T.Denot). (c.in_ok-first.first, n.value) ∷ entries first.1) (sym shown))

pub returns-clause-distinct : goal.returns-clause-distinct
returns-clause-distinct g c = distinct_entries c.self.inside.links.store.nodes c.args.self.now c.self.view_is c.self.inside.links.store.apart

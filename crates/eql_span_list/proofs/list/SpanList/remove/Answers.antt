use Rattle.std.proofs.Common.{sym, ap, ◌∙◌, subst}
use Rattle.eql_span_list.specs.Chain.{entries, NamesNode, next_set, previous_set, end_set}
use Rattle.eql_span_list.specs.Entries.{IsAbsent, KeepsOthers}
use Rattle.eql_span_list.proofs.Relinked.{chained_as}
use Rattle.eql_span_list.proofs.EntryLemmas.{named_node, taken_entry, distinct_entries, others_kept}
use Rattle.eql_span_list.proofs.list.SpanList.remove.Goals as goal

pub take-requires : goal.take-requires
take-requires g c = named_node c.self.inside.links.store.nodes c.args.self.now c.args.ticket c.self.view_is c.requires

pub set_next-requires : goal.set_next-requires
set_next-requires g c =
    let l = c.self.inside.links in let q = c.requires in
    (taken_entry l.store.nodes l.first l.last c.take.new.self.nodes c.into_inner-previous.result c.take.result.value q.1.0 c.args.ticket q.0 q.1.1 c.self.invariant l.store.apart c.take.ensures
    (c.into_inner-previous.ensures ∙ c.into_box-block.ensures) (c.self.view_is ∙ q.1.2)).0.previous_named

pub set_previous-requires : goal.set_previous-requires
set_previous-requires g c =
    let l = c.self.inside.links in let q = c.requires in let v = c.into_inner-previous.result in
    subst (λ ns. NamesNode ns v.next) (sym c.set_next.ensures.nodes)
    (taken_entry l.store.nodes l.first l.last c.take.new.self.nodes v c.take.result.value q.1.0 c.args.ticket q.0 q.1.1 c.self.invariant l.store.apart c.take.ensures
    (c.into_inner-previous.ensures ∙ c.into_box-block.ensures) (c.self.view_is ∙ q.1.2)).0.next_named

pub invariant_of-self : goal.invariant_of-self
invariant_of-self g c =
    let l = c.self.inside.links in let q = c.requires in let v = c.into_inner-previous.result in let now = c.set_previous.new.self in
    let nodes = c.set_previous.ensures.nodes ∙ ap (previous_set v.next v.previous) c.set_next.ensures.nodes in
    let first = c.set_previous.ensures.ends.0 ∙ c.set_next.ensures.ends.0 in
    let last = c.set_previous.ensures.ends.1 ∙ ap (end_set v.next v.previous) c.set_next.ensures.ends.1 in
    chained_as (previous_set v.next v.previous (next_set v.previous v.next c.take.new.self.nodes)) now.store.nodes now.first (end_set v.previous v.next l.first) now.last (end_set v.next v.previous l.last) nodes first last
    (taken_entry l.store.nodes l.first l.last c.take.new.self.nodes v c.take.result.value q.1.0 c.args.ticket q.0 q.1.1 c.self.invariant l.store.apart c.take.ensures
    (c.into_inner-previous.ensures ∙ c.into_box-block.ensures) (c.self.view_is ∙ q.1.2)).0.chain

pub returns-clause-taken : goal.returns-clause-taken
returns-clause-taken g c us x vs e =
    let l = c.self.inside.links in let v = c.into_inner-previous.result in
    let out = taken_entry l.store.nodes l.first l.last c.take.new.self.nodes v c.take.result.value us c.args.ticket x vs c.self.invariant l.store.apart c.take.ensures
    (c.into_inner-previous.ensures ∙ c.into_box-block.ensures) (c.self.view_is ∙ e) in
    (ap entries (c.set_previous.ensures.nodes ∙ ap (previous_set v.next v.previous) c.set_next.ensures.nodes) ∙ out.0.seen, out.1)

pub returns-clause-gone : goal.returns-clause-gone
returns-clause-gone g c =
    let l = c.self.inside.links in let q = c.requires in let v = c.into_inner-previous.result in
    let out = taken_entry l.store.nodes l.first l.last c.take.new.self.nodes v c.take.result.value q.1.0 c.args.ticket q.0 q.1.1 c.self.invariant l.store.apart c.take.ensures
    (c.into_inner-previous.ensures ∙ c.into_box-block.ensures) (c.self.view_is ∙ q.1.2) in
    let left = ap entries (c.set_previous.ensures.nodes ∙ ap (previous_set v.next v.previous) c.set_next.ensures.nodes) ∙ out.0.seen in
    subst (λ rest. IsAbsent rest c.args.ticket) (sym left) (distinct_entries l.store.nodes c.args.self.now c.self.view_is l.store.apart c.args.ticket q.1.0 q.0 q.1.1 q.1.2)

pub returns-clause-others : goal.returns-clause-others
returns-clause-others g c =
    let l = c.self.inside.links in let q = c.requires in let v = c.into_inner-previous.result in
    let out = taken_entry l.store.nodes l.first l.last c.take.new.self.nodes v c.take.result.value q.1.0 c.args.ticket q.0 q.1.1 c.self.invariant l.store.apart c.take.ensures
    (c.into_inner-previous.ensures ∙ c.into_box-block.ensures) (c.self.view_is ∙ q.1.2) in
    let left = ap entries (c.set_previous.ensures.nodes ∙ ap (previous_set v.next v.previous) c.set_next.ensures.nodes) ∙ out.0.seen in
    subst (λ rest. KeepsOthers c.args.self.now rest c.args.ticket) (sym left) (others_kept c.args.self.now q.1.0 c.args.ticket q.0 q.1.1 q.1.2)

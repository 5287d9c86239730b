use Rattle.std.proofs.Common.{List, [], ◌∷◌, ◌++◌, refl, ap, ◌∙◌, subst, append-nil}
use Rattle.std.specs.declared.option.Option.TheVariants.{Some}
use Rattle.eql_span_list.specs.declared.node.Ticket.{Ticket}
use Rattle.eql_span_list.specs.PlacedNode.{placed_node, places, IsApart}
use Rattle.eql_span_list.specs.Entries.{IsAbsent}
use Rattle.eql_span_list.specs.Chain.{entries, next_set, end_set}
use Rattle.eql_span_list.proofs.Relinked.{added, chained_as}
use Rattle.eql_span_list.proofs.EntryLemmas.{absent_others}
use Rattle.eql_span_list.proofs.list.SpanList.push_back.Goals as goal

pub set_next-requires : goal.set_next-requires
set_next-requires g c =
    let l = c.self.inside.links in let put = c.put-ticket in
    (added l.store.nodes put.new.self.nodes put.result c.args.value l.first l.last c.from_box.result.value c.self.invariant put.new.self.apart put.ensures (c.from_box.ensures ∙ c.in-Ok.ensures.ok)).last_named

pub invariant_of-self : goal.invariant_of-self
invariant_of-self g c =
    let l = c.self.inside.links in let put = c.put-ticket in let now = c.set_next.new.self in let last = Some put.result in
    chained_as (next_set l.last last put.new.self.nodes) now.store.nodes now.first (end_set l.last last l.first) last last c.set_next.ensures.nodes c.set_next.ensures.ends.0 refl
    (added l.store.nodes put.new.self.nodes put.result c.args.value l.first l.last c.from_box.result.value c.self.invariant put.new.self.apart put.ensures (c.from_box.ensures ∙ c.in-Ok.ensures.ok)).chain

pub returns-in-Ok-clause-items : goal.returns-in-Ok-clause-items
returns-in-Ok-clause-items g c =
    let l = c.self.inside.links in let put = c.put-ticket in
    ap entries c.set_next.ensures.nodes
    ∙ (added l.store.nodes put.new.self.nodes put.result c.args.value l.first l.last c.from_box.result.value c.self.invariant put.new.self.apart put.ensures (c.from_box.ensures ∙ c.in-Ok.ensures.ok)).seen
    ∙ ap (λ (xs : List (Ticket × g.row.T.Denot)). xs ++ (put.result, c.args.value) ∷ []) c.self.view_is

pub returns-in-Ok-clause-fresh : goal.returns-in-Ok-clause-fresh
returns-in-Ok-clause-fresh g c =
    let l = c.self.inside.links in let put = c.put-ticket in
    subst (λ seen. IsAbsent seen put.result) (append-nil (entries l.store.nodes) ∙ c.self.view_is)
    (absent_others l.store.nodes (placed_node put.result.pointer c.from_box.result.value) [] (subst (λ ns. IsApart (places ns)) put.ensures put.new.self.apart))

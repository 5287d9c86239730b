use Rattle.std.proofs.Common.{◌≡◌, ◌++◌, ◌∷◌, [], List, length, refl, sym, ap, ◌∙◌, subst, arith}
use Rattle.std.specs.Prelude.{All, MatchOption}
use Rattle.std.proofs.lemmas.List.{append-nil, length-append}
use Rattle.std.proofs.lemmas.List.Elements.{All-contains, Contains-push}
use Rattle.eql_auto.specs.Machine.{Machine}
use Rattle.eql_span_list.specs.declared.node.Ticket.{Ticket}
use Rattle.eql_span_list.specs.Entries.{HasTicket}
use Rattle.eql_part.specs.Links.{IsOneOf, IsWithout}
use Rattle.eql_part.proofs.Leaving.{without_none, one_named, one_parts, one_without, one_listed}
use Rattle.eql_part.proofs.listing.take_off.Goals as goal

pub loop-ticket-init : goal.loop-ticket-init
loop-ticket-init g c = record {
  machine = refl;
  parts = ([], sym (append-nil c.args.machine.now.gone), without_none c.args.list.now, refl, refl);
  listed = c.requires.listed;
}

pub remove-requires : goal.remove-requires
remove-requires g c =
    let left : c.loop-ticket.machine.gone ≡ c.next_gone.new.self.gone ++ c.in-Some.ticket ∷ [] = ap (λ (m : Machine Ticket). m.gone) (c.in-Some.ensures {u = tt}) in
    All-contains (HasTicket c.loop-ticket.list) (c.next_gone.new.self.gone ++ c.in-Some.ticket ∷ []) c.in-Some.ticket
    (subst (All (HasTicket c.loop-ticket.list)) left c.loop-ticket.invariant.listed) (Contains-push c.next_gone.new.self.gone c.in-Some.ticket)

pub overflow_add-count : goal.overflow_add-count
overflow_add-count g c =
    let left : c.loop-ticket.machine.gone ≡ c.next_gone.new.self.gone ++ c.in-Some.ticket ∷ [] = ap (λ (m : Machine Ticket). m.gone) (c.in-Some.ensures {u = tt}) in
    let some = ap length left ∙ length-append c.next_gone.new.self.gone (c.in-Some.ticket ∷ []) in
    let parts = c.loop-ticket.invariant.parts in
    let all = ap length parts.1 ∙ length-append c.loop-ticket.machine.gone parts.0 in
    let count = parts.3 in
    let few = c.requires.few in
    omega arith

pub loop-ticket-smaller : goal.loop-ticket-smaller
loop-ticket-smaller g c =
    let left : c.loop-ticket.machine.gone ≡ c.next_gone.new.self.gone ++ c.in-Some.ticket ∷ [] = ap (λ (m : Machine Ticket). m.gone) (c.in-Some.ensures {u = tt}) in
    let some = ap length left ∙ length-append c.next_gone.new.self.gone (c.in-Some.ticket ∷ []) in
    omega arith

pub loop-ticket-preserved : goal.loop-ticket-preserved
loop-ticket-preserved g c =
    let left : c.loop-ticket.machine.gone ≡ c.next_gone.new.self.gone ++ c.in-Some.ticket ∷ [] = ap (λ (m : Machine Ticket). m.gone) (c.in-Some.ensures {u = tt}) in
    let rest = c.next_gone.new.self.gone in let t = c.in-Some.ticket in
    let parts = c.loop-ticket.invariant.parts in let done = parts.0 in
    let is : c.args.machine.now.gone ≡ (rest ++ t ∷ []) ++ done = parts.1 ∙ ap (λ (l : List Ticket). l ++ done) left in
    let listed = subst (All (HasTicket c.loop-ticket.list)) left c.loop-ticket.invariant.listed in
    let count = parts.3 in
    record {
      machine = sym (ap (λ (m : Machine Ticket). record m { gone = [] }) (c.in-Some.ensures {u = tt})) ∙ c.loop-ticket.invariant.machine;
      parts = (
        t ∷ done,
        one_parts c.args.list.now c.loop-ticket.list c.remove.new.self c.args.machine.now.gone rest done t c.remove.result c.requires.apart is parts.2 listed c.remove.ensures.taken c.remove.ensures.gone c.remove.ensures.others,
        one_without c.args.list.now c.loop-ticket.list c.remove.new.self c.args.machine.now.gone rest done t c.remove.result c.requires.apart is parts.2 listed c.remove.ensures.taken c.remove.ensures.gone c.remove.ensures.others,
        omega arith,
        one_named c.args.list.now c.loop-ticket.list c.remove.new.self c.args.machine.now.gone rest done t c.remove.result c.requires.apart is parts.2 listed c.remove.ensures.taken c.remove.ensures.gone c.remove.ensures.others,
      );
      listed = one_listed c.args.list.now c.loop-ticket.list c.remove.new.self c.args.machine.now.gone rest done t c.remove.result c.requires.apart is parts.2 listed c.remove.ensures.taken c.remove.ensures.gone c.remove.ensures.others;
    }

pub returns-clause-machine : goal.returns-clause-machine
returns-clause-machine g c =
    let none = c.in_default.ensures {u = tt} in
    none.1 ∙ (λ i. record c.loop-ticket.machine { gone = none.0 i }) ∙ c.loop-ticket.invariant.machine

pub returns-clause-count : goal.returns-clause-count
returns-clause-count g c =
    let none = c.in_default.ensures {u = tt} in let parts = c.loop-ticket.invariant.parts in
    parts.3 ∙ sym (ap length (parts.1 ∙ ap (λ (l : List Ticket). l ++ parts.0) none.0))

pub returns-clause-last : goal.returns-clause-last
returns-clause-last g c =
    let none = c.in_default.ensures {u = tt} in let parts = c.loop-ticket.invariant.parts in
    subst (λ (l : List Ticket). MatchOption c.loop-ticket.last (l ≡ []) (λ start. IsOneOf l c.args.list.now start)) (sym (parts.1 ∙ ap (λ (l : List Ticket). l ++ parts.0) none.0)) parts.4

pub returns-clause-list : goal.returns-clause-list
returns-clause-list g c =
    let none = c.in_default.ensures {u = tt} in let parts = c.loop-ticket.invariant.parts in
    subst (λ (l : List Ticket). IsWithout c.args.list.now l c.loop-ticket.list) (sym (parts.1 ∙ ap (λ (l : List Ticket). l ++ parts.0) none.0)) parts.2

use Rattle.std.proofs.Common.{◌≡◌, List, length, sym, ap, subst, arith}
use Rattle.std.specs.Prelude.{All, MatchOption}
use Rattle.eql_auto.specs.Machine.{Machine, tags_of}
use Rattle.eql_span_list.specs.declared.node.Ticket.{Ticket}
use Rattle.eql_span_list.specs.Entries.{HasTicket}
use Rattle.eql_part.specs.Links.{Differ, IsOneOf}
use Rattle.eql_part.proofs.Tagging.{tags_few, gone_all, gone_differ, gone_count}
use Rattle.eql_part.proofs.Leaving.{one_before}
use Rattle.eql_part.proofs.machine.KeyMachine.expire.Goals as goal

pub take_off-taken-requires-clause-listed : goal.take_off-taken-requires-clause-listed
take_off-taken-requires-clause-listed g c =
    gone_all c.expire.new.self.gone (tags_of c.expire.new.self.slots) (tags_of c.self.inside.auto.slots) c.expire.ensures.gone (HasTicket c.args.list.now)
    (subst (λ (m : Machine Ticket). All (HasTicket c.args.list.now) (tags_of m.slots)) (sym c.self.view_is) c.requires.listed)

pub take_off-taken-requires-clause-apart : goal.take_off-taken-requires-clause-apart
take_off-taken-requires-clause-apart g c =
    gone_differ c.expire.new.self.gone (tags_of c.expire.new.self.slots) (tags_of c.self.inside.auto.slots) c.expire.ensures.gone
    (subst (λ (m : Machine Ticket). Differ (tags_of m.slots)) (sym c.self.view_is) c.requires.apart)

pub take_off-taken-requires-clause-few : goal.take_off-taken-requires-clause-few
take_off-taken-requires-clause-few g c =
    let count = gone_count c.expire.new.self.gone (tags_of c.expire.new.self.slots) (tags_of c.self.inside.auto.slots) c.expire.ensures.gone in
    let seen = ap (λ (m : Machine Ticket). length m.slots) c.self.view_is in
    let few = tags_few c.self.inside.auto.slots in
    let few_stages = c.requires.few in
    omega arith

pub overflow_sub-self : goal.overflow_sub-self
overflow_sub-self g c =
    let count = gone_count c.expire.new.self.gone (tags_of c.expire.new.self.slots) (tags_of c.self.inside.auto.slots) c.expire.ensures.gone in
    let taken = c.take_off-taken.ensures.count in
    let pending = c.self.invariant in
    omega arith

pub invariant_of-self : goal.invariant_of-self
invariant_of-self g c =
    let count = gone_count c.expire.new.self.gone (tags_of c.expire.new.self.slots) (tags_of c.self.inside.auto.slots) c.expire.ensures.gone in
    let taken = c.take_off-taken.ensures.count in
    let pending = c.self.invariant in
    let same = ap (λ (m : Machine Ticket). length (tags_of m.slots)) c.take_off-taken.ensures.machine in
    omega arith

pub returns-clause-answer : goal.returns-clause-answer
returns-clause-answer g c =
    let same = ap (λ (m : Machine Ticket). tags_of m.slots) c.take_off-taken.ensures.machine in
    subst (λ (l : List Ticket). MatchOption c.take_off-taken.result.last (length l ≡ length (tags_of c.args.self.now.slots)) (λ start. IsOneOf (tags_of c.args.self.now.slots) c.args.list.now start)) (sym same)
    (subst (λ (m : Machine Ticket). MatchOption c.take_off-taken.result.last (length (tags_of c.expire.new.self.slots) ≡ length (tags_of m.slots)) (λ start. IsOneOf (tags_of m.slots) c.args.list.now start)) c.self.view_is
    (one_before c.expire.new.self.gone (tags_of c.expire.new.self.slots) (tags_of c.self.inside.auto.slots) c.args.list.now c.take_off-taken.result.last c.expire.ensures.gone c.take_off-taken.ensures.last))

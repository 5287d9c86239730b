use Rattle.std.proofs.Common.{◌≡◌, ◌++◌, [], List, length}
use Rattle.std.specs.Prelude.{All, MatchOption}
use Rattle.eql_auto.specs.Machine.{Machine}
use Rattle.eql_span_list.specs.declared.node.Ticket.{Ticket}
use Rattle.eql_span_list.specs.Entries.{HasTicket}
use Rattle.eql_part.specs.Links.{IsOneOf, IsWithout}
use Rattle.eql_part.proofs.listing.take_off.Given as goal

abbrev pub invariant-loop-ticket : goal.invariant-loop-ticket
invariant-loop-ticket g l = record {
  machine : ◌≡◌ {A = Machine Ticket} (record l.machine { gone = [] }) (record l.fn.machine { gone = [] });
  parts : (done : List Ticket) × (l.fn.machine.gone ≡ l.machine.gone ++ done) × IsWithout l.fn.list done l.list × (l.count ≡ length done) × MatchOption l.last (done ≡ []) (λ start. IsOneOf done l.fn.list start);
  listed : All (HasTicket l.list) l.machine.gone;
}

abbrev pub decreases-loop-ticket : goal.decreases-loop-ticket
decreases-loop-ticket g l = length l.machine.gone

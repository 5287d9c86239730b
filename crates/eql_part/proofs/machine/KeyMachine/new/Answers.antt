use Rattle.std.proofs.Common.{◌-◌, length, sym, ap, ◌∙◌}
use Rattle.eql_auto.specs.Machine.{Machine, tags_of}
use Rattle.eql_span_list.specs.declared.node.Ticket.{Ticket}
use Rattle.eql_part.proofs.Tagging.{no_tags}
use Rattle.eql_part.proofs.machine.KeyMachine.new.Goals as goal

pub invariant_of-result : goal.invariant_of-result
invariant_of-result g c = sym (ap length (ap (λ (a : Machine Ticket). tags_of a.slots) c.in_ok-auto.ensures ∙ no_tags (c.args.m - 1)))

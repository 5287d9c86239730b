use Rattle.std.proofs.Common.{rules}
use Rattle.eql_find.proofs.NamesLemmas.{names_up}
use Rattle.eql_find.proofs.plan.head_of.Goals as goal

pub returns-in_err-query-clause-names : goal.returns-in_err-query-clause-names
returns-in_err-query-clause-names c = names_up c.args.planned.now.mapping c.names-names.ensures.order

pub returns-in_err-mapping-clause-names : goal.returns-in_err-mapping-clause-names
returns-in_err-mapping-clause-names c = names_up c.args.planned.now.mapping c.names-names.ensures.order

pub returns-in_err-tie-clause-names : goal.returns-in_err-tie-clause-names
returns-in_err-tie-clause-names c = names_up c.args.planned.now.mapping c.names-names.ensures.order

pub returns-clause-names : goal.returns-clause-names
returns-clause-names c = names_up c.args.planned.now.mapping c.names-names.ensures.order

pub returns-clause-head : goal.returns-clause-head
returns-clause-head c = search rules

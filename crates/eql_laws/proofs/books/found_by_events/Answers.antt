use Rattle.eql_laws.proofs.KeptBooks as laws
use Rattle.eql_laws.proofs.books.found_by_events.Goals as goal

pub returns-clause-routes : goal.returns-clause-routes
returns-clause-routes c = laws.found_by_routes

pub returns-clause-events : goal.returns-clause-events
returns-clause-events c = laws.found_by_events

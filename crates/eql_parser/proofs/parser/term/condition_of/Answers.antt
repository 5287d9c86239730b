use Rattle.eql_parser.proofs.parser.term.condition_of.Goals as goal

pub returns-in-Ok : goal.returns-in-Ok
returns-in-Ok c = c.in-Ok.ensures.answers

pub returns-in-Err : goal.returns-in-Err
returns-in-Err c = c.in-Err.ensures.answers

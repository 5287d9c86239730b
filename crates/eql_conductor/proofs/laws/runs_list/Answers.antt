use Rattle.eql_book.proofs.Wholes.{book_is_kept, end_is_whole}
use Rattle.eql_conductor.proofs.Listed as laws
use Rattle.eql_conductor.proofs.laws.runs_list.Goals as goal

pub returns-clause-whole : goal.returns-clause-whole
returns-clause-whole c = laws.runs_write_lines book_is_kept end_is_whole

pub returns-clause-stopped : goal.returns-clause-stopped
returns-clause-stopped c = laws.runs_stop_in_lines book_is_kept end_is_whole

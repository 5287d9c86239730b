use Rattle.std.specs.Prelude.{None}
use Rattle.eql_hands_tests.proofs.beside.search_two.Given as goal

abbrev pub ghost-search : goal.ghost-search
ghost-search g a = None

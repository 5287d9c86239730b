use Rattle.std.proofs.Common.{rules}
use Rattle.eql_words.proofs.options.form_of.Goals as goal

pub returns-then-eq : goal.returns-then-eq
returns-then-eq c = search rules

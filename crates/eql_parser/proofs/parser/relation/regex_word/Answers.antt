use Rattle.std.proofs.Common.{refl}
use Rattle.std.specs.Str.{chars}
use Rattle.eql_parser.proofs.parser.relation.regex_word.Goals as goal

pub returns-then-fold : goal.returns-then-fold
unfolding chars
returns-then-fold c = rw c.if-fold.true refl

pub returns-else-fold : goal.returns-else-fold
unfolding chars
returns-else-fold c = rw c.if-fold.false refl

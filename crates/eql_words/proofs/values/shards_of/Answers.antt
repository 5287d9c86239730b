use Rattle.std.proofs.Common.{arith}
use Rattle.eql_words.proofs.Shards.{shards_good, none_there, too_many, no_name}
use Rattle.eql_words.proofs.values.shards_of.Goals as goal
use Rattle.eql_words.proofs.values.shards_of.Goals.{else-plain-ge1-via-then-plain-ge1+then-plain-le256+else-are_names, else-plain-ge1-via-then-plain-ge1+else-plain-le256, else-plain-ge1-via-else-plain-ge1}

pub returns-then-are_names : goal.returns-then-are_names
returns-then-are_names c = shards_good c.args.plain.now (omega arith) (omega arith) c.if-are_names.ensures

pub returns-else-plain-ge1 : goal.returns-else-plain-ge1
returns-else-plain-ge1 c = elim c.else-plain-ge1.branch [
  | else-plain-ge1-via-then-plain-ge1+then-plain-le256+else-are_names w ↦ no_name c.args.plain.now w.if-are_names.ensures
  | else-plain-ge1-via-then-plain-ge1+else-plain-le256 w ↦ too_many c.args.plain.now (omega arith)
  | else-plain-ge1-via-else-plain-ge1 w ↦ none_there c.args.plain.now (omega arith)
]

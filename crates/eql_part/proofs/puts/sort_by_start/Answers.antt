use Rattle.std.proofs.Common.{rules}
use Rattle.std.proofs.lemmas.List.Sorted.{answers_always}
use Rattle.eql_values.specs.declared.found.Holder.{Holder}
use Rattle.eql_part.specs.Links.{first_time}
use Rattle.eql_part.proofs.puts.sort_by_start.Goals as goal

pub returns-clause-sorted : goal.returns-clause-sorted
returns-clause-sorted c = c.in_ok-sort_by_key.ensures.sorted (λ (h : Holder). first_time h.chain) (answers_always _ _ _ (λ f a r g h. search rules))

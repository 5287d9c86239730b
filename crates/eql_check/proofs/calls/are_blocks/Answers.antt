use Rattle.std.proofs.Common.{inl, inr, map, ap, sym, ◌∙◌}
use Rattle.std.specs.Iterator.Adapters.{zip_first, zip_second}
use Rattle.std.specs.Slice.Iter.{iter_rest}
use Rattle.std.proofs.lemmas.Slice.Zip.{either_empty_from_Zip}
use Rattle.eql_query.specs.View.{tree, trees_of}
use Rattle.eql_check.specs.Calls.{are_blocks}
use Rattle.eql_check.proofs.Settling.{blocks_none}
use Rattle.eql_check.proofs.calls.are_blocks.Goals as goal

pub returns : goal.returns
returns c =
    let args = iter_rest (zip_first c.loop-arg.arg-iterator) in
    let kinds = iter_rest (zip_second c.loop-arg.arg-iterator) in
    elim (either_empty_from_Zip c.loop-arg.arg-iterator c.next.new.self _ c.in-None.is c.next.ensures.steps) [
      | inl e ↦ ap (λ xs. are_blocks (trees_of (map tree xs)) kinds) (sym e) ∙ c.loop-arg.invariant
      | inr e ↦ sym (blocks_none (trees_of (map tree args))) ∙ ap (λ xs. are_blocks (trees_of (map tree args)) xs) (sym e) ∙ c.loop-arg.invariant
    ]

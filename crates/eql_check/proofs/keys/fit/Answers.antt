use Rattle.std.proofs.Common.{inl, inr, ap, sym, ◌∙◌}
use Rattle.std.specs.Iterator.Adapters.{zip_first, zip_second}
use Rattle.std.specs.Slice.Iter.{iter_rest}
use Rattle.std.proofs.lemmas.Slice.Zip.{either_empty_from_Zip}
use Rattle.eql_check.specs.Kinds.{kind_at}
use Rattle.eql_check.specs.Rules.{fit, key_kinds}
use Rattle.eql_check.proofs.Settling.{fit_none}
use Rattle.eql_check.proofs.keys.fit.Goals as goal

pub returns : goal.returns
returns c =
    let kinds = key_kinds (kind_at c.args.mapping.now) in
    let settled = iter_rest (zip_first c.loop-settled.settled-iterator) in
    let keys = iter_rest (zip_second c.loop-settled.settled-iterator) in
    elim (either_empty_from_Zip c.loop-settled.settled-iterator c.next.new.self _ c.in-None.is c.next.ensures.steps) [
      | inl e ↦ ap (λ xs. fit xs (kinds keys)) (sym e) ∙ c.loop-settled.invariant
      | inr e ↦ sym (fit_none settled) ∙ ap (λ xs. fit settled (kinds xs)) (sym e) ∙ c.loop-settled.invariant
    ]

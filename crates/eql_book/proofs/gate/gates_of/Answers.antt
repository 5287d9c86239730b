use Rattle.std.proofs.Common.{length, sym, ◌∙◌}
use Rattle.std.specs.Vec.Iter.{into_iter_items}
use Rattle.std.proofs.lemmas.List.{nil_from_length}
use Rattle.eql_book.proofs.GateLemmas.{all_taken}
use Rattle.eql_book.proofs.gate.gates_of.Goals as goal

pub returns-clause-pipes : goal.returns-clause-pipes
returns-clause-pipes c =
    let none = (c.in-None.ensures {u = tt}).steps.0 in
    let many = c.loop-state.invariant.many in
    c.loop-state.invariant.pipes
    ∙ all_taken (length c.loop-state.gates.items) c.args.pipes.now.items (into_iter_items c.loop-state.state-iterator)
    (nil_from_length (into_iter_items c.loop-state.state-iterator) (sym many ∙ none)) c.loop-state.invariant.fits

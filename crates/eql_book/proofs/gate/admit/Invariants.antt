use Rattle.std.proofs.Common.{◌≡◌, ◌∷◌, [], ◌++◌, take, drop}
use Rattle.eql_laws.specs.Resuming.{states_from, emitted_from}
use Rattle.eql_book.specs.Gates.{pipes_of, seen_of}
use Rattle.eql_book.proofs.gate.admit.Given as goal

abbrev pub invariant-loop-gate : goal.invariant-loop-gate
invariant-loop-gate l = record {
  pipes : pipes_of l.gates ≡ pipes_of l.fn.gates;
  states : states_from (pipes_of l.fn.gates) (seen_of l.fn.gates) (l.fn.found ∷ [])
      ≡ seen_of (take l.gate-index l.gates) ++ states_from (pipes_of (drop l.gate-index l.gates)) (seen_of (drop l.gate-index l.gates)) (l.passing ∷ []);
  out : emitted_from (pipes_of l.fn.gates) (seen_of l.fn.gates) (l.fn.found ∷ [])
      ≡ emitted_from (pipes_of (drop l.gate-index l.gates)) (seen_of (drop l.gate-index l.gates)) (l.passing ∷ []);
}

use Rattle.std.proofs.Common.{◌≡◌, ℕ, ◌-◌, take, drop, ap, ◌∙◌, arith}
use Rattle.std.specs.Prelude.{min}
use Rattle.eql_values.specs.Numbering.{through}
use Rattle.eql_book.specs.declared.gate.Gate.{Gate}
use Rattle.eql_book.specs.Gates.{pipe_of}
use Rattle.eql_book.proofs.RangeLemmas.{tail_narrows}
use Rattle.eql_book.proofs.rest.narrowed.Goals as goal

pub returns-in-Tail-clause-keeps : goal.returns-in-Tail-clause-keeps
returns-in-Tail-clause-keeps c =
    let from = c.args.range.0 in
    let to = c.args.range.1 in
    let least : min (c.args.range.1 - c.args.range.0) c.in-Tail.tail.count ≡ c.min-in-Tail.result = omega (arith, c.min-in-Tail.ensures) in
    λ list within.
    ap (λ (x : Gate). through (pipe_of x) (take (to - from) (drop from list))) c.in-Tail.is
    ∙ tail_narrows c.in-Tail.tail.count from to c.requires list within
    ∙ ap (λ (m : ℕ). take (to - (to - m)) (drop (to - m) list)) least

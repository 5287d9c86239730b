use Rattle.std.proofs.Common.{◌+◌, ◌<◌, length, drop, set, sym, ap, ◌∙◌, arith}
use Rattle.std.specs.Prelude.{option_to_list}
use Rattle.std.proofs.lemmas.List.{drop_more}
use Rattle.eql_book.specs.Gates.{pipes_of, seen_of}
use Rattle.eql_book.proofs.GateLemmas.{saw_more, saw_last, out_more, pipes_stay, none_out}
use Rattle.eql_book.proofs.gate.admit.Goals as goal

pub loop-gate-preserved : goal.loop-gate-preserved
loop-gate-preserved c =
    let i = c.loop-gate.gate-index in
    let now = c.loop-gate.gates in
    let lt : c.loop-gate.gate-index < length c.loop-gate.gates = omega (arith, c.loop-gate-test.true, c.loop-gate.auto.gates) in
    let passed = c.in_ok-through.ensures {u = tt} in
    let out = ap option_to_list (sym c.in-Some.is) ∙ passed.through in
    record {
      pipes = pipes_stay i now _ c.pass.new.self lt (drop_more now i _ lt) passed.pipe ∙ c.loop-gate.invariant.pipes;
      states = saw_more i now _ c.pass.new.self _ _ _ lt (drop_more now i _ lt) passed.seen out c.loop-gate.invariant.states;
      out = out_more i now _ c.pass.new.self _ _ _ (drop_more now i _ lt) out c.loop-gate.invariant.out;
    }

pub returns-in_err-through-clause-pipes : goal.returns-in_err-through-clause-pipes
returns-in_err-through-clause-pipes c =
    let i = c.loop-gate.gate-index in
    let now = c.loop-gate.gates in
    let lt : c.loop-gate.gate-index < length c.loop-gate.gates = omega (arith, c.loop-gate-test.true, c.loop-gate.auto.gates) in
    pipes_stay i now _ c.pass.new.self lt (drop_more now i _ lt) c.pass.ensures.pipe ∙ c.loop-gate.invariant.pipes

pub returns-in-None-clause-pipes : goal.returns-in-None-clause-pipes
returns-in-None-clause-pipes c =
    let i = c.loop-gate.gate-index in
    let now = c.loop-gate.gates in
    let lt : c.loop-gate.gate-index < length c.loop-gate.gates = omega (arith, c.loop-gate-test.true, c.loop-gate.auto.gates) in
    pipes_stay i now _ c.pass.new.self lt (drop_more now i _ lt) c.pass.ensures.pipe ∙ c.loop-gate.invariant.pipes

pub returns-in-None-clause-saw : goal.returns-in-None-clause-saw
returns-in-None-clause-saw c =
    let i = c.loop-gate.gate-index in
    let now = c.loop-gate.gates in
    let lt : c.loop-gate.gate-index < length c.loop-gate.gates = omega (arith, c.loop-gate-test.true, c.loop-gate.auto.gates) in
    let passed = c.in_ok-through.ensures {u = tt} in
    let out = ap option_to_list (sym c.in-None.is) ∙ passed.through in
    record {
      pipes = pipes_stay i now _ c.pass.new.self lt (drop_more now i _ lt) passed.pipe ∙ c.loop-gate.invariant.pipes;
      states = sym (saw_last (i + 1) (set now i c.pass.new.self) _
          (saw_more i now _ c.pass.new.self _ _ _ lt (drop_more now i _ lt) passed.seen out c.loop-gate.invariant.states));
    }

pub returns-in-None-clause-through : goal.returns-in-None-clause-through
returns-in-None-clause-through c =
    let i = c.loop-gate.gate-index in
    let now = c.loop-gate.gates in
    let lt : c.loop-gate.gate-index < length c.loop-gate.gates = omega (arith, c.loop-gate-test.true, c.loop-gate.auto.gates) in
    let passed = c.in_ok-through.ensures {u = tt} in
    let out = ap option_to_list (sym c.in-None.is) ∙ passed.through in
    sym (out_more i now _ c.pass.new.self _ _ _ (drop_more now i _ lt) out c.loop-gate.invariant.out ∙ none_out (pipes_of (drop (i + 1) (set now i c.pass.new.self))) (seen_of (drop (i + 1) (set now i c.pass.new.self))))

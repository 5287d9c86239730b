use Rattle.std.proofs.lemmas.Grind.{common_steps}
use Rattle.std.proofs.Common.{◌≡◌, get_or, sym, ◌∙◌, arith}
use Rattle.std.proofs.lemmas.List.{get_or_read}
use Rattle.eql_code.specs.declared.emit.Op.TheVariants as op
use Rattle.eql_code.proofs.Operands.{can_call_top}
use Rattle.eql_code.proofs.machine.step.Goals as goal

pub call_top-requires-clause-enough : goal.call_top-requires-clause-enough
call_top-requires-clause-enough c =
    let is : get_or c.args.frame.now.ops.now c.args.at op.Not ≡ op.Call c.in-Call.function c.in-Call.fold c.in-Call.count =
    sym (get_or_read c.args.frame.now.ops.now c.args.at c.index-frame-at.result c.requires.at_in c.index-frame-at.is op.Not) ∙ c.index-frame-at.is ∙ c.in-Call.is in
    let can = can_call_top c.args.frame.now.slots.now c.args.frame.now.ops.now c.args.cells.now.items _ c.in-Call.function c.in-Call.fold c.in-Call.count (c.requires.can).0 is (c.requires.can).1 in
    omega (arith, can.0)

pub returns-in-Slot-clause-did : goal.returns-in-Slot-clause-did
returns-in-Slot-clause-did c = grind (arith, common_steps)

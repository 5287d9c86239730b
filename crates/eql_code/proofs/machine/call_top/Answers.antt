use Rattle.std.proofs.Common.{◌≡◌, ◌≤◌, ◌-◌, ◌∷◌, [], ◌++◌, length, take, drop, map, ap, ◌∙◌, arith}
use Rattle.std.proofs.lemmas.List.{take_rest}
use Rattle.eql_check.specs.Functions.{call_value}
use Rattle.eql_code.specs.declared.cells.Cell.TheVariants as cell
use Rattle.eql_code.specs.Stack.{cell_value}
use Rattle.eql_code.proofs.Operands.{answered}
use Rattle.eql_code.proofs.machine.call_top.Goals as goal

pub returns-clause-did : goal.returns-clause-did
returns-clause-did c =
    let enough : c.args.count ≤ length c.args.cells.now.items = omega (arith, c.requires.enough) in
    let at : c.len.result ≡ length c.args.cells.now.items = omega (arith, c.len.ensures) in
    answered (cell_value c.args.frame.now.ops.now c.args.frame.now.slots.now) c.args.cells.now.items c.put_cell.new.cells.items c.args.count (call_value c.args.function c.args.fold)
    (cell.Made c.in_ok-value.value) enough
    (c.put_cell.ensures.items ∙ ap (λ cells. cells ++ cell.Made c.in_ok-value.value ∷ []) (c.truncate.ensures.items ∙ ap (λ n. take (n - c.args.count) c.args.cells.now.items) at))
    (c.in_ok-value.ensures.value
    ∙ ap (λ cells. call_value c.args.function c.args.fold (map (cell_value c.args.frame.now.ops.now c.args.frame.now.slots.now) cells))
    (take_rest c.deref.result.now (c.len.result - c.args.count) ∙ ap (drop (c.len.result - c.args.count)) c.deref.ensures.value
    ∙ ap (λ n. drop (n - c.args.count) c.args.cells.now.items) at))

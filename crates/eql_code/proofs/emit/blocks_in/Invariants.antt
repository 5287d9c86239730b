use Rattle.std.proofs.Common.{◌≡◌, map, drop}
use Rattle.eql_query.specs.View.{tree, trees_of}
use Rattle.eql_code.specs.Code.{blocks_in}
use Rattle.eql_code.proofs.Prepared.{blocks_before}
use Rattle.eql_code.proofs.emit.blocks_in.Given as goal

abbrev pub invariant-loop-expr : goal.invariant-loop-expr
invariant-loop-expr l =
    blocks_before l.items.items (blocks_in (trees_of (map tree (drop l.expr-index l.exprs)))) ≡ blocks_in (trees_of (map tree l.exprs))

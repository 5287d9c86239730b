use Rattle.std.proofs.Common.{sym, ◌∙◌}
use Rattle.eql_lexer.proofs.Steps.{gathers_doubled, name_utf8}
use Rattle.eql_lexer.proofs.quoted.name_content.Goals as goal

pub loop-b-preserved : goal.loop-b-preserved
loop-b-preserved c =
    rw (c.in_ok-push-2.ensures.items, c.skip-rest.ensures)
    (gathers_doubled _ _ _ _ _ c.loop-b.invariant c.in-Some.ensures c.if-b-ne96.false (sym c.begins_with.ensures ∙ c.if-begins_with.true))

pub returns-else-begins_with-clause-utf8 : goal.returns-else-begins_with-clause-utf8
returns-else-begins_with-clause-utf8 c = name_utf8 _ _ _ _ _ c.loop-b.invariant c.in-Some.ensures c.if-b-ne96.false

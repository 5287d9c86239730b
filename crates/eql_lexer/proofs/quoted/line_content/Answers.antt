use Rattle.std.proofs.Common.{◌++◌, ap, subst, sym, ◌∙◌}
use Rattle.eql_lexer.proofs.Steps.{Completes, completes_plain, completes_escape, bad_escape_at, bad_refused, closed_at, closed_utf8}
use Rattle.eql_lexer.proofs.quoted.line_content.Goals as goal

pub returns-then-b-eq34-clause-found : goal.returns-then-b-eq34-clause-found
returns-then-b-eq34-clause-found c = closed_at _ _ _ c.in-Some.more.now _ c.loop-b.invariant c.in-Some.ensures c.if-b-eq34.true

pub returns-then-b-eq34-clause-utf8 : goal.returns-then-b-eq34-clause-utf8
returns-then-b-eq34-clause-utf8 c = closed_utf8 _ _ _ _ _ c.loop-b.invariant c.in-Some.ensures c.if-b-eq34.true

pub returns-in_default-leading_escape-clause-refused : goal.returns-in_default-leading_escape-clause-refused
returns-in_default-leading_escape-clause-refused c =
    bad_refused _ _ _ _ _ c.loop-b.invariant (bad_escape_at _ _ _ c.in-Some.ensures c.if-b-eq92.true c.in_default-leading_escape.ensures) c.bad_escape.ensures

pub loop-b-preserved-then-b-eq92 : goal.loop-b-preserved-then-b-eq92
loop-b-preserved-then-b-eq92 c =
    subst (λ l. Completes c.args.bytes.now l c.in-Some-leading_escape.behind.now)
    (sym (c.in_ok-extend_from_slice.ensures.items ∙ ap (λ l. c.loop-b.out.items ++ l) (c.as_bytes.ensures.value ∙ c.encode_utf8.ensures.value)))
    (completes_escape _ _ _ _ _ _ _ c.loop-b.invariant c.in-Some.ensures c.if-b-eq92.true c.in-Some-leading_escape.ensures)

pub loop-b-preserved : goal.loop-b-preserved
loop-b-preserved c =
    rw c.in_ok-push.ensures.items
    (completes_plain _ _ _ _ _ c.loop-b.invariant c.in-Some.ensures (c.if-b-eq34.false, c.if-b-eq92.false, c.if-b-eq10.false))

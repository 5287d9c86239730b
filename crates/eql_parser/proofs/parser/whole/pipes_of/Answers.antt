use Rattle.std.proofs.Common.{◌-◌, ◌+◌, length, arith}
use Rattle.eql_parser.specs.Kinds.{kinds}
use Rattle.eql_parser.proofs.Defaults.{length_kinds}
use Rattle.eql_parser.proofs.Queries.{none_left, some_left, pipes_begin, pipes_refused, pipes_end, pipes_stop, pipes_goes, pipes_too_many}
use Rattle.eql_parser.proofs.parser.whole.pipes_of.Goals as goal

pub loop-init : goal.loop-init
loop-init c = pipes_begin _ _ _ (kinds c.args.tokens.now) c.new-items.ensures.items (omega (arith, length_kinds c.args.tokens.now))

pub returns-then-is_empty : goal.returns-then-is_empty
returns-then-is_empty c = pipes_end _ c.loop.items.items c.loop.rest.now _ c.loop.invariant (none_left _ _ c.is_empty.ensures c.if-is_empty.true)

pub returns-in_default : goal.returns-in_default
returns-in_default c =
    let some = some_left (length c.loop.rest.now) _ c.is_empty.ensures c.if-is_empty.false in
    pipes_refused _ c.loop.items.items c.loop.rest.now _ c.loop.invariant c.in_default.ensures (omega (arith, some))

pub returns-in-Err : goal.returns-in-Err
returns-in-Err c = pipes_stop (length c.args.tokens.now - c.loop.counter) (length c.args.tokens.now - (c.loop.counter + 1)) c.loop.items.items (kinds c.loop.rest.now) _ _ _ (omega arith) c.loop.invariant c.in-Some.ensures c.in-Err.ensures

pub loop-preserved : goal.loop-preserved
loop-preserved c =
    pipes_goes (length c.args.tokens.now - c.loop.counter) (length c.args.tokens.now - (c.loop.counter + 1)) c.loop.items.items _ c.in-Ok.found.0 (kinds c.loop.rest.now) (kinds c.in-Some.more.now) (kinds c.in-Ok.found.1.now) _ (omega arith) c.loop.invariant c.in-Some.ensures c.in-Ok.ensures
    c.in_ok-push.ensures.items

pub returns-then-is_empty-2 : goal.returns-then-is_empty-2
returns-then-is_empty-2 c = pipes_end _ c.loop.items.items c.loop.rest.now _ c.loop.invariant (none_left _ _ c.is_empty-2.ensures c.if-is_empty-2.true)

pub returns : goal.returns
returns c = pipes_too_many _ c.loop.items.items c.loop.rest.now _ (omega arith) c.loop.invariant (some_left _ _ c.is_empty-2.ensures c.if-is_empty-2.false)

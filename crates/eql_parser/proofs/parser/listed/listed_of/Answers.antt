use Rattle.std.proofs.Common.{◌-◌, ◌+◌, length, refl, arith}
use Rattle.eql_parser.specs.Kinds.{kinds, comma_}
use Rattle.eql_parser.specs.Reading.{is_comma}
use Rattle.eql_parser.proofs.Defaults.{length_kinds}
use Rattle.eql_parser.proofs.Lacking.{lacks_comma}
use Rattle.eql_parser.proofs.Separated.{begins, goes_on, ends_there, stops_there, runs_out}
use Rattle.eql_parser.proofs.parser.listed.listed_of.Goals as goal

pub loop-preserved : goal.loop-preserved
loop-preserved g c =
    goes_on is_comma g.T.Listed.reads (length c.args.tokens.now - c.loop.counter) (length c.args.tokens.now - (c.loop.counter + 1)) c.loop.items.items _ c.in-Ok.found.0 comma_ (kinds c.loop.rest.now)
    (kinds c.in-Ok.found.1.now) _ _ (omega arith) c.loop.invariant c.in-Ok.ensures c.in-Some.ensures refl c.in_ok-push.ensures.items

pub returns-in-None : goal.returns-in-None
returns-in-None g c =
    ends_there is_comma g.T.Listed.reads (length c.args.tokens.now - c.loop.counter) (length c.args.tokens.now - (c.loop.counter + 1)) c.loop.items.items _ c.in-Ok.found.0 (kinds c.loop.rest.now)
    (kinds c.in-Ok.found.1.now) _ (omega arith) c.loop.invariant c.in-Ok.ensures (lacks_comma _ c.in-None.ensures) c.in_ok-push.ensures.items

pub returns-in-Err : goal.returns-in-Err
returns-in-Err g c =
    stops_there is_comma g.T.Listed.reads (length c.args.tokens.now - c.loop.counter) (length c.args.tokens.now - (c.loop.counter + 1)) c.loop.items.items (kinds c.loop.rest.now) _ _ (omega arith)
    c.loop.invariant c.in-Err.ensures

pub returns : goal.returns
returns g c = runs_out is_comma g.T.Listed.reads _ _ c.loop.items.items (kinds c.loop.rest.now) _ (omega arith) c.loop.invariant (length_kinds c.loop.rest.now)

pub loop-init : goal.loop-init
loop-init g c = begins is_comma g.T.Listed.reads _ _ _ _ _ c.new-items.ensures.items (omega (arith, length_kinds c.args.tokens.now)) refl

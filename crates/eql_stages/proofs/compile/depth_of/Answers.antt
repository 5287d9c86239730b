use Rattle.std.proofs.Common.{◌≤◌, arith}
use Rattle.eql_check.specs.Conditions.{as_list}
use Rattle.eql_stages.proofs.Made.{deeper, one_deeper}
use Rattle.eql_stages.proofs.compile.depth_of.Goals as goal

pub loop-matcher-preserved : goal.loop-matcher-preserved
loop-matcher-preserved c =
    let less : c.loop-matcher.depth ≤ c.max-depth.result = omega arith in
    let within : c.matcher-item.result.code.1 ≤ c.max-depth.result = omega arith in
    record {
      items = one_deeper c.args.items.now c.loop-matcher.matcher-index c.matcher-item.result c.loop-matcher.depth c.max-depth.result
          (omega arith) c.matcher-item.is less within c.loop-matcher.invariant.items;
      until = deeper c.loop-matcher.depth c.max-depth.result (as_list c.args.until.now) less c.loop-matcher.invariant.until;
    }

use Rattle.std.proofs.Common.{◌≡◌, arith}
use Rattle.std.specs.declared.cmp.Ordering.TheVariants.{Equal}
use Rattle.eql_values.specs.Orders.{key_cmp}
use Rattle.eql_stages.specs.Keys.{values_of}
use Rattle.eql_stages.proofs.Comparing.{found_here}
use Rattle.eql_stages.proofs.routes.find_route.Goals as goal

pub returns-in-Equal-clause-at : goal.returns-in-Equal-clause-at
returns-in-Equal-clause-at c =
    let tied : key_cmp (values_of c.args.slots.now c.args.fields.now) c.index-routes-place.result.key ≡ Equal = cc in
    found_here (values_of c.args.slots.now c.args.fields.now) c.args.routes.now c.loop-place.place c.index-routes-place.result (omega arith)
    c.index-routes-place.is tied c.loop-place.invariant

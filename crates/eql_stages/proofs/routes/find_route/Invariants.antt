use Rattle.std.proofs.Common.{◌≡◌, ◌++◌, take, drop, Bool}
use Rattle.eql_values.specs.declared.item.Mask.{Mask}
use Rattle.eql_stages.specs.Gathering.{said_routes}
use Rattle.eql_stages.specs.Keys.{values_of}
use Rattle.eql_stages.proofs.routes.find_route.Given as goal

-- the first routes have lesser keys
abbrev pub invariant-loop-place : goal.invariant-loop-place
invariant-loop-place l = (mask : Mask) (until : Bool)
    → said_routes (values_of l.slots l.fields) mask until l.routes
    ≡ take l.place l.routes ++ said_routes (values_of l.slots l.fields) mask until (drop l.place l.routes)

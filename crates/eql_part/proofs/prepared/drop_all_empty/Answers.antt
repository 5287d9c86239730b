use Rattle.std.proofs.Common.{◌≡◌, ◌+◌, false, [], List, drop, length, ap, ◌∙◌, subst, arith}
use Rattle.std.proofs.lemmas.List.{drop_all}
use Rattle.std.proofs.lemmas.List.Elements.{All-nil}
use Rattle.eql_values.specs.declared.item.Route.{Route}
use Rattle.eql_values.specs.Orders.{key_eq}
use Rattle.eql_part.specs.Rooms.{entries_of}
use Rattle.eql_part.specs.KeyTables.{AreBusyBut}
use Rattle.eql_part.proofs.Busy.{busy_on}
use Rattle.eql_part.proofs.Playing.{one_left}
use Rattle.eql_part.proofs.prepared.drop_all_empty.Goals as goal

pub loop-route-preserved : goal.loop-route-preserved
loop-route-preserved g c =
    let routes = c.args.routes.now.items in let i = c.loop-route.route-index in let route = c.route-item.result in let rest = drop (i + 1) routes in
    let more = one_left c.deref-route-items.result.now routes i route c.deref-route-items.ensures.value c.loop-route-test.true c.route-item.is in
    let old = (entries_of c.loop-route.machines) in let new = (entries_of c.drop_empty.new.machines) in
    record {
      of = c.drop_empty.ensures.of;
      table = c.drop_empty.ensures.table;
      sequences = λ q k. c.drop_empty.ensures.sequences q k ∙ c.loop-route.invariant.sequences q k;
      busy = busy_on route rest old new (subst (λ (l : List Route). AreBusyBut l old) more c.loop-route.invariant.busy) c.drop_empty.ensures.others c.drop_empty.ensures.busy;
    }

pub returns-clause-busy : goal.returns-clause-busy
returns-clause-busy g c = λ key.
    let past : drop c.loop-route.route-index c.args.routes.now.items ≡ [] =
    drop_all c.loop-route.route-index c.args.routes.now.items (let over = c.loop-route-test.false in let len = ap length c.deref-route-items.ensures.value in omega arith) in
    subst (λ (l : List Route). AreBusyBut l (entries_of c.loop-route.machines)) past c.loop-route.invariant.busy key (All-nil (λ (r : Route). key_eq r.key key ≡ false))

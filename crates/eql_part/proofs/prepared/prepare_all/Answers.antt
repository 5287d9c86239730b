use Rattle.std.proofs.Common.{◌≡◌, ◌+◌, ◌++◌, ◌∷◌, [], List, take, refl, sym, ap, ◌∙◌, subst, arith}
use Rattle.std.specs.Prelude.{All}
use Rattle.std.proofs.lemmas.List.{append_assoc, take_more}
use Rattle.std.proofs.lemmas.List.Elements.{All-push, All-weaker}
use Rattle.eql_values.specs.declared.item.Route.{Route}
use Rattle.eql_part.specs.Rooms.{entries_of}
use Rattle.eql_part.specs.KeyTables.{IsReadyIn}
use Rattle.eql_part.specs.Links.{Listed, begun_by}
use Rattle.eql_part.specs.Routed.{ArePrepared, all_begun}
use Rattle.eql_part.proofs.Busy.{apart_at}
use Rattle.eql_part.proofs.Routing.{prepared_more, begun_more, all_tickets}
use Rattle.eql_part.proofs.prepared.prepare_all.Goals as goal

pub undo-requires : goal.undo-requires
undo-requires g c =
    let some = take c.loop-route.route-index c.args.routes.now.items in
    (c.args.list.now, all_begun c.args.order some c.loop-route.prepared.items, c.in-Err.ensures.unchanged ∙ c.loop-route.invariant.list, all_tickets c.args.shape.stages c.args.order some c.loop-route.prepared.items c.loop-route.invariant.prepared)

pub returns-in-Err-clause-unchanged : goal.returns-in-Err-clause-unchanged
returns-in-Err-clause-unchanged g c =
    let some = take c.loop-route.route-index c.args.routes.now.items in
    c.undo.ensures c.args.list.now (all_begun c.args.order some c.loop-route.prepared.items) (c.in-Err.ensures.unchanged ∙ c.loop-route.invariant.list)
    (all_tickets c.args.shape.stages c.args.order some c.loop-route.prepared.items c.loop-route.invariant.prepared)

pub loop-route-preserved : goal.loop-route-preserved
loop-route-preserved g c =
    let routes = c.args.routes.now.items in let i = c.loop-route.route-index in let some = take i routes in
    let route = c.route-item.result in let ready = c.in-Ok.ready in let m = c.args.shape.stages in
    let read = c.deref-route-items.result.now in let same : read ≡ routes = c.deref-route-items.ensures.value in
    let ready_in = λ (r : Route). IsReadyIn (entries_of c.prepare.new.machines) r.key in
    let was_ready = λ (r : Route). IsReadyIn (entries_of c.loop-route.machines) r.key in
    let count = c.loop-route.invariant.count in
    let len = c.push_reserved.ensures.len in
    let room = c.loop-route.invariant.room in let grown = c.push_reserved.ensures.capacity in
    let more : take (i + 1) routes ≡ some ++ route ∷ [] =
    sym (ap (take (i + 1)) same) ∙ take_more read i route c.loop-route-test.true ∙ ap (λ (r : Route). take i read ++ r ∷ []) (sym c.route-item.is) ∙ ap (λ (l : List Route). take i l ++ route ∷ []) same in
    record {
      of = c.in-Ok.ensures.of;
      table = c.in-Ok.ensures.table;
      sequences = λ q k. c.in-Ok.ensures.sequences q k ∙ c.loop-route.invariant.sequences q k;
      ready = subst (All ready_in) (sym more) (All-push ready_in some route (All-weaker was_ready ready_in (λ r h. c.in-Ok.ensures.ready r.key h) some c.loop-route.invariant.ready) c.in-Ok.ensures.there);
      others = λ key apart.
          c.in-Ok.ensures.others key (apart_at key read routes i route same c.loop-route-test.true c.route-item.is apart) ∙ c.loop-route.invariant.others key apart;
      prepared = subst (λ (l : List Route). ArePrepared m l c.push_reserved.new.self.items) (sym more)
          (subst (ArePrepared m (some ++ route ∷ [])) (sym c.push_reserved.ensures.items) (prepared_more m some c.loop-route.prepared.items route ready c.loop-route.invariant.prepared c.in-Ok.ensures.prepared));
      list = c.in-Ok.ensures.list ∙ ap (λ (l : List Listed). l ++ begun_by c.args.order route ready.begun) c.loop-route.invariant.list
          ∙ append_assoc c.args.list.now (all_begun c.args.order some c.loop-route.prepared.items) (begun_by c.args.order route ready.begun)
          ∙ ap (λ (l : List Listed). c.args.list.now ++ l)
          (sym (begun_more m c.args.order some c.loop-route.prepared.items route ready c.loop-route.invariant.prepared)
          ∙ (λ j. all_begun c.args.order (sym more j) (sym c.push_reserved.ensures.items j)));
      count = omega arith;
      room = omega arith;
    }

pub returns-in-Err-clause-others : goal.returns-in-Err-clause-others
returns-in-Err-clause-others g c = λ key apart.
    c.in-Err.ensures.others key
    (apart_at key c.deref-route-items.result.now c.args.routes.now.items c.loop-route.route-index c.route-item.result c.deref-route-items.ensures.value c.loop-route-test.true c.route-item.is apart)
    ∙ c.loop-route.invariant.others key apart

pub returns-in_err-prepared-clause-sequences : goal.returns-in_err-prepared-clause-sequences
returns-in_err-prepared-clause-sequences g c = λ q k. refl

pub returns-in_err-prepared-clause-others : goal.returns-in_err-prepared-clause-others
returns-in_err-prepared-clause-others g c = λ key apart. refl

pub returns-in-Err-clause-sequences : goal.returns-in-Err-clause-sequences
returns-in-Err-clause-sequences g c = λ q k. c.in-Err.ensures.sequences q k ∙ c.loop-route.invariant.sequences q k

pub returns-clause-sequences : goal.returns-clause-sequences
returns-clause-sequences g c = c.loop-route.invariant.sequences

pub returns-clause-others : goal.returns-clause-others
returns-clause-others g c = c.loop-route.invariant.others

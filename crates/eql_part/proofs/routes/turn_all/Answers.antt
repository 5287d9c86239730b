use Rattle.std.proofs.Common.{◌≡◌, ◌+◌, ◌++◌, ◌∷◌, [], false, ℕ, suc, List, Option, drop, length, refl, sym, ap, ◌∙◌, subst, arith}
use Rattle.std.specs.Prelude.{All, IfSome, IsTrue, find}
use Rattle.std.specs.List.{filter_map}
use Rattle.std.specs.Option.{IsSomeAnd, option_map, option_to_list}
use Rattle.std.specs.Vec.Iter.{into_iter_items}
use Rattle.std.proofs.lemmas.List.{append-nil, drop_all}
use Rattle.std.proofs.lemmas.List.Elements.{All-drop, All-head, All-nil, All-tail}
use Rattle.eql_values.specs.declared.found.Match.{Match}
use Rattle.eql_values.specs.declared.item.Route.{Route}
use Rattle.eql_values.specs.declared.order.OrderKey.{OrderKey}
use Rattle.eql_values.specs.Masks.{has_stage}
use Rattle.eql_values.specs.Matching.{key_event_by}
use Rattle.eql_values.specs.Orders.{key_eq}
use Rattle.eql_values.specs.Routes.{RoutesAreInOrder}
use Rattle.eql_laws.specs.OneEvent.{slots_after_event}
use Rattle.eql_laws.specs.Slots.{chain_coming}
use Rattle.eql_auto.specs.Machine.{Machine, AllAreBefore}
use Rattle.eql_span_list.specs.declared.node.Ticket.{Ticket}
use Rattle.eql_part.specs.Rooms.{entries_of}
use Rattle.eql_part.specs.KeyTables.{AreBusyBut, IsReadyIn, machine_of, probes_of_all, sequences_in, slots_in, slots_of}
use Rattle.eql_part.specs.Links.{IsLinked}
use Rattle.eql_part.specs.declared.prepared.Prepared.{Prepared}
use Rattle.eql_part.specs.Routed.{ArePrepared, all_begun, match_there}
use Rattle.eql_part.proofs.Busy.{busy_on}
use Rattle.eql_part.proofs.Playing.{later_keys, rest_in_order, one_left, as_many, next_prepared, next_linked, later_same, one_on, keyed_if_completed, if_keyed, append_one}
use Rattle.eql_part.proofs.Alone.{if_some_any}
use Rattle.eql_part.proofs.routes.turn_all.Goals as goal

pub loop-route-init : goal.loop-route-init
loop-route-init g c =
    let rest = c.into_iter-prepared.ensures.rest in
    let len = c.into_iter-prepared.ensures.len in
    let many = as_many c.args.shape.stages c.args.routes.now.items c.args.prepared.items c.requires.prepared in
    let ok = c.args.prepared.ok.0 in
    record {
      of = c.requires.of;
      table = c.requires.table;
      order = c.requires.order;
      same = λ k d l. refl;
      slots = λ key k l. refl;
      found = refl;
      busy = c.requires.busy;
      prepared = subst (ArePrepared c.args.shape.stages c.args.routes.now.items) (sym rest) c.requires.prepared;
      linked = subst (λ (l : List Prepared). IsLinked (all_begun c.args.order c.args.routes.now.items l) (sequences_in (entries_of c.args.machines.now)) c.args.list.now) (sym rest) c.requires.linked;
      left = omega arith;
      count = omega arith;
      room = omega arith;
      probes = omega arith;
    }

pub unreachable-requires : goal.unreachable-requires
unreachable-requires g c =
    let none = (c.in-None.ensures {u = tt}).cases.0 in
    let left = c.loop-route.invariant.left in
    let below = c.loop-route-test.true in
    let len = ap length c.deref-route-items.ensures.value in
    omega arith

pub turn_key-completed-requires-clause-of : goal.turn_key-completed-requires-clause-of
turn_key-completed-requires-clause-of g c = c.loop-route.invariant.of

pub turn_key-completed-requires-clause-ready : goal.turn_key-completed-requires-clause-ready
turn_key-completed-requires-clause-ready g c =
    let routes = c.args.routes.now.items in let i = c.loop-route.route-index in let route = c.route-item.result in let rest = drop (i + 1) routes in
    let more = one_left c.deref-route-items.result.now routes i route c.deref-route-items.ensures.value c.loop-route-test.true c.route-item.is in
    let here = All-head (λ (r : Route). machine_of (entries_of c.loop-route.machines) r.key ≡ machine_of (entries_of c.args.machines.now) r.key) route rest
    (subst (All (λ (r : Route). machine_of (entries_of c.loop-route.machines) r.key ≡ machine_of (entries_of c.args.machines.now) r.key)) more c.loop-route.invariant.same) in
    let was = λ (r : Route). IsReadyIn (entries_of c.args.machines.now) r.key in
    let all : All was (drop i routes) = All-drop was i routes c.requires.ready in
    subst (λ (o : Option (Machine Ticket)). IsSomeAnd o (λ machine. IsTrue machine.is_ready)) (sym here) (All-head was route rest (subst (All was) more all))

pub turn_key-completed-requires-clause-later : goal.turn_key-completed-requires-clause-later
turn_key-completed-requires-clause-later g c =
    let routes = c.args.routes.now.items in let i = c.loop-route.route-index in let route = c.route-item.result in let rest = drop (i + 1) routes in
    let more = one_left c.deref-route-items.result.now routes i route c.deref-route-items.ensures.value c.loop-route-test.true c.route-item.is in
    let here = All-head (λ (r : Route). machine_of (entries_of c.loop-route.machines) r.key ≡ machine_of (entries_of c.args.machines.now) r.key) route rest
    (subst (All (λ (r : Route). machine_of (entries_of c.loop-route.machines) r.key ≡ machine_of (entries_of c.args.machines.now) r.key)) more c.loop-route.invariant.same) in
    subst (λ (o : Option (Machine Ticket)). (k : ℕ) → IfSome (slots_of o k) (AllAreBefore c.args.order)) (sym here) (c.requires.later route.key)

pub turn_key-completed-requires-clause-tagged : goal.turn_key-completed-requires-clause-tagged
turn_key-completed-requires-clause-tagged g c =
    let routes = c.args.routes.now.items in let i = c.loop-route.route-index in let route = c.route-item.result in let rest = drop (i + 1) routes in
    let more = one_left c.deref-route-items.result.now routes i route c.deref-route-items.ensures.value c.loop-route-test.true c.route-item.is in
    let popped = (c.in-Some.ensures {u = tt}).items in let its = into_iter_items c.next.new.self in let ready = c.in-Some.ready in let m = c.args.shape.stages in
    let prepared = next_prepared m c.args.order (drop i routes) rest route (into_iter_items c.loop-route.prepared) its ready more popped c.loop-route.invariant.prepared in
    prepared.0.tagged

pub turn_key-completed-requires-clause-linked : goal.turn_key-completed-requires-clause-linked
turn_key-completed-requires-clause-linked g c =
    let routes = c.args.routes.now.items in let i = c.loop-route.route-index in let route = c.route-item.result in let rest = drop (i + 1) routes in
    let more = one_left c.deref-route-items.result.now routes i route c.deref-route-items.ensures.value c.loop-route-test.true c.route-item.is in
    let popped = (c.in-Some.ensures {u = tt}).items in let its = into_iter_items c.next.new.self in let ready = c.in-Some.ready in let m = c.args.shape.stages in
    let prepared = next_prepared m c.args.order (drop i routes) rest route (into_iter_items c.loop-route.prepared) its ready more popped c.loop-route.invariant.prepared in
    let linked = next_linked c.args.order (drop i routes) rest route (into_iter_items c.loop-route.prepared) its ready (sequences_in (entries_of c.loop-route.machines)) c.loop-route.list more popped c.loop-route.invariant.linked in
    (all_begun c.args.order rest its, linked)

pub add_match-requires-clause-keyed : goal.add_match-requires-clause-keyed
add_match-requires-clause-keyed g c =
    let routes = c.args.routes.now.items in let i = c.loop-route.route-index in let route = c.route-item.result in let rest = drop (i + 1) routes in
    let more = one_left c.deref-route-items.result.now routes i route c.deref-route-items.ensures.value c.loop-route-test.true c.route-item.is in
    let popped = (c.in-Some.ensures {u = tt}).items in let its = into_iter_items c.next.new.self in let ready = c.in-Some.ready in let m = c.args.shape.stages in
    let prepared = next_prepared m c.args.order (drop i routes) rest route (into_iter_items c.loop-route.prepared) its ready more popped c.loop-route.invariant.prepared in
    keyed_if_completed m c.args.shape.span (slots_in (entries_of c.loop-route.machines) route.key) (key_event_by c.args.order route) route.key ready.key c.turn_key-completed.result prepared.0.keyed c.turn_key-completed.ensures.answer

pub add_match-requires-clause-room : goal.add_match-requires-clause-room
add_match-requires-clause-room g c =
    let count = c.loop-route.invariant.count in let room = c.loop-route.invariant.room in let enough = c.requires.room in
    let below = c.loop-route-test.true in let len = ap length c.deref-route-items.ensures.value in
    if_some_any c.in-Some.ready.key (omega arith)

pub loop-route-preserved : goal.loop-route-preserved
loop-route-preserved g c =
    let routes = c.args.routes.now.items in let i = c.loop-route.route-index in let route = c.route-item.result in let rest = drop (i + 1) routes in
    let more = one_left c.deref-route-items.result.now routes i route c.deref-route-items.ensures.value c.loop-route-test.true c.route-item.is in
    let popped = (c.in-Some.ensures {u = tt}).items in let its = into_iter_items c.next.new.self in let ready = c.in-Some.ready in let m = c.args.shape.stages in
    let prepared = next_prepared m c.args.order (drop i routes) rest route (into_iter_items c.loop-route.prepared) its ready more popped c.loop-route.invariant.prepared in
    let linked = next_linked c.args.order (drop i routes) rest route (into_iter_items c.loop-route.prepared) its ready (sequences_in (entries_of c.loop-route.machines)) c.loop-route.list more popped c.loop-route.invariant.linked in
    let here = All-head (λ (r : Route). machine_of (entries_of c.loop-route.machines) r.key ≡ machine_of (entries_of c.args.machines.now) r.key) route rest
    (subst (All (λ (r : Route). machine_of (entries_of c.loop-route.machines) r.key ≡ machine_of (entries_of c.args.machines.now) r.key)) more c.loop-route.invariant.same) in
    let same = subst (All (λ (r : Route). machine_of (entries_of c.loop-route.machines) r.key ≡ machine_of (entries_of c.args.machines.now) r.key)) more c.loop-route.invariant.same in
    let in_order : RoutesAreInOrder (route ∷ rest) = subst RoutesAreInOrder more c.loop-route.invariant.order in
    let count = c.loop-route.invariant.count in let room = c.loop-route.invariant.room in let left = c.loop-route.invariant.left in
    let longer = c.add_match.ensures.len in let grown = c.add_match.ensures.room in
    let fewer = (c.in-Some.ensures {u = tt}).cases.1 in
    let before = c.loop-route.invariant.probes in let probes = c.turn_key-completed.ensures.probes in
    let spent = ap (probes_of_all m) more in
    let new = (entries_of c.turn_key-completed.new.machines) in let cur = (entries_of c.loop-route.machines) in let start = (entries_of c.args.machines.now) in
    let answer : c.turn_key-completed.result ≡ chain_coming c.args.shape.span (slots_in start route.key) (key_event_by c.args.order route) m =
    c.turn_key-completed.ensures.answer ∙ ap (λ (o : Option (Machine Ticket)). chain_coming c.args.shape.span (slots_of o) (key_event_by c.args.order route) m) here in
    let match_of = λ (o : Option (List OrderKey)). option_map (λ (x : List OrderKey). record { key = route.key; chain = x }) o in
    record {
      of = c.turn_key-completed.ensures.of;
      table = c.turn_key-completed.ensures.table;
      order = rest_in_order route rest in_order;
      same = later_same route.key rest start cur new (later_keys route rest in_order) c.turn_key-completed.ensures.others
          (All-tail (λ (r : Route). machine_of cur r.key ≡ machine_of start r.key) route rest same);
      slots = λ key k lt. one_on m c.args.shape.span c.args.order route rest cur new in_order c.turn_key-completed.ensures.others c.turn_key-completed.ensures.slots key k lt
          ∙ ap (λ (l : List Route). slots_after_event c.args.shape.span c.args.order (find (λ (r : Route). key_eq key r.key) l) (slots_in cur key) (suc k)) (sym more)
          ∙ c.loop-route.invariant.slots key k lt;
      found = ap (λ (l : List Match). l ++ filter_map (match_there m c.args.shape.span (slots_in start) c.args.order) rest)
          (c.add_match.ensures.items route.key (if_keyed (has_stage route.mask m) route.key ready.key prepared.0.keyed) ∙ ap (λ (o : Option (List OrderKey)). c.loop-route.found.items ++ option_to_list (match_of o)) answer)
          ∙ append_one c.loop-route.found.items (match_there m c.args.shape.span (slots_in start) c.args.order route) (filter_map (match_there m c.args.shape.span (slots_in start) c.args.order) rest)
          ∙ ap (λ (l : List Route). c.loop-route.found.items ++ filter_map (match_there m c.args.shape.span (slots_in start) c.args.order) l) (sym more)
          ∙ c.loop-route.invariant.found;
      busy = busy_on route rest cur new (subst (λ (l : List Route). AreBusyBut l cur) more c.loop-route.invariant.busy) c.turn_key-completed.ensures.others c.turn_key-completed.ensures.busy;
      prepared = prepared.1;
      linked = c.turn_key-completed.ensures.linked (all_begun c.args.order rest its) linked;
      left = omega arith;
      count = omega arith;
      room = omega arith;
      probes = omega arith;
    }

pub returns-clause-of : goal.returns-clause-of
returns-clause-of g c = c.loop-route.invariant.of

pub returns-clause-table : goal.returns-clause-table
returns-clause-table g c = c.loop-route.invariant.table

pub returns-clause-slots : goal.returns-clause-slots
returns-clause-slots g c = λ key k lt.
    let past : drop c.loop-route.route-index c.args.routes.now.items ≡ [] =
    drop_all c.loop-route.route-index c.args.routes.now.items (let over = c.loop-route-test.false in let len = ap length c.deref-route-items.ensures.value in omega arith) in
    sym (ap (λ (l : List Route). slots_after_event c.args.shape.span c.args.order (find (λ (r : Route). key_eq key r.key) l) (slots_in (entries_of c.loop-route.machines) key) (suc k)) past)
    ∙ c.loop-route.invariant.slots key k lt

pub returns-clause-found : goal.returns-clause-found
returns-clause-found g c =
    let past : drop c.loop-route.route-index c.args.routes.now.items ≡ [] =
    drop_all c.loop-route.route-index c.args.routes.now.items (let over = c.loop-route-test.false in let len = ap length c.deref-route-items.ensures.value in omega arith) in
    sym (append-nil c.loop-route.found.items)
    ∙ sym (ap (λ (l : List Route). c.loop-route.found.items ++ filter_map (match_there c.args.shape.stages c.args.shape.span (slots_in (entries_of c.args.machines.now)) c.args.order) l) past)
    ∙ c.loop-route.invariant.found

pub returns-clause-linked : goal.returns-clause-linked
returns-clause-linked g c =
    let past : drop c.loop-route.route-index c.args.routes.now.items ≡ [] =
    drop_all c.loop-route.route-index c.args.routes.now.items (let over = c.loop-route-test.false in let len = ap length c.deref-route-items.ensures.value in omega arith) in
    subst (λ (l : List Route). IsLinked (all_begun c.args.order l (into_iter_items c.loop-route.prepared)) (sequences_in (entries_of c.loop-route.machines)) c.loop-route.list) past c.loop-route.invariant.linked

pub returns-clause-probes : goal.returns-clause-probes
returns-clause-probes g c =
    let before = c.loop-route.invariant.probes in omega arith

pub returns-clause-busy : goal.returns-clause-busy
returns-clause-busy g c = λ key.
    let past : drop c.loop-route.route-index c.args.routes.now.items ≡ [] =
    drop_all c.loop-route.route-index c.args.routes.now.items (let over = c.loop-route-test.false in let len = ap length c.deref-route-items.ensures.value in omega arith) in
    subst (λ (l : List Route). AreBusyBut l (entries_of c.loop-route.machines)) past c.loop-route.invariant.busy key (All-nil (λ (r : Route). key_eq r.key key ≡ false))

use Rattle.std.proofs.Common.{sym, ap, ◌∙◌, arith, length, get_or, map, List, None, ◌≡◌, ◌+◌, ◌++◌, refl}
use Rattle.std.specs.Option.{option_map, option_to_list}
use Rattle.std.proofs.lemmas.List.{append_assoc, map-append}
use Rattle.eql_values.specs.declared.found.Holder.{Holder}
use Rattle.eql_auto.specs.Machine.{chains_to}
use Rattle.eql_auto.specs.Holding.{holder_of}
use Rattle.eql_auto.proofs.Written.{shown_length, chains_more, get_or_any, ascends_at}
use Rattle.eql_auto.proofs.table.SlotTable.add_holders.Goals as goal

pub loop-place-preserved : goal.loop-place-preserved
loop-place-preserved g c =
    let place = c.loop-place.place in let key = c.args.key.now in let before = c.args.found.now.items in
    let slots = c.self.inside.slots.items in
    let here : c.slot-item.result ≡ get_or slots place None =
    c.slot-item.is ∙ get_or_any c.deref-slot-items.result.now place c.slot-item.result None c.loop-place-test.true ∙ ap (λ xs. get_or xs place None) c.deref-slot-items.ensures.value in
    let old = chains_to c.args.self.now place in let one = option_to_list (option_map (λ p. (place + 1, p.events.items)) c.slot-item.result) in
    (c.in_ok-add_keyed.ensures {u = tt})
    ∙ ap (λ (l : List Holder). l ++ map (holder_of key) one) c.loop-place.invariant
    ∙ append_assoc before (map (holder_of key) old) (map (holder_of key) one)
    ∙ ap (λ (l : List Holder). before ++ l) (sym (map-append (holder_of key) old one))
    ∙ ap (λ l. before ++ map (holder_of key) l) (chains_more slots c.args.self.now place (place + 1) c.slot-item.result c.self.view_is refl here)

pub returns : goal.returns
returns g c =
    let len = shown_length c.self.inside.slots.items c.args.self.now c.self.view_is in
    let same = ap length c.deref-slot-items.ensures.value in
    let past = c.loop-place-test.false in
    let within = c.loop-place.auto.place-end in
    let whole : c.loop-place.place ≡ length c.args.self.now = omega arith in
    c.loop-place.invariant ∙ ap (λ n. c.args.found.now.items ++ map (holder_of c.args.key.now) (chains_to c.args.self.now n)) whole

pub add_keyed-requires : goal.add_keyed-requires
add_keyed-requires g c =
    let slots = c.self.inside.slots.items in
    ascends_at slots c.loop-place.place c.slot-item.result c.self.invariant
    (c.slot-item.is ∙ get_or_any c.deref-slot-items.result.now c.loop-place.place c.slot-item.result None c.loop-place-test.true
    ∙ ap (λ xs. get_or xs c.loop-place.place None) c.deref-slot-items.ensures.value)

pub overflow_cast-place : goal.overflow_cast-place
overflow_cast-place g c =
    let len = shown_length c.self.inside.slots.items c.args.self.now c.self.view_is in
    let same = ap length c.deref-slot-items.ensures.value in
    let below = c.loop-place-test.true in
    let few = c.requires in
    omega arith

pub overflow_add-place : goal.overflow_add-place
overflow_add-place g c =
    let len = shown_length c.self.inside.slots.items c.args.self.now c.self.view_is in
    let same = ap length c.deref-slot-items.ensures.value in
    let below = c.loop-place-test.true in
    let few = c.requires in
    omega arith

use Rattle.std.proofs.Common.{◌≡◌, ◌++◌, ◌∷◌, [], ◌≤ℤ◌, List, None, Some, map, length, refl, sym, ap, ◌∙◌, subst, arith}
use Rattle.std.specs.Prelude.{All}
use Rattle.std.specs.List.{Contains}
use Rattle.std.specs.Vec.Iter.{into_iter_items}
use Rattle.std.proofs.lemmas.List.{append-nil, append_assoc, nil_from_length}
use Rattle.std.proofs.lemmas.List.Elements.{All-contains, All-head, All-nil, All-tail, Contains-append_right}
use Rattle.eql_values.specs.declared.found.Holder.{Holder}
use Rattle.eql_laws.specs.Shapes.{HasStageBefore, IsFull}
use Rattle.eql_part.specs.Rooms.{entries_of}
use Rattle.eql_part.specs.KeyTables.{IsBusyAt, slots_in}
use Rattle.eql_part.specs.Links.{Differ, Listed, StartsRise, first_time, slot_of}
use Rattle.eql_part.proofs.Joining.{none_of, none_linked}
use Rattle.eql_part.proofs.Linking.{each_holds}
use Rattle.eql_part.proofs.Rows.{Row}
use Rattle.eql_span_list.specs.declared.node.Ticket.{Ticket}
use Rattle.eql_part.proofs.Putting.{still_empty, there_now, no_other_now}
use Rattle.eql_part.proofs.puts.put_all.Goals as goal

pub loop-holder-init : goal.loop-holder-init
loop-holder-init g c =
    let gives = c.into_iter-holder-iterator.ensures.into_iter_gives in
    let ok = c.args.holders.ok.0 in
    let items = ap length gives.0 in
    record {
      of = none_of c.args.shape.stages c.args.shape.span (entries_of c.args.machines.now) c.requires.none;
      table = c.requires.table;
      busy = λ q. subst (λ (l : List (Row Ticket)). IsBusyAt l q) (sym c.requires.none) tt;
      linked = none_linked (entries_of c.args.machines.now) c.args.list.now c.requires.none c.requires.empty;
      parts = sym gives.0;
      many = omega (arith, gives.1);
      there = All-nil (λ (h : Holder). slots_in (entries_of c.args.machines.now) h.key h.stage ≡ Some h.chain);
      no_other = λ q k chain is. let wrong : None ≡ Some chain = sym (ap (λ l. slots_in l q k) c.requires.none) ∙ is in cc;
      late = each_holds (λ (x : Holder). All (λ (e : Listed). e.1.time ≤ℤ first_time x.chain) c.args.list.now) (into_iter_items c.into_iter-holder-iterator.result)
          (λ x in'. subst (λ (list : List Listed). All (λ (e : Listed). e.1.time ≤ℤ first_time x.chain) list) (sym c.requires.empty) (All-nil (λ (e : Listed). e.1.time ≤ℤ first_time x.chain)));
      rise = subst StartsRise (sym gives.0) c.requires.rise;
    }

pub put-requires-clause-stage : goal.put-requires-clause-stage
put-requires-clause-stage g c =
    let popped = (c.in-Some.ensures {u = tt}).steps in let done = c.loop-holder.yielded in let h = c.in-Some.holder in let left = into_iter_items c.next.new.self in let es = (entries_of c.loop-holder.machines) in
    let parts = c.loop-holder.invariant.parts ∙ ap (λ (l : List Holder). done ++ l) popped.0 in
    let differ = subst (λ (l : List Holder). Differ (map slot_of l)) parts c.requires.differ in
    All-contains (HasStageBefore c.args.shape.stages) (done ++ h ∷ left) h (subst (All (HasStageBefore c.args.shape.stages)) parts c.requires.stages) (Contains-append_right done (h ∷ left) h (0, omega arith, refl))

pub put-requires-clause-full : goal.put-requires-clause-full
put-requires-clause-full g c =
    let popped = (c.in-Some.ensures {u = tt}).steps in let done = c.loop-holder.yielded in let h = c.in-Some.holder in let left = into_iter_items c.next.new.self in let es = (entries_of c.loop-holder.machines) in
    let parts = c.loop-holder.invariant.parts ∙ ap (λ (l : List Holder). done ++ l) popped.0 in
    let differ = subst (λ (l : List Holder). Differ (map slot_of l)) parts c.requires.differ in
    All-contains IsFull (done ++ h ∷ left) h (subst (All IsFull) parts c.requires.full) (Contains-append_right done (h ∷ left) h (0, omega arith, refl))

pub put-requires-clause-empty : goal.put-requires-clause-empty
put-requires-clause-empty g c =
    let popped = (c.in-Some.ensures {u = tt}).steps in let done = c.loop-holder.yielded in let h = c.in-Some.holder in let left = into_iter_items c.next.new.self in let es = (entries_of c.loop-holder.machines) in
    let parts = c.loop-holder.invariant.parts ∙ ap (λ (l : List Holder). done ++ l) popped.0 in
    let differ = subst (λ (l : List Holder). Differ (map slot_of l)) parts c.requires.differ in
    still_empty es es done left h differ c.loop-holder.invariant.there c.loop-holder.invariant.no_other

pub put-requires-clause-late : goal.put-requires-clause-late
put-requires-clause-late g c =
    let popped = (c.in-Some.ensures {u = tt}).steps in let done = c.loop-holder.yielded in let h = c.in-Some.holder in let left = into_iter_items c.next.new.self in let es = (entries_of c.loop-holder.machines) in
    let parts = c.loop-holder.invariant.parts ∙ ap (λ (l : List Holder). done ++ l) popped.0 in
    let differ = subst (λ (l : List Holder). Differ (map slot_of l)) parts c.requires.differ in
    let up = λ (x : Holder). All (λ (e : Listed). e.1.time ≤ℤ first_time x.chain) c.loop-holder.list in
    All-head up h left (subst (All up) popped.0 c.loop-holder.invariant.late)

pub loop-holder-preserved : goal.loop-holder-preserved
loop-holder-preserved g c =
    let popped = (c.in-Some.ensures {u = tt}).steps in let done = c.loop-holder.yielded in let h = c.in-Some.holder in let left = into_iter_items c.next.new.self in let es = (entries_of c.loop-holder.machines) in
    let parts = c.loop-holder.invariant.parts ∙ ap (λ (l : List Holder). done ++ l) popped.0 in
    let differ = subst (λ (l : List Holder). Differ (map slot_of l)) parts c.requires.differ in
    let new = (entries_of c.put.new.machines) in
    let ok = c.in_ok-put.ensures {u = tt} in
    let many = c.loop-holder.invariant.many in let items = ap length popped.0 in
    let up = λ (x : Holder). All (λ (e : Listed). e.1.time ≤ℤ first_time x.chain) c.loop-holder.list in
    let late = All-tail up h left (subst (All up) popped.0 c.loop-holder.invariant.late) in
    let rise : StartsRise (h ∷ left) = subst StartsRise popped.0 c.loop-holder.invariant.rise in
    record {
      of = c.put.ensures.of;
      table = c.put.ensures.table;
      busy = ok.busy;
      linked = ok.linked;
      parts = parts ∙ sym (append_assoc done (h ∷ []) left);
      many = omega (arith, popped.1);
      there = there_now es new done left h differ c.loop-holder.invariant.there c.loop-holder.invariant.no_other ok.here ok.others;
      no_other = no_other_now es new done left h differ c.loop-holder.invariant.there c.loop-holder.invariant.no_other ok.here ok.others;
      late = each_holds (λ (x : Holder). All (λ (e : Listed). e.1.time ≤ℤ first_time x.chain) c.put.new.list) left
          (λ x in'. ok.late (first_time x.chain) (All-contains up left x late in') (All-contains (λ (x : Holder). first_time h.chain ≤ℤ first_time x.chain) left x rise.0 in'));
      rise = rise.1;
    }

pub returns-clause-there : goal.returns-clause-there
returns-clause-there g c =
    let none = (c.in-None.ensures {u = tt}).steps.0 in let many = c.loop-holder.invariant.many in
    let all : c.args.holders.items ≡ c.loop-holder.yielded =
    c.loop-holder.invariant.parts ∙ ap (λ (l : List Holder). c.loop-holder.yielded ++ l) (nil_from_length (into_iter_items c.loop-holder.holder-iterator) (sym many ∙ none)) ∙ append-nil c.loop-holder.yielded in
    subst (All (λ (h : Holder). slots_in (entries_of c.loop-holder.machines) h.key h.stage ≡ Some h.chain)) (sym all) c.loop-holder.invariant.there

pub returns-clause-no_other : goal.returns-clause-no_other
returns-clause-no_other g c = λ q k chain is.
    let none = (c.in-None.ensures {u = tt}).steps.0 in let many = c.loop-holder.invariant.many in
    let all : c.args.holders.items ≡ c.loop-holder.yielded =
    c.loop-holder.invariant.parts ∙ ap (λ (l : List Holder). c.loop-holder.yielded ++ l) (nil_from_length (into_iter_items c.loop-holder.holder-iterator) (sym many ∙ none)) ∙ append-nil c.loop-holder.yielded in
    subst (λ (l : List Holder). Contains l (record { key = q; stage = k; chain = chain })) (sym all) (c.loop-holder.invariant.no_other q k chain is)

use Rattle.std.proofs.Common.{◌≡◌, ◌++◌, ◌∷◌, [], ◌≤ℤ◌, refl, sym, ◌∙◌, subst}
use Rattle.std.specs.Prelude.{All}
use Rattle.std.proofs.lemmas.List.Elements.{All-cons, All-nil, All-push}
use Rattle.eql_part.specs.Rooms.{entries_of}
use Rattle.eql_part.specs.declared.listing.Start.{Start}
use Rattle.eql_part.specs.KeyTables.{machine_of, sequences_in}
use Rattle.eql_part.specs.Links.{Listed, first_time}
use Rattle.eql_part.proofs.Busy.{busy_after, keeps_busy}
use Rattle.eql_part.proofs.Joining.{linked_more}
use Rattle.eql_part.proofs.Onward.{linked_alike}
use Rattle.eql_part.proofs.Turned.{slots_alike}
use Rattle.eql_part.proofs.puts.put.Goals as goal

pub put_listed-requires-clause-empty : goal.put_listed-requires-clause-empty
put_listed-requires-clause-empty g c =
    slots_alike (entries_of c.args.machines.now) (entries_of c.make_room.new.machines) c.args.holder.key c.args.holder.stage c.make_room.ensures.sequences ∙ c.requires.empty

pub put_listed-requires-clause-linked : goal.put_listed-requires-clause-linked
put_listed-requires-clause-linked g c =
    let holder = c.args.holder in let made = (entries_of c.make_room.new.machines) in
    let start : Start = record { time = first_time holder.chain; key = holder.key } in
    let is : c.push_back.new.self ≡ c.args.list.now ++ (c.in-Ok.ticket, start) ∷ [] =
    c.in-Ok.ensures.items ∙ (λ i. c.args.list.now ++ (c.in-Ok.ticket, c.in_ok-start.ensures i) ∷ []) in
    linked_more (sequences_in made) c.args.list.now ((c.in-Ok.ticket, start) ∷ []) c.push_back.new.self (first_time holder.chain)
    (linked_alike (entries_of c.args.machines.now) made [] c.args.list.now c.make_room.ensures.sequences c.requires.linked) is c.tickets_differ.ensures c.requires.late
    (All-cons (λ (e : Listed). e.1.time ≡ first_time holder.chain) (c.in-Ok.ticket, start) [] refl (All-nil (λ (e : Listed). e.1.time ≡ first_time holder.chain)))

pub returns-in-Ok-clause-others : goal.returns-in-Ok-clause-others
returns-in-Ok-clause-others g c = λ q k ne.
    c.put_listed.ensures.others q k ne ∙ slots_alike (entries_of c.args.machines.now) (entries_of c.make_room.new.machines) q k c.make_room.ensures.sequences

pub returns-in-Ok-clause-late : goal.returns-in-Ok-clause-late
returns-in-Ok-clause-late g c = λ time up le.
    let holder = c.args.holder in
    let start : Start = record { time = first_time holder.chain; key = holder.key } in
    let is : c.push_back.new.self ≡ c.args.list.now ++ (c.in-Ok.ticket, start) ∷ [] =
    c.in-Ok.ensures.items ∙ (λ i. c.args.list.now ++ (c.in-Ok.ticket, c.in_ok-start.ensures i) ∷ []) in
    subst (All (λ (e : Listed). e.1.time ≤ℤ time)) (sym is) (All-push (λ (e : Listed). e.1.time ≤ℤ time) c.args.list.now (c.in-Ok.ticket, start) up le)

pub returns-in-Ok-clause-busy : goal.returns-in-Ok-clause-busy
returns-in-Ok-clause-busy g c =
    let made = (entries_of c.make_room.new.machines) in let old = (entries_of c.args.machines.now) in
    busy_after made (entries_of c.put_listed.new.machines) c.args.holder.key c.put_listed.ensures.rest c.put_listed.ensures.busy
    (λ q ne. keeps_busy (machine_of old q) (machine_of made q) (c.make_room.ensures.others q ne) (c.requires.busy q))

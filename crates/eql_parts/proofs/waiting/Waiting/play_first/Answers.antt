use Rattle.std.proofs.Common.{◌≡◌, ◌∷◌, [], List, length, sym, ap, ◌∙◌, subst, arith}
use Rattle.std.specs.Prelude.{All}
use Rattle.eql_values.specs.declared.item.Item.{Item}
use Rattle.eql_values.specs.Matching.{matches}
use Rattle.eql_laws.specs.Alive.{HoldersAreInOrder}
use Rattle.eql_laws.specs.Shapes.{HasStageBefore}
use Rattle.eql_part.specs.KeyTables.{Pendings}
use Rattle.eql_parts.specs.Inboxes.{IsNext, WaitingView}
use Rattle.eql_parts.proofs.Played.{first_and_rest, grown, next_rest, played_first}
use Rattle.eql_parts.proofs.waiting.Waiting.play_first.Goals as goal

pub invariant_of-self-2 : goal.invariant_of-self-2
invariant_of-self-2 g c =
    let item = c.in-Some.item.now in let inbox = c.self.inside.inbox.items in let rest = c.pop_front.new.self.items in let old = c.self.inside.keys in
    let some = c.requires.some in let len = ap (λ (w : WaitingView). length w.inbox) c.self.view_is in
    let split : inbox ≡ item ∷ rest = first_and_rest inbox item (omega arith) c.in-Some.ensures.lookup ∙ ap (λ (l : List Item). item ∷ l) (sym c.pop_front.ensures.rest) in
    let is = (c.in_ok-more.ensures {u = tt}).holders in
    record {
      in_order = subst (λ (p : Pendings). HoldersAreInOrder p.holders) (sym is) (c.after_in_order.ensures.after old.stages old.span old.holders (item ∷ []));
      before = subst (λ (p : Pendings). All (HasStageBefore p.stages) p.holders) (sym is) (c.chains_are_full.ensures.stages old.stages old.span old.holders (item ∷ []));
      next = next_rest item rest old.holders c.take.new.self.holders (subst (IsNext old.holders) split c.self.invariant.next) c.take.ensures.later;
    }

pub returns-clause-played : goal.returns-clause-played
returns-clause-played g c =
    let item = c.in-Some.item.now in let inbox = c.self.inside.inbox.items in let rest = c.pop_front.new.self.items in let old = c.self.inside.keys in
    let some = c.requires.some in let len = ap (λ (w : WaitingView). length w.inbox) c.self.view_is in
    let split : inbox ≡ item ∷ rest = first_and_rest inbox item (omega arith) c.in-Some.ensures.lookup ∙ ap (λ (l : List Item). item ∷ l) (sym c.pop_front.ensures.rest) in
    let is = (c.in_ok-more.ensures {u = tt}).holders in
    let found = grown c.self.inside.found.items c.reserve.new.self.items c.push_matches.new.found.items c.into_items.result.items
    (matches old.stages old.span old.holders (item ∷ [])) c.push_matches.ensures c.reserve.ensures.items
    (c.into_items.ensures ∙ (c.in_ok-more.ensures {u = tt}).matches) in
    let inside : WaitingView = record { stages = old.stages; span = old.span; held = old.holders; inbox = inbox; found = c.self.inside.found.items; processed = c.self.inside.processed } in
    played_first inside c.args.self.now _ item c.self.view_is split (ap (λ (p : Pendings). p.stages) is) (ap (λ (p : Pendings). p.span) is) (ap (λ (p : Pendings). p.holders) is)
    found c.keep_time.ensures

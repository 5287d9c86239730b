use Rattle.std.proofs.Common.{◌≡◌, ◌≤◌, length, suc, [], ◌∷◌, List, sym, ap, ◌∙◌, subst}
use Rattle.std.specs.Prelude.{find}
use Rattle.std.specs.Result.{OnErr}
use Rattle.std.specs.declared.result.Result.{Result}
use Rattle.std.specs.declared.result.Result.TheVariants.{Ok, Err}
use Rattle.std.specs.List.{filter_map}
use Rattle.eql_values.specs.declared.found.Match.{Match}
use Rattle.eql_values.specs.declared.item.Route.{Route}
use Rattle.eql_values.specs.Matching.{after, matches}
use Rattle.eql_values.specs.Orders.{key_eq}
use Rattle.eql_laws.specs.OneEvent.{slots_after_event}
use Rattle.eql_part.specs.Rooms.{entries_of}
use Rattle.eql_part.specs.KeyTables.{ComesAfterAll, Pendings, holders_in, slots_in}
use Rattle.eql_part.specs.Routed.{match_there}
use Rattle.eql_part.proofs.Looked.{entries_sorted}
use Rattle.eql_part.proofs.Idle.{found_few}
use Rattle.eql_part.proofs.Later.{after_all, still_after}
use Rattle.eql_part.proofs.Taken.{later_at, matches_are, after_is, alike}
use Rattle.eql_part.proofs.keys.Keys.take.Goals as goal

pub play-requires-clause-later : goal.play-requires-clause-later
play-requires-clause-later g c = λ key k.
    let old = (entries_of c.self.inside.machines) in
    later_at c.self.inside.shape.stages c.self.inside.shape.span old old (entries_sorted c.self.inside.machines.rooms.items) c.args.item.now.order
    (subst (ComesAfterAll c.args.item.now.order) (sym (ap (λ (p : Pendings). p.holders) c.self.view_is)) c.requires.later) key k

pub returns-clause-holders : goal.returns-clause-holders
returns-clause-holders g c =
    let m = c.self.inside.shape.stages in let span = c.self.inside.shape.span in let old = (entries_of c.self.inside.machines) in let new = (entries_of c.play.new.machines) in
    let item = c.args.item.now in
    let is = after_is m span old new (entries_sorted c.self.inside.machines.rooms.items) c.same_holders.ensures c.after_in_order.ensures.after c.one_more_event.ensures.after c.after_looks_up.ensures.no_other
    (entries_sorted c.play.new.machines.rooms.items) c.play.ensures.of item
    (λ key k lt. (c.in_ok-found.ensures {u = tt}).slots key k lt
    ∙ ap (λ (l : List Route). slots_after_event span item.order (find (λ (route : Route). key_eq key route.key) l) (slots_in old key) (suc k)) c.items-routes.ensures) in
    (λ i. record { stages = m; span = span; holders = is i })
    ∙ ap (λ (p : Pendings). record p { holders = after p.stages p.span p.holders (item ∷ []) }) c.self.view_is

pub returns-clause-matches : goal.returns-clause-matches
returns-clause-matches g c =
    let m = c.self.inside.shape.stages in let span = c.self.inside.shape.span in let old = (entries_of c.self.inside.machines) in let item = c.args.item.now in
    c.of.ensures ∙ (c.in_ok-found.ensures {u = tt}).found
    ∙ ap (filter_map (match_there m span (slots_in old) item.order)) c.items-routes.ensures
    ∙ matches_are m span old old (entries_sorted c.self.inside.machines.rooms.items) c.one_more_event.ensures.matches item
    ∙ ap (λ (p : Pendings). matches p.stages p.span p.holders (item ∷ [])) c.self.view_is

on_err : {A E : Type 0} (r : Result A E) (X : Type 0) → X → OnErr r X
on_err (Ok a) X x = tt
on_err (Err e) X x = x

pub returns-in_err-found-clause-unchanged : goal.returns-in_err-found-clause-unchanged
returns-in_err-found-clause-unchanged g c =
    let old = (entries_of c.self.inside.machines) in let new = (entries_of c.play.new.machines) in
    let is : holders_in new ≡ holders_in old = alike c.same_holders.ensures old new (entries_sorted c.self.inside.machines.rooms.items) (entries_sorted c.play.new.machines.rooms.items) (c.in_err-found.ensures {u = tt}).unchanged in
    on_err c.from_residual.result _ ((λ i. record { stages = c.self.inside.shape.stages; span = c.self.inside.shape.span; holders = is i }) ∙ c.self.view_is)

pub returns-clause-few : goal.returns-clause-few
returns-clause-few g c =
    let find_match = match_there c.self.inside.shape.stages c.self.inside.shape.span (slots_in (entries_of c.self.inside.machines)) c.args.item.now.order in
    let is : c.of.result ≡ filter_map find_match c.args.item.now.routes = c.of.ensures ∙ (c.in_ok-found.ensures {u = tt}).found ∙ ap (filter_map find_match) c.items-routes.ensures in
    subst (λ (l : List Match). length l ≤ length c.args.item.now.routes) (sym is) (found_few find_match c.args.item.now.routes)

pub returns-clause-later : goal.returns-clause-later
returns-clause-later g c = λ next less.
    subst (ComesAfterAll next) (sym (ap (λ (p : Pendings). p.holders) (returns-clause-holders g c)))
    (after_all next c.events_and_keys_stay.ensures.events c.args.self.now.stages c.args.self.now.span c.args.self.now.holders c.args.item.now less c.requires.later)

pub returns-in_err-found-clause-later : goal.returns-in_err-found-clause-later
returns-in_err-found-clause-later g c = λ next less.
    let old = (entries_of c.self.inside.machines) in let new = (entries_of c.play.new.machines) in
    let is : holders_in new ≡ holders_in old = alike c.same_holders.ensures old new (entries_sorted c.self.inside.machines.rooms.items) (entries_sorted c.play.new.machines.rooms.items) (c.in_err-found.ensures {u = tt}).unchanged in
    subst (ComesAfterAll next) (sym (is ∙ ap (λ (p : Pendings). p.holders) c.self.view_is))
    (still_after next c.args.item.now.order less c.args.self.now.holders c.requires.later)

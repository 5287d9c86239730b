use Rattle.std.proofs.Common.{◌≤◌, ℕ, List, length, sym, ap, subst, ◌∙◌}
use Rattle.eql_cut.specs.Placing.{place_in}
use Rattle.eql_cut.proofs.PlaceLaws.{place_some, no_list}
use Rattle.eql_cut.proofs.placed.listed_place.Goals as goal

pub returns-in-Some : goal.returns-in-Some
returns-in-Some c =
    let same = c.deref.ensures.value ∙ c.items.ensures in
    let lookup = c.in-Some.ensures.lookup in
    place_some c.args.lists.now c.deref.result.now c.in-Some.places.now c.args.shard c.args.line c.place_in.result same lookup.3.0 lookup.1
    (c.place_in.ensures ∙ ap (λ (l : List (ℕ × ℕ)). place_in l c.args.line) (c.deref-in-Some.ensures.value ∙ c.items-in-Some.ensures))

pub returns-in-None : goal.returns-in-None
returns-in-None c =
    let same = c.deref.ensures.value ∙ c.items.ensures in
    sym (no_list c.args.lists.now c.args.shard c.args.line (subst (λ (l : List (List (ℕ × ℕ))). length l ≤ c.args.shard) same c.in-None.ensures.lookup.3))

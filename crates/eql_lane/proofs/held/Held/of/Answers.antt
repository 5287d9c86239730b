use Rattle.std.proofs.Common.{◌≡◌, [], ◌∙◌, sym, subst}
use Rattle.eql_lane.specs.Holding.{Entries, IsHeld, held_in}
use Rattle.eql_lane.proofs.HeldLemmas.{run_alone}
use Rattle.eql_lane.proofs.held.Held.of.Goals as goal

pub invariant_of-result : goal.invariant_of-result
invariant_of-result c =
    let run = c.from_vec.ensures.items ∙ c.into_items.ensures in
    let none : c.new.result.entries ≡ [] = c.new.ensures.empty in
    subst (λ (es : Entries). IsHeld c.from_vec.result.items es) (sym none) (subst (λ l. IsHeld l []) (sym run) (run_alone c.args.items c.requires).1)

pub returns : goal.returns
returns c =
    let run = c.from_vec.ensures.items ∙ c.into_items.ensures in
    let none : c.new.result.entries ≡ [] = c.new.ensures.empty in
    (λ i. held_in (run i) (none i)) ∙ (run_alone c.args.items c.requires).0

use Rattle.std.proofs.Common.{◌≡◌, ◌++◌, [], List, Option, Vec, Global, sym, subst, arith}
use Rattle.std.specs.Prelude.{IsPermutation}
use Rattle.std.specs.Option.{option_to_list}
use Rattle.std.specs.Cmp.{eq_by_cmp_equiv}
use Rattle.std.specs.Ordering.{eq_by_cmp}
use Rattle.std.proofs.lemmas.List.{nil_from_length}
use Rattle.std.proofs.lemmas.List.Sorted.{IsPermutation-trans}
use Rattle.std.proofs.lemmas.Map.Keys.{IsDistinct-IsPermutation}
use Rattle.eql_laws.specs.Apart.{joined_lists}
use Rattle.eql_merge.proofs.Gathered.{as_before, both_true, distinct_joined, nothing_left, one_more, same_firsts}
use Rattle.eql_merge.proofs.fronts.merge_fronts.Goals as goal
use Rattle.eql_merge.proofs.fronts.merge_fronts.Goals.{then-not-in_order+in_ok-sort, else-not-in_order}

pub loop-front-preserved : goal.loop-front-preserved
loop-front-preserved g c =
    let rest = c.pop_front.new.self.items in
    let new = c.take_of_front.new.fronts.items in
    record {
      all = as_before (joined_lists c.args.lists.items) c.loop-front.merged.items c.in-Some.front c.loop-front.fronts.items rest new (c.in-Some.ensures {u = tt}).items c.loop-front.invariant.all
          (subst (λ (o : Option g.row.T.Denot). IsPermutation (c.in-Some.front ++ joined_lists rest) (option_to_list o ++ joined_lists new)) c.in_default-2.is (c.in_ok-value.ensures {u = tt}).all);
      order = c.loop-front.invariant.order;
    }

pub loop-front-preserved-in-Some-2 : goal.loop-front-preserved-in-Some-2
loop-front-preserved-in-Some-2 g c =
    let whole = joined_lists c.args.lists.items in
    let rest = c.pop_front.new.self.items in
    let new = c.take_of_front.new.fronts.items in
    let added = c.in_ok-in_order.ensures {u = tt} in
    record {
      all = subst (λ (l : List g.row.T.Denot). IsPermutation whole (l ++ joined_lists new)) (sym {A = List g.row.T.Denot} added.items)
          (one_more whole c.loop-front.merged.items c.in-Some.front c.in-Some-2.value c.loop-front.fronts.items rest new (c.in-Some.ensures {u = tt}).items c.loop-front.invariant.all
          (subst (λ (o : Option g.row.T.Denot). IsPermutation (c.in-Some.front ++ joined_lists rest) (option_to_list o ++ joined_lists new)) c.in-Some-2.is (c.in_ok-value.ensures {u = tt}).all));
      order = λ both.
          let each = both_true c.loop-front.in_order c.in_ok-in_order.field-0 both in
          added.order each.1 (c.loop-front.invariant.order each.0);
    }

pub sort-requires : goal.sort-requires
sort-requires g c =
    let R = g.T.Ranked.rank in
    let whole = joined_lists c.args.lists.items in
    let none : c.loop-front.fronts.items ≡ [] = nil_from_length c.loop-front.fronts.items (omega (arith, (c.in_default.ensures {u = tt}).cases)) in
    IsDistinct-IsPermutation (eq_by_cmp R) (eq_by_cmp_equiv g.met.T.Ranked.total).symm whole c.loop-front.merged.items
    (nothing_left whole c.loop-front.merged.items c.loop-front.fronts.items none c.loop-front.invariant.all)
    (distinct_joined R g.met.T.Ranked.total c.args.lists.items c.requires.ascend c.requires.apart)

pub returns-clause-all : goal.returns-clause-all
returns-clause-all g c =
    let R = g.T.Ranked.rank in
    let total = g.met.T.Ranked.total in
    let whole = joined_lists c.args.lists.items in
    let merged = c.loop-front.merged.items in
    let none : c.loop-front.fronts.items ≡ [] = nil_from_length c.loop-front.fronts.items (omega (arith, (c.in_default.ensures {u = tt}).cases)) in
    let moved : IsPermutation whole merged = nothing_left whole merged c.loop-front.fronts.items none c.loop-front.invariant.all in
    same_firsts R total whole c.if-not-in_order.merged.items (distinct_joined R total c.args.lists.items c.requires.ascend c.requires.apart)
    (elim c.if-not-in_order.branch [
      | then-not-in_order+in_ok-sort w ↦
          subst (λ (v : Vec g.row.T.Denot Global). IsPermutation whole v.items) (sym w.merged-is) (IsPermutation-trans whole merged w.sort.new.values.items moved w.sort.ensures.all)
      | else-not-in_order w ↦ subst (λ (v : Vec g.row.T.Denot Global). IsPermutation whole v.items) (sym w.merged-is) moved
    ])

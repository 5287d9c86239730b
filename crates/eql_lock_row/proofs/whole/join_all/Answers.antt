use Rattle.std.proofs.Common.{◌≡◌, ℕ, length, refl, sym, ap, ◌∙◌, subst}
use Rattle.std.specs.Prelude.{slice_set}
use Rattle.std.proofs.lemmas.List.{length-map}
use Rattle.std.proofs.lemmas.Option.{slice_get_read}
use Rattle.eql_turn_lock.specs.declared.view.View.{View}
use Rattle.eql_turn_lock.specs.Locks.{view_of}
use Rattle.eql_lock_row.specs.Rows.{id_of_pass, views_in}
use Rattle.eql_lock_row.proofs.Places.{all_at}
use Rattle.eql_lock_row.proofs.Walks.{JoinSome, join_first, join_inside, join_next, join_none, join_one, other_is, own_at}
use Rattle.eql_lock_row.proofs.whole.join_all.Goals as goal

pub join-requires-clause-own : goal.join-requires-clause-own
join-requires-clause-own g c =
    let locks = c.args.locks.now.items in let first = c.args.passes.now.items in let others = c.args.others.items in
    let passes = c.loop-other.passes.items in let rest = c.loop-other.others.items in let less = c.pop.new.self.items in let m = c.len-place.result in
    let count : length less ≡ m = sym (c.len-place.ensures ∙ c.pop.new.self.ok.0) in
    let some = join_one g.T.Turned.step_of g.T.Turned.is_open m locks first others passes rest less c.in-Some.other c.loop-other.invariant c.in-Some.ensures.items count in
    let inside = join_inside g.T.Turned.step_of g.T.Turned.is_open m locks first others passes rest some c.requires.own.0 in
    let at = slice_get_read locks (length locks) m c.index.result.now refl inside.0 c.index.ensures in (
      own_at locks passes m c.index.result.now c.index_mut.result.now some.own at
          (slice_get_read passes (length passes) m c.index_mut.result.now refl inside.1 c.index_mut.ensures.value),
      own_at locks others m c.index.result.now c.in-Some.other c.requires.own.1 at
          (other_is g.T.Turned.step_of g.T.Turned.is_open m locks first others passes rest less c.in-Some.other some c.in-Some.ensures.items count).0,
    )

pub join-requires-clause-first : goal.join-requires-clause-first
join-requires-clause-first g c =
    let locks = c.args.locks.now.items in let first = c.args.passes.now.items in let others = c.args.others.items in
    let passes = c.loop-other.passes.items in let rest = c.loop-other.others.items in let less = c.pop.new.self.items in let m = c.len-place.result in
    let count : length less ≡ m = sym (c.len-place.ensures ∙ c.pop.new.self.ok.0) in
    let some = join_one g.T.Turned.step_of g.T.Turned.is_open m locks first others passes rest less c.in-Some.other c.loop-other.invariant c.in-Some.ensures.items count in
    let inside = join_inside g.T.Turned.step_of g.T.Turned.is_open m locks first others passes rest some c.requires.own.0 in
    let there = slice_get_read passes (length passes) m c.index_mut.result.now refl inside.1 c.index_mut.ensures.value in
    all_at (λ (v : View _ _ _). v.number ≡ 0) (views_in first) m (view_of c.index_mut.result.now) c.requires.first
    (join_first g.T.Turned.step_of g.T.Turned.is_open m locks first others passes rest c.index_mut.result.now some there)

pub loop-other-preserved : goal.loop-other-preserved
loop-other-preserved g c =
    let locks = c.args.locks.now.items in let first = c.args.passes.now.items in let others = c.args.others.items in
    let passes = c.loop-other.passes.items in let rest = c.loop-other.others.items in let less = c.pop.new.self.items in let m = c.len-place.result in
    let count : length less ≡ m = sym (c.len-place.ensures ∙ c.pop.new.self.ok.0) in
    let some = join_one g.T.Turned.step_of g.T.Turned.is_open m locks first others passes rest less c.in-Some.other c.loop-other.invariant c.in-Some.ensures.items count in
    let inside = join_inside g.T.Turned.step_of g.T.Turned.is_open m locks first others passes rest some c.requires.own.0 in
    let at = slice_get_read locks (length locks) m c.index.result.now refl inside.0 c.index.ensures in
    let there = slice_get_read passes (length passes) m c.index_mut.result.now refl inside.1 c.index_mut.ensures.value in
    subst (λ (n : ℕ). JoinSome g.T.Turned.step_of g.T.Turned.is_open n locks first others (slice_set passes m c.join.new.pass) less) (sym count)
    (join_next g.T.Turned.step_of g.T.Turned.is_open m locks first others passes rest less c.in-Some.other c.index.result.now c.index_mut.result.now c.join.new.pass
    some c.in-Some.ensures.items count at there c.join.ensures.own c.join.ensures.joined c.join.ensures.seen c.join.ensures.knows)

pub loop-other-init : goal.loop-other-init
loop-other-init g c =
    let first = c.args.passes.now.items in let others = c.args.others.items in
    join_none g.T.Turned.step_of g.T.Turned.is_open c.args.locks.now.items first others c.requires.own.0
    (sym (length-map first id_of_pass) ∙ (ap length (c.requires.own.0 ∙ sym c.requires.own.1) ∙ length-map others id_of_pass))

use Rattle.std.proofs.Common.{rules, ◌≡◌, ◌<◌, ◌+◌, ℕ, suc, length, refl, sym, ap, ◌∙◌, subst, arith}
use Rattle.std.specs.Prelude.{slice_set}
use Rattle.std.proofs.lemmas.List.{length-map}
use Rattle.std.proofs.lemmas.Option.{slice_get_read}
use Rattle.eql_turn_lock.specs.declared.view.View.{View}
use Rattle.eql_turn_lock.specs.Locks.{view_of}
use Rattle.eql_lock_row.specs.Rows.{id_of_lock, id_of_pass, views_in}
use Rattle.eql_lock_row.proofs.Places.{all_at}
use Rattle.eql_lock_row.proofs.Walks.{SplitSome, next_is, own_at, split_few, split_next, split_none}
use Rattle.eql_lock_row.proofs.whole.split_all.Goals as goal

pub split-pass-requires-clause-own : goal.split-pass-requires-clause-own
split-pass-requires-clause-own g c =
    let locks = c.args.locks.now.items in let passes = c.loop-place.passes.items in let some = c.loop-place.invariant.0 in
    let inside : c.loop-place.place < length locks = search rules in
    let count : length passes ≡ length locks = sym (length-map passes id_of_pass) ∙ (ap length some.own ∙ length-map locks id_of_lock) in
    own_at locks passes c.loop-place.place c.index.result.now c.index_mut.result.now some.own
    (slice_get_read locks (length locks) c.loop-place.place c.index.result.now refl inside c.index.ensures)
    (slice_get_read passes (length passes) c.loop-place.place c.index_mut.result.now refl (omega (arith, inside, count)) c.index_mut.ensures.value)

pub split-pass-requires-clause-first : goal.split-pass-requires-clause-first
split-pass-requires-clause-first g c =
    let locks = c.args.locks.now.items in let passes = c.loop-place.passes.items in let some = c.loop-place.invariant.0 in
    let inside : c.loop-place.place < length locks = search rules in
    let count : length passes ≡ length locks = sym (length-map passes id_of_pass) ∙ (ap length some.own ∙ length-map locks id_of_lock) in
    let there = slice_get_read passes (length passes) c.loop-place.place c.index_mut.result.now refl (omega (arith, inside, count)) c.index_mut.ensures.value in
    all_at (λ (v : View _ _ _). v.number ≡ 0) (views_in c.args.passes.now.items) c.loop-place.place (view_of c.index_mut.result.now) c.requires.first
    (next_is g.T.Turned.step_of g.T.Turned.is_open c.loop-place.place locks c.args.passes.now.items passes c.loop-place.new.items c.index_mut.result.now some there)

pub push_reserved-requires : goal.push_reserved-requires
push_reserved-requires g c =
    let inv = c.loop-place.invariant in
    let inside : c.loop-place.place < length c.args.locks.now.items = search rules in
    let few = split_few g.T.Turned.step_of g.T.Turned.is_open c.loop-place.place c.args.locks.now.items c.args.passes.now.items c.loop-place.passes.items c.loop-place.new.items inv.0 in
    let room = c.requires.room in let cap = inv.1 in let len = c.loop-place.new.ok.0 in
    omega (arith, inside, few, room, cap, len)

pub loop-place-init : goal.loop-place-init
loop-place-init g c = (
  split_none g.T.Turned.step_of g.T.Turned.is_open c.args.locks.now.items c.args.passes.now.items c.args.new.now.items c.requires.own c.requires.empty,
  refl,
)

pub loop-place-preserved : goal.loop-place-preserved
loop-place-preserved g c =
    let locks = c.args.locks.now.items in let passes = c.loop-place.passes.items in let some = c.loop-place.invariant.0 in let i = c.loop-place.place in
    let inside : c.loop-place.place < length locks = search rules in
    let count : length passes ≡ length locks = sym (length-map passes id_of_pass) ∙ (ap length some.own ∙ length-map locks id_of_lock) in
    let at = slice_get_read locks (length locks) i c.index.result.now refl inside c.index.ensures in
    let there = slice_get_read passes (length passes) i c.index_mut.result.now refl (omega (arith, inside, count)) c.index_mut.ensures.value in
    let next = split_next g.T.Turned.step_of g.T.Turned.is_open i locks c.args.passes.now.items passes c.loop-place.new.items c.index.result.now c.index_mut.result.now
    c.split-pass.new.pass c.split-pass.result some at there c.split-pass.ensures.own c.split-pass.ensures.first c.split-pass.ensures.new c.split-pass.ensures.knows in
    let more : suc i ≡ i + 1 = omega arith in (
      subst (λ (n : ℕ). SplitSome g.T.Turned.step_of g.T.Turned.is_open n locks c.args.passes.now.items (slice_set passes i c.split-pass.new.pass) c.push_reserved.new.self.items) more
          (subst (λ (l : _). SplitSome g.T.Turned.step_of g.T.Turned.is_open (suc i) locks c.args.passes.now.items (slice_set passes i c.split-pass.new.pass) l) (sym c.push_reserved.ensures.items) next),
      c.push_reserved.ensures.capacity ∙ c.loop-place.invariant.1,
    )

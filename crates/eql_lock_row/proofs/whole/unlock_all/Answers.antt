use Rattle.std.proofs.Common.{◌≡◌, [], ◌∷◌, length, refl, sym, ap, subst, arith, length-append}
use Rattle.eql_turn_lock.specs.declared.view.View.{View}
use Rattle.eql_turn_lock.specs.Locks.{view_of}
use Rattle.eql_lock_row.specs.Rows.{views_in}
use Rattle.eql_lock_row.proofs.Places.{all_at}
use Rattle.eql_lock_row.proofs.Walks.{UnlockSome, last_both, own_at, unlock_next, unlock_none, unlock_one, view_at}
use Rattle.eql_lock_row.proofs.whole.unlock_all.Goals as goal

pub loop-lock-init : goal.loop-lock-init
loop-lock-init g c = (
  unlock_none g.T.Turned.step_of g.T.Turned.is_open c.args.locks.items c.args.passes.items c.args.values.now.items c.requires.own,
  c.requires.room,
)

pub close-requires-clause-own : goal.close-requires-clause-own
close-requires-clause-own g c =
    let all = c.args.locks.items in let passes = c.args.passes.items in let values = c.args.values.now.items in
    let locks = c.loop-lock.locks.items in let rest = c.loop-lock.passes.items in let now = c.loop-lock.values.items in
    let fewer = c.pop.new.self.items in let less = c.pop-in-Some.new.self.items in
    let some = unlock_one g.T.Turned.step_of g.T.Turned.is_open (length fewer) all passes values locks rest now fewer c.in-Some.lock c.loop-lock.invariant.0 c.in-Some.ensures.items refl in
    let count : length less ≡ length fewer =
    let a = ap length c.in-Some.ensures.items in let b = ap length c.in-Some-pop.ensures.items in let s = some.same in
    let d = length-append fewer (c.in-Some.lock ∷ []) in let e = length-append less (c.in-Some-pop.pass ∷ []) in omega (arith, a, b, s, d, e) in
    let both = last_both g.T.Turned.step_of g.T.Turned.is_open (length fewer) all passes values locks rest now fewer c.in-Some.lock less c.in-Some-pop.pass some c.in-Some.ensures.items c.in-Some-pop.ensures.items refl count in
    own_at all passes (length fewer) c.in-Some.lock c.in-Some-pop.pass c.requires.own both.0 both.2

pub close-requires-clause-first : goal.close-requires-clause-first
close-requires-clause-first g c =
    let all = c.args.locks.items in let passes = c.args.passes.items in let values = c.args.values.now.items in
    let locks = c.loop-lock.locks.items in let rest = c.loop-lock.passes.items in let now = c.loop-lock.values.items in
    let fewer = c.pop.new.self.items in let less = c.pop-in-Some.new.self.items in
    let some = unlock_one g.T.Turned.step_of g.T.Turned.is_open (length fewer) all passes values locks rest now fewer c.in-Some.lock c.loop-lock.invariant.0 c.in-Some.ensures.items refl in
    let count : length less ≡ length fewer =
    let a = ap length c.in-Some.ensures.items in let b = ap length c.in-Some-pop.ensures.items in let s = some.same in
    let d = length-append fewer (c.in-Some.lock ∷ []) in let e = length-append less (c.in-Some-pop.pass ∷ []) in omega (arith, a, b, s, d, e) in
    let both = last_both g.T.Turned.step_of g.T.Turned.is_open (length fewer) all passes values locks rest now fewer c.in-Some.lock less c.in-Some-pop.pass some c.in-Some.ensures.items c.in-Some-pop.ensures.items refl count in
    all_at (λ (v : View _ _ _). v.number ≡ 0) (views_in passes) (length fewer) (view_of c.in-Some-pop.pass) c.requires.first (view_at passes (length fewer) c.in-Some-pop.pass both.2)

pub close-requires-clause-all_joined : goal.close-requires-clause-all_joined
close-requires-clause-all_joined g c =
    let all = c.args.locks.items in let passes = c.args.passes.items in let values = c.args.values.now.items in
    let locks = c.loop-lock.locks.items in let rest = c.loop-lock.passes.items in let now = c.loop-lock.values.items in
    let fewer = c.pop.new.self.items in let less = c.pop-in-Some.new.self.items in
    let some = unlock_one g.T.Turned.step_of g.T.Turned.is_open (length fewer) all passes values locks rest now fewer c.in-Some.lock c.loop-lock.invariant.0 c.in-Some.ensures.items refl in
    let count : length less ≡ length fewer =
    let a = ap length c.in-Some.ensures.items in let b = ap length c.in-Some-pop.ensures.items in let s = some.same in
    let d = length-append fewer (c.in-Some.lock ∷ []) in let e = length-append less (c.in-Some-pop.pass ∷ []) in omega (arith, a, b, s, d, e) in
    let both = last_both g.T.Turned.step_of g.T.Turned.is_open (length fewer) all passes values locks rest now fewer c.in-Some.lock less c.in-Some-pop.pass some c.in-Some.ensures.items c.in-Some-pop.ensures.items refl count in
    all_at (λ (v : View _ _ _). length v.ended ≡ v.made) (views_in passes) (length fewer) (view_of c.in-Some-pop.pass) c.requires.all_joined (view_at passes (length fewer) c.in-Some-pop.pass both.2)

pub loop-lock-preserved : goal.loop-lock-preserved
loop-lock-preserved g c =
    let all = c.args.locks.items in let passes = c.args.passes.items in let values = c.args.values.now.items in
    let locks = c.loop-lock.locks.items in let rest = c.loop-lock.passes.items in let now = c.loop-lock.values.items in
    let fewer = c.pop.new.self.items in let less = c.pop-in-Some.new.self.items in
    let some = unlock_one g.T.Turned.step_of g.T.Turned.is_open (length fewer) all passes values locks rest now fewer c.in-Some.lock c.loop-lock.invariant.0 c.in-Some.ensures.items refl in
    let a = ap length c.in-Some.ensures.items in
    let d = length-append fewer (c.in-Some.lock ∷ []) in
    let count : length less ≡ length fewer =
    let b = ap length c.in-Some-pop.ensures.items in let s = some.same in
    let e = length-append less (c.in-Some-pop.pass ∷ []) in omega (arith, a, b, s, d, e) in
    let next = unlock_next g.T.Turned.step_of g.T.Turned.is_open (length fewer) all passes values locks rest now fewer c.in-Some.lock less c.in-Some-pop.pass c.close.result some
    c.in-Some.ensures.items c.in-Some-pop.ensures.items refl count c.close.ensures in
    let room = c.loop-lock.invariant.1 in let len = c.push_reserved.ensures.len in let cap = c.push_reserved.ensures.capacity in (
      subst (λ (l : _). UnlockSome g.T.Turned.step_of g.T.Turned.is_open (length fewer) all passes values fewer less l) (sym c.push_reserved.ensures.items) next,
      omega (arith, room, len, cap, a, d),
    )

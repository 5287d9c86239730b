use Rattle.std.proofs.Common.{◌++◌, [], ◌∷◌, refl, sym, ◌∙◌, subst}
use Rattle.eql_lock_row.proofs.Walks.{LockSome, lock_next, lock_none}
use Rattle.eql_lock_row.proofs.whole.lock_all.Goals as goal

pub loop-value-init : goal.loop-value-init
loop-value-init g c = (
  lock_none g.T.Turned.step_of g.T.Turned.is_open c.args.values.now.items c.args.locks.now.items c.args.passes.now.items c.requires.empty.0 c.requires.empty.1,
  refl,
  refl,
  refl,
)

pub loop-value-preserved : goal.loop-value-preserved
loop-value-preserved g c =
    let values = c.args.values.now.items in let now = c.loop-value.values.items in let less = c.pop.new.self.items in
    let locks = c.loop-value.locks.items in let passes = c.loop-value.passes.items in
    let inv = c.loop-value.invariant in
    let next = lock_next g.T.Turned.step_of g.T.Turned.is_open values now less locks passes c.in-Some.value c.in-Ok.lock c.in-Ok.pass inv.0 c.in-Some.ensures.items
    c.in-Ok.ensures.own c.in-Ok.ensures.first c.in-Ok.ensures.knows in (
      subst (λ (l : _). LockSome g.T.Turned.step_of g.T.Turned.is_open values less l c.push_reserved-in-Ok.new.self.items) (sym c.push_reserved.ensures.items)
          (subst (λ (l : _). LockSome g.T.Turned.step_of g.T.Turned.is_open values less (locks ++ c.in-Ok.lock ∷ []) l) (sym c.push_reserved-in-Ok.ensures.items) next),
      c.pop.ensures.capacity ∙ inv.1,
      c.push_reserved.ensures.capacity ∙ inv.2,
      c.push_reserved-in-Ok.ensures.capacity ∙ inv.3,
    )

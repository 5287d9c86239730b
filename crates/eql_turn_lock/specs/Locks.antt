-- A lock and its passes as their callers see them.
use Rattle.std.specs.Prelude.{◌≡◌}
use Rattle.eql_turn_lock.specs.declared.turned.Turned.{Ghosts}
use Rattle.eql_turn_lock.specs.declared.lock.TurnLock.{TurnLock}
use Rattle.eql_turn_lock.specs.declared.lock.Pass.{Pass}
use Rattle.eql_turn_lock.specs.declared.view.View.{View}

module _ {T O R : Type 0} {g : Ghosts T O R} where
  -- what the pass knows
  abbrev pub view_of : Pass T O R g → View T O R
  view_of pass = pass.seat.me.0

  -- the pass is one of this lock
  abbrev pub IsPassOf : TurnLock T O R → Pass T O R g → Type 0
  IsPassOf lock pass = pass.seat.table_id ≡ lock.table.shared.table_id

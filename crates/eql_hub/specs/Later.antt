-- A pass of a lock, some time later.
use Rattle.std.specs.Prelude.{◌≡◌}
use Rattle.eql_turn_lock.specs.declared.view.View.{View}
use Rattle.eql_turn_lock.specs.History.{StartsWith}

-- the same pass later, of as many others: what it has seen, its own entries and the words that it met begin with those of before
pub record IsLater {T O R : Type 0} (old new : View T O R) : Type 0 where
  pub number : new.number ≡ old.number
  pub opening : new.opening ≡ old.opening
  pub made : new.made ≡ old.made
  pub ended : new.ended ≡ old.ended
  pub seen : StartsWith new.seen old.seen
  pub mine : StartsWith new.mine old.mine
  pub looked : StartsWith new.looked old.looked

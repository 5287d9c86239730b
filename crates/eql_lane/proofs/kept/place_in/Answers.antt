use Rattle.std.proofs.Common.{rules, ℕ, sym}
use Rattle.std.proofs.lemmas.Fn.{always_returns_same}
use Rattle.eql_lane.proofs.LiftLemmas.{searched_at, searched_none}
use Rattle.eql_lane.proofs.kept.place_in.Goals as goal

pub returns-in-Ok : goal.returns-in-Ok
returns-in-Ok c =
    searched_at c.args.places.now c.args.line c.requires c.in-Ok.i (0, 0) c.in-Ok.ensures.bound
    (c.in-Ok.ensures.position (λ (place : ℕ × ℕ). place.0) (always_returns_same _ _ _ (λ a r g called. search rules)) (0, 0))

pub returns-in-Err : goal.returns-in-Err
returns-in-Err c =
    sym (searched_none c.args.places.now c.args.line c.in-Err.field-0 c.requires
    (c.in-Err.ensures.position (λ (place : ℕ × ℕ). place.0) (always_returns_same _ _ _ (λ a r g called. search rules))))

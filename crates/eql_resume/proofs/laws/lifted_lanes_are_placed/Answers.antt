use Rattle.eql_resume.proofs.Lifted.{LiftLaws, lifted_is_cut}
use Rattle.eql_resume.proofs.laws.lifted_lanes_are_placed.Goals as goal

pub returns : goal.returns
returns c =
    let laws : LiftLaws = record { wanted = c.noted_places_serve.ensures.wanted; placed_are = c.noted_places_serve.ensures.placed; named = c.events_are_named.ensures } in
    lifted_is_cut laws

use Rattle.std.proofs.Common.{◌≡◌, ◌++◌, length, drop, take, sym, ◌∙◌, subst}
use Rattle.std.specs.Prelude.{All, IsSomeAnd}
use Rattle.std.proofs.Math.Seq.{take-append_seam}
use Rattle.eql_hub_run.specs.Workers.{HasPlayed, MayStart}
use Rattle.eql_hub_run.proofs.workers.play_crew.Goals as goal

pub play_all-requires-clause-start : goal.play_all-requires-clause-start
play_all-requires-clause-start g c κs within =
    subst (All (MayStart c.args.hub.now)) (sym c.as_mut_slice.ensures.value)
    (subst (λ crew. IsSomeAnd crew (λ workers. All (MayStart c.args.hub.now) workers.items)) c.in-Some.is c.requires.start)

pub returns-clause-played : goal.returns-clause-played
returns-clause-played g c =
    let new = c.play_all.new.workers in
    let rest = drop (length new) c.in-Some.workers.items in
    let count : length new ≡ c.in-Some.workers.len = c.play_all.ensures.count ∙ c.as_mut_slice.ensures.len in
    let same : take c.in-Some.workers.len (new ++ rest) ≡ new = subst (λ n. take n (new ++ rest) ≡ new) count (take-append_seam new rest) in
    subst (All (HasPlayed c.args.hub.now)) (sym same) c.play_all.ensures.played

use Rattle.std.proofs.Common.{◌≡◌, ◌<◌, ℕ, length, min, sym, ◌∙◌, subst}
use Rattle.std.proofs.Math.Nat.{le-min}
use Rattle.eql_parts.specs.PartSteps.{PartView, Plays}
use Rattle.eql_parts.specs.Viewed.{part_view}
use Rattle.eql_parts.proofs.Delivered.{below_played}
use Rattle.eql_parts.proofs.Settled.{part_settled, turned}
use Rattle.eql_parts.proofs.part.Part.turn.Goals as goal

pub invariant_of-self : goal.invariant_of-self
invariant_of-self g c =
    part_settled c.play_some-played.new.self c.settle.new.waiting c.settle.new.done c.self.inside.last c.settle.ensures.waiting
    (below_played c.events_and_keys_stay.ensures.events c.self.inside.last c.self.inside.waiting c.play_some-played.result.items c.play_some-played.new.self
    c.play_some-played.ensures.played c.self.invariant.below)

pub invariant_of-self-2 : goal.invariant_of-self-2
invariant_of-self-2 g c =
    part_settled c.play_some-played.new.self c.settle.new.waiting c.settle.new.done c.self.inside.last c.settle.ensures.waiting
    (below_played c.events_and_keys_stay.ensures.events c.self.inside.last c.self.inside.waiting c.play_some-played.result.items c.play_some-played.new.self
    c.play_some-played.ensures.played c.self.invariant.below)

pub returns-then-played-clause-step : goal.returns-then-played-clause-step
returns-then-played-clause-step g c =
    let n = c.play_some-played.result.items in let new = c.settle.new.waiting in let now = c.settle.new.done in let last = c.self.inside.last in (
      c.of.ensures ∙ c.new.ensures.items,
      subst (λ (p : PartView). Plays p.rules p.state n (part_view new now last).state) c.self.view_is
          (turned c.self.inside.waiting c.play_some-played.new.self new c.self.inside.done now last n c.play_some-played.ensures.played c.settle.ensures.waiting c.settle.ensures.done),
      subst (λ (p : PartView). n < min c.args.max (length p.state.inbox)) c.self.view_is (c.play_some-played.ensures.few c.if-played.true),
    )

pub returns-clause-step : goal.returns-clause-step
returns-clause-step g c =
    let n = c.play_some-played.result.items in let new = c.settle.new.waiting in let now = c.settle.new.done in let last = c.self.inside.last in
    let all = c.play_some-played.ensures.all c.if-played.false in (
      subst (λ (p : PartView). Plays p.rules p.state n (part_view new now last).state) c.self.view_is
          (turned c.self.inside.waiting c.play_some-played.new.self new c.self.inside.done now last n c.play_some-played.ensures.played c.settle.ensures.waiting c.settle.ensures.done),
      subst (λ (p : PartView). n ≡ min c.args.max (length p.state.inbox)) c.self.view_is all,
      subst (λ (k : ℕ). 0 < k) (sym all) (le-min c.requires.from (c.is_idle.ensures.busy c.if-is_idle.false)),
    )
